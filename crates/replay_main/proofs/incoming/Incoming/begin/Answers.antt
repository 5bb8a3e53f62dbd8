use Rattle.std.proofs.Common.{◌≡◌, ◌∙◌, ap, subst, Err, List, ℕ, rules}
use Rattle.std.proofs.lemmas.Result.{err_from_is_err_and}
use Rattle.script_text.specs.declared.place.Place.TheVariants.{Start}
use Rattle.script_text.specs.Faults.{IsPart, FailsAt, SyntaxAt, LimitAt}
use Rattle.script_text.specs.Limits.{no_tally}
use Rattle.script_text.specs.Parts.{header_text}
use Rattle.replay_main.specs.Faults.{script_fault}
use Rattle.replay_main.specs.declared.incoming.Incoming.{Incoming}
use Rattle.replay_main.specs.Incoming.{HasCome}
use Rattle.replay_main.proofs.Arriving.{header_decides, come_first}
use Rattle.replay_main.proofs.Outsides.{err_is}
use Rattle.replay_main.proofs.incoming.Incoming.begin.Goals as goal

pub returns-in_err-header-clause-decides : goal.returns-in_err-header-clause-decides
returns-in_err-header-clause-decides g c = λ f is of.
    let p = err_from_is_err_and c.from_residual-in_err-header.result c.from_residual-in_err-header.ensures.1 in
    let same : c.as_slice.result.now ≡ c.in_ok-part.part.bytes = search rules in
    let e : f ≡ script_fault c.in_err-header.field-0.0 = err_is _ _ _ is p.1 ∙ p.2 in
    header_decides c.script_by_parts.ensures.syntax c.script_by_parts.ensures.limit _ _ c.in_ok-parts.parts c.next.new.self c.in_ok-part.part.bytes c.in_ok-part.part.is_last c.in_err-header.field-0.0 f
    c.in_ok-parts.ensures.ahead c.in_ok-parts.ensures.count c.in_ok-part.ensures.takes e
    (λ line at. subst (λ (part : List ℕ). FailsAt Start no_tally part 1 line SyntaxAt) same (c.in_err-header.ensures.syntax line (ap Err at)))
    (λ w line at. subst (λ (part : List ℕ). FailsAt Start no_tally part 1 line (LimitAt w)) same (c.in_err-header.ensures.limit w line (ap Err at))) of

pub returns-clause-come : goal.returns-clause-come
returns-clause-come g c =
    let same : c.as_slice.result.now ≡ c.in_ok-part.part.bytes = search rules in
    let h = c.in_ok-header.header in
    let whole : c.in_ok-part.part.bytes ≡ header_text h = c.script_by_parts.ensures.header h c.in_ok-part.part.bytes c.in_ok-part.ensures.takes.uncut (subst (IsPart (header_text h)) same c.in_ok-header.ensures.spelled) in
    let i : Incoming = record { parts = c.next.new.self; counts = c.in_ok-header.counts; is_over = c.in_ok-part.part.is_last } in
    subst (λ (front : List ℕ). HasCome (g.S.Source.left c.args.source.now) (g.S.Source.left c.next.new.source) i front) whole
    (come_first _ _ c.in_ok-parts.parts i c.in_ok-part.part.bytes c.in_ok-parts.ensures.ahead c.in_ok-parts.ensures.count c.in_ok-part.ensures.takes)
