use Rattle.std.proofs.Common.{◌≡◌, ◌+◌, ◌∙◌, ap, sym, subst, Err, List, ℕ, rules}
use Rattle.std.proofs.lemmas.Result.{err_from_is_err_and}
use Rattle.script_text.specs.Faults.{IsPart, BeginsSection}
use Rattle.script_text.specs.Parts.{section_text}
use Rattle.script_text.specs.Limits.{tally_before}
use Rattle.replay_main.specs.Faults.{script_fault}
use Rattle.replay_main.specs.Incoming.{TakesPart, FailsIn}
use Rattle.replay_main.proofs.Arriving.{takes_begins}
use Rattle.replay_main.proofs.Judging.{fails_in}
use Rattle.replay_main.proofs.Outsides.{err_is}
use Rattle.replay_main.proofs.incoming.Incoming.section.Goals as goal

pub parse_section-requires-clause-begins : goal.parse_section-requires-clause-begins
parse_section-requires-clause-begins g c =
    let same : c.as_slice.result.now ≡ c.in_ok-part.part.bytes = search rules in
    subst BeginsSection (sym same) (takes_begins _ _ c.args.self.now.parts c.next.new.self c.in_ok-part.part.bytes c.in_ok-part.part.is_last c.in_ok-part.ensures.takes (c.requires.coming.begins c.if-self.false))

pub returns-in_err-section-clause-decides : goal.returns-in_err-section-clause-decides
returns-in_err-section-clause-decides g c = λ f is of.
    let p = err_from_is_err_and c.from_residual-in_err-section.result c.from_residual-in_err-section.ensures.1 in
    let same : c.as_slice.result.now ≡ c.in_ok-part.part.bytes = search rules in
    let e : f ≡ script_fault c.in_err-section.field-0.0 = err_is _ _ _ is p.1 ∙ p.2 in
    let fails = fails_in c.args.self.now.counts c.as_slice.result.now c.in_err-section.field-0.0 f e (λ line at. c.in_err-section.ensures.syntax line (ap Err at)) (λ w line at. c.in_err-section.ensures.limit w line (ap Err at)) of in
    record {
      part = c.in_ok-part.part.bytes;
      is_last = c.in_ok-part.part.is_last;
      takes = c.in_ok-part.ensures.takes;
      open_before = c.if-self.false;
      fails = subst (λ (part : List ℕ). FailsIn (tally_before c.args.self.now.counts) (c.args.self.now.counts.lines + 1) part f) same fails;
    }

pub returns-clause-takes : goal.returns-clause-takes
returns-clause-takes g c =
    let same : c.as_slice.result.now ≡ c.in_ok-part.part.bytes = search rules in
    let whole : c.in_ok-part.part.bytes ≡ section_text c.in_ok-section.section = c.script_by_parts.ensures.section c.in_ok-section.section c.in_ok-part.part.bytes c.in_ok-part.ensures.takes.uncut (subst (IsPart (section_text c.in_ok-section.section)) same c.in_ok-section.ensures.spelled) in
    subst (λ (part : List ℕ). TakesPart (g.S.Source.left c.args.source.now) (g.S.Source.left c.next.new.source) c.args.self.now.parts c.next.new.self part c.in_ok-part.part.is_last) whole c.in_ok-part.ensures.takes
