use Rattle.std.proofs.Common.{◌≡◌, ◌+◌, ◌∙◌, ap, sym, subst, Err, List, ℕ, rules}
use Rattle.std.proofs.lemmas.Result.{err_from_is_err_and}
use Rattle.script_text.specs.Faults.{BeginsSection}
use Rattle.script_text.specs.Limits.{tally_before}
use Rattle.replay_main.specs.Faults.{script_fault}
use Rattle.replay_main.specs.declared.incoming.Incoming.{Incoming}
use Rattle.replay_main.specs.Incoming.{IsCountedPart, FailsIn}
use Rattle.replay_main.proofs.Arriving.{takes_begins}
use Rattle.replay_main.proofs.Judging.{fails_in}
use Rattle.replay_main.proofs.Outsides.{err_is}
use Rattle.replay_main.proofs.Unkept.{counts_part}
use Rattle.replay_main.proofs.incoming.Incoming.count.Goals as goal

pub count_part-requires-clause-begins : goal.count_part-requires-clause-begins
count_part-requires-clause-begins g c =
    let same : c.as_slice.result.now ≡ c.in_ok-part.part.bytes = search rules in
    subst BeginsSection (sym same) (takes_begins _ _ c.args.self.now.parts c.next.new.self c.in_ok-part.part.bytes c.in_ok-part.part.is_last c.in_ok-part.ensures.takes (c.requires.coming.begins c.if-self.false))

pub returns-in_err-counted-clause-decides : goal.returns-in_err-counted-clause-decides
returns-in_err-counted-clause-decides g c = λ f is of.
    let p = err_from_is_err_and c.from_residual-in_err-counted.result c.from_residual-in_err-counted.ensures.1 in
    let same : c.as_slice.result.now ≡ c.in_ok-part.part.bytes = search rules in
    let e : f ≡ script_fault c.in_err-counted.field-0.0 = err_is _ _ _ is p.1 ∙ p.2 in
    let fails = fails_in c.args.self.now.counts c.as_slice.result.now c.in_err-counted.field-0.0 f e (λ line at. c.in_err-counted.ensures.syntax line (ap Err at)) (λ w line at. c.in_err-counted.ensures.limit w line (ap Err at)) of in
    record {
      part = c.in_ok-part.part.bytes;
      is_last = c.in_ok-part.part.is_last;
      takes = c.in_ok-part.ensures.takes;
      open_before = c.if-self.false;
      fails = subst (λ (part : List ℕ). FailsIn (tally_before c.args.self.now.counts) (c.args.self.now.counts.lines + 1) part f) same fails;
    }

pub returns-clause-counted : goal.returns-clause-counted
returns-clause-counted g c =
    let same : c.as_slice.result.now ≡ c.in_ok-part.part.bytes = search rules in
    let now : Incoming = record { parts = c.next.new.self; counts = c.in_ok-counted.counts; is_over = c.in_ok-part.part.is_last } in
    let is : IsCountedPart c.args.self.now.counts c.in_ok-part.part.bytes c.in_ok-counted.counted c.in_ok-counted.counts =
    subst (λ (bytes : List ℕ). IsCountedPart c.args.self.now.counts bytes c.in_ok-counted.counted c.in_ok-counted.counts) same c.in_ok-counted.ensures.counted in
    counts_part c.script_by_parts.ensures.section _ _ c.args.self.now now c.in_ok-part.part.bytes c.in_ok-counted.counted is c.in_ok-part.ensures.takes c.if-self.false
