use Rattle.std.proofs.Common.{sym, ap, subst, ◌∙◌, ◌++◌}
use Rattle.script_text.specs.Lines.{IsWithin, texts, ascending_uids}
use Rattle.script_text.proofs.Uids.{uids_end, more_uids}
use Rattle.script_text.proofs.desk_line.uids_of.Goals as goal

pub returns-in_err-uid-clause-syntax : goal.returns-in_err-uid-clause-syntax
returns-in_err-uid-clause-syntax c = λ is uids fits e.
    uids_end 0 c.loop-field.uids uids c.in-Some.field.now c.next.new.self c.loop-field.invariant.fits fits
    (λ n within. c.in_err-uid.ensures.syntax n (subst (λ m. IsWithin m 4294967294 n) (sym c.loop-field.invariant.least) within))
    (sym (ap (λ fs. texts (ascending_uids 0 c.loop-field.uids) ++ fs) c.in-Some.ensures.found) ∙ sym c.loop-field.invariant.read ∙ e)

pub loop-field-preserved : goal.loop-field-preserved
loop-field-preserved c =
    let more = more_uids c.loop-field.uids c.push.new.self c.in_ok-uid.uid c.loop-field.least c.args.fields.now c.loop-field.fields c.next.new.self c.in-Some.field.now c.loop-field.invariant.fits c.loop-field.invariant.read c.loop-field.invariant.least
    c.in-Some.ensures.found c.in_ok-uid.ensures.found.0 c.in_ok-uid.ensures.found.1 c.in_ok-push.ensures.ok in
    record { fits = more.0; read = more.1; least = more.2 }
