use Rattle.std.proofs.Common.{sym, subst, arith}
use Rattle.std.proofs.lemmas.Fmt.{decimal_injective}
use Rattle.std.proofs.lemmas.Result.{err_from_is_err_and}
use Rattle.script_text.specs.Lines.{IsHead}
use Rattle.script_text.proofs.HookLines.{third, fifth, sixth}
use Rattle.script_text.proofs.hook_line.hook_line.Goals as goal

pub returns-in_err-iface-clause-syntax : goal.returns-in_err-iface-clause-syntax
returns-in_err-iface-clause-syntax c = λ is family uid iface len cookie head fits e.
    c.in_err-iface.ensures.syntax iface _ fits.1.1.0 (third _ _ _ _ _ _ c.args.fields.now c.number.new.self c.number-2.new.self _ _ c.in_ok-sock_uid.ensures.found.1 c.in_ok-cookie.ensures.found.1 e)

pub returns-in_err-len-clause-syntax : goal.returns-in_err-len-clause-syntax
returns-in_err-len-clause-syntax c = λ is family uid iface len cookie head fits e.
    c.in_err-len.ensures.syntax len _ fits.1.1.1.1.0 (fifth _ _ _ _ _ _ c.args.fields.now c.number.new.self c.number-2.new.self c.number-3.new.self c.required.new.self _ _ _ _
    c.in_ok-sock_uid.ensures.found.1 c.in_ok-cookie.ensures.found.1 c.in_ok-iface.ensures.found.1 c.in_ok-required.ensures.found e)

pub returns-in_err-head-clause-syntax : goal.returns-in_err-head-clause-syntax
returns-in_err-head-clause-syntax c = λ is family uid iface len cookie head fits e.
    let both = sixth _ _ _ _ _ _ c.args.fields.now c.number.new.self c.number-2.new.self c.number-3.new.self c.required.new.self c.number-4.new.self _ _ _ _ _ _
    c.in_ok-sock_uid.ensures.found.1 c.in_ok-cookie.ensures.found.1 c.in_ok-iface.ensures.found.1 c.in_ok-required.ensures.found c.in_ok-len.ensures.found.1 c.in_ok-one.ensures.found e in
    let same = decimal_injective c.in_ok-len.field-0 len (omega (arith, c.in_ok-len.ensures.found.0.most_is)) (omega (arith, fits.1.1.1.1.0.most_is)) both.0 in
    c.in_err-head.ensures.syntax (let p = err_from_is_err_and c.from_residual-in_err-head.result c.from_residual-in_err-head.ensures.1 in cc) head (subst (λ m. IsHead m head) (sym same) fits.1.1.1.1.1.0) both.1
