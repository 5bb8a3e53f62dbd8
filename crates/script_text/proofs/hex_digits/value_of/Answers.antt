use Rattle.std.proofs.Common.{◌≡◌, ◌<◌, slice_index, ap, subst, sym, ◌∙◌, arith}
use Rattle.hex.specs.Hex.{lower_digits}
use Rattle.script_text.proofs.HexDigits.{values, digit_of_value, value_of_digit}
use Rattle.script_text.proofs.hex_digits.value_of.Goals as goal

pub returns-clause-digit : goal.returns-clause-digit
returns-clause-digit c = λ small.
    let is : c.entry.result ≡ slice_index values c.args.byte = c.entry.ensures in
    ap (slice_index lower_digits) is ∙ digit_of_value c.args.byte c.ranges.byte.fits (subst (λ v. v < 16) is small)

pub returns-clause-none : goal.returns-clause-none
returns-clause-none c = λ great value lt e.
    let is : c.entry.result ≡ slice_index values c.args.byte = c.entry.ensures in
    omega (arith, is, ap (slice_index values) (sym e) ∙ value_of_digit value lt)
