use Rattle.std.proofs.Common.{◌+◌, ◌*◌, ◌∙◌, sym, subst, arith, refl, take, length, ◌<◌}
use Rattle.std.proofs.lemmas.List.{take_more_set, length-set}
use Rattle.script_text.specs.Lines.{AreBytes}
use Rattle.script_text.proofs.HexDigits.{bytes_more, read_more, read_all, all_bytes, no_high, no_low, nothing_read}
use Rattle.script_text.proofs.hex_digits.read_digits.Goals as goal

pub loop-i-init : goal.loop-i-init
loop-i-init c = record { size = refl; read = nothing_read c.args.field.now; are_bytes = tt }

pub returns-then-high-gt15-clause-none : goal.returns-then-high-gt15-clause-none
returns-then-high-gt15-clause-none c = λ is others fit e.
    no_high c.args.field.now others c.loop-i.i (omega (arith, c.requires, c.loop-i.invariant.size)) (c.value_of-high.ensures.none (omega arith)) fit e

pub returns-then-low-gt15-clause-none : goal.returns-then-low-gt15-clause-none
returns-then-low-gt15-clause-none c = λ is others fit e.
    no_low c.args.field.now others c.loop-i.i (omega (arith, c.requires, c.loop-i.invariant.size)) (c.value_of-low.ensures.none (omega arith)) fit e

pub loop-i-preserved : goal.loop-i-preserved
loop-i-preserved c =
    let room : c.loop-i.i < length c.loop-i.bytes = omega arith in
    record {
      size = length-set c.loop-i.bytes c.loop-i.i (c.value_of-high.result * 16 + c.value_of-low.result) ∙ c.loop-i.invariant.size;
      read = read_more c.args.field.now c.loop-i.bytes c.loop-i.i c.value_of-high.result c.value_of-low.result (omega (arith, c.requires, c.loop-i.invariant.size)) room (omega arith) (c.value_of-high.ensures.digit (omega arith)) (c.value_of-low.ensures.digit (omega arith)) c.loop-i.invariant.read;
      are_bytes = subst AreBytes (sym (take_more_set c.loop-i.bytes c.loop-i.i (c.value_of-high.result * 16 + c.value_of-low.result) room)) (bytes_more (take c.loop-i.i c.loop-i.bytes) (c.value_of-high.result * 16 + c.value_of-low.result) c.loop-i.invariant.are_bytes (omega arith));
    }

pub returns-clause-read : goal.returns-clause-read
returns-clause-read c = λ is. read_all c.args.field.now c.loop-i.bytes c.loop-i.i (omega arith) (omega (arith, c.requires, c.loop-i.invariant.size)) c.loop-i.invariant.read

pub returns-clause-are_bytes : goal.returns-clause-are_bytes
returns-clause-are_bytes c = λ is. all_bytes c.loop-i.bytes c.loop-i.i (omega arith) c.loop-i.invariant.are_bytes
