use Rattle.std.proofs.Common.{◌≡◌, ◌*◌, ◌++◌, length, take, drop}
use Rattle.hex.specs.Hex.{encode_lower}
use Rattle.script_text.specs.Lines.{AreBytes}
use Rattle.script_text.proofs.hex_digits.read_digits.Given as goal

abbrev pub invariant-loop-i : goal.invariant-loop-i
invariant-loop-i l = record {
  size : length l.bytes ≡ length l.fn.bytes;
  read : encode_lower (take l.i l.bytes) ++ drop (2 * l.i) l.field ≡ l.field;
  are_bytes : AreBytes (take l.i l.bytes);
}
