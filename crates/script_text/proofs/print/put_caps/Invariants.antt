use Rattle.std.proofs.Common.{◌≡◌, ◌++◌, drop, length}
use Rattle.std.specs.Prelude.{string_bytes}
use Rattle.script_text.specs.Parts.{lines_text, cap_lines, sum_of}
use Rattle.script_text.proofs.print.put_caps.Given as goal

abbrev pub invariant-loop-cap : goal.invariant-loop-cap
invariant-loop-cap l = record {
  left : sum_of (drop l.cap-index l.caps) ≡ length l.rest;
  text : string_bytes l.out ++ lines_text (cap_lines (drop l.cap-index l.caps) l.rest) ≡ string_bytes l.initial.out ++ lines_text (cap_lines l.caps l.fn.capture);
}
