use Rattle.std.proofs.Common.{take}
use Rattle.std.specs.List.{flat_map}
use Rattle.dump_text.specs.Dump.{section_replies}
use Rattle.dump_text.specs.Pages.{Puts}
use Rattle.dump_text.proofs.replies.put_sections.Given as goal

abbrev pub invariant-loop-section : goal.invariant-loop-section
invariant-loop-section g l = Puts g.K.Sink.written g.K.Sink.faults l.initial.page l.page (flat_map section_replies (take l.section-index l.section-items))
