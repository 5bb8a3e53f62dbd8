use Rattle.std.proofs.Common.{take}
use Rattle.std.specs.List.{flat_map}
use Rattle.dump_text.specs.Dump.{reply_text}
use Rattle.dump_text.specs.Pages.{Puts}
use Rattle.dump_text.proofs.replies.put_section.Given as goal

abbrev pub invariant-loop-reply : goal.invariant-loop-reply
invariant-loop-reply g l = Puts g.K.Sink.written g.K.Sink.faults l.initial.page l.page (flat_map reply_text (take l.reply-index l.reply-items))
