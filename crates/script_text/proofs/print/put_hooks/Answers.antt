use Rattle.std.specs.Prelude.{string_bytes}
use Rattle.script_text.specs.Lanes.{lane_line}
use Rattle.script_text.proofs.PrintLines.{hook_more}
use Rattle.script_text.proofs.print.put_hooks.Goals as goal

pub loop-place-preserved : goal.loop-place-preserved
loop-place-preserved c =
    hook_more c.args.lane.now c.loop-place.place (c.in-Some.field-0-0, lane_line c.in-Some.line) (string_bytes c.args.out.now) (string_bytes c.loop-place.out) (string_bytes c.put_hook.new.out) c.in-Some.ensures c.loop-place.invariant c.in_ok-put_hook-in-Some.ensures
