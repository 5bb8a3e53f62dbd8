use Rattle.std.proofs.Common.{length, sym, ap, ◌∙◌}
use Rattle.script_text.proofs.LaneLines.{lane_length}
use Rattle.script_text.proofs.lane.HookLineList.len.Goals as goal

pub returns : goal.returns
returns c = c.len.ensures ∙ sym (lane_length c.self.inside.first c.self.inside.heads.items c.self.inside.lines) ∙ ap length c.self.view_is
