use Rattle.std.proofs.Common.{ℕ, ◌==◌, length, sym, ap, ◌∙◌}
use Rattle.script_text.proofs.LaneLines.{lane_length}
use Rattle.script_text.proofs.lane.HookLineList.is_empty.Goals as goal

pub returns : goal.returns
returns c =
    c.is_empty.ensures ∙ ap (λ (n : ℕ). n == 0) (sym (lane_length c.self.inside.first c.self.inside.heads.items c.self.inside.lines) ∙ ap length c.self.view_is)
