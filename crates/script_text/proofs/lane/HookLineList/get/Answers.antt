use Rattle.std.proofs.Common.{ℕ, ◌+◌, List, ap, ◌∙◌}
use Rattle.std.specs.Prelude.{Some, None, slice_get}
use Rattle.script_text.specs.Lines.{LaneLine}
use Rattle.script_text.proofs.LaneLines.{lane_get}
use Rattle.script_text.proofs.lane.HookLineList.get.Goals as goal

pub returns-in-None : goal.returns-in-None
returns-in-None c =
    lane_get c.self.inside.first c.self.inside.heads.items c.self.inside.lines c.args.place None c.in-None.ensures ∙ ap (λ (ls : List (ℕ × LaneLine)). slice_get ls c.args.place) c.self.view_is

pub returns-in-Some : goal.returns-in-Some
returns-in-Some c =
    ap (λ (l : LaneLine). Some (c.self.inside.first + c.args.place, l)) c.lend.ensures
    ∙ lane_get c.self.inside.first c.self.inside.heads.items c.self.inside.lines c.args.place (Some c.in-Some.line.now) c.in-Some.ensures
    ∙ ap (λ (ls : List (ℕ × LaneLine)). slice_get ls c.args.place) c.self.view_is
