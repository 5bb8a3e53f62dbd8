use Rattle.std.proofs.Common.{◌≡◌, ◌+◌, ◌≤◌, length, take, vec_capacity}
use Rattle.lanes.specs.Controls.{IsControlOf, IsLevelControl, Keeps, ObeyedAll}
use Rattle.lanes.specs.Desks.{collecting}
use Rattle.lanes.proofs.desk.obey_all.Given as goal

abbrev pub invariant-loop-number : goal.invariant-loop-number
invariant-loop-number g l = record {
  of : IsControlOf l.engine l.control;
  level : IsLevelControl l.control;
  keeps : Keeps l.initial.control l.control;
  room : length l.lines ≤ vec_capacity l.replies;
  count : length l.replies.items ≡ l.number-index;
  obeyed : ObeyedAll l.initial.control (take l.number-index l.lines) l.replies.items l.control;
  phases : l.control.collector.seat.phase ≤ l.initial.control.collector.seat.phase + length (collecting (take l.number-index l.lines));
}
