use Rattle.std.proofs.Common.{◌≡◌, ◌<◌}
use Rattle.reg_words.specs.Rule.{Met}
use Rattle.reg_words.specs.Origins.{IsSameSeat}
use Rattle.reg_words.specs.Places.{code, rows}
use Rattle.row_probe.specs.Places.{place}
use Rattle.reg_words.proofs.words.Words.probe.Given as goal

abbrev pub invariant-loop-turn : goal.invariant-loop-turn
invariant-loop-turn l = record {
  before : l.turn < rows l.self.limits l.key;
  place : l.place ≡ place (code l.key) 1 l.turn (rows l.self.limits l.key);
  within : l.place < rows l.self.limits l.key;
  same : IsSameSeat l.initial.seat l.seat;
  view : l.seat.me.0 ≡ record l.initial.seat.me.0 { stage = l.seat.me.0.stage };
  met : Met l.self.limits l.seat.me.0.stage l.key l.turn;
}

abbrev pub ghosts-load_key : goal.ghosts-load_key
ghosts-load_key a = record { key = a.key; number = a.at.turn }
