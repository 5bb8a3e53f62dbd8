use Rattle.std.proofs.Common.{◌≡◌, ◌<◌}
use Rattle.reg_words.specs.Places.{code, rows, AllDecided}
use Rattle.row_probe.specs.Places.{place}
use Rattle.reg_words.proofs.place.find.Given as goal

abbrev pub invariant-loop-turn : goal.invariant-loop-turn
invariant-loop-turn l = record {
  met : AllDecided l.limits l.places l.key l.turn;
  within : l.place < rows l.limits l.key;
  here : l.place ≡ place (code l.key) 1 l.turn (rows l.limits l.key);
}
