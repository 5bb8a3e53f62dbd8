use Rattle.std.proofs.Common.{◌≡◌, take}
use Rattle.acct_plain.specs.Walks.{AreLanesWalked}
use Rattle.acct_plain.proofs.plain.Plain.lanes.Given as goal

abbrev pub invariant-loop-place : goal.invariant-loop-place
invariant-loop-place l = AreLanesWalked l.initial.self l.self (take l.place l.lanes) l.out
    × (l.self.sizes ≡ l.initial.self.sizes) × (l.self.book ≡ l.initial.self.book) × (l.self.phases ≡ l.initial.self.phases)
