use Rattle.std.proofs.Common.{◌≡◌, take}
use Rattle.acct_plain.specs.Walks.{IsLaneWalked}
use Rattle.acct_plain.proofs.plain.Plain.lane.Given as goal

abbrev pub invariant-loop-place : goal.invariant-loop-place
invariant-loop-place l = IsLaneWalked l.initial.self l.self (take l.place l.calls) l.receipts
    × (l.self.sizes ≡ l.initial.self.sizes) × (l.self.book ≡ l.initial.self.book) × (l.self.phases ≡ l.initial.self.phases)
