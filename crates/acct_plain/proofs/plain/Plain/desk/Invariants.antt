use Rattle.std.proofs.Common.{◌≡◌, ◌+◌, ◌≤◌, take, length}
use Rattle.acct_plain.specs.Walks.{IsDeskWalked, collecting}
use Rattle.acct_plain.proofs.plain.Plain.desk.Given as goal

abbrev pub invariant-loop-number : goal.invariant-loop-number
invariant-loop-number l = IsDeskWalked l.initial.self l.self (take l.number-index l.lines) l.replies
    × (l.self.sizes ≡ l.initial.self.sizes) × (l.self.book.privileged ≡ l.initial.self.book.privileged)
    × (length l.self.phases ≤ length l.initial.self.phases + length (collecting (take l.number-index l.lines)))
