-- A pass as its callers see it, and what each call on it says.
use Rattle.std.specs.Prelude.{◌≡◌, ℕ, ◌+◌, ◌≤◌, ◌==◌, not, Bool, true, List, [], ◌++◌, length, filter, max, unwrap_or}
use Rattle.acct_base.specs.declared.amount.Amount.{Amount}
use Rattle.acct_base.specs.declared.charge.Charge.{Charge}
use Rattle.acct_base.specs.declared.receipt.LineReceipt.{LineReceipt}
use Rattle.acct_base.specs.declared.register.Key.{Key}
use Rattle.acct_base.specs.declared.register.Key.TheVariants.{Cookie}
use Rattle.acct_base.specs.declared.register.Seen.{Seen}
use Rattle.acct_base.specs.declared.register.Write.{Write}
use Rattle.acct_base.specs.declared.sizes.Sizes.{Sizes}
use Rattle.acct_base.specs.Amounts.{IsAtMost}
use Rattle.acct_base.specs.Journal.{AreTrueReads, known_after, known_at_front, FrontIsFrom}
use Rattle.acct_base.specs.Landings.{LandInTurn, AddInTurn}
use Rattle.acct_base.specs.Receipts.{Call, Add, ObeysCall, charges, app_adds, iface_adds, reads, front_of, phase_of, PhaseIsFrom}
use Rattle.acct_base.specs.Receipts.Call.{Hook, Iface}
use Rattle.acct_base.specs.Sums.{added}

-- A pass has the calls that it may still make and those that it made, the last phase that it knows, the writes that it knows, and the lists of what was done with it: charges to labels, adds to apps' totals and to interfaces' totals, and reads of the registers.
pub record Pass : Type 0 where
  pub left : ℕ
  pub made : ℕ
  pub phase : ℕ
  pub writes : List Write
  pub charges : List Charge
  pub apps : List Add
  pub ifaces : List Add
  pub reads : List (Key × Seen)

-- A pass with all calls, with which nothing was done.
abbrev pub fresh : ℕ → Pass
fresh budget = record {
  left = budget;
  made = 0;
  phase = 0;
  writes = [];
  charges = [];
  apps = [];
  ifaces = [];
  reads = [];
}

-- How many writes it knows.
abbrev pub seen : Pass → ℕ
seen pass = length pass.writes

-- One list stands at the front of another.
abbrev pub Begins : {A : Type 0} → List A → List A → Type 0
Begins {A} xs ys = (more : List A) × (ys ≡ xs ++ more)

-- The pass has all calls of its engine, so that no other pass has any.
abbrev pub IsSole : ℕ → Pass → Type 0
IsSole budget pass = pass.left + pass.made ≡ budget

-- A read goes to the list of register reads, unless it is of Cookie(0), the cookie of a packet without a socket.
abbrev pub is_recorded : Key × Seen → Bool
is_recorded (Cookie c, seen) = not (c == 0)
is_recorded (_, seen) = true

-- The register reads of a call's receipt, in order.
abbrev pub recorded_reads : Call × LineReceipt → List (Key × Seen)
recorded_reads p = filter is_recorded (reads p)

-- The calls of a packet spend one of the budget, counted or not. Those of the two lists spend none.
abbrev pub spent : Call → ℕ
spent (Hook c) = 1
spent (Iface c) = 1
spent _ = 0

-- Each charge and add of a call has the mark that a replay on one thread gives it, after the lists as they stood before it.
pub record CallInTurn (sizes : Sizes) (before : Pass) (p : Call × LineReceipt) : Type 0 where
  pub land : LandInTurn sizes.rows before.charges (charges p)
  pub on_apps : AddInTurn sizes.apps before.apps (app_adds p)
  pub on_ifaces : AddInTurn sizes.ifaces before.ifaces (iface_adds p)

-- A call on a pass of an engine with this budget and these sizes gave this receipt.
pub record Called (budget : ℕ) (sizes : Sizes) (before : Pass) (call : Call) (r : LineReceipt) (after : Pass) : Type 0 where
  -- The receipt obeys the rules on its own reads.
  pub obeys : ObeysCall call r
  -- Its front is no older than what was known, and becomes it; its reads are true of what is known afterwards.
  pub front : FrontIsFrom (seen before) (front_of r)
  pub reads_are_true : AreTrueReads after.writes (known_at_front (seen before) (front_of r)) (reads (call, r))
  pub seen_is : seen after ≡ known_after (known_at_front (seen before) (front_of r)) (reads (call, r))
  pub knew : Begins before.writes after.writes
  -- Its phase is no earlier than the pass's, and becomes it.
  pub phase_from : PhaseIsFrom before.phase (phase_of r)
  pub phase : after.phase ≡ unwrap_or (phase_of r) before.phase
  -- On a sole pass each mark follows from the pass's own lists.
  pub in_turn : IsSole budget before → CallInTurn sizes before (call, r)
  -- What it charged, added and read is appended to the lists, in order.
  pub charges : after.charges ≡ before.charges ++ charges (call, r)
  pub apps : after.apps ≡ before.apps ++ app_adds (call, r)
  pub ifaces : after.ifaces ≡ before.ifaces ++ iface_adds (call, r)
  pub reads : after.reads ≡ before.reads ++ recorded_reads (call, r)
  pub left : before.left ≡ after.left + spent call
  pub made : after.made ≡ before.made + spent call

-- A pass was split by n: the new pass knows all that the first knows, and its lists are empty; the first keeps its own.
pub record Split (n : ℕ) (before after other : Pass) : Type 0 where
  pub other_is : other ≡ record {
    left = n;
    made = 0;
    phase = before.phase;
    writes = before.writes;
    charges = [];
    apps = [];
    ifaces = [];
    reads = [];
  }
  pub after_is : after ≡ record before { left = after.left }
  pub left : before.left ≡ n + after.left

-- Another pass was joined in: the first has both numbers, knows what either knew, and has its own lists followed by the other's.
pub record Joined (before other after : Pass) : Type 0 where
  pub left : after.left ≡ before.left + other.left
  pub made : after.made ≡ before.made + other.made
  pub phase : after.phase ≡ max before.phase other.phase
  pub knew : Begins before.writes after.writes
  pub learnt : Begins other.writes after.writes
  pub seen_is : seen after ≡ max (seen before) (seen other)
  pub charges : after.charges ≡ before.charges ++ other.charges
  pub apps : after.apps ≡ before.apps ++ other.apps
  pub ifaces : after.ifaces ≡ before.ifaces ++ other.ifaces
  pub reads : after.reads ≡ before.reads ++ other.reads

-- A pass met a writer with this journal and a collector's seat of this phase: it knows both, and knew no more.
pub record Met (journal : List Write) (phase : ℕ) (before after : Pass) : Type 0 where
  pub after_is : after ≡ record before { writes = journal; phase = phase }
  pub knew : Begins before.writes journal
  pub rose : before.phase ≤ phase

-- A pass met a seat of the app totals, by what that seat knew of each uid before and knows after.
pub record MetApps (budget : ℕ) (pass : Pass) (before after : ℕ → Amount) : Type 0 where
  pub learnt : (uid : ℕ) → IsAtMost (added pass.apps uid) (after uid)
  pub kept : (uid : ℕ) → IsAtMost (before uid) (after uid)
  -- From a sole pass it learns no more than the sum of the pass's own landed adds.
  pub sole : IsSole budget pass → (uid : ℕ) → IsAtMost (after uid) (added pass.apps uid)
