-- What is true of the machine after any events.
use Rattle.std.specs.Prelude.{◌≡◌, ◌⊎◌, ℕ, ◌+◌, ◌*◌, ◌%◌, ◌^◌, ◌<◌, ◌≤◌, ◌-◌, ◌++◌, ◌==◌, if◌then◌else◌, List, length, take, drop, slice_get, slice_index, Some}
use Rattle.acct_base.specs.declared.charge.Charge.{Charge}
use Rattle.acct_base.specs.declared.amount.Row.{Row}
use Rattle.acct_base.specs.declared.amount.Snapshot.{Snapshot}
use Rattle.acct_base.specs.Amounts.{RowsAscend}
use Rattle.row_probe.specs.Keys.{pack1}
use Rattle.row_probe.specs.Places.{place_of}
use Rattle.grace_core.specs.declared.view.HookView.{HookView}
use Rattle.grace_core.specs.declared.view.At.{At}
use Rattle.grace_core.specs.declared.view.At.TheVariants.{Outside, Inside, First, Second, Adding, Gone}
use Rattle.grace_core.specs.declared.state.State.{State}
use Rattle.grace_core.specs.declared.state.CollectAt.{CollectAt}
use Rattle.grace_core.specs.declared.state.CollectAt.TheVariants.{Resting, Waiting, Draining}
use Rattle.grace_core.specs.Machine.{IsValidJob, exits_at}
use Rattle.grace_core.specs.Sums.{Within, insiders, shares, made_sum, Measure, stand, tally}
use Rattle.grace_core.specs.Rows.{cell, Has, Tried, RowsAreGood, Folds}

-- The words of the side of a phase.
abbrev pub side : ℕ → List ℕ → ℕ → List ℕ
side rows words phase = if phase % 2 == 0 then take (6 * rows) words else drop (6 * rows) words

-- Where a view may stand, with that many made calls and charges in its list: a call makes at most two charges, each by one job at a time.
abbrev pub Standing : ℕ → (ℕ → List ℕ) → ℕ → ℕ → ℕ → At → Type 0
Standing rows words phase made count Outside = count ≤ 2 * made
Standing rows words phase made count (Inside p c) = (p ≡ phase) × (c ≤ 2) × (count + 2 ≤ 2 * made + c)
Standing rows words phase made count (First p c j t) = (p ≡ phase) × (c < 2) × (count + 2 ≤ 2 * made + c) × IsValidJob j × (t < rows) × Tried rows (words p) j.label t
Standing rows words phase made count (Second p c j t) =
    (p ≡ phase) × (c < 2) × (count + 2 ≤ 2 * made + c) × IsValidJob j × (t < rows) × Tried rows (words p) j.label t × (cell (words p) (place_of j.label t rows) 0 ≡ pack1 j.label)
Standing rows words phase made count (Adding p c j r d) = (p ≡ phase) × (c < 2) × (count + 2 ≤ 2 * made + c) × IsValidJob j × (r < rows) × Has (words p) r j.label
Standing rows words phase made count Gone = count ≡ 0

-- A view stands right, knows no phase that has not come, and its charges are valid.
pub record ViewIsGood (rows live : ℕ) (words : ℕ → List ℕ) (view : HookView) : Type 0 where
  pub phase : view.phase ≤ live
  pub standing : Standing rows words view.phase view.made (length view.list) view.at
  -- a view that is inside has made a call
  pub called : Within (λ _. 1 ≤ view.made) view.at
  pub jobs : (k : ℕ) (c : Charge) → slice_get view.list k ≡ Some c → IsValidJob c.job × (c.phase ≤ live)

-- Every view of the list has the property.
abbrev pub EachView : List HookView → (HookView → Type 0) → Type 0
EachView views P = (j : ℕ) (view : HookView) → slice_get views j ≡ Some view → P view

-- While the collector rests, all that are inside are inside the live phase, and the other side is empty.
pub record RestingIsGood (s : State) : Type 0 where
  pub within : EachView s.hooks (λ view. Within (λ p. p ≡ s.collector.phase) view.at)
  pub clear : (i : ℕ) → slice_index (side s.rows s.words (s.collector.phase + 1)) i ≡ 0
  pub no_exits : exits_at s.exits (s.collector.phase + 1) ≡ 0

-- While it waits, views may be inside the old phase as well, and what entered it are those that left it and those inside.
pub record WaitingIsGood (s : State) (entries : ℕ) : Type 0 where
  pub old : ℕ
  pub old_is : old + 1 ≡ s.collector.phase
  pub within : EachView s.hooks (λ view. Within (λ p. (p ≡ s.collector.phase) ⊎ (p ≡ old)) view.at)
  pub entered_is : entries ≡ exits_at s.exits old + insiders old s.hooks
  pub entered_most : entries ≤ made_sum s.hooks
  pub rows : RowsAreGood s.rows (side s.rows s.words old) (stand s.rows old s.hooks) (tally old s.hooks)

-- While it drains, nobody is inside the old phase. What was taken, followed by what is still there, are the old side's rows.
pub record DrainingIsGood (s : State) (next : ℕ) (taken : List ℕ) : Type 0 where
  pub old : ℕ
  pub old_is : old + 1 ≡ s.collector.phase
  pub within : EachView s.hooks (λ view. Within (λ p. p ≡ s.collector.phase) view.at)
  pub entered_most : exits_at s.exits old ≤ made_sum s.hooks
  pub next_most : next ≤ 6 * s.rows
  pub long : length taken ≡ next
  pub emptied : (i : ℕ) → i < next → slice_index (side s.rows s.words old) i ≡ 0
  pub rows : RowsAreGood s.rows (taken ++ drop next (side s.rows s.words old)) (λ _. 0) (tally old s.hooks)

-- The collector stands right, where it stands.
abbrev pub StageIsGood : State → CollectAt → Type 0
StageIsGood s Resting = RestingIsGood s
StageIsGood s (Waiting entries) = WaitingIsGood s entries
StageIsGood s (Draining next taken) = DrainingIsGood s next taken

-- How many phases are drained.
abbrev pub drained : CollectAt → ℕ → ℕ
drained Resting n = n
drained (Waiting entries) n = n - 1
drained (Draining next taken) n = n - 1

-- A snapshot ascends by label, and is what the charges of its phase add up to.
pub record SnapshotIsGood (rows : ℕ) (list : List Row) (sums : Measure → ℕ) : Type 0 where
  pub ascend : RowsAscend list
  pub folds : Folds rows list sums

-- What is true of every state that events lead to.
pub record IsGood (s : State) : Type 0 where
  pub size : (1 ≤ s.rows) × (s.rows ≤ 5000) × (length s.words ≡ 12 * s.rows) × (s.budget ≤ 2 ^ 28)
  -- every call is some view's
  pub shared : shares s.hooks ≡ s.budget
  -- the choice is the collector's phase, above the number of entries: those that left and those that are inside
  pub choice_is : s.choice ≡ s.collector.phase * 2 ^ 32 + (exits_at s.exits s.collector.phase + insiders s.collector.phase s.hooks)
  pub phases : s.collector.phase ≤ 1024
  pub entries : exits_at s.exits s.collector.phase + insiders s.collector.phase s.hooks ≤ made_sum s.hooks
  pub each_view : EachView s.hooks (ViewIsGood s.rows s.collector.phase (side s.rows s.words))
  pub rows_now : RowsAreGood s.rows (side s.rows s.words s.collector.phase) (stand s.rows s.collector.phase s.hooks) (tally s.collector.phase s.hooks)
  pub stage : StageIsGood s s.collector.at
  -- one snapshot for each phase that is drained
  pub count : length s.snapshots ≡ drained s.collector.at s.collector.phase
  pub snaps : (n : ℕ) (p : Snapshot) → slice_get s.snapshots n ≡ Some p → (p.phase ≡ n) × SnapshotIsGood s.rows p.rows (tally n s.hooks)
