-- The rule of the table: each number of a row is the sum, over all seats, of what was added to its key.
-- Word p is the key of row p, and word rows + 4 * p + c its number c.
use Rattle.std.specs.Prelude.{◌≡◌, ◌≢◌, ℕ, ◌+◌, ◌*◌, ◌^◌, ◌≤◌, ◌<◌, List, [], length, slice_index, sum_by}
use mathlib.Core.Option.{some}
use lib.ListN.{get_elem?}
use Rattle.atomic_table.specs.Table.{State}
use Rattle.acct_base.specs.declared.charge.Landed.{Landed}
use Rattle.acct_base.specs.declared.charge.Landed.TheVariants.{Row as InRow, Full}
use Rattle.total_rows.specs.declared.plan.Plan.{Plan}
use Rattle.total_rows.specs.declared.plan.Job.{Job}
use Rattle.total_rows.specs.declared.plan.Addition.{Addition}
use Rattle.total_rows.specs.declared.plan.Note.{Note}
use Rattle.total_rows.specs.declared.plan.View.{View}
use Rattle.total_rows.specs.declared.plan.Stage.{Stage}
use Rattle.total_rows.specs.declared.plan.Stage.TheVariants.{Idle, Probing, Row, Half, Looking, Reading}
use Rattle.total_rows.specs.Rows.{spot, AllDecided, At, Owned}
use Rattle.total_rows.specs.Sums.{part, uses, noted}

-- A call is under way.
abbrev pub busy : Stage → ℕ
busy Idle = 0
busy (Probing j t) = 1
busy (Row j t) = 1
busy (Half j t) = 1
busy (Looking k t) = 0
busy (Reading k t) = 0

-- The calls of a seat, made or left.
abbrev pub calls : View → ℕ
calls v = v.left + v.made

-- A key has 32 bits, and packets and bytes are below 2 ^ 19, so that no sum passes its word.
pub record IsJob (j : Job) : Type 0 where
  pub key : j.key < 2 ^ 32
  pub packets : j.packets < 2 ^ 19
  pub bytes : j.bytes < 2 ^ 19

module _ (rows : ℕ) (words : List ℕ) where
  -- What a seat's stage says of the key words.
  abbrev pub Stands : Stage → Type 0
  Stands Idle = Unit {0}
  Stands (Probing j turn) = IsJob j × ((turn ≤ rows) × AllDecided rows words j.key turn)
  Stands (Row j turn) = IsJob j × At rows words j.key turn
  Stands (Half j turn) = IsJob j × At rows words j.key turn
  Stands (Looking key turn) = (turn ≤ rows) × AllDecided rows words key turn
  Stands (Reading key turn) = At rows words key turn

  -- A landed add has its row; for another, all rows belong to other keys.
  abbrev pub IsAdd : Addition → Landed → Type 0
  IsAdd a (InRow row) = IsJob a.job × ((turn : ℕ) × At rows words a.job.key turn × (spot rows a.job.key turn ≡ row))
  IsAdd a Full = IsJob a.job × AllDecided rows words a.job.key rows

  pub record Sits (v : View) : Type 0 where
    pub stands : Stands v.stage
    pub adds : (i : ℕ) (a : Addition) → get_elem? v.adds i ≡ some a → IsAdd a a.landed
    pub counted : length v.adds + busy v.stage ≤ v.made

-- A note tells no more than what is there.
abbrev pub Tells : List View → Note → Type 0
Tells views n = (key c : ℕ) → noted key c n ≤ sum_by (part key c) views

pub record Kept (z : Plan) (s : State (Unit {0}) View) : Type 0 where
  pub wide : length s.words ≡ z.rows + 4 * z.rows
  pub small : z.calls ≤ 2 ^ 28
  pub owned : (p : ℕ) → p < z.rows → slice_index s.words p ≢ 0 → Owned z.rows s.words p
  pub blank : (p c : ℕ) → p < z.rows → c < 4 → slice_index s.words p ≡ 0 → slice_index s.words (z.rows + 4 * p + c) ≡ 0
  pub sums : (key turn c : ℕ) → At z.rows s.words key turn → c < 4 → slice_index s.words (z.rows + 4 * spot z.rows key turn + c) ≡ sum_by (part key c) s.views
  pub used : (key turn : ℕ) → At z.rows s.words key turn → 0 < sum_by (uses key) s.views
  pub each_seat : (j : ℕ) (v : View) → get_elem? s.views j ≡ some v → Sits z.rows s.words v
  pub each_note : (j : ℕ) (v : View) → get_elem? s.views j ≡ some v → (i : ℕ) (n : Note) → get_elem? v.notes i ≡ some n → Tells s.views n
  pub budget : sum_by calls s.views ≡ z.calls

abbrev pub opening_view : Plan → View
opening_view z = record { left = z.calls; made = 0; adds = []; notes = []; stage = Idle }
