-- What each step on the table tells its seat.
use Rattle.std.specs.Prelude.{◌≡◌, ◌≢◌, ℕ, ◌+◌, ◌-◌, ◌^◌, ◌≤◌, ◌<◌, ◌⊎◌, true, false, List, [], ◌∷◌, ◌++◌, length, map}
use Rattle.atomic_table.specs.Table.{Me, Step}
use Rattle.total_rows.specs.declared.plan.Job.{Job}
use Rattle.total_rows.specs.declared.plan.Addition.{Addition}
use Rattle.total_rows.specs.declared.plan.Note.TheVariants.{Number, Adds}
use Rattle.total_rows.specs.declared.plan.View.{View}
use Rattle.total_rows.specs.declared.plan.Stage.{Stage}
use Rattle.total_rows.specs.declared.plan.Stage.TheVariants.{Idle, Probing, Row, Half, Looking, Reading}
use Rattle.acct_base.specs.declared.charge.Landed.TheVariants.{Row as InRow, Full}
use Rattle.acct_base.specs.Landings.{add_lands}
use Rattle.total_rows.specs.Rows.{code, AllDecided}
use Rattle.total_rows.specs.Sums.{knows, added}
use Rattle.total_rows.specs.Rule.{Stands, calls}
use Rattle.total_rows.specs.Seats.{IsOneToOne}
use Rattle.total_rows.specs.Shown.{shown, places_of}

-- A call is spent at its first step.
abbrev pub begun : View → Stage → View
begun v Idle = record v { left = v.left - 1; made = v.made + 1 }
begun v _ = v

-- Whoever stands there knows that the rows of all turns below this one belong to other keys.
abbrev pub Met : ℕ → Stage → ℕ → ℕ → Type 0
Met rows stage key turn = (words : List ℕ) → Stands rows words stage → AllDecided rows words key turn

abbrev pub landed : Job → ℕ → Addition
landed j row = record { job = j; landed = InRow row }

abbrev pub missed : Job → Addition
missed j = record { job = j; landed = Full }

-- What the rule says of a seat that is in no row: it has no more calls than the table, which has few, and made a call for each add; its adds of one key landed in one row; and where it has all calls it knows no more than its own adds.
pub record Settled (all : ℕ) (m : View) : Type 0 where
  pub within : calls m ≤ all
  pub few : all ≤ 2 ^ 28
  pub counted : length m.adds ≤ m.made
  pub one_to_one : IsOneToOne (places_of m.adds)
  pub sole : calls m ≡ all → (key c : ℕ) → knows key c m ≡ added key c m.adds

-- A seat has not found the row of its job yet.
pub record Trying (rows key turn : ℕ) (v : View) : Type 0 where
  pub met : Met rows v.stage key turn
  pub has_left : v.stage ≡ Idle → 0 < v.left
  pub no_row : (j : Job) (t : ℕ) → v.stage ≡ Row j t → ⊥
  pub no_half : (j : Job) (t : ℕ) → v.stage ≡ Half j t → ⊥
  pub no_look : (k t : ℕ) → v.stage ≡ Looking k t → ⊥
  pub no_read : (k t : ℕ) → v.stage ≡ Reading k t → ⊥

-- What a try for a row leaves, in a table of this many rows, and what it tells a seat that has all of the table's calls.
pub record Tried (rows all : ℕ) (j : Job) (turn : ℕ) (m : View) (r : ℕ) (m' : View) : Type 0 where
  pub row : (r ≡ 0) ⊎ (r ≡ code j.key) → m' ≡ record (begun m m.stage) { stage = Row j turn }
  pub on : r ≢ 0 → r ≢ code j.key → turn + 1 < rows → m' ≡ record (begun m m.stage) { stage = Probing j (turn + 1) }
  pub full : r ≢ 0 → r ≢ code j.key → rows ≤ turn + 1 → m' ≡ record (begun m m.stage) { stage = Idle; adds = m.adds ++ missed j ∷ [] }
  pub lands : calls m ≡ all → (r ≡ 0) ⊎ (r ≡ code j.key) → add_lands rows (map shown m.adds) j.key ≡ true
  pub misses : calls m ≡ all → r ≢ 0 → r ≢ code j.key → rows ≤ turn + 1 → add_lands rows (map shown m.adds) j.key ≡ false
  pub settled : Settled all (record (begun m m.stage) { stage = Idle })

-- A load tells the same of a row that some key has. Where the row is free the seat stays as it is.
pub record Peeked (rows all : ℕ) (j : Job) (turn : ℕ) (m : View) (r : ℕ) (m' : View) : Type 0 where
  pub free : r ≡ 0 → m' ≡ m
  pub taken : r ≢ 0 → Tried rows all j turn m r m'

-- A seat rests, or looks for the row of a key that it reads.
abbrev pub IsCalm : Stage → Type 0
IsCalm Idle = Unit {0}
IsCalm (Looking k t) = Unit {0}
IsCalm (Reading k t) = ⊥
IsCalm (Probing j t) = ⊥
IsCalm (Row j t) = ⊥
IsCalm (Half j t) = ⊥

-- A seat has not found the row of the key that it reads yet.
pub record Seeking (rows key turn : ℕ) (v : View) : Type 0 where
  pub met : Met rows v.stage key turn
  pub calm : IsCalm v.stage

-- What a look for the row of a key leaves. Where nobody has a row for it, nothing is known of it.
pub record Looked (rows all key turn : ℕ) (m : View) (r : ℕ) (m' : View) : Type 0 where
  pub row : r ≡ code key → m' ≡ record m { stage = Reading key turn }
  pub on : r ≢ 0 → r ≢ code key → turn + 1 < rows → m' ≡ record m { stage = Looking key (turn + 1) }
  pub none : r ≢ code key → (r ≡ 0) ⊎ (rows ≤ turn + 1) → (m' ≡ record m { stage = Idle }) × ((c : ℕ) → knows key c m ≡ 0)
  pub settled : Settled all (record m { stage = Idle })

abbrev Sat : Type 0
Sat = Me (Unit {0}) View

abbrev Of : Type 0
Of = Step (Unit {0})

abbrev pub tried : ℕ → ℕ → Job → ℕ → Of → Sat → ℕ → Sat → Type 0
tried rows all j turn st m r m' = Tried rows all j turn m.0 r m'.0 × (m'.1 ≡ m.1)

abbrev pub peeked : ℕ → ℕ → Job → ℕ → Of → Sat → ℕ → Sat → Type 0
peeked rows all j turn st m r m' = Peeked rows all j turn m.0 r m'.0 × (m'.1 ≡ m.1)

-- The packets are added.
abbrev pub half : Job → ℕ → Of → Sat → ℕ → Sat → Type 0
half j turn st m r m' = (m'.0 ≡ record m.0 { stage = Half j turn }) × (m'.1 ≡ m.1)

-- The bytes are added too, and the add has landed in the row.
abbrev pub whole : Job → ℕ → Of → Sat → ℕ → Sat → Type 0
whole j row st m r m' = (m'.0 ≡ record m.0 { stage = Idle; adds = m.0.adds ++ landed j row ∷ [] }) × IsOneToOne (places_of (m.0.adds ++ landed j row ∷ [])) × (m'.1 ≡ m.1)

abbrev pub looked : ℕ → ℕ → ℕ → ℕ → Of → Sat → ℕ → Sat → Type 0
looked rows all key turn st m r m' = Looked rows all key turn m.0 r m'.0 × (m'.1 ≡ m.1)

-- A number was read: it is noted, and at least what was known. A seat that has all calls reads what it added.
pub record Noted (all key c : ℕ) (next : Stage) (m : View) (r : ℕ) (m' : View) : Type 0 where
  pub view : m' ≡ record m { notes = m.notes ++ Number key c r ∷ []; stage = next }
  pub known : knows key c m ≤ r
  pub sole : calls m ≡ all → r ≡ added key c m.adds

abbrev pub read_number : ℕ → ℕ → ℕ → Stage → Of → Sat → ℕ → Sat → Type 0
read_number all key c next st m r m' = Noted all key c next m.0 r m'.0 × (m'.1 ≡ m.1)

-- A look at the rule changes nothing.
abbrev pub settled : ℕ → Of → Sat → ℕ → Sat → Type 0
settled all st m r m' = (m' ≡ m) × Settled all m.0

-- A seat keeps all but n of its calls, and another begins with these and all that the first knows.
abbrev pub split_left : ℕ → View → View
split_left n v = record v { left = v.left - n }

abbrev pub split_right : ℕ → View → View
split_right n v = record { left = n; made = 0; adds = []; notes = v.notes ++ Adds v.adds ∷ []; stage = Idle }

-- Two seats at rest are one.
abbrev pub joined : View → View → View
joined v w = record { left = v.left + w.left; made = v.made + w.made; adds = v.adds ++ w.adds; notes = v.notes ++ w.notes; stage = Idle }

abbrev pub spent : View
spent = record { left = 0; made = 0; adds = []; notes = []; stage = Idle }
