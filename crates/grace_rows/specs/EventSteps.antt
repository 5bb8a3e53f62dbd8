-- What each kind of step makes of the table, and which event of the machine it is.
use Rattle.std.specs.Prelude.{◌≡◌, ℕ, ◌+◌, ◌*◌, ◌/◌, ◌%◌, List, [], ◌∷◌, ◌++◌, Some, slice_index, slice_set}
use mathlib.Core.Option.{some}
use lib.ListN.{get_elem?}
use Rattle.acct_base.specs.declared.amount.Row.{Row}
use Rattle.acct_base.specs.declared.charge.Job.{Job}
use Rattle.grace_core.specs.declared.event.Event.{Event}
use Rattle.grace_core.specs.declared.view.At.TheVariants.{Outside}
use Rattle.grace_core.specs.Machine.{after, claimed, entered, moved, first_found, second_found, split_left, word_of, word_at}
use Rattle.row_probe.specs.Keys.{pack1, pack2}
use Rattle.row_probe.specs.Places.{place_of}
use Rattle.grace_rows.specs.Collecting.{flipped, polled, took, reopened}
use Rattle.grace_rows.specs.declared.rule.Setup.{Setup}
use Rattle.grace_rows.specs.declared.rule.Sight.{Sight}
use Rattle.grace_rows.specs.Moments.{Moment}
use Rattle.grace_rows.specs.Shown.{Kept, shown, hooked, counted, completed, cut_right, opened_left, opened_right, merged, spent}
use Rattle.grace_rows.specs.Sights.{collect_of}

-- At this moment the table keeps its rule, and the seat of this number has this view.
pub record IsSeat (key : Setup) (s : Moment) (id : ℕ) (x : Sight) : Type 0 where
  pub kept : Kept key s
  pub view : get_elem? s.views id ≡ some x

-- What lies between the two moments is the event: it makes of the state that the first shows the one that the second shows.
abbrev pub IsEvent : Setup → Event → Moment → Moment → Type 0
IsEvent key event old new = after (shown key old.words old.views) event ≡ Some (shown key new.words new.views)

-- A step: one word has another number, and the seat that stepped another view.
abbrev pub stepped : Moment → ℕ → ℕ → ℕ → Sight → Moment
stepped s word number id x = record { words = slice_set s.words word number; homes = s.homes; views = slice_set s.views id x }

-- A hook enters: the choice is one more.
abbrev pub entering : Moment → ℕ → Sight → Moment
entering s id x = stepped s 0 (slice_index s.words 0 + 1) id (hooked (entered (slice_index s.words 0 / 4294967296)) x)

-- A hook leaves a phase: the exits of its side are one more.
abbrev pub leaving : Moment → ℕ → ℕ → Sight → Moment
leaving s phase id x = stepped s (phase % 2 + 1) (slice_index s.words (phase % 2 + 1) + 1) id (hooked (λ view. moved view Outside) x)

-- The word of a row and a column, behind the choice and the exits.
abbrev pub row_word : Setup → ℕ → ℕ → ℕ → ℕ
row_word key phase row column = 3 + word_of key.rows phase row column

-- A hook claims the first key of a turn's place, or finds whose it is.
abbrev pub claiming_first : Setup → Moment → ℕ → ℕ → Job → ℕ → ℕ → Sight → Moment
claiming_first key s phase charges job turn id x =
    let word = row_word key phase (place_of job.label turn key.rows) 0 in
    let found = slice_index s.words word in
    stepped s word (claimed (pack1 job.label) found) id (counted (λ view. first_found key.rows view phase charges job turn found) x)

-- It claims the second key there, or finds whose it is.
abbrev pub claiming_second : Setup → Moment → ℕ → ℕ → Job → ℕ → ℕ → Sight → Moment
claiming_second key s phase charges job turn id x =
    let word = row_word key phase (place_of job.label turn key.rows) 1 in
    let found = slice_index s.words word in
    stepped s word (claimed (pack2 job.label) found) id (counted (λ view. second_found key.rows view phase charges job turn found) x)

-- A hook adds to a number of the row at which it stands.
abbrev pub adding : Moment → ℕ → ℕ → ℕ → Sight → Moment
adding s word n id x = stepped s word (slice_index s.words word + n) id (completed x)

-- A hook's seat is cut in two.
abbrev pub cutting : Moment → ℕ → ℕ → Sight → Moment
cutting s n id x = record { words = s.words; homes = s.homes; views = slice_set s.views id (hooked (split_left n) x) ++ cut_right n x ∷ [] }

-- The collector's seat gives all calls of the hook that it shows to a new seat.
abbrev pub opening : Moment → ℕ → Sight → Moment
opening s id x = record { words = s.words; homes = s.homes; views = slice_set s.views id (opened_left x) ++ opened_right x ∷ [] }

-- A seat takes a hook's seat in.
abbrev pub joining : Moment → ℕ → Sight → ℕ → Sight → Moment
joining s id x other y = record { words = s.words; homes = s.homes; views = slice_set (slice_set s.views id (merged x y)) other spent }

-- The collector makes the next phase the live one.
abbrev pub flipping : Moment → Sight → Moment
flipping s x = stepped s 0 (((collect_of x).phase + 1) * 4294967296) 0 (flipped (slice_index s.words 0) x)

-- It loads the exits of the old phase.
abbrev pub polling : Moment → ℕ → Sight → Moment
polling s old x = stepped s (old % 2 + 1) (slice_index s.words (old % 2 + 1)) 0 (polled (slice_index s.words (old % 2 + 1)) x)

-- It takes a word of the old phase's side.
abbrev pub taking : Setup → Moment → ℕ → ℕ → Sight → Moment
taking key s old next x = stepped s (3 + word_at key.rows old next) 0 0 (took (slice_index s.words (3 + word_at key.rows old next)) x)

-- It frees the old phase's side, and these rows are the next snapshot.
abbrev pub freeing : Moment → ℕ → List Row → Sight → Moment
freeing s old rows x = stepped s (old % 2 + 1) 0 0 (reopened rows x)
