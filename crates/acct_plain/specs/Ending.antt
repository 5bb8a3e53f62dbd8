-- The phase that a collection ends, by what it deletes.
use Rattle.std.specs.Prelude.{◌≡◌, ℕ, ◌==◌, ◌&&◌, not, if◌then◌else◌, List, [], ◌∷◌, ◌++◌, filter, length, Option, None, Some}
use Rattle.std.specs.Ordering.{nat_cmp}
use Rattle.acct_base.specs.declared.amount.Amount.{Amount}
use Rattle.acct_base.specs.declared.register.Write.{Write}
use Rattle.acct_plain.specs.Ledgers.{amount_of}
use Rattle.acct_plain.specs.Kept.{Tables, Keeps}
use Rattle.acct_base.specs.declared.amount.Snapshot.{Snapshot}
use Rattle.desk_core.specs.declared.command.Command.{Command}
use Rattle.desk_core.specs.declared.command.Command.TheVariants.{Delete}
use Rattle.shelf.specs.declared.shelf.Deletion.{Deletion}
use Rattle.shelf.specs.Phases.{is_deleted}
use Rattle.captures.specs.Runs.{Past}
use Rattle.acct_plain.specs.Serial.{app_now, live_snapshot}

-- The uid and the tag that a command deletes.
abbrev pub deletion_of : Command → Option (ℕ × ℕ)
deletion_of (Delete caller uid tag) = Some (uid, tag)
deletion_of _ = None

-- The live phase, divided by what is deleted.
abbrev pub ended_by : Past → Option (ℕ × ℕ) → Snapshot × Option Deletion
ended_by past None = (live_snapshot past, None)
ended_by past (Some (uid, tag)) = (
  record { phase = length past.phases; rows = filter (λ row. not (is_deleted uid tag row)) (live_snapshot past).rows },
  Some (record {
    phase = length past.phases;
    uid = uid;
    tag = tag;
    rows = filter (is_deleted uid tag) (live_snapshot past).rows;
    app = app_now past uid tag;
  }),
)

-- What deletions recorded of each app, after one: of its uid all that the app had, where it has no tag.
abbrev pub recorded_after : List (ℕ × Amount) → List (ℕ × Amount) → Option (ℕ × ℕ) → ℕ → Amount
recorded_after apps recorded None other = amount_of nat_cmp recorded other
recorded_after apps recorded (Some (uid, tag)) other =
    if tag == 0 && uid == other then amount_of nat_cmp apps uid else amount_of nat_cmp recorded other

-- The live phase ended by this deletion, after these writes.
pub record IsEnded (old new : Tables) (drop : Option (ℕ × ℕ)) (writes : List Write) : Type 0 where
  pub sizes : new.sizes ≡ old.sizes
  pub book : new.book ≡ record old.book { journal = old.book.journal ++ writes }
  pub phases : (past : Past) (n : ℕ) → Keeps old past n → new.phases ≡ old.phases ++ ended_by past drop ∷ []
  pub rows : new.rows ≡ []
  pub apps : new.apps ≡ old.apps
  pub ifaces : new.ifaces ≡ old.ifaces
  pub recorded : (uid : ℕ) → amount_of nat_cmp new.recorded uid ≡ recorded_after old.apps old.recorded drop uid
