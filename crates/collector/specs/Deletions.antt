-- What a deletion takes from the phase that its collection ends, and what it records of its uid's app.
use Rattle.std.specs.Prelude.{◌≡◌, ℕ, ◌==◌, true, Bool, Option, None, Some, is_some}
use Rattle.acct_base.specs.declared.amount.Amount.{Amount}
use Rattle.acct_base.specs.Amounts.{IsAtMost, minus}
use Rattle.shelf.specs.declared.shelf.Deletion.{Deletion}
use Rattle.shelf.specs.Shelved.{Phases}
use Rattle.shelf.specs.Phases.{deleted_app}

-- A deletion is there exactly where the collection drops something. It is of the phase that ends, has the uid and the tag of what is dropped, and records the app exactly where that has no tag.
abbrev pub IsDropped : ℕ → Option (ℕ × ℕ) → Option Deletion → Type 0
IsDropped n None None = Unit {0}
IsDropped n (Some drop) (Some d) = (d.phase ≡ n) × (d.uid ≡ drop.0) × (d.tag ≡ drop.1) × (is_some d.app ≡ (drop.1 == 0))
IsDropped n _ _ = ⊥

-- What a uid's deletions recorded up to one is between what was known of it before and after.
pub record IsKnown (before after recorded : Amount) : Type 0 where
  pub least : IsAtMost before recorded
  pub most : IsAtMost recorded after

abbrev pub AppIsKnown : (ℕ → Amount) → (ℕ → Amount) → Amount → Option Deletion → Type 0
AppIsKnown before after recorded None = Unit {0}
AppIsKnown before after recorded (Some d) = is_some d.app ≡ true → IsKnown (before d.uid) (after d.uid) recorded

-- The app of a deletion is what its uid's total is read as, less what the uid's deletions before recorded. What is known of the app afterwards is this read.
abbrev pub AppIsRead : Phases → (ℕ → Amount) → Option Deletion → Type 0
AppIsRead before after None = Unit {0}
AppIsRead before after (Some d) = is_some d.app ≡ true → d.app ≡ Some (minus (after d.uid) (deleted_app before d.uid))
