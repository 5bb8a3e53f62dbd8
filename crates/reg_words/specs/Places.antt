-- Where a key stands. Each map has places of its own, and Enabled has one.
use Rattle.std.specs.Prelude.{◌≡◌, ◌≢◌, ℕ, ◌+◌, ◌<◌, List, slice_index}
use Rattle.acct_base.specs.declared.register.Key.{Key}
use Rattle.acct_base.specs.declared.register.Key.TheVariants.{Cookie, Set, Owner, Enabled}
use Rattle.acct_base.specs.declared.sizes.RegSizes.{RegSizes}
use Rattle.acct_base.specs.declared.register.Write.{Write}
use Rattle.row_probe.specs.Places.{place}
use mathlib.Core.Option.{some}
use lib.ListN.{get_elem?}

-- The word under which a key stands in its map: the cookie, or the uid and 1 more. It is never 0 but for Cookie(0), which is never written.
abbrev pub code : Key → ℕ
code (Cookie c) = c
code (Set u) = u + 1
code (Owner u) = u + 1
code Enabled = 1

-- How many places the key's map has.
abbrev pub rows : RegSizes → Key → ℕ
rows z (Cookie c) = z.cookies
rows z (Set u) = z.sets
rows z (Owner u) = z.owners
rows z Enabled = 1

-- The first place of the key's map.
abbrev pub base : RegSizes → Key → ℕ
base z (Cookie c) = 0
base z (Set u) = z.cookies
base z (Owner u) = z.cookies + z.sets
base z Enabled = z.cookies + z.sets + z.owners

-- How many places there are.
abbrev pub total : RegSizes → ℕ
total z = z.cookies + z.sets + z.owners + 1

-- The place that is tried for the key at a turn.
abbrev pub spot : RegSizes → Key → ℕ → ℕ
spot z key turn = base z key + place (code key) 1 turn (rows z key)

-- At this turn the key meets another key's word.
abbrev pub Decided : RegSizes → List ℕ → Key → ℕ → Type 0
Decided z places key turn = (slice_index places (spot z key turn) ≢ 0) × (slice_index places (spot z key turn) ≢ code key)

-- At each earlier turn the key meets another key's word.
abbrev pub AllDecided : RegSizes → List ℕ → Key → ℕ → Type 0
AllDecided z places key turn = (u : ℕ) → u < turn → Decided z places key u

-- The key stands at the place of this turn.
pub record At (z : RegSizes) (places : List ℕ) (key : Key) (turn : ℕ) : Type 0 where
  pub inside : turn < rows z key
  pub named : code key ≢ 0
  pub is : slice_index places (spot z key turn) ≡ code key
  pub earlier : AllDecided z places key turn

-- The place is this key's.
pub record Owned (z : RegSizes) (places : List ℕ) (place : ℕ) : Type 0 where
  pub key : Key
  pub turn : ℕ
  pub at : At z places key turn
  pub here : spot z key turn ≡ place

-- Each key that was written stands at a place.
abbrev pub AllPlaced : RegSizes → List ℕ → List Write → Type 0
AllPlaced z places journal = (i : ℕ) (w : Write) → get_elem? journal i ≡ some w → (turn : ℕ) × At z places w.key turn

-- No write of the journal is to the key.
abbrev pub NeverWritten : List Write → Key → Type 0
NeverWritten journal key = (i : ℕ) (w : Write) → get_elem? journal i ≡ some w → w.key ≢ key

-- A word that is not 0 stays as it is.
abbrev pub Stays : List ℕ → List ℕ → Type 0
Stays places later = (q : ℕ) → slice_index places q ≢ 0 → slice_index later q ≡ slice_index places q
