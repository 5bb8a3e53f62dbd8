-- How many different keys of a map were written, by the words of its places. `AreKeysSpent` says the same of the journal alone.
use Rattle.std.specs.Prelude.{◌≡◌, ◌≢◌, ℕ, ◌<◌, nat_eq, cond, List, [], ◌∷◌, slice_index}
use mathlib.Core.Option.{some}
use lib.ListN.{get_elem?}
use Rattle.acct_base.specs.declared.register.Key.{Key}
use Rattle.acct_base.specs.declared.register.Key.TheVariants.{Cookie, Set, Owner, Enabled}
use Rattle.acct_base.specs.declared.register.Write.{Write}
use Rattle.acct_base.specs.declared.sizes.RegSizes.{RegSizes}
use Rattle.reg_words.specs.Places.{code, rows, total, spot, At, AllPlaced, NeverWritten}
use Rattle.acct_base.specs.Distinct.{distinct}

-- The map of a key, by a number.
abbrev pub map_of : Key → ℕ
map_of (Cookie c) = 0
map_of (Set u) = 1
map_of (Owner u) = 2
map_of Enabled = 3

-- The words of the writes' keys that are of a map.
abbrev pub codes_in : ℕ → List Write → List ℕ
codes_in m [] = []
codes_in m (w ∷ ws) = cond (nat_eq (map_of w.key) m) (code w.key ∷ codes_in m ws) (codes_in m ws)

-- How many different keys of the key's map were written.
abbrev pub keys_in : List Write → Key → ℕ
keys_in journal key = distinct (codes_in (map_of key) journal)

-- Some write is to the key.
abbrev pub IsWritten : List Write → Key → Type 0
IsWritten journal key = (i : ℕ) × ((w : Write) × (get_elem? journal i ≡ some w) × (w.key ≡ key))

-- The place is held by a key that was written.
pub record Holder (z : RegSizes) (places : List ℕ) (journal : List Write) (place : ℕ) : Type 0 where
  pub key : Key
  pub turn : ℕ
  pub at : At z places key turn
  pub here : spot z key turn ≡ place
  pub written : IsWritten journal key

-- The places that are taken are those of the written keys.
pub record AreOfWritten (z : RegSizes) (places : List ℕ) (journal : List Write) : Type 0 where
  pub placed : AllPlaced z places journal
  pub holders : (p : ℕ) → p < total z → slice_index places p ≢ 0 → Holder z places journal p

-- The key was never written, and as many different keys of its map were as it has places.
abbrev pub IsSpent : RegSizes → List Write → Key → Type 0
IsSpent z journal key = NeverWritten journal key × (keys_in journal key ≡ rows z key)
