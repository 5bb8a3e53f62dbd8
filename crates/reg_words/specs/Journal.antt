-- The last write to a key as a relation on the writes' places, and values by their numbers. `last_write` of the journal's own definitions computes the same.
use Rattle.std.specs.Prelude.{◌≡◌, ◌≢◌, ℕ, zero, suc, ◌-◌, ◌≤◌, ◌<◌, List, length, leb, cond, Option, Some, None}
use mathlib.Core.Option.{some, none}
use mathlib.Core.Option as maybe
use lib.ListN.{get_elem?}
use Rattle.acct_base.specs.declared.register.Write.{Write}
use Rattle.acct_base.specs.declared.register.Key.{Key}

-- The number is that of the last write to the key, or 0 where there is none.
pub record IsLast (journal : List Write) (key : Key) (v : ℕ) : Type 0 where
  pub within : v ≤ length journal
  pub later : (i : ℕ) (w : Write) → v ≤ i → get_elem? journal i ≡ some w → w.key ≢ key
  pub here : 0 < v → (w : Write) × (get_elem? journal (v - 1) ≡ some w) × (w.key ≡ key)

-- The value of a write, if there is one.
abbrev pub value_in : maybe.Option Write → Option ℕ
value_in (some w) = w.value
value_in none = None

-- The value of the write with this number; write 0 has none.
abbrev pub value_at : List Write → ℕ → Option ℕ
value_at journal zero = None
value_at journal (suc i) = value_in (get_elem? journal i)

-- 1 where there is a value, and else 0.
abbrev pub has : Option ℕ → ℕ
has None = 0
has (Some x) = 1

-- The longer of two lists, and the shorter.
abbrev pub longer : List Write → List Write → List Write
longer a b = cond (leb (length b) (length a)) a b

abbrev pub shorter : List Write → List Write → List Write
shorter a b = cond (leb (length b) (length a)) b a
