-- What registers may hold: the form of each key's value, and the maps of their keys with their limits.
use Rattle.std.specs.Prelude.{◌≡◌, ◌≢◌, ℕ, ◌<◌, ◌≤◌, ◌^◌, List, length, filter_map, Option, None, Some, IfSome}
use Rattle.std.specs.Ordering.{nat_cmp}
use Rattle.acct_base.specs.declared.register.Key.{Key}
use Rattle.acct_base.specs.declared.register.Key.TheVariants.{Cookie, Set, Owner, Enabled}
use Rattle.acct_base.specs.declared.register.Write.{Write}
use Rattle.acct_base.specs.declared.sizes.RegSizes.{RegSizes}
use Rattle.acct_base.specs.Entries.{word_uid, word_iface}
use Rattle.acct_base.specs.Ordered.{ascending}

-- The key can be written: Cookie(0) is that of a packet without a socket, and has no register.
abbrev pub IsWritable : Key → Type 0
IsWritable (Cookie c) = c ≢ 0
IsWritable (Set uid) = Unit {0}
IsWritable (Owner uid) = Unit {0}
IsWritable Enabled = Unit {0}

-- A value has its key's form: a cookie's uid is below 4294967295, a counter set is 1, an owner's interface is at most 16777215, and the enabled chains are below 2 ^ 32.
abbrev pub IsValueOf : Key → ℕ → Type 0
IsValueOf (Cookie c) word = word_uid word < 4294967295
IsValueOf (Set u) word = word ≡ 1
IsValueOf (Owner u) word = word_iface word ≤ 16777215
IsValueOf Enabled word = word < 2 ^ 32

-- A write that registers take: of a key that can be written, and with a value of the key's form where it has one.
pub record IsWellFormed (w : Write) : Type 0 where
  pub key : IsWritable w.key
  pub value : IfSome w.value (IsValueOf w.key)

-- The cookie of a write to a cookie's register.
abbrev pub cookie_of : Write → Option ℕ
cookie_of w = elim w.key [ Cookie c ↦ Some c | _ ↦ None ]

-- The uid of a write to a counter set's register.
abbrev pub set_uid_of : Write → Option ℕ
set_uid_of w = elim w.key [ Set uid ↦ Some uid | _ ↦ None ]

-- The uid of a write to an owner's register.
abbrev pub owner_uid_of : Write → Option ℕ
owner_uid_of w = elim w.key [ Owner uid ↦ Some uid | _ ↦ None ]

-- The distinct keys of a map that were ever written, ascending.
abbrev pub keys_written : (Write → Option ℕ) → List Write → List ℕ
keys_written which journal = ascending nat_cmp (filter_map which journal)

-- The cookie or the uid of a write whose key is of the same map. Enabled belongs to no map.
abbrev pub number_in_map : Key → Write → Option ℕ
number_in_map (Cookie _) w = cookie_of w
number_in_map (Set _) w = set_uid_of w
number_in_map (Owner _) w = owner_uid_of w
number_in_map Enabled w = None

-- The distinct keys of the key's map that were ever written, as numbers that ascend.
abbrev pub keys_in_map : Key → List Write → List ℕ
keys_in_map key journal = keys_written (number_in_map key) journal

-- How many distinct keys the key's map may have.
abbrev pub limit_of : RegSizes → Key → Option ℕ
limit_of limits (Cookie _) = Some limits.cookies
limit_of limits (Set _) = Some limits.sets
limit_of limits (Owner _) = Some limits.owners
limit_of limits Enabled = None

-- A journal that passes no limit.
pub record KeepsLimits (limits : RegSizes) (journal : List Write) : Type 0 where
  pub writes : length journal ≤ limits.writes
  pub cookies : length (keys_written cookie_of journal) ≤ limits.cookies
  pub sets : length (keys_written set_uid_of journal) ≤ limits.sets
  pub owners : length (keys_written owner_uid_of journal) ≤ limits.owners
