-- What the calls of the registers promise, in the words of the journal.
use Rattle.std.specs.Prelude.{◌≡◌, zero, List, [], ◌∷◌, ◌++◌, length, Some}
use Rattle.acct_base.specs.declared.register.Key.{Key}
use Rattle.acct_base.specs.declared.register.Key.TheVariants.{Cookie}
use Rattle.acct_base.specs.declared.register.Write.{Write}
use Rattle.acct_base.specs.declared.register.Seen.{Seen}
use Rattle.acct_base.specs.declared.sizes.RegSizes.{RegSizes}
use Rattle.acct_base.specs.Journal.{last_write}
use Rattle.acct_base.specs.Registers.{keys_in_map, limit_of}

-- One list of writes begins with another.
abbrev pub IsPrefix : List Write → List Write → Type 0
IsPrefix known journal = (rest : List Write) × (journal ≡ known ++ rest)

-- The keys are spent: this one was never written, and as many distinct keys of its map were as the limit allows.
pub record AreKeysSpent (limits : RegSizes) (journal : List Write) (key : Key) : Type 0 where
  pub never : last_write journal (length journal) key ≡ 0
  pub full : limit_of limits key ≡ Some (length (keys_in_map key journal))

-- What a read of the key adds to the reader's list of reads: nothing where the key is Cookie(0), which is the cookie of a packet without a socket.
abbrev pub recorded : Key → Seen → List (Key × Seen)
recorded (Cookie zero) seen = []
recorded key seen = (key, seen) ∷ []
