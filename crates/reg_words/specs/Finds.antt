-- What a look at the places finds.
use Rattle.std.specs.Prelude.{◌≡◌, ℕ, ◌<◌, List, slice_index}
use Rattle.acct_base.specs.declared.register.Key.{Key}
use Rattle.acct_base.specs.declared.sizes.RegSizes.{RegSizes}
use Rattle.reg_words.specs.declared.place.Try.{Try}
use Rattle.reg_words.specs.declared.place.Spot.{Spot}
use Rattle.reg_words.specs.declared.place.Spot.TheVariants.{Known, Free}
use Rattle.reg_words.specs.Places.{rows, total, spot, AllDecided, At}

-- The place is the one that is tried for the key at the turn.
abbrev pub IsTry : RegSizes → Key → Try → Type 0
IsTry z key at = (at.turn < rows z key) × (at.spot ≡ spot z key at.turn) × (at.spot < total z)

-- The key stands at this turn's place, or the place is the first free one that is tried for it.
abbrev pub IsFound : RegSizes → List ℕ → Key → Spot → Type 0
IsFound z places key (Known turn) = At z places key turn
IsFound z places key (Free turn) = (turn < rows z key) × AllDecided z places key turn × (slice_index places (spot z key turn) ≡ 0)
