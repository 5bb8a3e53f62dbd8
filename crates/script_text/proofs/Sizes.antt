-- The sizes that `map` lines give.
use Rattle.std.proofs.Common.{◌≡◌, ℕ, List, [], ◌∷◌, ◌++◌, refl}
use Rattle.acct_base.specs.declared.sizes.Sizes.{Sizes}
use Rattle.script_text.specs.declared.map_name.MapName.{MapName}
use Rattle.script_text.specs.Parts.{with_size, with_sizes}

pub sizes_push : (s : Sizes) (ms : List (MapName × ℕ)) (m : MapName × ℕ) → with_sizes s (ms ++ m ∷ []) ≡ with_size (with_sizes s ms) m.0 m.1
sizes_push s [] m = refl
sizes_push s (k ∷ ms) m = sizes_push (with_size s k.0 k.1) ms m
