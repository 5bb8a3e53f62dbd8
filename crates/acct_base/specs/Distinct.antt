-- How many different numbers a list has.
use Rattle.std.specs.Prelude.{◌≡◌, ℕ, ◌+◌, Bool, false, ◌||◌, nat_eq, cond, List, [], ◌∷◌}

-- The number is in the list.
abbrev pub mem : ℕ → List ℕ → Bool
mem x [] = false
mem x (y ∷ ys) = nat_eq y x || mem x ys

-- How many different numbers there are.
abbrev pub distinct : List ℕ → ℕ
distinct [] = 0
distinct (x ∷ xs) = cond (mem x xs) 0 1 + distinct xs

-- No number stands twice.
abbrev pub NoTwice : List ℕ → Type 0
NoTwice [] = Unit {0}
NoTwice (x ∷ xs) = (mem x xs ≡ false) × NoTwice xs
