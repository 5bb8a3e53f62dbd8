-- A packet's line of which a field is not read.
use Rattle.std.proofs.Common.{◌≡◌, ℕ, List, [], ◌∷◌}

pub third : (a b x f l h : List ℕ) (fields one two : List (List ℕ)) (u v : List ℕ) → fields ≡ u ∷ one → one ≡ v ∷ two → fields ≡ a ∷ b ∷ x ∷ f ∷ l ∷ h ∷ [] → two ≡ x ∷ f ∷ l ∷ h ∷ []
third a b x f l h fields one two u v p q e = cc

pub fifth : (a b x f l h : List ℕ) (fields one two three four : List (List ℕ)) (u v w y : List ℕ) → fields ≡ u ∷ one → one ≡ v ∷ two → two ≡ w ∷ three → three ≡ y ∷ four → fields ≡ a ∷ b ∷ x ∷ f ∷ l ∷ h ∷ [] → four ≡ l ∷ h ∷ []
fifth a b x f l h fields one two three four u v w y p q r s e = cc

pub sixth : (a b x f l h : List ℕ) (fields one two three four five : List (List ℕ)) (u v w y z g : List ℕ) → fields ≡ u ∷ one → one ≡ v ∷ two → two ≡ w ∷ three → three ≡ y ∷ four → four ≡ z ∷ five → five ≡ g ∷ [] → fields ≡ a ∷ b ∷ x ∷ f ∷ l ∷ h ∷ [] → (z ≡ l) × (g ≡ h)
sixth a b x f l h fields one two three four five u v w y z g p q r s t o e = (cc, cc)
