-- Where a text is cut into its parts: before each line `section`, except one that begins the text.
use Rattle.std.specs.Prelude.{◌≡◌, ◌⊎◌, ℕ, ◌≤◌, ◌==◌, false, List, [], ◌∷◌, ◌++◌, length, take, drop, codes}
use Rattle.std.specs.List.{AllByRecursion}
use Rattle.script_text.specs.declared.cutter.Fed.{Fed}
use Rattle.script_text.specs.declared.cutter.Fed.TheVariants as fed
use Rattle.script_text.specs.Faults.{BeginsSection}

-- The bytes end with a line feed.
abbrev pub EndsLine : List ℕ → Type 0
EndsLine bytes = (front : List ℕ) × (bytes ≡ front ++ 10 ∷ [])

-- A line `section` stands behind the first line of the bytes.
abbrev pub HasCut : List ℕ → Type 0
HasCut bytes = (front : List ℕ) × (more : List ℕ) × (bytes ≡ front ++ (10 ∷ (codes "section\n" ++ more)))

abbrev pub IsUncut : List ℕ → Type 0
IsUncut bytes = HasCut bytes → ⊥

-- The text is these parts and then the last one. Each but the last ends a line, each but the first begins with the
-- line `section`, and no such line stands elsewhere.
abbrev pub ArePartsOf : List (List ℕ) → List ℕ → List ℕ → Type 0
ArePartsOf [] last text = IsUncut last × (text ≡ last)
ArePartsOf (part ∷ parts) last text = EndsLine part × (IsUncut part × ((more : List ℕ) × (text ≡ part ++ more) × (BeginsSection more × ArePartsOf parts last more)))

-- With so many bytes of the piece behind the old ones, a part has ended, and the line `section` stands behind it.
pub record IsCutOff (old piece : List ℕ) (taken : ℕ) (part : List ℕ) : Type 0 where
  pub ends : EndsLine part
  pub uncut : IsUncut part
  pub is : old ++ take taken piece ≡ part ++ codes "section\n"

-- What a piece does to the bytes since the last cut.
abbrev pub Feeds : List ℕ → List ℕ → Fed → List ℕ → Type 0
Feeds old piece fed.More new = (new ≡ old ++ piece) × IsUncut new
Feeds old piece (fed.Part taken part) new = (taken ≤ length piece) × (IsCutOff old piece taken part × (new ≡ codes "section\n"))

-- ---- how a cutter holds the bytes since the last cut

-- The last line of the bytes is this one, which begins at this place and has no line feed yet, and no cut is in them.
pub record IsOpen (bytes : List ℕ) (line : ℕ) (last : List ℕ) : Type 0 where
  pub front : List ℕ
  pub whole : bytes ≡ front ++ last
  pub begins : line ≡ length front
  pub lacks : AllByRecursion (λ b. (b == 10) ≡ false) last
  pub lines : (front ≡ []) ⊎ EndsLine front
  pub uncut : IsUncut bytes

abbrev pub IsHeld : List ℕ → ℕ → Type 0
IsHeld bytes line = (line ≤ length bytes) × IsOpen bytes line (drop line bytes)

-- With so many bytes of the piece behind those that are held there is a cut.
abbrev pub CutsAt : List ℕ → List ℕ → ℕ → Type 0
CutsAt held piece taken = (taken ≤ length piece) × ((part : List ℕ) × IsCutOff held piece taken part)
