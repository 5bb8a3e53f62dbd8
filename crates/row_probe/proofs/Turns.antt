-- The turns below the number of rows give each place once, one behind another. This is all that is used of `place`.
use Rattle.std.proofs.Common.{add_assoc, ◌≡◌, ◌≢◌, ap, ℕ, ◌+◌, ◌-◌, ◌/◌, ◌%◌, ◌<◌, ◌≤◌, Bool, true, false, nat_lt, if◌then◌else◌, refl, sym, ◌∙◌, arith}
use Rattle.std.specs.Prelude.{◌==◌}
use mathlib.Core.Logic.{◌⊎◌, inl, inr}
use Rattle.std.proofs.Math.Nat.{mod-lt, mod-eq_of_lt, mod-eq-sub-mod, mod-add-mod, mod_self}
use Rattle.row_probe.specs.Places.{hash, home, place, next_place}

-- a place and a turn come to the place itself, or to the one that is a round less
cut : (h turn rows : ℕ) → h < rows → turn < rows → (h + turn < rows) × ((h + turn) % rows ≡ h + turn) ⊎ (rows ≤ h + turn) × ((h + turn) % rows ≡ h + turn - rows)
cut h turn rows a b = pick (nat_lt (h + turn) rows) refl
  where
    pick : (t : Bool) → nat_lt (h + turn) rows ≡ t → (h + turn < rows) × ((h + turn) % rows ≡ h + turn) ⊎ (rows ≤ h + turn) × ((h + turn) % rows ≡ h + turn - rows)
    pick true e = let l : h + turn < rows = grind (arith, e) in inl (l, mod-eq_of_lt l)
    pick false e = let l : rows ≤ h + turn = grind (arith, e) in
        let m : h + turn - rows < rows = omega (arith, a, b, l) in inr (l, mod-eq-sub-mod l ∙ mod-eq_of_lt m)

pub home-lt : (k1 k2 turn rows : ℕ) → turn < rows → home k1 k2 rows < rows
unfolding home
home-lt k1 k2 turn rows l = mod-lt _ (omega (arith, l))

pub place-lt : (k1 k2 turn rows : ℕ) → turn < rows → place k1 k2 turn rows < rows
unfolding place
place-lt k1 k2 turn rows l = mod-lt _ (omega (arith, l))

pub place-injective : (k1 k2 turn other rows : ℕ) → turn < rows → other < rows → place k1 k2 turn rows ≡ place k1 k2 other rows → turn ≡ other
unfolding place
place-injective k1 k2 turn other rows l m e =
    let h = home-lt k1 k2 turn rows l in
    elim (cut (home k1 k2 rows) turn rows h l) [
      | inl a ↦ elim (cut (home k1 k2 rows) other rows h m) [
        | inl b ↦ let s = sym a.1 ∙ (e ∙ b.1) in omega (arith, s)
        | inr b ↦ let s = sym a.1 ∙ (e ∙ b.1) in absurd (omega (arith, s, a.0, b.0, h, m, l))
      ]
      | inr a ↦ elim (cut (home k1 k2 rows) other rows h m) [
        | inl b ↦ let s = sym a.1 ∙ (e ∙ b.1) in absurd (omega (arith, s, a.0, b.0, h, m, l))
        | inr b ↦ let s = sym a.1 ∙ (e ∙ b.1) in omega (arith, s, a.0, b.0)
      ]
    ]

pub place-surjective : (k1 k2 i rows : ℕ) → i < rows → (turn : ℕ) × (turn < rows) × (place k1 k2 turn rows ≡ i)
unfolding place
place-surjective k1 k2 i rows l = pick (nat_lt i (home k1 k2 rows)) refl
  where
    h : home k1 k2 rows < rows
    h = home-lt k1 k2 i rows l

    pick : (t : Bool) → nat_lt i (home k1 k2 rows) ≡ t → (turn : ℕ) × (turn < rows) × ((home k1 k2 rows + turn) % rows ≡ i)
    pick true e =
        let b : i < home k1 k2 rows = grind (arith, e) in
        let t : rows - home k1 k2 rows + i < rows = omega (arith, b, h) in (
          rows - home k1 k2 rows + i,
          t,
          elim (cut (home k1 k2 rows) (rows - home k1 k2 rows + i) rows h t) [
            | inl c ↦ absurd (omega (arith, c.0, h))
            | inr c ↦ let s = c.1 in omega (arith, s, h)
          ],
        )
    pick false e =
        let b : home k1 k2 rows ≤ i = grind (arith, e) in
        let t : i - home k1 k2 rows < rows = omega (arith, b, l) in (
          i - home k1 k2 rows,
          t,
          elim (cut (home k1 k2 rows) (i - home k1 k2 rows) rows h t) [
            | inl c ↦ let s = c.1 in omega (arith, s, b)
            | inr c ↦ absurd (omega (arith, c.0, b, l))
          ],
        )

-- the first place is the hash's, and each further turn's place is the one behind
pub place-first : (k1 k2 rows : ℕ) → 0 < rows → place k1 k2 0 rows ≡ home k1 k2 rows
unfolding place
place-first k1 k2 rows l = let h = home-lt k1 k2 0 rows l in
    elim (cut (home k1 k2 rows) 0 rows h l) [
      | inl c ↦ let s = c.1 in omega (arith, s)
      | inr c ↦ absurd (omega (arith, c.0, h))
    ]

pub place-next : (k1 k2 turn rows : ℕ) → 0 < rows → place k1 k2 (turn + 1) rows ≡ next_place (place k1 k2 turn rows) rows
unfolding place
place-next k1 k2 turn rows l = one_more ∙ pick (p + 1 == rows) refl
  where
    p : ℕ
    p = (home k1 k2 rows + turn) % rows

    below : p < rows
    below = mod-lt (home k1 k2 rows + turn) l

    one_more : (home k1 k2 rows + (turn + 1)) % rows ≡ (p + 1) % rows
    one_more = ap (λ n. n % rows) (sym (add_assoc (home k1 k2 rows) turn 1)) ∙ sym (mod-add-mod (home k1 k2 rows + turn) rows 1)

    pick : (b : Bool) → (p + 1 == rows) ≡ b → (p + 1) % rows ≡ (if b then 0 else p + 1)
    pick true e = let at : p + 1 ≡ rows = grind (arith, e) in ap (λ n. n % rows) at ∙ mod_self rows
    pick false e = let other : p + 1 < rows = grind (arith, e, below) in mod-eq_of_lt other

-- in the words of the code
pub first-is : (k1 k2 rows h : ℕ) → 0 < rows → h ≡ hash k1 k2 / 4294967296 → h % rows ≡ place k1 k2 0 rows
unfolding home
first-is k1 k2 rows h l e = ap (λ z. z % rows) e ∙ sym (place-first k1 k2 rows l)

pub place-by : (k1 k2 turn rows first : ℕ) → turn < rows → first ≡ place k1 k2 0 rows
    → (first + turn < rows → first + turn ≡ place k1 k2 turn rows) × (rows ≤ first + turn → first + turn - rows ≡ place k1 k2 turn rows)
unfolding place
place-by k1 k2 turn rows first l e =
    let h = home-lt k1 k2 turn rows l in
    let same : first ≡ home k1 k2 rows = e ∙ place-first k1 k2 rows (omega (arith, l)) in
    elim (cut (home k1 k2 rows) turn rows h l) [
      | inl c ↦ let s = c.1 in (λ b. omega (arith, s, same), λ b. absurd (omega (arith, c.0, same, b)))
      | inr c ↦ let s = c.1 in (λ b. absurd (omega (arith, c.0, same, b)), λ b. omega (arith, s, same))
    ]

pub next-at : (k1 k2 turn p rows : ℕ) → 0 < rows → p + 1 ≡ rows → p ≡ place k1 k2 turn rows → 0 ≡ place k1 k2 (turn + 1) rows
next-at k1 k2 turn p rows l at e = sym (place-next k1 k2 turn rows l ∙ ap (λ q. next_place q rows) (sym e) ∙ pick (p + 1 == rows) refl)
  where
    pick : (b : Bool) → (p + 1 == rows) ≡ b → (if b then 0 else p + 1) ≡ 0
    pick true e = refl
    pick false e = absurd (grind (arith, e, at))

pub next-before : (k1 k2 turn p rows : ℕ) → 0 < rows → p + 1 ≢ rows → p ≡ place k1 k2 turn rows → p + 1 ≡ place k1 k2 (turn + 1) rows
next-before k1 k2 turn p rows l other e = sym (place-next k1 k2 turn rows l ∙ ap (λ q. next_place q rows) (sym e) ∙ pick (p + 1 == rows) refl)
  where
    pick : (b : Bool) → (p + 1 == rows) ≡ b → (if b then 0 else p + 1) ≡ p + 1
    pick true e = absurd (other (grind (arith, e)))
    pick false e = refl
