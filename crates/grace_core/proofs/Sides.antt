-- The two sides: phases next to each other have different ones.
use Rattle.std.proofs.Common.{◌≡◌, ◌≢◌, ℕ, zero, suc, ◌+◌, ◌*◌, ◌%◌, ◌<◌, Bool, true, false, cond, not, eqb, List, get_or, set, take, drop, sym, refl, ap, ◌∙◌, subst, arith, eq-eqb, ne_eqb}
use mathlib.Core.Logic.{dite}
use native.Mathlib.Decide.{ℕ_discrete}
use Rattle.grace_core.specs.Good.{side}
use Rattle.grace_core.specs.Machine.{exits_at, one_more, no_more, word_of, word_at}
use lib.Seq.{take-set-lt}
use Rattle.std.proofs.lemmas.List.{take-set-le, drop-set-lt, drop-set-add, get_or-take, get_or-drop}

abbrev even : ℕ → Bool
even n = eqb (n % 2) 0

pub turns : (n : ℕ) → even (n + 1) ≡ not (even n)
turns n = dite (ℕ_discrete (n % 2) 0) (λ e. ne_eqb ((n + 1) % 2) 0 (λ h. omega arith) ∙ ap not (sym (eq-eqb (n % 2) 0 e))) (λ ne. eq-eqb ((n + 1) % 2) 0 (omega arith) ∙ ap not (sym (ne_eqb (n % 2) 0 ne)))

back : (b c : Bool) → c ≡ not b → b ≡ not c
back true c e = sym (ap not e)
back false c e = sym (ap not e)

abbrev bump : Bool → ℕ × ℕ → ℕ × ℕ
bump b x = cond b (x.0 + 1, x.1) (x.0, x.1 + 1)

abbrev pick : Bool → ℕ × ℕ → ℕ
pick b x = cond b x.0 x.1

bumped : (b : Bool) (x : ℕ × ℕ) → pick b (bump b x) ≡ pick b x + 1
bumped true x = refl
bumped false x = refl

kept : (b : Bool) (x : ℕ × ℕ) → pick (not b) (bump b x) ≡ pick (not b) x
kept true x = refl
kept false x = refl

pub exits_here : (x : ℕ × ℕ) (n : ℕ) → exits_at (one_more x n) n ≡ exits_at x n + 1
exits_here x n = bumped (even n) x

pub exits_next : (x : ℕ × ℕ) (n : ℕ) → exits_at (one_more x n) (n + 1) ≡ exits_at x (n + 1)
exits_next x n = subst (λ (b : Bool). pick b (bump (even n) x) ≡ pick b x) (sym (turns n)) (kept (even n) x)

pub exits_last : (x : ℕ × ℕ) (n : ℕ) → exits_at (one_more x (n + 1)) n ≡ exits_at x n
exits_last x n = subst (λ (b : Bool). pick b (bump (even (n + 1)) x) ≡ pick b x) (sym (back (even n) (even (n + 1)) (turns n))) (kept (even (n + 1)) x)

abbrev half : ℕ → List ℕ → ℕ → List ℕ
half rows words r = cond (eqb r 0) (take (6 * rows) words) (drop (6 * rows) words)

half_set : (rows : ℕ) (words : List ℕ) (r i c x : ℕ) → r < 2 → i < rows → c < 6 → half rows (set words ((r * rows + i) * 6 + c) x) r ≡ set (half rows words r) (6 * i + c) x
half_set rows words zero i c x lr li lc = let k : ℕ = (zero * rows + i) * 6 + c in let e : k ≡ 6 * i + c = omega arith in take-set-lt (6 * rows) words k x (omega arith) ∙ ap (λ (z : ℕ). set (take (6 * rows) words) z x) e
half_set rows words (suc zero) i c x lr li lc = let k : ℕ = (1 * rows + i) * 6 + c in let e : k ≡ 6 * rows + (6 * i + c) = omega arith in
    ap (λ (z : ℕ). drop (6 * rows) (set words z x)) e ∙ drop-set-add (6 * rows) words (6 * i + c) x
half_set rows words (suc (suc r)) i c x lr li lc = absurd (omega arith)

half_else : (rows : ℕ) (words : List ℕ) (r q i c x : ℕ) → r < 2 → q < 2 → q ≢ r → i < rows → c < 6 → half rows (set words ((r * rows + i) * 6 + c) x) q ≡ half rows words q
half_else rows words zero zero i c x lr lq ne li lc = absurd (ne refl)
half_else rows words zero (suc zero) i c x lr lq ne li lc = drop-set-lt (6 * rows) words ((zero * rows + i) * 6 + c) x (omega arith)
half_else rows words (suc zero) zero i c x lr lq ne li lc = take-set-le (6 * rows) words ((1 * rows + i) * 6 + c) x (omega arith)
half_else rows words (suc zero) (suc zero) i c x lr lq ne li lc = absurd (ne refl)
half_else rows words (suc (suc r)) q i c x lr lq ne li lc = absurd (omega arith)
half_else rows words r (suc (suc q)) i c x lr lq ne li lc = absurd (omega arith)

pub side_set : (rows : ℕ) (words : List ℕ) (p i c x : ℕ) → i < rows → c < 6 → side rows (set words (word_of rows p i c) x) p ≡ set (side rows words p) (6 * i + c) x
side_set rows words p i c x li lc = half_set rows words (p % 2) i c x (omega arith) li lc

pub side_else : (rows : ℕ) (words : List ℕ) (p q i c x : ℕ) → q % 2 ≢ p % 2 → i < rows → c < 6 → side rows (set words (word_of rows p i c) x) q ≡ side rows words q
side_else rows words p q i c x ne li lc = half_else rows words (p % 2) (q % 2) i c x (omega arith) (omega arith) ne li lc

pub side_alike : (rows : ℕ) (words : List ℕ) (p q : ℕ) → q % 2 ≡ p % 2 → side rows words q ≡ side rows words p
side_alike rows words p q e = ap (half rows words) e

half_cell : (rows : ℕ) (words : List ℕ) (r i c : ℕ) → r < 2 → i < rows → c < 6 → get_or (half rows words r) (6 * i + c) 0 ≡ get_or words ((r * rows + i) * 6 + c) 0
half_cell rows words zero i c lr li lc = get_or-take (6 * rows) words (6 * i + c) 0 (omega arith) ∙ (let e : 6 * i + c ≡ (0 * rows + i) * 6 + c = omega arith in ap (λ (z : ℕ). get_or words z 0) e)
half_cell rows words (suc zero) i c lr li lc = get_or-drop (6 * rows) words (6 * i + c) 0 ∙ (let e : 6 * rows + (6 * i + c) ≡ (1 * rows + i) * 6 + c = omega arith in ap (λ (z : ℕ). get_or words z 0) e)
half_cell rows words (suc (suc r)) i c lr li lc = absurd (omega arith)

pub side_cell : (rows : ℕ) (words : List ℕ) (p i c : ℕ) → i < rows → c < 6 → get_or (side rows words p) (6 * i + c) 0 ≡ get_or words (word_of rows p i c) 0
side_cell rows words p i c li lc = half_cell rows words (p % 2) i c (omega arith) li lc

half_put : (rows : ℕ) (words : List ℕ) (r k x : ℕ) → r < 2 → k < 6 * rows → half rows (set words (r * rows * 6 + k) x) r ≡ set (half rows words r) k x
half_put rows words zero k x lr lk = let e : zero * rows * 6 + k ≡ k = omega arith in ap (λ (z : ℕ). take (6 * rows) (set words z x)) e ∙ take-set-lt (6 * rows) words k x lk
half_put rows words (suc zero) k x lr lk = let e : 1 * rows * 6 + k ≡ 6 * rows + k = omega arith in ap (λ (z : ℕ). drop (6 * rows) (set words z x)) e ∙ drop-set-add (6 * rows) words k x
half_put rows words (suc (suc r)) k x lr lk = absurd (omega arith)

half_keep : (rows : ℕ) (words : List ℕ) (r q k x : ℕ) → r < 2 → q < 2 → q ≢ r → k < 6 * rows → half rows (set words (r * rows * 6 + k) x) q ≡ half rows words q
half_keep rows words zero zero k x lr lq ne lk = absurd (ne refl)
half_keep rows words zero (suc zero) k x lr lq ne lk = drop-set-lt (6 * rows) words (zero * rows * 6 + k) x (omega arith)
half_keep rows words (suc zero) zero k x lr lq ne lk = take-set-le (6 * rows) words (1 * rows * 6 + k) x (omega arith)
half_keep rows words (suc zero) (suc zero) k x lr lq ne lk = absurd (ne refl)
half_keep rows words (suc (suc r)) q k x lr lq ne lk = absurd (omega arith)
half_keep rows words r (suc (suc q)) k x lr lq ne lk = absurd (omega arith)

half_at : (rows : ℕ) (words : List ℕ) (r k : ℕ) → r < 2 → k < 6 * rows → get_or (half rows words r) k 0 ≡ get_or words (r * rows * 6 + k) 0
half_at rows words zero k lr lk = get_or-take (6 * rows) words k 0 lk ∙ (let e : k ≡ 0 * rows * 6 + k = omega arith in ap (λ (z : ℕ). get_or words z 0) e)
half_at rows words (suc zero) k lr lk = get_or-drop (6 * rows) words k 0 ∙ (let e : 6 * rows + k ≡ 1 * rows * 6 + k = omega arith in ap (λ (z : ℕ). get_or words z 0) e)
half_at rows words (suc (suc r)) k lr lk = absurd (omega arith)

pub side_put : (rows : ℕ) (words : List ℕ) (p k x : ℕ) → k < 6 * rows → side rows (set words (word_at rows p k) x) p ≡ set (side rows words p) k x
side_put rows words p k x lk = half_put rows words (p % 2) k x (omega arith) lk

pub side_keep : (rows : ℕ) (words : List ℕ) (p q k x : ℕ) → q % 2 ≢ p % 2 → k < 6 * rows → side rows (set words (word_at rows p k) x) q ≡ side rows words q
side_keep rows words p q k x ne lk = half_keep rows words (p % 2) (q % 2) k x (omega arith) (omega arith) ne lk

pub side_at : (rows : ℕ) (words : List ℕ) (p k : ℕ) → k < 6 * rows → get_or (side rows words p) k 0 ≡ get_or words (word_at rows p k) 0
side_at rows words p k lk = half_at rows words (p % 2) k (omega arith) lk

abbrev wipe : Bool → ℕ × ℕ → ℕ × ℕ
wipe b x = cond b (0, x.1) (x.0, 0)

wiped : (b : Bool) (x : ℕ × ℕ) → pick b (wipe b x) ≡ 0
wiped true x = refl
wiped false x = refl

wipe_kept : (b : Bool) (x : ℕ × ℕ) → pick (not b) (wipe b x) ≡ pick (not b) x
wipe_kept true x = refl
wipe_kept false x = refl

pub exits_reset : (x : ℕ × ℕ) (n : ℕ) → exits_at (no_more x n) n ≡ 0
exits_reset x n = wiped (even n) x

pub exits_keep : (x : ℕ × ℕ) (n : ℕ) → exits_at (no_more x n) (n + 1) ≡ exits_at x (n + 1)
exits_keep x n = subst (λ (b : Bool). pick b (wipe (even n) x) ≡ pick b x) (sym (turns n)) (wipe_kept (even n) x)

pub exits_alike : (x : ℕ × ℕ) (m n : ℕ) → m % 2 ≡ n % 2 → exits_at x m ≡ exits_at x n
exits_alike x m n e = ap (λ (r : ℕ). pick (eqb r 0) x) e
