-- Numbers in lists: whether one is there, and whether one stands twice.
use Rattle.std.proofs.Common.{◌≡◌, ◌≢◌, ℕ, zero, suc, ◌+◌, ◌≤◌, ◌<◌, Bool, true, false, ◌||◌, nat_eq, cond, List, [], ◌∷◌, length, get_or, refl, sym, ap, ◌∙◌, arith, eq-eqb, ne_eqb, true≢false}
use mathlib.Core.Logic.{dite}
use native.Mathlib.Decide.{ℕ_discrete}
use Rattle.acct_base.specs.Distinct.{mem, NoTwice}

pub or_right : (a b : Bool) → b ≡ true → (a || b) ≡ true
or_right true b e = refl
or_right false b e = e

pub not_in : (x : ℕ) (l : List ℕ) → ((j : ℕ) → j < length l → x ≢ get_or l j 0) → mem x l ≡ false
not_in x [] h = refl
not_in x (y ∷ ys) h = ap (λ (b : Bool). b || mem x ys) (ne_eqb y x (λ e. h 0 (omega arith) (sym e))) ∙ not_in x ys (λ j l. h (suc j) (omega arith))

pub mem_at : (l : List ℕ) (i : ℕ) → i < length l → mem (get_or l i 0) l ≡ true
mem_at [] i h = absurd (omega arith)
mem_at (x ∷ xs) zero h = ap (λ (b : Bool). b || mem x xs) (eq-eqb x x refl)
mem_at (x ∷ xs) (suc i) h = or_right (nat_eq x (get_or xs i 0)) (mem (get_or xs i 0) xs) (mem_at xs i (omega arith))

pub at_mem : (l : List ℕ) (x : ℕ) → mem x l ≡ true → (i : ℕ) × ((i < length l) × (get_or l i 0 ≡ x))
at_mem [] x h = absurd (true≢false (sym h))
at_mem (y ∷ ys) x h = dite (ℕ_discrete y x) (λ (e : y ≡ x). (0, (omega arith, e)))
    (λ ne. let t = at_mem ys x (sym (ap (λ (b : Bool). b || mem x ys) (ne_eqb y x ne)) ∙ h) in let in_ = t.1.0 in (suc t.0, (omega arith, t.1.1)))

pub no_twice : (l : List ℕ) → ((i j : ℕ) → i < j → j < length l → get_or l i 0 ≢ get_or l j 0) → NoTwice l
no_twice [] h = tt
no_twice (x ∷ xs) h = (not_in x xs (λ j l. h 0 (suc j) (omega arith) (omega arith)), no_twice xs (λ i j a b. h (suc i) (suc j) (omega arith) (omega arith)))

pub nonzero : List ℕ → List ℕ
nonzero [] = []
nonzero (x ∷ xs) = cond (nat_eq x 0) (nonzero xs) (x ∷ nonzero xs)

keep_mem : (b : Bool) (x y : ℕ) (l : List ℕ) → mem x (cond b l (y ∷ l)) ≡ true → (nat_eq y x || mem x l) ≡ true
keep_mem true x y l h = or_right (nat_eq y x) (mem x l) h
keep_mem false x y l h = h

pub nonzero_from : (l : List ℕ) (x : ℕ) → mem x (nonzero l) ≡ true → mem x l ≡ true
unfolding nonzero
nonzero_from [] x h = h
nonzero_from (y ∷ ys) x h = let k : (nat_eq y x || mem x (nonzero ys)) ≡ true = keep_mem (nat_eq y 0) x y (nonzero ys) h in
    dite (ℕ_discrete y x) (λ e. ap (λ (b : Bool). b || mem x ys) (eq-eqb y x e))
    (λ ne. or_right (nat_eq y x) (mem x ys) (nonzero_from ys x (sym (ap (λ (b : Bool). b || mem x (nonzero ys)) (ne_eqb y x ne)) ∙ k)))

cond_mem : (b : Bool) (x y : ℕ) (l : List ℕ) → mem x l ≡ true → mem x (cond b l (y ∷ l)) ≡ true
cond_mem true x y l h = h
cond_mem false x y l h = or_right (nat_eq y x) (mem x l) h

pub nonzero_mem : (l : List ℕ) (x : ℕ) → x ≢ 0 → mem x l ≡ true → mem x (nonzero l) ≡ true
unfolding nonzero
nonzero_mem [] x ne h = h
nonzero_mem (y ∷ ys) x ne h = dite (ℕ_discrete y x)
    (λ (e : y ≡ x). ap (λ (b : Bool). mem x (cond b (nonzero ys) (y ∷ nonzero ys))) (ne_eqb y 0 (λ f. ne (sym e ∙ f))) ∙ ap (λ (b : Bool). b || mem x (nonzero ys)) (eq-eqb y x e))
    (λ other. cond_mem (nat_eq y 0) x y (nonzero ys) (nonzero_mem ys x ne (sym (ap (λ (b : Bool). b || mem x ys) (ne_eqb y x other)) ∙ h)))

cond_short : (b : Bool) (y : ℕ) (l : List ℕ) (n : ℕ) → length l ≤ n → length (cond b l (y ∷ l)) ≤ n + 1
cond_short true y l n h = omega arith
cond_short false y l n h = omega arith

nonzero_long : (l : List ℕ) → length (nonzero l) ≤ length l
unfolding nonzero
nonzero_long [] = omega arith
nonzero_long (y ∷ ys) = let h = cond_short (nat_eq y 0) y (nonzero ys) (length ys) (nonzero_long ys) in omega arith

le_self : (n : ℕ) → n ≤ n
le_self n = omega arith

pub nonzero_short : (l : List ℕ) → mem 0 l ≡ true → length (nonzero l) < length l
unfolding nonzero
nonzero_short [] h = absurd (true≢false (sym h))
nonzero_short (y ∷ ys) h = dite (ℕ_discrete y 0)
    (λ e. let a : length (cond (nat_eq y 0) (nonzero ys) (y ∷ nonzero ys)) ≡ length (nonzero ys) = ap (λ (b : Bool). length (cond b (nonzero ys) (y ∷ nonzero ys))) (eq-eqb y 0 e) in let b = nonzero_long ys in omega arith)
    (λ ne. let m : mem 0 ys ≡ true = sym (ap (λ (b : Bool). b || mem 0 ys) (ne_eqb y 0 ne)) ∙ h in let r = nonzero_short ys m in
    let k = cond_short (nat_eq y 0) y (nonzero ys) (length (nonzero ys)) (le_self (length (nonzero ys))) in omega arith)

false_of : (b : Bool) → (b ≡ true → ⊥) → b ≡ false
false_of true h = absurd (h refl)
false_of false h = refl

cond_once : (b : Bool) (y : ℕ) (l : List ℕ) → (b ≡ false → mem y l ≡ false) → NoTwice l → NoTwice (cond b l (y ∷ l))
cond_once true y l h r = r
cond_once false y l h r = (h refl, r)

pub nonzero_once : (l : List ℕ) → ((i j : ℕ) → i < j → j < length l → get_or l i 0 ≢ 0 → get_or l i 0 ≡ get_or l j 0 → ⊥) → NoTwice (nonzero l)
unfolding nonzero
nonzero_once [] h = tt
nonzero_once (y ∷ ys) h = cond_once (nat_eq y 0) y (nonzero ys)
    (λ f. false_of (mem y (nonzero ys)) (λ m. let t = at_mem ys y (nonzero_from ys y m) in let inside = t.1.0 in h 0 (suc t.0) (omega arith) (omega arith) (λ e. true≢false (sym (eq-eqb y 0 e) ∙ f)) (sym t.1.1)))
    (nonzero_once ys (λ i j a b. h (suc i) (suc j) (omega arith) (omega arith)))
