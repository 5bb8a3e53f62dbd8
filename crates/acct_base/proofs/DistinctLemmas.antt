-- A list has as many different numbers as a list without repeats that has the same ones.
use Rattle.std.proofs.Common.{◌≡◌, ℕ, suc, ◌+◌, ◌≤◌, Bool, true, false, ◌||◌, nat_eq, cond, List, [], ◌∷◌, length, refl, sym, ap, ◌∙◌, subst, arith, eq-eqb, ne_eqb, true≢false}
use mathlib.Core.Logic.{dite}
use native.Mathlib.Decide.{ℕ_discrete}
use Rattle.acct_base.specs.Distinct.{mem, distinct, NoTwice}
use Rattle.acct_base.proofs.Members.{or_right}

bit : Bool → ℕ
bit true = 1
bit false = 0

-- how many of ks pass the test
tally : (ℕ → Bool) → List ℕ → ℕ
tally f [] = 0
tally f (k ∷ ks) = bit (f k) + tally f ks

tally_same : (f g : ℕ → Bool) (ks : List ℕ) → ((k : ℕ) → f k ≡ g k) → tally f ks ≡ tally g ks
unfolding tally
tally_same f g [] h = refl
tally_same f g (k ∷ ks) h = λ i. bit (h k i) + tally_same f g ks h i

bit_below : (b : Bool) → bit b ≤ 1
unfolding bit
bit_below true = omega arith
bit_below false = omega arith

tally_at_most : (f : ℕ → Bool) (ks : List ℕ) → tally f ks ≤ length ks
unfolding tally
tally_at_most f [] = omega arith
tally_at_most f (k ∷ ks) = let a = tally_at_most f ks in let b = bit_below (f k) in omega arith

or_false : (a b : Bool) → a ≡ false → (a || b) ≡ b
or_false a b e = ap (λ (x : Bool). x || b) e

-- one number more, which is among ks and did not pass before
tally_skip : (f : ℕ → Bool) (x : ℕ) (ks : List ℕ) → mem x ks ≡ false → tally (λ k. nat_eq x k || f k) ks ≡ tally f ks
unfolding tally
tally_skip f x [] h = refl
tally_skip f x (k ∷ ks) h = dite (ℕ_discrete k x)
    (λ e. absurd (true≢false (sym (ap (λ (b : Bool). b || mem x ks) (eq-eqb k x e)) ∙ h)))
    (λ ne. let a : (nat_eq x k || f k) ≡ f k = or_false (nat_eq x k) (f k) (ne_eqb x k (λ e. ne (sym e))) in
    let b : mem x ks ≡ false = sym (or_false (nat_eq k x) (mem x ks) (ne_eqb k x ne)) ∙ h in λ i. bit (a i) + tally_skip f x ks b i)

one_more : (a b s t : ℕ) → a ≡ 1 → b ≡ 0 → s ≡ t → a + s ≡ 1 + (b + t)
one_more a b s t e f g = omega arith

none_more : (a b s t : ℕ) → a ≡ b → s ≡ 1 + t → a + s ≡ 1 + (b + t)
none_more a b s t e f = omega arith

tally_one : (f : ℕ → Bool) (x : ℕ) (ks : List ℕ) → NoTwice ks → mem x ks ≡ true → f x ≡ false → tally (λ k. nat_eq x k || f k) ks ≡ 1 + tally f ks
unfolding tally bit
tally_one f x [] once inside fresh = absurd (true≢false (sym inside))
tally_one f x (k ∷ ks) once inside fresh = dite (ℕ_discrete k x)
    (λ (e : k ≡ x). let rest = tally_skip f x ks (subst (λ (y : ℕ). mem y ks ≡ false) e once.0) in
    let a : (nat_eq x k || f k) ≡ true = ap (λ (b : Bool). b || f k) (eq-eqb x k (sym e)) in let z : f k ≡ false = ap f e ∙ fresh in
    one_more (bit (nat_eq x k || f k)) (bit (f k)) (tally (λ k. nat_eq x k || f k) ks) (tally f ks) (ap bit a) (ap bit z) rest)
    (λ ne. let a : (nat_eq x k || f k) ≡ f k = or_false (nat_eq x k) (f k) (ne_eqb x k (λ e. ne (sym e))) in
    let b : mem x ks ≡ true = sym (or_false (nat_eq k x) (mem x ks) (ne_eqb k x ne)) ∙ inside in
    none_more (bit (nat_eq x k || f k)) (bit (f k)) (tally (λ k. nat_eq x k || f k) ks) (tally f ks) (ap bit a) (tally_one f x ks once.1 b fresh))

tally_none_step : (t : ℕ) → t ≡ 0 → 0 + t ≡ 0
tally_none_step t e = omega arith

tally_none : (ks : List ℕ) → tally (λ _. false) ks ≡ 0
unfolding tally bit
tally_none [] = refl
tally_none (k ∷ ks) = tally_none_step (tally (λ _. false) ks) (tally_none ks)

same_or : (x k : ℕ) (xs : List ℕ) → mem x xs ≡ true → (nat_eq x k || mem k xs) ≡ mem k xs
same_or x k xs m = dite (ℕ_discrete x k) (λ e. let a : mem k xs ≡ true = subst (λ (y : ℕ). mem y xs ≡ true) e m in or_right (nat_eq x k) (mem k xs) a ∙ sym a) (λ ne. or_false (nat_eq x k) (mem k xs) (ne_eqb x k ne))

step_same : (a d s t : ℕ) → a ≡ 0 → d ≡ t → s ≡ t → a + d ≡ s
step_same a d s t e f g = omega arith

step_one : (a d s t : ℕ) → a ≡ 1 → d ≡ t → s ≡ 1 + t → a + d ≡ s
step_one a d s t e f g = omega arith

distinct_step : (ks : List ℕ) (x : ℕ) (xs : List ℕ) → distinct xs ≡ tally (λ k. mem k xs) ks → NoTwice ks → mem x ks ≡ true → (b : Bool) → mem x xs ≡ b → cond (mem x xs) 0 1 + distinct xs ≡ tally (λ k. nat_eq x k || mem k xs) ks
distinct_step ks x xs ih once inside true e = step_same (cond (mem x xs) 0 1) (distinct xs) _ _ (ap (λ (b : Bool). cond b 0 1) e) ih (tally_same (λ k. nat_eq x k || mem k xs) (λ k. mem k xs) ks (λ k. same_or x k xs e))
distinct_step ks x xs ih once inside false e = step_one (cond (mem x xs) 0 1) (distinct xs) _ _ (ap (λ (b : Bool). cond b 0 1) e) ih (tally_one (λ k. mem k xs) x ks once inside e)

-- the different numbers of xs, counted among ks
distinct_among : (ks xs : List ℕ) → NoTwice ks → ((x : ℕ) → mem x xs ≡ true → mem x ks ≡ true) → distinct xs ≡ tally (λ k. mem k xs) ks
distinct_among ks [] once h = sym (tally_none ks)
distinct_among ks (x ∷ xs) once h = distinct_step ks x xs (distinct_among ks xs once (λ y m. h y (or_right (nat_eq x y) (mem y xs) m))) once (h x (ap (λ (b : Bool). b || mem x xs) (eq-eqb x x refl))) (mem x xs) refl

all_step : (a t n : ℕ) → a ≡ 1 → t ≡ n → a + t ≡ suc n
all_step a t n e f = omega arith

tally_all : (f : ℕ → Bool) (ks : List ℕ) → ((k : ℕ) → mem k ks ≡ true → f k ≡ true) → tally f ks ≡ length ks
unfolding tally bit
tally_all f [] h = refl
tally_all f (k ∷ ks) h = all_step (bit (f k)) (tally f ks) (length ks) (ap bit (h k (ap (λ (b : Bool). b || mem k ks) (eq-eqb k k refl)))) (tally_all f ks (λ x m. h x (or_right (nat_eq k x) (mem x ks) m)))

-- as many as a list without repeats that has the same numbers
pub distinct_is : (ks xs : List ℕ) → NoTwice ks → ((x : ℕ) → mem x xs ≡ true → mem x ks ≡ true) → ((x : ℕ) → mem x ks ≡ true → mem x xs ≡ true) → distinct xs ≡ length ks
distinct_is ks xs once into onto = distinct_among ks xs once into ∙ tally_all (λ k. mem k xs) ks onto

-- and at most as many as one that has at least the same numbers
pub distinct_at_most : (ks xs : List ℕ) → NoTwice ks → ((x : ℕ) → mem x xs ≡ true → mem x ks ≡ true) → distinct xs ≤ length ks
distinct_at_most ks xs once into = subst (λ (n : ℕ). n ≤ length ks) (sym (distinct_among ks xs once into)) (tally_at_most (λ k. mem k xs) ks)
