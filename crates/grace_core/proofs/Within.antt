-- Views that are inside a phase.
use Rattle.std.proofs.Common.{◌≡◌, ◌≢◌, ℕ, ◌≤◌, Bool, cond, eqb, ◌&&◌, sym, refl, ap, ◌∙◌, subst, ne_eqb}
use Rattle.grace_core.specs.declared.view.At.{At}
use Rattle.grace_core.specs.declared.view.At.TheVariants.{Outside, Inside, First, Second, Adding, Gone}
use Rattle.row_probe.specs.Keys.{pack1}
use Rattle.row_probe.specs.Places.{place_of}
use Rattle.grace_core.specs.Machine.{direction}
use Rattle.grace_core.specs.Sums.{inside, Within, if_live, Probe, second_at, adding_at, pending_at, weight}
use Rattle.grace_core.proofs.Sums.{flag}

-- it is inside the phase n
abbrev pub In : ℕ → At → Type 0
In n Outside = ⊥
In n (Inside p c) = p ≡ n
In n (First p c j t) = p ≡ n
In n (Second p c j t) = p ≡ n
In n (Adding p c j r d) = p ≡ n
In n Gone = ⊥

pub inside_in : (m n : ℕ) (a : At) → In n a → inside m a ≡ flag (eqb n m)
inside_in m n Outside h = absurd h
inside_in m n (Inside p c) h = ap (λ (z : ℕ). flag (eqb z m)) h
inside_in m n (First p c j t) h = ap (λ (z : ℕ). flag (eqb z m)) h
inside_in m n (Second p c j t) h = ap (λ (z : ℕ). flag (eqb z m)) h
inside_in m n (Adding p c j r d) h = ap (λ (z : ℕ). flag (eqb z m)) h
inside_in m n Gone h = absurd h

pub within_in : (P : ℕ → Type 0) (n : ℕ) (a : At) → In n a → P n → Within P a
within_in P n Outside h k = absurd h
within_in P n (Inside p c) h k = subst P (sym h) k
within_in P n (First p c j t) h k = subst P (sym h) k
within_in P n (Second p c j t) h k = subst P (sym h) k
within_in P n (Adding p c j r d) h k = subst P (sym h) k
within_in P n Gone h k = absurd h

pub in_within : (P : ℕ → Type 0) (n : ℕ) (a : At) → In n a → Within P a → P n
in_within P n Outside h k = absurd h
in_within P n (Inside p c) h k = subst P h k
in_within P n (First p c j t) h k = subst P h k
in_within P n (Second p c j t) h k = subst P h k
in_within P n (Adding p c j r d) h k = subst P h k
in_within P n Gone h k = absurd h

-- what does not depend on the phase holds at another place inside it
pub called_in : (n p : ℕ) (a : At) → In p a → Within (λ _. 1 ≤ n) a → 1 ≤ n
called_in n p a h k = in_within (λ _. 1 ≤ n) p a h k

pub live_in : (m n : ℕ) (a : At) → In n a → if_live a m ≡ m
live_in m n Outside h = absurd h
live_in m n Gone h = absurd h
live_in m n _ h = refl

pub unlike : (b : Bool) (p n x : ℕ) → p ≢ n → cond (eqb p n && b) x 0 ≡ 0
unlike b p n x ne = ap (λ (z : Bool). cond (z && b) x 0) (ne_eqb p n ne)

pub weight_in : (rows m n : ℕ) (a : At) (q : Probe) → In n a → n ≢ m → weight rows m a q ≡ 0
weight_in rows m n Outside q h ne = absurd h
weight_in rows m n (Inside p c) q h ne = refl
weight_in rows m n (First p c j t) q h ne = refl
weight_in rows m n (Second p c j t) (second_at i k) h ne = unlike (eqb (place_of j.label t rows) i && eqb (pack1 j.label) k) p m 1 (λ e. ne (sym h ∙ e))
weight_in rows m n (Second p c j t) (adding_at i) h ne = refl
weight_in rows m n (Second p c j t) (pending_at i e) h ne = refl
weight_in rows m n (Adding p c j r d) (second_at i k) h ne = refl
weight_in rows m n (Adding p c j r d) (adding_at i) h ne = unlike (eqb r i) p m 1 (λ e. ne (sym h ∙ e))
weight_in rows m n (Adding p c j r d) (pending_at i e) h ne = unlike (eqb r i && (d && eqb (direction j.dir) e)) p m j.packets (λ e. ne (sym h ∙ e))
weight_in rows m n Gone q h ne = absurd h
