-- A remainder by a reciprocal: 2^32 over the count, rounded down. The quotient that it gives is the number's own, or one less.
use Rattle.std.proofs.Common.{◌≡◌, ℕ, ◌+◌, ◌-◌, ◌*◌, ◌/◌, ◌%◌, ◌<◌, ◌≤◌, sym, ap, ◌∙◌, subst, arith}
use Rattle.std.proofs.Math.Nat.{mul_assoc, mul_comm, mul-add, add-mul, div-mul-le_self, lt-div-mul-add, mul-le-mul_left, mul-le-mul_right, mul-lt-mul_of_pos_right}
use Rattle.std.proofs.lemmas.Nat.{mod-mul-add}

-- the quotient that a reciprocal gives
abbrev quotient : ℕ → ℕ → ℕ
quotient n r = n * r / 4294967296

swap : (a b c : ℕ) → a * b * c ≡ a * c * b
swap a b c = mul_assoc a b c ∙ (ap (λ z. a * z) (mul_comm b c) ∙ sym (mul_assoc a c b))

-- it is not too great
pub not-above : (n c r : ℕ) → r ≡ 4294967296 / c → quotient n r * c ≤ n
not-above n c r s =
    let q : ℕ = quotient n r in
    let x : q * 4294967296 * c ≤ n * r * c = mul-le-mul_right c (div-mul-le_self (n * r) 4294967296) in
    let y : n * (r * c) ≤ n * 4294967296 = mul-le-mul_left n (subst (λ z. z * c ≤ 4294967296) (sym s) (div-mul-le_self 4294967296 c)) in
    let e : n * r * c ≡ n * (r * c) = mul_assoc n r c in
    let f : q * 4294967296 * c ≡ q * c * 4294967296 = swap q 4294967296 c in
    omega (arith, x, y, e, f)

-- it is at most one too small
near : (n c r : ℕ) → 0 < c → n < 4294967296 → r ≡ 4294967296 / c → n < quotient n r * c + c + c
near n c r some l s =
    let q : ℕ = quotient n r in
    let up : 4294967296 < r * c + c = subst (λ z. 4294967296 < z * c + c) (sym s) (lt-div-mul-add some) in
    let low : 4294967296 ≤ r * c + c = omega (arith, up) in
    let x : n * 4294967296 ≤ n * (r * c + c) = mul-le-mul_left n low in
    let d : n * (r * c + c) ≡ n * (r * c) + n * c = mul-add n (r * c) c in
    let e : n * r * c ≡ n * (r * c) = mul_assoc n r c in
    let pos : 0 < 4294967296 = omega arith in
    let y : n * r * c < (q * 4294967296 + 4294967296) * c = mul-lt-mul_of_pos_right (lt-div-mul-add pos) some in
    let g : (q * 4294967296 + 4294967296) * c ≡ q * 4294967296 * c + 4294967296 * c = add-mul (q * 4294967296) 4294967296 c in
    let f : q * 4294967296 * c ≡ q * c * 4294967296 = swap q 4294967296 c in
    let z : n * c < 4294967296 * c = mul-lt-mul_of_pos_right l some in
    omega (arith, x, d, e, y, g, f, z)

-- what is left is the remainder, or the remainder and one count more
pub rest-is : (n c r : ℕ) → r ≡ 4294967296 / c → n - quotient n r * c < c → n - quotient n r * c ≡ n % c
rest-is n c r s l =
    let q : ℕ = quotient n r in
    let a : q * c ≤ n = not-above n c r s in
    let e : q * c + (n - q * c) ≡ n = omega (arith, a) in
    sym (ap (λ z. z % c) (sym e) ∙ mod-mul-add q c (n - q * c) l)

pub rest-below : (n c r : ℕ) → 0 < c → n < 4294967296 → r ≡ 4294967296 / c → n - quotient n r * c - c < c
rest-below n c r some l s =
    let q : ℕ = quotient n r in
    let b : n < q * c + c + c = near n c r some l s in
    omega (arith, b, some)

pub rest-less : (n c r : ℕ) → 0 < c → n < 4294967296 → r ≡ 4294967296 / c → c ≤ n - quotient n r * c → n - quotient n r * c - c ≡ n % c
rest-less n c r some l s g =
    let q : ℕ = quotient n r in
    let a : q * c ≤ n = not-above n c r s in
    let m : (q + 1) * c ≡ q * c + c = add-mul q 1 c ∙ (let u : 1 * c ≡ c = omega arith in ap (λ z. q * c + z) u) in
    let e : (q + 1) * c + (n - q * c - c) ≡ n = omega (arith, a, g, m) in
    sym (ap (λ z. z % c) (sym e) ∙ mod-mul-add (q + 1) c (n - q * c - c) (rest-below n c r some l s))
