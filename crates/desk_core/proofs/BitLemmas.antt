-- The bits of a rule, put in and taken out.
use Rattle.std.proofs.Common.{◌≡◌, ◌≢◌, ℕ, ◌-◌, ◌*◌, ◌^◌, ◌<◌, true, false, ap, ◌∙◌, arith, w32}
use Rattle.std.specs.Prelude.{bit_and, bit_or}
use Rattle.std.specs.Int.{bit_at}
use Rattle.std.proofs.lemmas.Bool.{eq-eqb, ne_eqb}
use Rattle.std.proofs.lemmas.Nat.Bits.{and_pow, bit_at_and, bit_at_or, bit_at-pow_same, bit_at-pow_other, bit_at_not, bit_at-lt}
use Rattle.acct_base.specs.Rules.{has_bit}
use Rattle.desk_core.specs.declared.command.Bit.{Bit}
use Rattle.desk_core.specs.declared.command.Bit.TheVariants as bit
use Rattle.desk_core.specs.Commands.{bit_value, with_bit, without_bit}

-- one bit, by its place
module _ (e place : ℕ) where
  put_own : has_bit (with_bit e (2 ^ place)) (2 ^ place) ≡ true
  put_own = eq-eqb _ _ (and_pow (bit_or e (2 ^ place)) place ∙ ap (λ n. n * 2 ^ place) one ∙ omega arith)
    where
      one : bit_at (bit_or e (2 ^ place)) place ≡ 1
      one = omega (arith, bit_at_or e (2 ^ place) place, bit_at-pow_same place, bit_at-lt e place)

  module _ (below : place < 32) (fits : 2 ^ place < 2 ^ 32) (some : 0 < 2 ^ place) where
    taken_own : has_bit (without_bit e (2 ^ place)) (2 ^ place) ≡ false
    taken_own = ne_eqb _ _ (λ same. omega (arith, same, some, and_pow (bit_and e (4294967295 - 2 ^ place)) place ∙ ap (λ n. n * 2 ^ place) none))
      where
        none : bit_at (bit_and e (4294967295 - 2 ^ place)) place ≡ 0
        none = omega (arith, bit_at_and e (4294967295 - 2 ^ place) place, bit_at_not w32 (2 ^ place) place fits below, bit_at-pow_same place)

    taken_other : (i : ℕ) → i < 32 → i ≢ place → bit_at (without_bit e (2 ^ place)) i ≡ bit_at e i
    taken_other i within other = omega (arith, bit_at_and e (4294967295 - 2 ^ place) i, bit_at_not w32 (2 ^ place) i fits within, bit_at-pow_other place i other, bit_at-lt e i)

  put_other : (i : ℕ) → i ≢ place → bit_at (with_bit e (2 ^ place)) i ≡ bit_at e i
  put_other i other = omega (arith, bit_at_or e (2 ^ place) i, bit_at-pow_other place i other)

-- a bit that is put in is there, and one that is taken out is not
pub with_own : (e : ℕ) (b : Bit) → has_bit (with_bit e (bit_value b)) (bit_value b) ≡ true
with_own e bit.Happy = put_own e 0
with_own e bit.Penalty = put_own e 1
with_own e bit.Dozable = put_own e 2
with_own e bit.Standby = put_own e 3
with_own e bit.PowerSave = put_own e 4
with_own e bit.Iface = put_own e 5

pub without_own : (e : ℕ) (b : Bit) → has_bit (without_bit e (bit_value b)) (bit_value b) ≡ false
without_own e bit.Happy = taken_own e 0 (omega arith) (omega arith) (omega arith)
without_own e bit.Penalty = taken_own e 1 (omega arith) (omega arith) (omega arith)
without_own e bit.Dozable = taken_own e 2 (omega arith) (omega arith) (omega arith)
without_own e bit.Standby = taken_own e 3 (omega arith) (omega arith) (omega arith)
without_own e bit.PowerSave = taken_own e 4 (omega arith) (omega arith) (omega arith)
without_own e bit.Iface = taken_own e 5 (omega arith) (omega arith) (omega arith)

-- the other bits stay
module _ (e i : ℕ) where
  pub with_other : (b : Bit) → 2 ^ i ≢ bit_value b → bit_at (with_bit e (bit_value b)) i ≡ bit_at e i
  with_other bit.Happy other = put_other e 0 i (λ s. other (ap (λ n. 2 ^ n) s))
  with_other bit.Penalty other = put_other e 1 i (λ s. other (ap (λ n. 2 ^ n) s))
  with_other bit.Dozable other = put_other e 2 i (λ s. other (ap (λ n. 2 ^ n) s))
  with_other bit.Standby other = put_other e 3 i (λ s. other (ap (λ n. 2 ^ n) s))
  with_other bit.PowerSave other = put_other e 4 i (λ s. other (ap (λ n. 2 ^ n) s))
  with_other bit.Iface other = put_other e 5 i (λ s. other (ap (λ n. 2 ^ n) s))

  module _ (within : i < 32) where
    pub without_other : (b : Bit) → 2 ^ i ≢ bit_value b → bit_at (without_bit e (bit_value b)) i ≡ bit_at e i
    without_other bit.Happy other = taken_other e 0 (omega arith) (omega arith) (omega arith) i within (λ s. other (ap (λ n. 2 ^ n) s))
    without_other bit.Penalty other = taken_other e 1 (omega arith) (omega arith) (omega arith) i within (λ s. other (ap (λ n. 2 ^ n) s))
    without_other bit.Dozable other = taken_other e 2 (omega arith) (omega arith) (omega arith) i within (λ s. other (ap (λ n. 2 ^ n) s))
    without_other bit.Standby other = taken_other e 3 (omega arith) (omega arith) (omega arith) i within (λ s. other (ap (λ n. 2 ^ n) s))
    without_other bit.PowerSave other = taken_other e 4 (omega arith) (omega arith) (omega arith) i within (λ s. other (ap (λ n. 2 ^ n) s))
    without_other bit.Iface other = taken_other e 5 (omega arith) (omega arith) (omega arith) i within (λ s. other (ap (λ n. 2 ^ n) s))
