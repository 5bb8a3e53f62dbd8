-- The rule and the interface of an owner's entry, after a bit was put in or taken out.
use Rattle.std.proofs.Common.{◌≡◌, ◌≢◌, ℕ, ◌-◌, ◌^◌, ◌<◌, Bool, true, false, refl, sym, ap, ◌∙◌, arith, Option, Some, None}
use Rattle.std.specs.Prelude.{◌==◌, if◌then◌else◌, is_some}
use Rattle.std.specs.Int.{bit_at}
use Rattle.std.proofs.lemmas.Bool.{eqb-true, true≢false}
use Rattle.std.proofs.lemmas.Nat.{or_lt, and_le_l}
use Rattle.acct_base.specs.Entries.{owner_word, word_rule}
use Rattle.acct_base.specs.Rules.{iface_bit, has_bit}
use Rattle.desk_core.specs.declared.command.Bit.{Bit}
use Rattle.desk_core.specs.declared.command.Bit.TheVariants as bit
use Rattle.desk_core.specs.Commands.{bit_value, with_bit, without_bit, rule_in, iface_in, entry_with, entry_without, entry_has}
use Rattle.desk_core.specs.Laws.{KeepsOtherBits, KeepsIface}
use Rattle.desk_core.proofs.FormLemmas.{bit_small, rule_in-small, iface_back}
use Rattle.desk_core.proofs.BitLemmas.{with_own, without_own, with_other, without_other}

rule_back : (i r : ℕ) → r < 2 ^ 32 → word_rule (owner_word i r) ≡ r
rule_back i r h = omega (arith, h)

with_small : (o : Option ℕ) (b : Bit) → with_bit (rule_in o) (bit_value b) < 2 ^ 32
with_small o b = or_lt 32 (rule_in o) (bit_value b) (rule_in-small o) (bit_small b)

without_small : (o : Option ℕ) (b : ℕ) → without_bit (rule_in o) b < 2 ^ 32
without_small o b = omega (arith, rule_in-small o, and_le_l (rule_in o) (4294967295 - b))

-- an entry has a bit exactly where its rule does; no entry has no bit
pub entry_has-rule : (b : Bit) (o : Option ℕ) → entry_has (bit_value b) o ≡ has_bit (rule_in o) (bit_value b)
entry_has-rule b (Some v) = refl
entry_has-rule bit.Happy None = refl
entry_has-rule bit.Penalty None = refl
entry_has-rule bit.Dozable None = refl
entry_has-rule bit.Standby None = refl
entry_has-rule bit.PowerSave None = refl
entry_has-rule bit.Iface None = refl

module _ (b : Bit) (o : Option ℕ) where
  rule-with : (iface : ℕ) → rule_in (entry_with (bit_value b) iface o) ≡ with_bit (rule_in o) (bit_value b)
  rule-with iface = rule_back (if iface == 0 then iface_in o else iface) (with_bit (rule_in o) (bit_value b)) (with_small o b)

  rule-without : rule_in (entry_without (bit_value b) o) ≡ without_bit (rule_in o) (bit_value b)
  rule-without = by (without_bit (rule_in o) (bit_value b) == 0) refl
    where
      by : (t : Bool) → (without_bit (rule_in o) (bit_value b) == 0) ≡ t
          → rule_in (if t then None else Some (owner_word (if bit_value b == iface_bit then 0 else iface_in o) (without_bit (rule_in o) (bit_value b)))) ≡ without_bit (rule_in o) (bit_value b)
      by true e = sym (eqb-true _ 0 e)
      by false e = rule_back (if bit_value b == iface_bit then 0 else iface_in o) (without_bit (rule_in o) (bit_value b)) (without_small o (bit_value b))

  pub has-with : (iface : ℕ) → entry_has (bit_value b) (entry_with (bit_value b) iface o) ≡ true
  has-with iface = entry_has-rule b (entry_with (bit_value b) iface o) ∙ ap (λ r. has_bit r (bit_value b)) (rule-with iface) ∙ with_own (rule_in o) b

  pub has-without : entry_has (bit_value b) (entry_without (bit_value b) o) ≡ false
  has-without = entry_has-rule b (entry_without (bit_value b) o) ∙ ap (λ r. has_bit r (bit_value b)) rule-without ∙ without_own (rule_in o) b

  pub others-with : (iface : ℕ) → KeepsOtherBits (bit_value b) o (entry_with (bit_value b) iface o)
  others-with iface place within other = ap (λ r. bit_at r place) (rule-with iface) ∙ with_other (rule_in o) place b other

  pub others-without : KeepsOtherBits (bit_value b) o (entry_without (bit_value b) o)
  others-without place within other = ap (λ r. bit_at r place) rule-without ∙ without_other (rule_in o) place within b other

  pub iface-with : (iface : ℕ) → iface_in (entry_with (bit_value b) iface o) ≡ (if iface == 0 then iface_in o else iface)
  iface-with iface = iface_back (if iface == 0 then iface_in o else iface) (with_bit (rule_in o) (bit_value b)) (with_small o b)

  -- the interface of an entry without the bit, where the entry is left
  iface-left : (t : Bool) (i : ℕ) → is_some (if t then None else Some (owner_word i (without_bit (rule_in o) (bit_value b)))) ≡ true
      → iface_in (if t then None else Some (owner_word i (without_bit (rule_in o) (bit_value b)))) ≡ i
  iface-left true i h = absurd (true≢false (sym h))
  iface-left false i h = iface_back i (without_bit (rule_in o) (bit_value b)) (without_small o (bit_value b))

  pub iface-without : (bit_value b == iface_bit) ≡ false → KeepsIface o (entry_without (bit_value b) o)
  iface-without other left = iface-left _ _ left ∙ ap (λ t. if t then 0 else iface_in o) other

-- without its bit no interface is left
pub iface-gone : (o : Option ℕ) → iface_in (entry_without iface_bit o) ≡ 0
iface-gone o = by (without_bit (rule_in o) iface_bit == 0)
  where
    by : (t : Bool) → iface_in (if t then None else Some (owner_word 0 (without_bit (rule_in o) iface_bit))) ≡ 0
    by true = refl
    by false = iface_back 0 (without_bit (rule_in o) iface_bit) (without_small o iface_bit)

-- no other bit has the interface bit's number
pub not_iface : (b : Bit) → b ≢ bit.Iface → (bit_value b == iface_bit) ≡ false
not_iface bit.Happy h = refl
not_iface bit.Penalty h = refl
not_iface bit.Dozable h = refl
not_iface bit.Standby h = refl
not_iface bit.PowerSave h = refl
not_iface bit.Iface h = absurd (h refl)
