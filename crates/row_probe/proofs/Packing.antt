-- Labels and their two words.
use Rattle.std.proofs.Common.{◌≡◌, ◌≢◌, ℕ, ◌-◌, ◌/◌, ◌%◌, ◌^◌, ◌<◌, ◌≤◌, Bool, true, false, cond, refl, sym, ap, ◌∙◌, subst, arith}
use mathlib.Core.Bool.{true≢false}
use Rattle.std.specs.Prelude.{Option, None, Some, MatchOption}
use Rattle.std.proofs.lemmas.Bool.Decides.{nat_tests}
use Rattle.acct_base.specs.declared.label.Label.{Label}
use Rattle.acct_base.specs.Amounts.{IsValidLabel}
use Rattle.row_probe.specs.Keys.{pack1, pack2, ArePair, holds_label, label_of, unpack}

pub pack1-ne-zero : (l : Label) → pack1 l ≢ 0
pack1-ne-zero l e = omega arith

pub pack2-ne-zero : (l : Label) → IsValidLabel l → pack2 l ≢ 0
pack2-ne-zero l ok e = omega arith

-- two valid labels with the same words are one
pub pack-injective : (l m : Label) → IsValidLabel l → IsValidLabel m → pack1 l ≡ pack1 m → pack2 l ≡ pack2 m → l ≡ m
pack-injective l m a b e f = let u : l.uid ≡ m.uid = omega arith in let v : l.tag ≡ m.tag = omega arith in let w : l.set ≡ m.set = omega arith in let x : l.iface ≡ m.iface = omega arith in
    λ i. record { uid = u i; tag = v i; set = w i; iface = x i }

ranges : (k1 k2 : ℕ) → holds_label k1 k2 ≡ true → (2 ^ 32 ≤ k1) × (k1 < 2 ^ 64) × (2 ≤ k2) × (k2 < 2 ^ 25)
ranges k1 k2 e = (grind (arith, nat_tests), grind (arith, nat_tests), grind (arith, nat_tests), grind (arith, nat_tests))

in_range : (k1 k2 : ℕ) → 2 ^ 32 ≤ k1 → k1 < 2 ^ 64 → 2 ≤ k2 → k2 < 2 ^ 25 → holds_label k1 k2 ≡ true
in_range k1 k2 a b c d = grind (arith, nat_tests)

-- the words of a valid label are in range, and give the label back
pub pair_in_range : (k1 k2 : ℕ) (l : Label) → ArePair k1 k2 l → holds_label k1 k2 ≡ true
pair_in_range k1 k2 l p = let ok = p.valid in in_range k1 k2 (omega arith) (omega arith) (omega arith) (omega arith)

label_of-pack : (l : Label) → IsValidLabel l → label_of (pack1 l) (pack2 l) ≡ l
label_of-pack l ok = let u : pack1 l / 2 ^ 32 - 1 ≡ l.uid = omega arith in let v : pack1 l % 2 ^ 32 ≡ l.tag = omega arith in let w : pack2 l % 2 ≡ l.set = omega arith in let x : pack2 l / 2 ≡ l.iface = omega arith in
    λ i. record { uid = u i; tag = v i; set = w i; iface = x i }

-- words in range are those of the label that is put together from them
are_pair : (k1 k2 : ℕ) → holds_label k1 k2 ≡ true → ArePair k1 k2 (label_of k1 k2)
are_pair k1 k2 e = let r = ranges k1 k2 e in record {
  valid = record { uid = omega arith; tag = omega arith; set = omega arith; some_iface = omega arith; iface = omega arith };
  first = omega arith;
  second = omega arith;
}

pub unpack-in_range : (k1 k2 : ℕ) → holds_label k1 k2 ≡ true → unpack k1 k2 ≡ Some (label_of k1 k2)
unfolding unpack
unpack-in_range k1 k2 e = ap (λ (t : Bool). cond t (Some (label_of k1 k2)) None) e

pub unpack-pack : (l : Label) → IsValidLabel l → unpack (pack1 l) (pack2 l) ≡ Some l
unpack-pack l ok = unpack-in_range (pack1 l) (pack2 l) (pair_in_range (pack1 l) (pack2 l) l record { valid = ok; first = refl; second = refl }) ∙ ap Some (label_of-pack l ok)

tells : (k1 k2 : ℕ) (t : Bool) → holds_label k1 k2 ≡ t → MatchOption (cond t (Some (label_of k1 k2)) None) ((l : Label) → ¬ ArePair k1 k2 l) (ArePair k1 k2)
tells k1 k2 true e = are_pair k1 k2 e
tells k1 k2 false e = λ l p. true≢false (sym (pair_in_range k1 k2 l p) ∙ e)

-- what is unpacked is the valid label with these words, and where nothing is, no valid label has them
pub unpack_tells : (k1 k2 : ℕ) → MatchOption (unpack k1 k2) ((l : Label) → ¬ ArePair k1 k2 l) (ArePair k1 k2)
unfolding unpack
unpack_tells k1 k2 = tells k1 k2 (holds_label k1 k2) refl

pub unpack_only : (k1 k2 : ℕ) (l : Label) → unpack k1 k2 ≡ Some l → ArePair k1 k2 l
unpack_only k1 k2 l e = subst (λ (o : Option Label). MatchOption o ((m : Label) → ¬ ArePair k1 k2 m) (ArePair k1 k2)) e (unpack_tells k1 k2)
