-- What a standing weighs, and what a charge measures.
use Rattle.std.proofs.Common.{◌≡◌, ◌≢◌, ◌⊎◌, ℕ, Bool, true, false, cond, not, eqb, ◌&&◌, List, sym, refl, ap, ◌∙◌, subst, inl, inr, arith, eq-eqb, ne_eqb}
use mathlib.Core.Logic.{dite}
use native.Mathlib.Decide.{ℕ_discrete}
use Rattle.std.specs.Prelude.{sum_by}
use Rattle.acct_base.specs.declared.label.Label.{Label}
use Rattle.acct_base.specs.declared.charge.Job.{Job}
use Rattle.grace_core.specs.declared.view.HookView.{HookView}
use Rattle.grace_core.specs.declared.view.At.{At}
use Rattle.grace_core.specs.declared.view.At.TheVariants.{Outside, Inside, First, Second, Adding, Gone}
use Rattle.row_probe.specs.Keys.{pack1}
use Rattle.row_probe.specs.Places.{place_of}
use Rattle.grace_core.specs.Machine.{direction, charge}
use Rattle.acct_base.specs.Amounts.{same_label}
use Rattle.grace_core.specs.Sums.{second_at, adding_at, pending_at, weight, Measure, landed, missed, packets, bytes, is_to, measure, tally}
use Rattle.grace_core.specs.Rows.{cell}
use Rattle.grace_core.specs.Good.{Standing}
use Rattle.grace_core.proofs.Items.{sum_vanish}
use Rattle.row_probe.proofs.Packing.{pack2-ne-zero}
use Rattle.grace_core.proofs.Within.{unlike}
use Rattle.grace_core.proofs.Sums.{flag}

pub off : (b : Bool) (x : ℕ) → b ≡ false → cond b x 0 ≡ 0
off b x e = ap (λ (z : Bool). cond z x 0) e

pub on : (b : Bool) (x : ℕ) → b ≡ true → cond b x 0 ≡ x
on b x e = ap (λ (z : Bool). cond z x 0) e

pub off_first : (a b : Bool) → a ≡ false → (a && b) ≡ false
off_first a b e = ap (λ (z : Bool). z && b) e

pub off_second : (a b : Bool) → b ≡ false → (a && b) ≡ false
off_second true b e = e
off_second false b e = refl

pub on_both : (a b : Bool) → a ≡ true → b ≡ true → (a && b) ≡ true
on_both a b e f = λ i. e i && f i

module _ (rows p c : ℕ) (j : Job) where
  pub second_self : (t : ℕ) → weight rows p (Second p c j t) (second_at (place_of j.label t rows) (pack1 j.label)) ≡ 1
  second_self t = on (eqb p p && (eqb (place_of j.label t rows) (place_of j.label t rows) && eqb (pack1 j.label) (pack1 j.label))) 1
      (on_both _ _ (eq-eqb p p refl) (on_both _ _ (eq-eqb (place_of j.label t rows) _ refl) (eq-eqb (pack1 j.label) _ refl)))

  pub second_off : (t i k : ℕ) → i ≢ place_of j.label t rows → weight rows p (Second p c j t) (second_at i k) ≡ 0
  second_off t i k ne = off (eqb p p && (eqb (place_of j.label t rows) i && eqb (pack1 j.label) k)) 1 (off_second _ _ (off_first _ _ (ne_eqb (place_of j.label t rows) i (λ e. ne (sym e)))))

  pub adding_self : (r : ℕ) (d : Bool) → weight rows p (Adding p c j r d) (adding_at r) ≡ 1
  adding_self r d = on (eqb p p && eqb r r) 1 (on_both _ _ (eq-eqb p p refl) (eq-eqb r r refl))

  pub adding_off : (r i : ℕ) (d : Bool) → i ≢ r → weight rows p (Adding p c j r d) (adding_at i) ≡ 0
  adding_off r i d ne = off (eqb p p && eqb r i) 1 (off_second _ _ (ne_eqb r i (λ e. ne (sym e))))

  pub pending_before : (r i e : ℕ) → weight rows p (Adding p c j r false) (pending_at i e) ≡ 0
  pending_before r i e = off (eqb p p && (eqb r i && (false && eqb (direction j.dir) e))) j.packets (off_second _ _ (off_second _ _ refl))

  pub pending_self : (r : ℕ) → weight rows p (Adding p c j r true) (pending_at r (direction j.dir)) ≡ j.packets
  pending_self r = on (eqb p p && (eqb r r && (true && eqb (direction j.dir) (direction j.dir)))) j.packets (on_both _ _ (eq-eqb p p refl) (on_both _ _ (eq-eqb r r refl) (eq-eqb (direction j.dir) _ refl)))

  pub pending_off : (r i e : ℕ) → (i ≢ r) ⊎ (e ≢ direction j.dir) → weight rows p (Adding p c j r true) (pending_at i e) ≡ 0
  pending_off r i e (inl ne) = off (eqb p p && (eqb r i && (true && eqb (direction j.dir) e))) j.packets (off_second (eqb p p) (eqb r i && (true && eqb (direction j.dir) e)) (off_first (eqb r i) (true && eqb (direction j.dir) e) (ne_eqb r i (λ z. ne (sym z)))))
  pending_off r i e (inr ne) = off (eqb p p && (eqb r i && (true && eqb (direction j.dir) e))) j.packets (off_second (eqb p p) (eqb r i && (true && eqb (direction j.dir) e)) (off_second (eqb r i) (true && eqb (direction j.dir) e) (ne_eqb (direction j.dir) e (λ z. ne (sym z)))))

-- no view adds at a row without a second key
pub pending_none : (rows p : ℕ) (ws : ℕ → List ℕ) (ph m n i e : ℕ) (a : At) → Standing rows ws ph m n a → cell (ws p) i 1 ≡ 0 → weight rows p a (pending_at i e) ≡ 0
pending_none rows p ws ph m n i e Outside k z = refl
pending_none rows p ws ph m n i e (Inside q c) k z = refl
pending_none rows p ws ph m n i e (First q c j t) k z = refl
pending_none rows p ws ph m n i e (Second q c j t) k z = refl
pending_none rows p ws ph m n i e (Adding q c j r d) k z = dite (ℕ_discrete q p) (λ same. dite (ℕ_discrete r i)
    (λ here. absurd (pack2-ne-zero j.label k.3.label (sym k.5.1 ∙ (subst (λ (y : ℕ × ℕ). cell (ws y.0) y.1 1 ≡ 0) (λ h. (sym same h, sym here h)) z))))
    (λ ne. off (eqb q p && (eqb r i && (d && eqb (direction j.dir) e))) j.packets (off_second _ _ (off_first _ _ (ne_eqb r i ne)))))
    (λ ne. unlike (eqb r i && (d && eqb (direction j.dir) e)) q p j.packets ne)
pending_none rows p ws ph m n i e Gone k z = refl

-- measures
lone : (a b e : Bool) (x : ℕ) → flag (a && b) ≡ 0 → cond (a && (b && e)) x 0 ≡ 0
lone true true e x h = absurd (let z : ◌≡◌ {A = ℕ} 1 0 = h in omega arith)
lone true false e x h = refl
lone false b e x h = refl

pub law : (n : ℕ) (vs : List HookView) (l : Label) (e : ℕ) → tally n vs (landed l) ≡ 0 → (tally n vs (packets l e) ≡ 0) × (tally n vs (bytes l e) ≡ 0)
law n vs l e h = (
  sum_vanish (λ (v : HookView). sum_by (measure n (landed l)) v.list) (λ (v : HookView). sum_by (measure n (packets l e)) v.list) vs
      (λ v. sum_vanish (measure n (landed l)) (measure n (packets l e)) v.list (λ c. lone c.landed (is_to n l c) (eqb (direction c.job.dir) e) c.job.packets)) h,
  sum_vanish (λ (v : HookView). sum_by (measure n (landed l)) v.list) (λ (v : HookView). sum_by (measure n (bytes l e)) v.list) vs
      (λ v. sum_vanish (measure n (landed l)) (measure n (bytes l e)) v.list (λ c. lone c.landed (is_to n l c) (eqb (direction c.job.dir) e) c.job.bytes)) h,
)

pub measure_else : (q p : ℕ) (m : Measure) (j : Job) (b : Bool) → p ≢ q → measure q m (charge p j b) ≡ 0
measure_else q p (landed l) j b ne = off (b && (eqb p q && same_label j.label l)) 1 (off_second _ _ (off_first _ _ (ne_eqb p q ne)))
measure_else q p (missed l) j b ne = off (not b && (eqb p q && same_label j.label l)) 1 (off_second _ _ (off_first _ _ (ne_eqb p q ne)))
measure_else q p (packets l e) j b ne = off (b && ((eqb p q && same_label j.label l) && eqb (direction j.dir) e)) j.packets (off_second _ _ (off_first _ _ (off_first _ _ (ne_eqb p q ne))))
measure_else q p (bytes l e) j b ne = off (b && ((eqb p q && same_label j.label l) && eqb (direction j.dir) e)) j.bytes (off_second _ _ (off_first _ _ (off_first _ _ (ne_eqb p q ne))))

module _ (p : ℕ) (j : Job) (l : Label) where
  pub missed_off : same_label j.label l ≡ false → measure p (missed l) (charge p j false) ≡ 0
  missed_off e = off (not false && (eqb p p && same_label j.label l)) 1 (off_second (not false) (eqb p p && same_label j.label l) (off_second (eqb p p) (same_label j.label l) e))

  pub landed_on : same_label j.label l ≡ true → measure p (landed l) (charge p j true) ≡ 1
  landed_on e = on (true && (eqb p p && same_label j.label l)) 1 (on_both _ _ (eq-eqb p p refl) e)

  pub landed_off : same_label j.label l ≡ false → measure p (landed l) (charge p j true) ≡ 0
  landed_off e = off (true && (eqb p p && same_label j.label l)) 1 (off_second _ _ e)

  pub packets_on : same_label j.label l ≡ true → measure p (packets l (direction j.dir)) (charge p j true) ≡ j.packets
  packets_on e = on (true && ((eqb p p && same_label j.label l) && eqb (direction j.dir) (direction j.dir))) j.packets (on_both _ _ (on_both _ _ (eq-eqb p p refl) e) (eq-eqb (direction j.dir) _ refl))

  pub bytes_on : same_label j.label l ≡ true → measure p (bytes l (direction j.dir)) (charge p j true) ≡ j.bytes
  bytes_on e = on (true && ((eqb p p && same_label j.label l) && eqb (direction j.dir) (direction j.dir))) j.bytes (on_both _ _ (on_both _ _ (eq-eqb p p refl) e) (eq-eqb (direction j.dir) _ refl))

  pub packets_off : (e : ℕ) → (same_label j.label l ≡ false) ⊎ (e ≢ direction j.dir) → measure p (packets l e) (charge p j true) ≡ 0
  packets_off e (inl h) = off (true && ((eqb p p && same_label j.label l) && eqb (direction j.dir) e)) j.packets (off_first (eqb p p && same_label j.label l) (eqb (direction j.dir) e) (off_second (eqb p p) (same_label j.label l) h))
  packets_off e (inr ne) = off (true && ((eqb p p && same_label j.label l) && eqb (direction j.dir) e)) j.packets (off_second (eqb p p && same_label j.label l) (eqb (direction j.dir) e) (ne_eqb (direction j.dir) e (λ z. ne (sym z))))

  pub bytes_off : (e : ℕ) → (same_label j.label l ≡ false) ⊎ (e ≢ direction j.dir) → measure p (bytes l e) (charge p j true) ≡ 0
  bytes_off e (inl h) = off (true && ((eqb p p && same_label j.label l) && eqb (direction j.dir) e)) j.bytes (off_first (eqb p p && same_label j.label l) (eqb (direction j.dir) e) (off_second (eqb p p) (same_label j.label l) h))
  bytes_off e (inr ne) = off (true && ((eqb p p && same_label j.label l) && eqb (direction j.dir) e)) j.bytes (off_second (eqb p p && same_label j.label l) (eqb (direction j.dir) e) (ne_eqb (direction j.dir) e (λ z. ne (sym z))))
