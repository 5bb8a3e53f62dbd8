-- Charges in turn: a charge that did not land met rows that were full of other labels, and stay so.
use Rattle.std.proofs.Common.{◌≡◌, ℕ, ◌≤◌, ◌<◌, List, [], ◌∷◌, ◌++◌, length, map, refl, sym, ap, subst, ◌∙◌, arith, Bool, true, false, append_assoc, append-nil}
use Rattle.std.proofs.lemmas.List.{map-append}
use Rattle.std.specs.Prelude.{◌==◌, ◌&&◌, ◌||◌, filter, cond, nat_lt}
use Rattle.std.specs.List.{AllByRecursion}
use Rattle.std.specs.declared.cmp.Ordering.{Ordering}
use Rattle.std.specs.Ordering.{nat_cmp}
use Rattle.std.proofs.lemmas.List.Elements.{filter-append}
use mathlib.Core.Logic.{inl, inr}
use Rattle.std.proofs.lemmas.Bool.{and_parts}
use Rattle.acct_base.specs.declared.charge.Charge.{Charge}
use Rattle.acct_base.specs.Amounts.{same_label, label_cmp}
use Rattle.acct_base.specs.Ordered.{insert_once, ascending}
use Rattle.acct_base.specs.Receipts.{Add}
use Rattle.captures.proofs.Lists.{all_append, all_more}
use Rattle.acct_base.specs.Landings.{finds_room, landed_labels, same_number, LandInTurn, AddInTurn}
use Rattle.acct_base.proofs.Keys.{Agree, has, decided, eqb_same, ascending_sorted, ascending_more, inserted_there, inserted_long, label_agree, nat_agree}

no_room : {K : Type 0} (eq : K → K → Bool) (size : ℕ) (ts : List K) (k : K) → finds_room eq size ts k ≡ false → (has eq ts k ≡ false) × (size ≤ length ts)
no_room eq size ts k e = both (has eq ts k) (nat_lt (length ts) size) e refl
  where
    both : (a b : Bool) → (a || b) ≡ false → nat_lt (length ts) size ≡ b → (a ≡ false) × (size ≤ length ts)
    both true b e at = absurd (cc)
    both false true e at = absurd (cc)
    both false false e at = (refl, grind (arith, at))

room : {K : Type 0} (eq : K → K → Bool) (size : ℕ) (ts : List K) (k : K) → finds_room eq size ts k ≡ true → has eq ts k ≡ false → length ts < size
room eq size ts k e none = let lt : nat_lt (length ts) size ≡ true = sym (ap (λ b. b || nat_lt (length ts) size) none) ∙ e in grind (arith, lt)

-- items that take a place by their keys
module _ {X K : Type 0} (R : K → K → Ordering) (eq : K → K → Bool) (h : Agree R eq) (key : X → K) (test : X → Bool) (Refused : X → Type 0) (size : ℕ) where
  abbrev pub taken : List X → List K
  taken xs = ascending R (map key (filter test xs))

  -- all places are taken by other keys
  pub record IsFull (xs : List X) (k : K) : Type 0 where
    pub long : length (taken xs) ≡ size
    pub other : has eq (taken xs) k ≡ false

  pub record Facts (xs : List X) : Type 0 where
    pub within : length (taken xs) ≤ size
    pub shown : AllByRecursion (λ (x : X). Refused x → IsFull xs (key x)) xs

  pub record Took (before : List X) (x : X) : Type 0 where
    pub takes : test x ≡ true → finds_room eq size (taken before) (key x) ≡ true
    pub refused : Refused x → finds_room eq size (taken before) (key x) ≡ false

  pub taken_more : (xs : List X) (x : X) → taken (xs ++ x ∷ []) ≡ cond (test x) (insert_once R (taken xs) (key x)) (taken xs)
  taken_more xs x =
      ap (λ (ys : List X). ascending R (map key ys)) (filter-append test xs (x ∷ []))
      ∙ elim (test x) as (λ b. ascending R (map key (filter test xs ++ cond b (x ∷ []) [])) ≡ cond b (insert_once R (taken xs) (key x)) (taken xs)) [
        | true ↦ ap (ascending R) (map-append key (filter test xs) (x ∷ [])) ∙ ascending_more R eq h (map key (filter test xs)) (key x)
        | false ↦ ap (λ (ys : List X). ascending R (map key ys)) (append-nil (filter test xs))
      ]

  same_places : (xs : List X) (x : X) → taken (xs ++ x ∷ []) ≡ taken xs → Facts xs → (Refused x → IsFull xs (key x)) → Facts (xs ++ x ∷ [])
  same_places xs x same f g =
      let moved : (k : K) → IsFull xs k → IsFull (xs ++ x ∷ []) k = λ k full. record { long = ap (λ (ts : List K). length ts) same ∙ full.long; other = ap (λ (ts : List K). has eq ts k) same ∙ full.other } in
      record {
        within = subst (λ (ts : List K). length ts ≤ size) (sym same) f.within;
        shown = all_append (λ (y : X). Refused y → IsFull (xs ++ x ∷ []) (key y)) xs (x ∷ [])
            (all_more (λ (y : X). Refused y → IsFull xs (key y)) (λ (y : X). Refused y → IsFull (xs ++ x ∷ []) (key y)) (λ y k r. moved (key y) (k r)) xs f.shown)
            ((λ r. moved (key x) (g r)), tt);
      }

  pub facts_more : (xs : List X) (x : X) → Facts xs → Took xs x → Facts (xs ++ x ∷ [])
  facts_more xs x f t =
      let refused : Refused x → IsFull xs (key x) = λ r. let no = no_room eq size (taken xs) (key x) (t.refused r) in let within = f.within in record { long = omega (arith, no.1, within); other = no.0 } in
      let step : (b : Bool) → test x ≡ b → taken (xs ++ x ∷ []) ≡ cond b (insert_once R (taken xs) (key x)) (taken xs) → Facts (xs ++ x ∷ []) = λ b. elim b as (λ b. test x ≡ b → taken (xs ++ x ∷ []) ≡ cond b (insert_once R (taken xs) (key x)) (taken xs) → Facts (xs ++ x ∷ [])) [
        | false ↦ λ e same. same_places xs x same f refused
        | true ↦ λ e more. elim (decided (has eq (taken xs) (key x))) [
          | inl there ↦ same_places xs x (more ∙ inserted_there R eq h (taken xs) (key x) (ascending_sorted R eq h (map key (filter test xs))) there) f refused
          | inr none ↦
              let lt = room eq size (taken xs) (key x) (t.takes e) none in
              let longer = inserted_long R eq h (taken xs) (key x) in
              let not_full : (y : X) → (Refused y → IsFull xs (key y)) → Refused y → IsFull (xs ++ x ∷ []) (key y) = λ y k r. absurd (let long = (k r).long in omega (arith, long, lt)) in
              record {
                within = subst (λ (ts : List K). length ts ≤ size) (sym more) (omega (arith, lt, longer));
                shown = all_append (λ (y : X). Refused y → IsFull (xs ++ x ∷ []) (key y)) xs (x ∷ [])
                    (all_more (λ (y : X). Refused y → IsFull xs (key y)) (λ (y : X). Refused y → IsFull (xs ++ x ∷ []) (key y)) not_full xs f.shown)
                    (not_full x refused, tt);
              }
        ]
      ] in
      step (test x) refl (taken_more xs x)

  pub facts_none : Facts []
  facts_none = record { within = omega arith; shown = tt }

-- ---- charges

pub record NotLanded (n : ℕ) (c : Charge) : Type 0 where
  pub phase : c.phase ≡ n
  pub full : c.landed ≡ false

abbrev pub in_phase : ℕ → Charge → Bool
in_phase n c = c.landed && c.phase == n

abbrev pub PhaseFacts : ℕ → ℕ → List Charge → Type 0
PhaseFacts size n cs = Facts label_cmp same_label label_agree (λ (c : Charge). c.job.label) (in_phase n) (NotLanded n) size cs

charge_took : (size n : ℕ) (before : List Charge) (c : Charge) → c.landed ≡ finds_room same_label size (landed_labels before c.phase) c.job.label →
    Took label_cmp same_label label_agree (λ (c : Charge). c.job.label) (in_phase n) (NotLanded n) size before c
charge_took size n before c e = record {
  takes = λ t. let parts = and_parts _ _ t in
      sym (ap (λ (k : ℕ). finds_room same_label size (landed_labels before k) c.job.label) (eqb_same c.phase n parts.1)) ∙ sym e ∙ parts.0;
  refused = λ r. sym (ap (λ (k : ℕ). finds_room same_label size (landed_labels before k) c.job.label) r.phase) ∙ sym e ∙ r.full;
}

pub charges_facts : (size n : ℕ) (before cs : List Charge) → PhaseFacts size n before → LandInTurn size before cs → PhaseFacts size n (before ++ cs)
charges_facts size n before [] f t = subst (PhaseFacts size n) (sym (append-nil before)) f
charges_facts size n before (c ∷ cs) f t =
    subst (PhaseFacts size n) (append_assoc before (c ∷ []) cs)
    (charges_facts size n (before ++ c ∷ []) cs (facts_more label_cmp same_label label_agree (λ (c : Charge). c.job.label) (in_phase n) (NotLanded n) size before c f (charge_took size n before c t.0)) t.1)

-- ---- adds

abbrev pub AddFacts : ℕ → List Add → Type 0
AddFacts size adds = Facts nat_cmp same_number nat_agree (λ (a : Add). a.key) (λ (a : Add). a.landed) (λ (a : Add). a.landed ≡ false) size adds

pub adds_facts : (size : ℕ) (before adds : List Add) → AddFacts size before → AddInTurn size before adds → AddFacts size (before ++ adds)
adds_facts size before [] f t = subst (AddFacts size) (sym (append-nil before)) f
adds_facts size before (a ∷ adds) f t =
    subst (AddFacts size) (append_assoc before (a ∷ []) adds)
    (adds_facts size (before ++ a ∷ []) adds
    (facts_more nat_cmp same_number nat_agree (λ (a : Add). a.key) (λ (a : Add). a.landed) (λ (a : Add). a.landed ≡ false) size before a f (record { takes = λ e. sym t.0 ∙ e; refused = λ e. sym t.0 ∙ e })) t.1)
