-- Cutting a seat in two and joining two keeps the rule.
use Rattle.std.proofs.Common.{◌≡◌, ◌≢◌, ℕ, zero, suc, ◌+◌, ◌-◌, ◌≤◌, ◌<◌, List, [], ◌∷◌, ◌++◌, length, set, sum_by, refl, sym, ap, ◌∙◌, subst, ◌⊎◌, inl, inr, ⊎_elim, arith, length-append}
use mathlib.Core.Option.{some, some-ne-none}
use lib.ListN.{get_elem?}
use Rattle.std.proofs.lemmas.List.Sums.{sum_by_push}
use Rattle.atomic_table.specs.Table.{State, Splits, Joins}
use Rattle.atomic_table.proofs.Lists.{at_set, at_snoc}
use Rattle.total_rows.specs.declared.plan.Plan.{Plan}
use Rattle.total_rows.specs.declared.plan.Addition.{Addition}
use Rattle.total_rows.specs.declared.plan.Note.{Note}
use Rattle.total_rows.specs.declared.plan.Note.TheVariants.{Adds}
use Rattle.total_rows.specs.declared.plan.View.{View}
use Rattle.total_rows.specs.declared.plan.Stage.TheVariants.{Idle}
use Rattle.total_rows.specs.Sums.{added, under_way, part, landings, stands_at, uses, noted}
use Rattle.total_rows.specs.Rule.{busy, calls, Sits, Tells, Kept}
use Rattle.total_rows.specs.Plays.{split_left, split_right, joined, spent}
use Rattle.total_rows.proofs.Spots.{sum_moved, in_sum}

abbrev U : Type 0
U = Unit {0}

at_append : {A : Type 0} (xs ys : List A) (i : ℕ) (a : A) → get_elem? (xs ++ ys) i ≡ some a → ((j : ℕ) × (get_elem? xs j ≡ some a)) ⊎ ((j : ℕ) × (get_elem? ys j ≡ some a))
at_append [] ys i a e = inr (i, e)
at_append (x ∷ xs) ys zero a e = inl (0, e)
at_append (x ∷ xs) ys (suc i) a e = ⊎_elim (λ (t : (j : ℕ) × (get_elem? xs j ≡ some a)). inl (suc t.0, t.1)) (λ (t : (j : ℕ) × (get_elem? ys j ≡ some a)). inr t) (at_append xs ys i a e)

pub added-append : (key c : ℕ) (xs ys : List Addition) → added key c (xs ++ ys) ≡ added key c xs + added key c ys
added-append key c [] ys = omega arith
added-append key c (x ∷ xs) ys = let h = added-append key c xs ys in omega arith

landings-append : (key : ℕ) (xs ys : List Addition) → landings key (xs ++ ys) ≡ landings key xs + landings key ys
landings-append key [] ys = omega arith
landings-append key (x ∷ xs) ys = let h = landings-append key xs ys in omega arith

-- ---- a view in two

cut_sum : (all new old left right end : ℕ) → new + old ≡ all + left → end ≡ new + right → left + right ≡ old → end ≡ all
cut_sum all new old left right end e f g = omega arith

-- ---- two views in one

glued : (all one two old other both none : ℕ) → one + old ≡ all + both → two + other ≡ one + none → both ≡ old + other → none ≡ 0 → two ≡ all
glued all one two old other both none e f g h = omega arith

glued_part : (l a b u w x : ℕ) → l ≡ a + b → u ≡ 0 → w ≡ 0 → l + 0 ≡ (a + u) + (b + w)
glued_part l a b u w x e f g = omega arith

glued_calls : (a b c d : ℕ) → (a + c) + (b + d) ≡ (a + b) + (c + d)
glued_calls a b c d = omega arith

glued_fits : (l n m p q u w : ℕ) → l ≡ n + m → n + u ≤ p → m + w ≤ q → l + 0 ≤ p + q
glued_fits l n m p q u w e f g = omega arith

cut_calls : (left n made : ℕ) → n ≤ left → ((left - n) + made) + (n + 0) ≡ left + made
cut_calls left n made h = omega arith

plus_none : (n : ℕ) → n + (0 + 0) ≡ n
plus_none n = omega arith

quiet_le : (a u n : ℕ) → a + u ≤ n → a ≤ n
quiet_le a u n h = omega arith

idle_fits : (n b m : ℕ) → n + b ≤ m → n + 0 ≤ m
idle_fits n b m h = omega arith

module _ (z : Plan) where
  abbrev St : Type 0
  St = State U View

  abbrev R : ℕ
  R = z.rows

  -- other views with the same sums
  resummed : (s : St) (r : Kept z s) (views : List View) → ((key c : ℕ) → sum_by (part key c) views ≡ sum_by (part key c) s.views) → ((key : ℕ) → sum_by (uses key) views ≡ sum_by (uses key) s.views) → sum_by calls views ≡ sum_by calls s.views
      → ((j : ℕ) (v : View) → get_elem? views j ≡ some v → Sits R s.words v) → ((j : ℕ) (v : View) → get_elem? views j ≡ some v → (i : ℕ) (n : Note) → get_elem? v.notes i ≡ some n → Tells s.views n)
      → Kept z record { words = s.words; homes = s.homes; views = views }
  resummed s r views parts rows_ calls_ seats notes = record {
    wide = r.wide;
    small = r.small;
    owned = r.owned;
    blank = r.blank;
    sums = λ key turn c a l. r.sums key turn c a l ∙ sym (parts key c);
    used = λ key turn a. subst (λ (n : ℕ). 0 < n) (sym (rows_ key)) (r.used key turn a);
    each_seat = seats;
    each_note = λ j v at i n e key c. subst (λ (x : ℕ). noted key c n ≤ x) (sym (parts key c)) (notes j v at i n e key c);
    budget = calls_ ∙ r.budget;
  }

  pub splits : (id n : ℕ) (v : View) → v.stage ≡ Idle → n ≤ v.left → Splits (Kept z) id v (split_left n v) (split_right n v)
  splits id n v rests within s r at = let sits = r.each_seat id v at in let left : View = split_left n v in let right : View = split_right n v in
      let cut : (f : View → ℕ) → f left + f right ≡ f v → sum_by f (set s.views id left ++ right ∷ []) ≡ sum_by f s.views = λ f e.
      cut_sum (sum_by f s.views) (sum_by f (set s.views id left)) (f v) (f left) (f right) (sum_by f (set s.views id left ++ right ∷ [])) (sum_moved f s.views id v left at) (sum_by_push f (set s.views id left) right) e in
      resummed s r (set s.views id left ++ right ∷ [])
      (λ key c. cut (part key c) (plus_none (part key c v)))
      (λ key. cut (uses key) (plus_none (uses key v)))
      (cut calls (cut_calls v.left n v.made within))
      (λ j d e. ⊎_elim
      (λ (t : get_elem? (set s.views id left) j ≡ some d). ⊎_elim (λ (q : (j ≡ id) × (left ≡ d)). subst (Sits R s.words) q.1 record { stands = sits.stands; adds = sits.adds; counted = sits.counted }) (λ (q : (j ≢ id) × (get_elem? s.views j ≡ some d)). r.each_seat j d q.1) (at_set s.views id j left d t))
      (λ (t : right ≡ d). subst (Sits R s.words) t record { stands = tt; adds = λ i a f. absurd (some-ne-none a (sym f)); counted = omega arith })
      (at_snoc (set s.views id left) right d j e))
      (λ j d e. ⊎_elim
      (λ (t : get_elem? (set s.views id left) j ≡ some d). ⊎_elim (λ (q : (j ≡ id) × (left ≡ d)) i x f. r.each_note id v at i x (subst (λ (w : View). get_elem? w.notes i ≡ some x) (sym q.1) f)) (λ (q : (j ≢ id) × (get_elem? s.views j ≡ some d)). r.each_note j d q.1) (at_set s.views id j left d t))
      (λ (t : right ≡ d) i x f. ⊎_elim (λ (g : get_elem? v.notes i ≡ some x). r.each_note id v at i x g)
      (λ (g : Adds v.adds ≡ x). subst (Tells s.views) g (λ key c. quiet_le (added key c v.adds) (under_way key c v.stage) (sum_by (part key c) s.views) (in_sum (part key c) s.views id v at)))
      (at_snoc v.notes (Adds v.adds) x i (subst (λ (w : View). get_elem? w.notes i ≡ some x) (sym t) f)))
      (at_snoc (set s.views id left) right d j e))

  pub joins : (id other : ℕ) (v w : View) → v.stage ≡ Idle → w.stage ≡ Idle → Joins (Kept z) id v other w (joined v w) spent
  joins id other v w rests rests' s r at apart at' = let sits = r.each_seat id v at in let both : View = joined v w in let one : List View = set s.views id both in
      let was : get_elem? s.views other ≡ some w = ⊎_elim (λ (q : (other ≡ id) × (both ≡ w)). absurd (apart q.0)) (λ (q : (other ≢ id) × (get_elem? s.views other ≡ some w)). q.1) (at_set s.views id other both w at') in
      let sits' = r.each_seat other w was in
      let glue : (f : View → ℕ) → f both ≡ f v + f w → f spent ≡ 0 → sum_by f (set one other spent) ≡ sum_by f s.views = λ f e n.
      glued (sum_by f s.views) (sum_by f one) (sum_by f (set one other spent)) (f v) (f w) (f both) (f spent) (sum_moved f s.views id v both at) (sum_moved f one other w spent at') e n in
      resummed s r (set one other spent)
      (λ key c. glue (part key c) (glued_part (added key c (v.adds ++ w.adds)) (added key c v.adds) (added key c w.adds) (under_way key c v.stage) (under_way key c w.stage) 0 (added-append key c v.adds w.adds) (ap (under_way key c) rests) (ap (under_way key c) rests')) refl)
      (λ key. glue (uses key) (glued_part (landings key (v.adds ++ w.adds)) (landings key v.adds) (landings key w.adds) (stands_at key v.stage) (stands_at key w.stage) 0 (landings-append key v.adds w.adds) (ap (stands_at key) rests) (ap (stands_at key) rests')) refl)
      (glue calls (glued_calls v.left v.made w.left w.made) refl)
      (λ j d e. ⊎_elim (λ (q : (j ≡ other) × (spent ≡ d)). subst (Sits R s.words) q.1 record { stands = tt; adds = λ i a f. absurd (some-ne-none a (sym f)); counted = omega arith })
      (λ (q : (j ≢ other) × (get_elem? one j ≡ some d)). ⊎_elim (λ (t : (j ≡ id) × (both ≡ d)). subst (Sits R s.words) t.1 record {
        stands = tt;
        adds = λ i a f. ⊎_elim (λ (g : (k : ℕ) × (get_elem? v.adds k ≡ some a)). sits.adds g.0 a g.1) (λ (g : (k : ℕ) × (get_elem? w.adds k ≡ some a)). sits'.adds g.0 a g.1) (at_append v.adds w.adds i a f);
        counted = glued_fits (length (v.adds ++ w.adds)) (length v.adds) (length w.adds) v.made w.made (busy v.stage) (busy w.stage) (length-append v.adds w.adds) sits.counted sits'.counted;
      }) (λ (t : (j ≢ id) × (get_elem? s.views j ≡ some d)). r.each_seat j d t.1) (at_set s.views id j both d q.1))
      (at_set one other j spent d e))
      (λ j d e. ⊎_elim (λ (q : (j ≡ other) × (spent ≡ d)) i x f. absurd (some-ne-none x (sym (subst (λ (y : View). get_elem? y.notes i ≡ some x) (sym q.1) f))))
      (λ (q : (j ≢ other) × (get_elem? one j ≡ some d)). ⊎_elim (λ (t : (j ≡ id) × (both ≡ d)) i x f.
      ⊎_elim (λ (g : (k : ℕ) × (get_elem? v.notes k ≡ some x)). r.each_note id v at g.0 x g.1) (λ (g : (k : ℕ) × (get_elem? w.notes k ≡ some x)). r.each_note other w was g.0 x g.1)
      (at_append v.notes w.notes i x (subst (λ (y : View). get_elem? y.notes i ≡ some x) (sym t.1) f)))
      (λ (t : (j ≢ id) × (get_elem? s.views j ≡ some d)). r.each_note j d t.1) (at_set s.views id j both d q.1))
      (at_set one other j spent d e))

  pub splits_at : (id n n' : ℕ) (v : View) → v.stage ≡ Idle → n ≤ v.left → n' ≡ n → Splits (Kept z) id v (split_left n' v) (split_right n' v)
  splits_at id n n' v rests within e = subst (λ (x : ℕ). Splits (Kept z) id v (split_left x v) (split_right x v)) (sym e) (splits id n v rests within)
