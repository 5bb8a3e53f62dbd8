-- A map of sums by label is the list of the labels, ascending, with the sums of their rows.
use Rattle.std.proofs.Common.{◌≡◌, ℕ, ◌+◌, ◌<◌, ◌&&◌, ◌||◌, Bool, true, false, cond, List, [], ◌∷◌, ◌++◌, length, get_or, take, drop, map, Option, Some, None, refl, sym, ap, subst, ◌∙◌, arith, append_assoc, take-append-drop}
use Rattle.std.specs.Prelude.{◌==◌, is_some, if◌then◌else◌, unwrap_or, Result, Ok, Err, IfOk}
use Rattle.std.specs.List.{flat_map}
use Rattle.std.specs.List.Sorted.{IsStrictlySortedBy}
use Rattle.std.specs.Ordering.{is_eq, nat_cmp, ordering_then}
use Rattle.std.specs.declared.cmp.Ordering.{Ordering}
use Rattle.std.specs.declared.cmp.Ordering.TheVariants.{Less, Equal, Greater}
use Rattle.std.proofs.lemmas.Bool.Decides.{nat_tests}
use Rattle.std.proofs.lemmas.Grind.{flat_map-append}
use Rattle.std.proofs.lemmas.List.{take_more, append-nil}
use mathlib.Core.Logic.{inl, inr}
use mathlib.Core.Bool.{true≢false}
use Rattle.acct_base.specs.declared.amount.Amount.{Amount}
use Rattle.acct_base.specs.declared.amount.Row.{Row}
use Rattle.acct_base.specs.declared.amount.Snapshot.{Snapshot}
use Rattle.acct_base.specs.declared.label.Label.{Label}
use Rattle.acct_base.specs.Amounts.{label_cmp, same_label, labels_of, plus, zero_amount, amount_at, amount_if, HasRoom}
use Rattle.acct_base.specs.Ordered.{ascending}
use Rattle.acct_base.specs.Sums.{has_label}
use Rattle.acct_base.proofs.SumLemmas.{amount_at-append, zero_plus}
use Rattle.acct_base.proofs.Keys.{has, decided, head_fresh, unique, or_true, label_agree, label_same, label_self, ascending_has, ascending_sorted, plus_zero}
use Rattle.shelf.specs.declared.shelf.Deletion.{Deletion}
use Rattle.shelf.specs.Shelved.{Phases}
use Rattle.shelf.specs.Phases.{snapshot_rows, kept_rows, added_rows}
use Rattle.shelf.specs.Merged.{find_amount, amount_of, AddsAmount, IsMerged, row_of}
use Rattle.shelf.proofs.FrontLemmas.{room_of_front, sum_has_room, sum_more}

-- ---- the test on labels is that of their order

same_numbers : (a b : ℕ) → (a == b) ≡ is_eq (nat_cmp b a)
same_numbers a b = grind (arith, nat_tests)

then_both : (o p : Ordering) → is_eq (ordering_then o p) ≡ (is_eq o && is_eq p)
then_both Less p = refl
then_both Equal p = refl
then_both Greater p = refl

and_regroup : (a b c d : Bool) → (a && b && c && d) ≡ (a && (b && (c && d)))
and_regroup true true true d = refl
and_regroup true true false d = refl
and_regroup true false c d = refl
and_regroup false b c d = refl

and_same : (a b c d : Bool) → a ≡ c → b ≡ d → (a && b) ≡ (c && d)
and_same a b c d p q = rw (p, q) refl

same_labels : (a b : Label) → same_label a b ≡ is_eq (label_cmp b a)
same_labels a b =
    let set = and_same _ _ _ _ (same_numbers a.set b.set) (same_numbers a.iface b.iface) ∙ sym (then_both (nat_cmp b.set a.set) (nat_cmp b.iface a.iface)) in
    let tag = and_same _ _ _ _ (same_numbers a.tag b.tag) set ∙ sym (then_both (nat_cmp b.tag a.tag) (ordering_then (nat_cmp b.set a.set) (nat_cmp b.iface a.iface))) in
    and_regroup (a.uid == b.uid) (a.tag == b.tag) (a.set == b.set) (a.iface == b.iface)
    ∙ and_same _ _ _ _ (same_numbers a.uid b.uid) tag
    ∙ sym (then_both (nat_cmp b.uid a.uid) (ordering_then (nat_cmp b.tag a.tag) (ordering_then (nat_cmp b.set a.set) (nat_cmp b.iface a.iface))))

equal_tie : (k l : Label) → same_label k l ≡ true → is_eq (label_cmp k l) ≡ true
equal_tie k l e = subst (λ (x : Label). is_eq (label_cmp k x) ≡ true) (label_same k l e) (sym (same_labels k k) ∙ label_self k)

other_tie : (k l : Label) → same_label k l ≡ false → is_eq (label_cmp k l) ≡ false
other_tie k l e = sym (same_labels l k) ∙ elim (decided (same_label l k)) [
  | inl same ↦ absurd (true≢false (sym (subst (λ (x : Label). same_label k x ≡ true) (sym (label_same l k same)) (label_self k)) ∙ e))
  | inr none ↦ none
]

-- ---- one row more

absent_zero : (rows : List Row) (l : Label) → has_label rows l ≡ false → amount_at rows l ≡ zero_amount
absent_zero [] l e = refl
absent_zero (r ∷ rows) l e = elim (decided (same_label r.label l)) [
  | inl same ↦ absurd (true≢false (sym (ap (λ b. b || has_label rows l) same) ∙ e))
  | inr none ↦ ap (λ b. plus (amount_if b r.amount) (amount_at rows l)) none ∙ zero_plus (amount_at rows l) ∙ absent_zero rows l (sym (ap (λ b. b || has_label rows l) none) ∙ e)
]

found_amount : (b : Bool) (a z : Amount) → (b ≡ false → a ≡ z) → unwrap_or (if b then Some a else None) z ≡ a
found_amount true a z h = refl
found_amount false a z h = sym (h refl)

-- a map's sum is the rows' sum
pub merged_amount : (es : List (Label × Amount)) (rows : List Row) (l : Label) → IsMerged es rows → amount_of es l ≡ amount_at rows l
merged_amount es rows l h = ap (λ (o : Option Amount). unwrap_or o zero_amount) (h l) ∙ found_amount (has_label rows l) (amount_at rows l) zero_amount (absent_zero rows l)

-- the amount at a label grows where the row has it
pub amount_more : (old new : List (Label × Amount)) (k : Label) (more : Amount) (l : Label) → AddsAmount old new k more → amount_of new l ≡ plus (amount_of old l) (amount_if (same_label k l) more)
amount_more old new k more l adds = elim (decided (same_label k l)) [
  | inl same ↦
      ap (λ (o : Option Amount). unwrap_or o zero_amount) (adds l ∙ ap (λ b. cond b (Some (plus (amount_of old k) more)) (find_amount old l)) (equal_tie k l same))
      ∙ ap (λ (x : Label). plus (amount_of old x) more) (label_same k l same)
      ∙ ap (λ b. plus (amount_of old l) (amount_if b more)) (sym same)
  | inr none ↦
      ap (λ (o : Option Amount). unwrap_or o zero_amount) (adds l ∙ ap (λ b. cond b (Some (plus (amount_of old k) more)) (find_amount old l)) (other_tie k l none))
      ∙ sym (plus_zero (amount_of old l))
      ∙ ap (λ b. plus (amount_of old l) (amount_if b more)) (sym none)
]

any-append : (xs ys : List Label) (l : Label) → has same_label (xs ++ ys) l ≡ (has same_label xs l || has same_label ys l)
any-append [] ys l = refl
any-append (x ∷ xs) ys l = ap (λ b. same_label x l || b) (any-append xs ys l) ∙ or_assoc (same_label x l) (has same_label xs l) (has same_label ys l)
  where
    or_assoc : (a b c : Bool) → (a || (b || c)) ≡ ((a || b) || c)
    or_assoc true b c = refl
    or_assoc false b c = refl

labels-append : (rows : List Row) (row : Row) → labels_of (rows ++ row ∷ []) ≡ labels_of rows ++ row.label ∷ []
labels-append [] row = refl
labels-append (r ∷ rows) row = ap (λ (ls : List Label). r.label ∷ ls) (labels-append rows row)

or_none : (a : Bool) → (a || false) ≡ a
or_none true = refl
or_none false = refl

has_more : (rows : List Row) (row : Row) (l : Label) → has_label (rows ++ row ∷ []) l ≡ (has_label rows l || same_label row.label l)
has_more rows row l = ap (λ (ls : List Label). has same_label ls l) (labels-append rows row) ∙ any-append (labels_of rows) (row.label ∷ []) l
    ∙ ap (λ b. has_label rows l || b) (or_none (same_label row.label l))

amount_at_more : (rows : List Row) (row : Row) (l : Label) → amount_at (rows ++ row ∷ []) l ≡ plus (amount_at rows l) (amount_if (same_label row.label l) row.amount)
amount_at_more rows row l = amount_at-append rows (row ∷ []) l ∙ ap (plus (amount_at rows l)) (plus_zero (amount_if (same_label row.label l) row.amount))

pub merged_more : (old new : List (Label × Amount)) (rows : List Row) (row : Row) → IsMerged old rows → AddsAmount old new row.label row.amount → IsMerged new (rows ++ row ∷ [])
merged_more old new rows row h adds l = elim (decided (same_label row.label l)) [
  | inl same ↦
      adds l ∙ ap (λ b. cond b (Some (plus (amount_of old row.label) row.amount)) (find_amount old l)) (equal_tie row.label l same)
      ∙ ap (λ (a : Amount). Some (plus a row.amount)) (merged_amount old rows row.label h ∙ ap (amount_at rows) (label_same row.label l same))
      ∙ sym ((λ i. if (has_more rows row l ∙ ap (λ b. has_label rows l || b) same ∙ or_true (has_label rows l)) i
      then Some ((amount_at_more rows row l ∙ ap (λ b. plus (amount_at rows l) (amount_if b row.amount)) same) i) else None))
  | inr none ↦
      adds l ∙ ap (λ b. cond b (Some (plus (amount_of old row.label) row.amount)) (find_amount old l)) (other_tie row.label l none)
      ∙ h l
      ∙ sym ((λ i. if (has_more rows row l ∙ ap (λ b. has_label rows l || b) none ∙ or_none (has_label rows l)) i
      then Some ((amount_at_more rows row l ∙ ap (λ b. plus (amount_at rows l) (amount_if b row.amount)) none ∙ plus_zero (amount_at rows l)) i) else None))
]

-- ---- the map is the list

abbrev keys_in : List (Label × Amount) → List Label
keys_in es = map (λ (e : Label × Amount). e.0) es

is_some_if : (b : Bool) (a : Amount) → is_some (if b then Some a else None) ≡ b
is_some_if true a = refl
is_some_if false a = refl

of_if : (b : Bool) (a x : Amount) → (if b then Some a else None) ≡ Some x → x ≡ a
of_if true a x e = cc
of_if false a x e = absurd (cc)

is_some_cond : (b : Bool) (a : Amount) (o : Option Amount) → is_some (cond b (Some a) o) ≡ (b || is_some o)
is_some_cond true a o = refl
is_some_cond false a o = refl

there : (es : List (Label × Amount)) (z : Label) → has same_label (keys_in es) z ≡ is_some (find_amount es z)
there [] z = refl
there (e ∷ es) z = (λ i. same_labels e.0 z i || there es z i) ∙ sym (is_some_cond (is_eq (label_cmp z e.0)) e.1 (find_amount es z))

own : (f : Label → Amount) (es : List (Label × Amount)) → IsStrictlySortedBy label_cmp (keys_in es) → ((k : Label) (a : Amount) → find_amount es k ≡ Some a → a ≡ f k) → es ≡ map (λ (k : Label). (k, f k)) (keys_in es)
unfolding IsStrictlySortedBy
own f [] s m = refl
own f (e ∷ es) s m =
    let fresh = head_fresh label_cmp same_label label_agree e.0 (keys_in es) s.0 in
    let here : find_amount (e ∷ es) e.0 ≡ Some e.1 = ap (λ b. cond b (Some e.1) (find_amount es e.0)) (sym (same_labels e.0 e.0) ∙ label_self e.0) in
    let value : e.1 ≡ f e.0 = m e.0 e.1 here in
    let rest : (k : Label) (a : Amount) → find_amount es k ≡ Some a → a ≡ f k = λ k a found. elim (decided (same_label e.0 k)) [
      | inl same ↦ absurd (
          let gone : has same_label (keys_in es) k ≡ false = subst (λ (w : Label). has same_label (keys_in es) w ≡ false) (label_same e.0 k same) fresh in
          let stays : has same_label (keys_in es) k ≡ true = there es k ∙ ap (λ (o : Option Amount). is_some o) found in
          cc)
      | inr none ↦ m k a (ap (λ b. cond b (Some e.1) (find_amount es k)) (sym (same_labels e.0 k) ∙ none) ∙ found)
    ] in
    λ i. (e.0, value i) ∷ own f es s.1 rest i

rows_map : (f : Label → Amount) (ls : List Label) → map row_of (map (λ (l : Label). (l, f l)) ls) ≡ map (λ (l : Label). record { label = l; amount = f l }) ls
rows_map f [] = refl
rows_map f (l ∷ ls) = ap (λ (rows : List Row). record { label = l; amount = f l } ∷ rows) (rows_map f ls)

pub merged_rows : (es : List (Label × Amount)) (rows : List Row) → IsStrictlySortedBy label_cmp (keys_in es) → IsMerged es rows → map row_of es ≡ added_rows rows
merged_rows es rows s h =
    let ks = ascending label_cmp (labels_of rows) in
    let keys : keys_in es ≡ ks = unique label_cmp same_label label_agree (keys_in es) ks s (ascending_sorted label_cmp same_label label_agree (labels_of rows))
    (λ z. there es z ∙ ap (λ (o : Option Amount). is_some o) (h z) ∙ is_some_if (has_label rows z) (amount_at rows z) ∙ sym (ascending_has label_cmp same_label label_agree (labels_of rows) z)) in
    ap (λ (xs : List (Label × Amount)). map row_of xs) (own (amount_at rows) es s (λ k a found. of_if (has_label rows k) (amount_at rows k) a (sym (h k) ∙ found)) ∙ ap (λ (xs : List Label). map (λ (k : Label). (k, amount_at rows k)) xs) keys)
    ∙ rows_map (amount_at rows) ks

-- ---- snapshot by snapshot

pub snapshots_more : (phases : Phases) (i : ℕ) (p : Snapshot × Option Deletion) → i < length phases → p ≡ get_or phases i p → snapshot_rows (take (i + 1) phases) ≡ snapshot_rows (take i phases) ++ p.0.rows
snapshots_more phases i p lt is =
    let rows = λ (q : Snapshot × Option Deletion). q.0.rows in
    ap (flat_map rows) (take_more phases i p lt) ∙ flat_map-append rows (take i phases) (get_or phases i p ∷ [])
    ∙ ap (λ (q : Snapshot × Option Deletion). snapshot_rows (take i phases) ++ flat_map rows (q ∷ [])) (sym is) ∙ ap (λ (xs : List Row). snapshot_rows (take i phases) ++ xs) (append-nil p.0.rows)

-- the sums of the next snapshot's rows have room
pub snapshot_has_room : (phases : Phases) (live : Snapshot) (i : ℕ) (p : Snapshot × Option Deletion) (es : List (Label × Amount)) → i < length phases → p ≡ get_or phases i p →
    IsMerged es (snapshot_rows (take i phases)) → ((l : Label) → HasRoom (amount_at (kept_rows phases live) l)) → (l : Label) → HasRoom (plus (amount_of es l) (amount_at p.0.rows l))
snapshot_has_room phases live i p es lt is merged room l =
    let rows = λ (q : Snapshot × Option Deletion). q.0.rows in
    let front = snapshot_rows (take (i + 1) phases) in
    let rest = snapshot_rows (drop (i + 1) phases) ++ live.rows in
    let split : kept_rows phases live ≡ front ++ rest =
    ap (λ (ps : Phases). kept_rows ps live) (sym (take-append-drop (i + 1) phases)) ∙ ap (λ (xs : List Row). xs ++ live.rows) (flat_map-append rows (take (i + 1) phases) (drop (i + 1) phases))
    ∙ append_assoc front (snapshot_rows (drop (i + 1) phases)) live.rows in
    let sum : amount_at front l ≡ plus (amount_of es l) (amount_at p.0.rows l) =
    ap (λ (xs : List Row). amount_at xs l) (snapshots_more phases i p lt is) ∙ amount_at-append (snapshot_rows (take i phases)) p.0.rows l
    ∙ ap (λ (a : Amount). plus a (amount_at p.0.rows l)) (sym (merged_amount es (snapshot_rows (take i phases)) l merged)) in
    subst (λ (a : Amount). HasRoom a) sum
    (room_of_front (amount_at front l) (amount_at rest l) (amount_at (kept_rows phases live) l) (ap (λ (xs : List Row). amount_at xs l) split ∙ amount_at-append front rest l) (room l))

-- ---- row by row

pub row_has_room : (start es : List (Label × Amount)) (rows : List Row) (i : ℕ) (d : Row) → i < length rows →
    ((l : Label) → amount_of es l ≡ plus (amount_of start l) (amount_at (take i rows) l)) →
    ((l : Label) → HasRoom (plus (amount_of start l) (amount_at rows l))) → HasRoom (plus (amount_of es (get_or rows i d).label) (get_or rows i d).amount)
row_has_room start es rows i d lt amounts room =
    let row = get_or rows i d in
    let l = row.label in
    subst (λ (a : Amount). HasRoom a) ((λ j. plus (sym (amounts l) j) (amount_if (label_self l j) row.amount)))
    (sum_has_room (λ (r : Row). amount_if (same_label r.label l) r.amount) (amount_of start l) rows i d lt (room l))

pub row_amounts : (start es new : List (Label × Amount)) (rows : List Row) (i : ℕ) (d : Row) → i < length rows →
    ((l : Label) → amount_of es l ≡ plus (amount_of start l) (amount_at (take i rows) l)) → AddsAmount es new (get_or rows i d).label (get_or rows i d).amount →
    (l : Label) → amount_of new l ≡ plus (amount_of start l) (amount_at (take (i + 1) rows) l)
row_amounts start es new rows i d lt amounts adds l =
    let row = get_or rows i d in
    amount_more es new row.label row.amount l adds ∙ ap (λ (a : Amount). plus a (amount_if (same_label row.label l) row.amount)) (amounts l)
    ∙ sum_more (λ (r : Row). amount_if (same_label r.label l) r.amount) (amount_of start l) rows i d lt

pub row_merged : (es new : List (Label × Amount)) (before rows : List Row) (i : ℕ) (d : Row) → i < length rows →
    IsMerged es (before ++ take i rows) → AddsAmount es new (get_or rows i d).label (get_or rows i d).amount → IsMerged new (before ++ take (i + 1) rows)
row_merged es new before rows i d lt merged adds =
    let row = get_or rows i d in
    subst (λ (xs : List Row). IsMerged new xs) (append_assoc before (take i rows) (row ∷ []) ∙ ap (λ (xs : List Row). before ++ xs) (sym (take_more rows i d lt)))
    (merged_more es new (before ++ take i rows) row merged adds)

-- rows are these where they are those
pub given_rows : {E : Type 0} {old new : List Row} (r : Result (List Row) E) → IfOk r (λ rows. rows ≡ old) → old ≡ new → IfOk r (λ rows. rows ≡ new)
given_rows (Ok rows) h e = h ∙ e
given_rows (Err x) h e = tt
