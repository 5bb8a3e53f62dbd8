-- Lists that a loop goes along, and facts of each item.
use Rattle.std.proofs.Common.{◌≡◌, ℕ, zero, suc, ◌+◌, ◌≤◌, ◌<◌, List, [], ◌∷◌, ◌++◌, length, take, map, get_or, refl, ap, subst, ◌∙◌, arith, length-append}
use Rattle.std.specs.Prelude.{Option, Some, Result, Ok, Err, IfOk, slice_get, unwrap_or, cond, true, false}
use Rattle.std.specs.List.{AllByRecursion, AllZip}
use Rattle.std.proofs.lemmas.List.Elements.{filter-append}
use Rattle.acct_base.proofs.JournalLemmas.{slice_get-seam}
use Rattle.acct_base.specs.Receipts.{Call}
use Rattle.acct_base.specs.Receipts.Call.{Hook, Iface, Allow, Deny}
use Rattle.desk_core.specs.declared.command.Command.{Command}
use Rattle.desk_core.specs.Commands.{collects}
use Rattle.hook_engine.specs.Passes.{spent}
use Rattle.lanes.specs.Desks.{collecting}
use Rattle.lanes.specs.Lanes.{calls_made}

taken_next : {A : Type 0} (xs : List A) (i : ℕ) (x : A) → slice_get xs i ≡ Some x → take (suc i) xs ≡ take i xs ++ x ∷ []
taken_next [] i x e = absurd (cc)
taken_next {A = A} (y ∷ ys) zero x e = ap (λ (o : Option A). unwrap_or o y ∷ []) e
taken_next {A = A} (y ∷ ys) (suc i) x e = ap (λ (zs : List A). y ∷ zs) (taken_next ys i x e)

pub taken_more : {A : Type 0} (xs : List A) (i : ℕ) (x : A) → slice_get xs i ≡ Some x → take (i + 1) xs ≡ take i xs ++ x ∷ []
taken_more xs i x e = let next : suc i ≡ i + 1 = omega arith in subst (λ n. take n xs ≡ take i xs ++ x ∷ []) next (taken_next xs i x e)

pub all_at : {A : Type 0} (P : A → Type 0) (xs : List A) (i : ℕ) (x : A) → AllByRecursion P xs → slice_get xs i ≡ Some x → P x
all_at P [] i x h e = absurd (cc)
all_at {A = A} P (y ∷ ys) zero x h e = subst P (ap (λ (o : Option A). unwrap_or o y) e) h.0
all_at P (y ∷ ys) (suc i) x h e = all_at P ys i x h.1 e

pub all_snoc : {A : Type 0} (P : A → Type 0) (xs : List A) (x : A) → AllByRecursion P xs → P x → AllByRecursion P (xs ++ x ∷ [])
all_snoc P [] x h p = (p, tt)
all_snoc P (y ∷ ys) x h p = (h.0, all_snoc P ys x h.1 p)

pub zip_snoc : {A B : Type 0} (P : A → B → Type 0) (xs : List A) (ys : List B) (x : A) (y : B) → AllZip P xs ys → P x y → AllZip P (xs ++ x ∷ []) (ys ++ y ∷ [])
zip_snoc P [] [] x y h p = (p, tt)
zip_snoc P [] (b ∷ ys) x y h p = absurd h
zip_snoc P (a ∷ xs) [] x y h p = absurd h
zip_snoc P (a ∷ xs) (b ∷ ys) x y h p = (h.0, zip_snoc P xs ys x y h.1 p)

pub zip_length : {A B : Type 0} (P : A → B → Type 0) (xs : List A) (ys : List B) → AllZip P xs ys → length xs ≡ length ys
zip_length P [] [] h = refl
zip_length P [] (b ∷ ys) h = absurd h
zip_length P (a ∷ xs) [] h = absurd h
zip_length P (a ∷ xs) (b ∷ ys) h = ap suc (zip_length P xs ys h.1)

pub zip_at : {A B : Type 0} (P : A → B → Type 0) (xs : List A) (ys : List B) (i : ℕ) (x : A) (y : B) → AllZip P xs ys → slice_get xs i ≡ Some x → slice_get ys i ≡ Some y → P x y
zip_at P [] [] i x y h e k = absurd (cc)
zip_at P [] (b ∷ ys) i x y h e k = absurd h
zip_at P (a ∷ xs) [] i x y h e k = absurd h
zip_at {A} {B} P (a ∷ xs) (b ∷ ys) zero x y h e k = subst (λ (z : A × B). P z.0 z.1) (λ j. (ap (λ (o : Option A). unwrap_or o a) e j, ap (λ (o : Option B). unwrap_or o b) k j)) h.0
zip_at P (a ∷ xs) (b ∷ ys) (suc i) x y h e k = zip_at P xs ys i x y h.1 e k

pub map_snoc : {A B : Type 0} (f : A → B) (xs : List A) (x : A) → map f (xs ++ x ∷ []) ≡ map f xs ++ f x ∷ []
map_snoc f [] x = refl
map_snoc {A} {B} f (y ∷ ys) x = ap (λ (zs : List B). f y ∷ zs) (map_snoc f ys x)

pub mapped_length : {A B : Type 0} (f : A → B) (xs : List A) → length (map f xs) ≡ length xs
mapped_length f [] = refl
mapped_length f (x ∷ xs) = ap suc (mapped_length f xs)

-- an item of a mapped list is that of an item
pub mapped_at : {A B : Type 0} (f : A → B) (xs : List A) (i : ℕ) (y : B) → slice_get (map f xs) i ≡ Some y → (x : A) × (slice_get xs i ≡ Some x) × (f x ≡ y)
mapped_at f [] i y e = absurd (cc)
mapped_at {A} {B} f (x ∷ xs) zero y e = (x, refl, ap (λ (o : Option B). unwrap_or o (f x)) e)
mapped_at f (x ∷ xs) (suc i) y e = mapped_at f xs i y e

pub is_within : {A : Type 0} (xs : List A) (i : ℕ) (x : A) → slice_get xs i ≡ Some x → i < length xs
is_within [] i x e = absurd (cc)
is_within (y ∷ ys) zero x e = omega arith
is_within (y ∷ ys) (suc i) x e = let rest = is_within ys i x e in omega (arith, rest)

pub at_within : {A : Type 0} (xs : List A) (i : ℕ) → i < length xs → (x : A) × (slice_get xs i ≡ Some x)
at_within [] i lt = absurd (omega (arith, lt))
at_within (x ∷ xs) zero lt = (x, refl)
at_within (x ∷ xs) (suc i) lt = at_within xs i (omega (arith, lt))

pub or_at : {A : Type 0} (xs : List A) (i : ℕ) (x d : A) → slice_get xs i ≡ Some x → get_or xs i d ≡ x
or_at [] i x d e = absurd (cc)
or_at {A} (y ∷ ys) zero x d e = ap (λ (o : Option A). unwrap_or o y) e
or_at (y ∷ ys) (suc i) x d e = or_at ys i x d e

pub at_here : {A : Type 0} (xs : List A) (i : ℕ) (d : A) → i < length xs → slice_get xs i ≡ Some (get_or xs i d)
at_here [] i d lt = absurd (omega (arith, lt))
at_here (x ∷ xs) zero d lt = refl
at_here (x ∷ xs) (suc i) d lt = at_here xs i d (omega (arith, lt))

-- the item behind those that a loop went over
pub item_next : {A : Type 0} (ys rest all : List A) (x : A) → ys ++ (x ∷ rest) ≡ all → slice_get all (length ys) ≡ Some x
item_next {A = A} ys rest all x e = subst (λ (l : List A). slice_get l (length ys) ≡ Some x) e (slice_get-seam ys x rest)

pub nothing_left : {A : Type 0} (xs : List A) → length xs ≡ 0 → xs ≡ []
nothing_left [] e = refl
nothing_left (x ∷ xs) e = absurd (omega (arith, e))

-- ---- how many calls

pub spends_one : (c : Call) → spent c ≤ 1
spends_one (Hook c) = omega arith
spends_one (Iface c) = omega arith
spends_one (Allow sock_uid cookie received) = omega arith
spends_one (Deny sock_uid) = omega arith

pub made_more : (lanes : List (List (ℕ × Call))) (l : List (ℕ × Call)) → calls_made (lanes ++ l ∷ []) ≡ calls_made lanes + length l
made_more [] l = omega arith
made_more (m ∷ ms) l = let rest = made_more ms l in omega (arith, rest)

pub made_within : (lanes : List (List (ℕ × Call))) (i : ℕ) (l : List (ℕ × Call)) → slice_get lanes i ≡ Some l → calls_made (take i lanes) + length l ≤ calls_made lanes
made_within [] i l e = absurd (cc)
made_within (m ∷ ms) zero l e = let same : length m ≡ length l = ap (λ (o : Option (List (ℕ × Call))). length (unwrap_or o m)) e in omega (arith, same)
made_within (m ∷ ms) (suc i) l e = let rest = made_within ms i l e in omega (arith, rest)

-- ---- how many commands may end a phase

collecting_more : (ds : List (ℕ × Command)) (c : ℕ × Command) → length (collecting (ds ++ c ∷ [])) ≡ length (collecting ds) + length (collecting (c ∷ []))
collecting_more ds c = ap (λ (xs : List (ℕ × Command)). length xs) (filter-append (λ (x : ℕ × Command). collects x.1) ds (c ∷ [])) ∙ length-append (collecting ds) (collecting (c ∷ []))

collecting_first : (d : ℕ × Command) (ds : List (ℕ × Command)) → length (collecting (d ∷ ds)) ≡ length (collecting (d ∷ [])) + length (collecting ds)
collecting_first d ds = elim (collects d.1) as (λ b. length (cond b (d ∷ collecting ds) (collecting ds)) ≡ length (cond b (d ∷ []) []) + length (collecting ds)) [ true ↦ omega arith | false ↦ omega arith ]

pub collecting_here : (ds : List (ℕ × Command)) (i : ℕ) (c : ℕ × Command) → slice_get ds i ≡ Some c → length (collecting (take i ds)) + length (collecting (c ∷ [])) ≤ length (collecting ds)
collecting_here [] i c e = absurd (cc)
collecting_here (d ∷ ds) zero c e =
    let same : length (collecting (d ∷ [])) ≡ length (collecting (c ∷ [])) = ap (λ (o : Option (ℕ × Command)). length (collecting (unwrap_or o d ∷ []))) e in
    let all = collecting_first d ds in omega (arith, same, all)
collecting_here (d ∷ ds) (suc i) c e =
    let rest = collecting_here ds i c e in
    let all = collecting_first d ds in
    let front = collecting_first d (take i ds) in omega (arith, rest, all, front)

pub collecting_next : (ds : List (ℕ × Command)) (i : ℕ) (c : ℕ × Command) → slice_get ds i ≡ Some c →
    length (collecting (take (i + 1) ds)) ≡ length (collecting (take i ds)) + length (collecting (c ∷ []))
collecting_next ds i c e = ap (λ (xs : List (ℕ × Command)). length (collecting xs)) (taken_more ds i c e) ∙ collecting_more (take i ds) c

pub one_collecting : (c : ℕ × Command) → collects c.1 ≡ true → length (collecting (c ∷ [])) ≡ 1
one_collecting c e = ap (λ b. length (cond b (c ∷ []) [])) e

-- a `Vec` whose slice was written holds what was written
pub written_back : {A : Type 0} (n : ℕ) (xs ys : List A) → length xs ≡ n → take n (xs ++ ys) ≡ xs
written_back {A = A} n xs ys e = subst (λ (k : ℕ). take k (xs ++ ys) ≡ xs) e (front xs) where
  front : (xs : List A) → take (length xs) (xs ++ ys) ≡ xs
  front [] = refl
  front (x ∷ xs) = ap (λ (zs : List A). x ∷ zs) (front xs)

-- what follows of a value, where there is one
pub if_ok_more : {A E : Type 0} (P Q : A → Type 0) → ((a : A) → P a → Q a) → (r : Result A E) → IfOk r P → IfOk r Q
if_ok_more P Q f (Ok a) h = f a h
if_ok_more P Q f (Err e) h = tt
