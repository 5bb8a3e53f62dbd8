-- What several calls together do to the bytes that a source has left, and to those that a sink has got.
use Rattle.std.proofs.Common.{◌≡◌, ℕ, ◌+◌, ◌≤◌, List, ◌++◌, length, length-append, take, drop, append_assoc, Option, Some, None, Result, Ok, Err, OnErr, sym, ap, ◌∙◌, arith}
use Rattle.std.specs.Io.KnownBytes.{Appends, Consumes}
use Rattle.std.proofs.lemmas.List.{take-append-drop}

-- two writes, one after the other
appends_then : (a b c : Option (List ℕ)) (x y : List ℕ) → Appends a b x → Appends b c y → Appends a c (x ++ y)
appends_then None b c x y p q = tt
appends_then (Some xs) None c x y p q = absurd p
appends_then (Some xs) (Some ys) None x y p q = absurd q
appends_then (Some xs) (Some ys) (Some zs) x y p q = q ∙ ap (λ (z : List ℕ). z ++ y) p ∙ append_assoc xs x y

-- a front was written, and then a front of what is left of the bytes
pub wrote_more : (old mid new : Option (List ℕ)) (bytes rest behind : List ℕ) (n : ℕ) → (front : List ℕ) × (bytes ≡ front ++ rest) × Appends old mid front → Appends mid new (take n rest) → behind ≡ drop n rest → (front : List ℕ) × (bytes ≡ front ++ behind) × Appends old new front
wrote_more old mid new bytes rest behind n (front, parts, got) more is =
    (front ++ take n rest, parts ∙ ap (λ (x : List ℕ). front ++ x) (sym (take-append-drop n rest)) ∙ sym (append_assoc front (take n rest) (drop n rest)) ∙ ap (λ (x : List ℕ). (front ++ take n rest) ++ x) (sym is), appends_then old mid new front (take n rest) got more)

-- two reads, one after the other
pub consumes_then : (a b c : Option (List ℕ)) (x y : List ℕ) → Consumes a b x → Consumes b c y → Consumes a c (x ++ y)
consumes_then None b c x y p q = tt
consumes_then (Some xs) None c x y p q = absurd p
consumes_then (Some xs) (Some ys) None x y p q = absurd q
consumes_then (Some xs) (Some ys) (Some zs) x y p q = p ∙ ap (λ (z : List ℕ). x ++ z) q ∙ sym (append_assoc x y zs)

-- the bytes of two reads are no more than so many
pub consumes_up_to : (a b c : Option (List ℕ)) (x y : List ℕ) (most : ℕ) → length x + length y ≤ most → Consumes a b x → Consumes b c y → (front : List ℕ) × (length front ≤ most) × Consumes a c front
consumes_up_to a b c x y most few p q = (x ++ y, omega (arith, length-append x y), consumes_then a b c x y p q)

-- a fact that holds in any case holds after an error
pub on_err : {T E P : Type 0} (r : Result T E) → P → OnErr r P
on_err (Ok x) p = tt
on_err (Err e) p = p
