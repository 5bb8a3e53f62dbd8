-- What was copied from a source to a sink, piece by piece.
use Rattle.std.proofs.Common.{◌≡◌, ℕ, ◌≤◌, List, ◌++◌, length, take, drop, append_assoc, Option, Some, None, sym, ap, ◌∙◌, arith}
use Rattle.std.specs.Io.KnownBytes.{Appends}
use Rattle.std.proofs.Math.Seq.{take-append_seam}
use Rattle.std.proofs.lemmas.List.{length-take, take-append-drop}
use Rattle.outside.specs.Outside.{AppendsPrefix}

-- the bytes that a read put at the front of a buffer
pub read_front : (source piece : List ℕ) (n : ℕ) → n ≤ length source → take n (take n source ++ drop n piece) ≡ take n source
read_front source piece n within =
    let long : length (take n source) ≡ n = omega (arith, length-take n source) in
    ap (λ (m : ℕ). take m (take n source ++ drop n piece)) (sym long) ∙ take-append_seam (take n source) (drop n piece)

-- two writes, one after the other
appends_then : (a b c : Option (List ℕ)) (x y : List ℕ) → Appends a b x → Appends b c y → Appends a c (x ++ y)
appends_then None b c x y p q = tt
appends_then (Some xs) None c x y p q = absurd p
appends_then (Some xs) (Some ys) None x y p q = absurd q
appends_then (Some xs) (Some ys) (Some zs) x y p q = q ∙ ap (λ (z : List ℕ). z ++ y) p ∙ append_assoc xs x y

-- a front was written, and then a front of a piece of what is left
pub wrote_front : (old mid new : Option (List ℕ)) (bytes rest : List ℕ) (n : ℕ) → (front : List ℕ) × (bytes ≡ front ++ rest) × Appends old mid front → AppendsPrefix mid new (take n rest) → AppendsPrefix old new bytes
wrote_front old mid new bytes rest n (front, parts, got) (more, cut, piece, put) = (
  front ++ more,
  cut ++ drop n rest,
  parts ∙ ap (λ (x : List ℕ). front ++ x) (sym (take-append-drop n rest) ∙ ap (λ (x : List ℕ). x ++ drop n rest) piece ∙ append_assoc more cut (drop n rest)) ∙ sym (append_assoc front more (cut ++ drop n rest)),
  appends_then old mid new front more got put,
)
