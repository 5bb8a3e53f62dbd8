-- Bytes that are copied into a buffer, a part at a time.
use Rattle.std.proofs.Common.{rules, ◌≡◌, ℕ, ◌+◌, ◌-◌, ◌≤◌, List, [], ◌++◌, length, take, drop, sym, ap, ◌∙◌, append_assoc, arith}
use Rattle.std.proofs.Math.Seq.{take-append-add, drop-append-add, take-append_seam}
use Rattle.std.proofs.lemmas.List.{length-take, length-drop, take-append-le, drop-append-le, take-append-drop, drop-drop, drop_all, take_all}
use borrow.Rule.Slice.PartMut.{put_mid}

append-nil : (xs : List ℕ) → xs ++ [] ≡ xs
append-nil xs = search rules

-- the front of a text is in the front of a buffer, and what is left of the text stays ahead of the bytes behind it
pub copied-front : (text into copied behind : List ℕ) (at n : ℕ) → copied ≡ take n (drop at text) → length copied ≡ n → drop at text ++ behind ≡ take n (copied ++ drop n into) ++ (drop (at + n) text ++ behind)
copied-front text into copied behind at n is long =
    let front : take n (copied ++ drop n into) ≡ copied = ap (λ (m : ℕ). take m (copied ++ drop n into)) (sym long) ∙ take-append_seam copied (drop n into) in
    let parts : take n (drop at text) ++ drop (at + n) text ≡ drop at text = ap (λ (x : List ℕ). take n (drop at text) ++ x) (sym (drop-drop n at text)) ∙ take-append-drop n (drop at text) in
    sym (ap (λ (x : List ℕ). x ++ (drop (at + n) text ++ behind)) (front ∙ is) ∙ sym (append_assoc (take n (drop at text)) (drop (at + n) text) behind) ∙ ap (λ (x : List ℕ). x ++ behind) parts)

-- after a write to a buffer from a place on: the first bytes
pub written-front : (into part : List ℕ) (n more : ℕ) → n ≤ length into → more ≤ length part → take (n + more) (put_mid n (length into - n) into part) ≡ take n into ++ take more part
written-front into part n more within short =
    let long : length (take n into) ≡ n = omega (arith, length-take n into) in
    let behind = drop (length into - n) (drop n into) in
    ap (λ (m : ℕ). take (m + more) (take n into ++ (part ++ behind))) (sym long)
    ∙ take-append-add (take n into) (part ++ behind) more
    ∙ ap (λ (x : List ℕ). take n into ++ x) (take-append-le more part behind short)

-- and the bytes behind them
pub written-behind : (into part : List ℕ) (n more : ℕ) → n ≤ length into → more ≤ length part → drop more part ≡ drop more (take (length into - n) (drop n into)) → drop (n + more) (put_mid n (length into - n) into part) ≡ drop (n + more) into
written-behind into part n more within short kept =
    let long : length (take n into) ≡ n = omega (arith, length-take n into) in
    let room = length into - n in
    let behind = drop room (drop n into) in
    let none : behind ≡ [] = drop-drop room n into ∙ drop_all (n + room) into (omega arith) in
    let whole : take room (drop n into) ≡ drop n into = sym (append-nil (take room (drop n into))) ∙ ap (λ (x : List ℕ). take room (drop n into) ++ x) (sym none) ∙ take-append-drop room (drop n into) in
    ap (λ (m : ℕ). drop (m + more) (take n into ++ (part ++ behind))) (sym long)
    ∙ drop-append-add (take n into) (part ++ behind) more
    ∙ drop-append-le more part behind short
    ∙ ap (λ (x : List ℕ). drop more part ++ x) none
    ∙ append-nil (drop more part)
    ∙ kept
    ∙ ap (λ (x : List ℕ). drop more x) whole
    ∙ drop-drop more n into

-- the rest of a text is whole
pub rest-whole : (text : List ℕ) (at : ℕ) → take (length text - at) (drop at text) ≡ drop at text
rest-whole text at = take_all (length text - at) (drop at text) (omega (arith, length-drop at text))
