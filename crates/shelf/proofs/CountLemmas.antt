-- The counts of receipts, receipt by receipt.
use Rattle.std.proofs.Common.{◌≡◌, ℕ, ◌+◌, ◌*◌, ◌<◌, ◌≤◌, ◌^◌, Option, Some, None, List, [], ◌∷◌, ◌++◌, length, refl, sym, ap, subst, ◌∙◌, arith}
use Rattle.std.specs.Prelude.{sum_by}
use Rattle.std.proofs.lemmas.List.{length-append}
use Rattle.std.proofs.lemmas.List.Sums.{sum_by-append, sum_by_push}
use Rattle.acct_base.specs.declared.receipt.LineReceipt.{LineReceipt}
use Rattle.acct_base.specs.declared.receipt.LineReceipt.TheVariants as line
use Rattle.acct_base.specs.declared.receipt.Mark.{Mark}
use Rattle.acct_base.specs.declared.receipt.Mark.TheVariants.{Landed, Full}
use Rattle.acct_base.specs.declared.verdict.Verdict.{Verdict}
use Rattle.acct_base.specs.declared.verdict.Verdict.TheVariants.{Pass, Drop}
use Rattle.shelf.specs.declared.counts.CallCounts.{CallCounts}
use Rattle.shelf.specs.Counted.{passed, dropped, full_mark, full_marks, line_counts, counts_of, counts_together, CountsFit}

abbrev counts_with : ℕ → ℕ → ℕ → ℕ → CallCounts
counts_with a b c d = record { calls = a; passed = b; dropped = c; full = d }

same_counts : (a b c d e f g h : ℕ) → a ≡ e → b ≡ f → c ≡ g → d ≡ h → counts_with a b c d ≡ counts_with e f g h
same_counts a b c d e f g h p q r t = rw (p, q, r, t) refl

pub counts-append : (xs ys : List (ℕ × LineReceipt)) → counts_of (xs ++ ys) ≡ counts_together (counts_of xs) (counts_of ys)
counts-append xs ys = same_counts _ _ _ _ _ _ _ _ (length-append xs ys)
    (sum_by-append (λ (r : ℕ × LineReceipt). passed r.1) xs ys)
    (sum_by-append (λ (r : ℕ × LineReceipt). dropped r.1) xs ys)
    (sum_by-append (λ (r : ℕ × LineReceipt). full_marks r.1) xs ys)

counts-push : (xs : List (ℕ × LineReceipt)) (x : ℕ × LineReceipt) → counts_of (xs ++ x ∷ []) ≡ counts_together (counts_of xs) (line_counts x.1)
counts-push xs x = same_counts _ _ _ _ _ _ _ _ (length-append xs (x ∷ []))
    (sum_by_push (λ (r : ℕ × LineReceipt). passed r.1) xs x)
    (sum_by_push (λ (r : ℕ × LineReceipt). dropped r.1) xs x)
    (sum_by_push (λ (r : ℕ × LineReceipt). full_marks r.1) xs x)

-- counts with one receipt more
pub one_more : (xs : List (ℕ × LineReceipt)) (x : ℕ × LineReceipt) (c : CallCounts) → c ≡ counts_of xs → counts_together c (line_counts x.1) ≡ counts_of (xs ++ x ∷ [])
one_more xs x c is = ap (λ (t : CallCounts). counts_together t (line_counts x.1)) is ∙ sym (counts-push xs x)

-- ---- counts of few receipts fit

full_one : (mark : Option Mark) → full_mark mark ≤ 1
full_one None = omega arith
full_one (Some Landed) = omega arith
full_one (Some Full) = omega arith

few_full : (r : LineReceipt) → full_marks r ≤ 3
few_full (line.Hook r) =
    let tag = full_one r.landed_tag in
    let plain = full_one r.landed_plain in
    let app = full_one r.landed_app in
    omega (arith, tag, plain, app)
few_full (line.Iface r) = let landed = full_one r.landed in omega (arith, landed)
few_full (line.List r) = omega arith

few_passed : (r : LineReceipt) → passed r ≤ 3
few_passed (line.Hook r) = elim r.verdict as (λ (v : Verdict). passed (line.Hook (record r { verdict = v })) ≤ 3) [ Pass ↦ omega arith | Drop ↦ omega arith ]
few_passed (line.Iface r) = omega arith
few_passed (line.List r) = omega arith

few_dropped : (r : LineReceipt) → dropped r ≤ 3
few_dropped (line.Hook r) = elim r.verdict as (λ (v : Verdict). dropped (line.Hook (record r { verdict = v })) ≤ 3) [ Pass ↦ omega arith | Drop ↦ omega arith ]
few_dropped (line.Iface r) = omega arith
few_dropped (line.List r) = omega arith

sum_few : (f : LineReceipt → ℕ) → ((r : LineReceipt) → f r ≤ 3) → (rs : List (ℕ × LineReceipt)) → sum_by (λ (r : ℕ × LineReceipt). f r.1) rs ≤ 3 * length rs
sum_few f each [] = omega arith
sum_few f each (r ∷ rs) =
    let here = each r.1 in
    let rest = sum_few f each rs in
    let one : sum_by (λ (r : ℕ × LineReceipt). f r.1) (r ∷ rs) ≡ 0 + f r.1 + sum_by (λ (r : ℕ × LineReceipt). f r.1) rs = sum_by-append (λ (r : ℕ × LineReceipt). f r.1) (r ∷ []) rs in
    omega (arith, here, rest, one)

pub counts_fit : (rs : List (ℕ × LineReceipt)) → length rs ≤ 2 ^ 62 → CountsFit (counts_of rs)
counts_fit rs few =
    let passed_few = sum_few passed (λ r. few_passed r) rs in
    let dropped_few = sum_few dropped (λ r. few_dropped r) rs in
    let full_few = sum_few full_marks few_full rs in
    record {
      calls = omega (arith, few);
      passed = omega (arith, few, passed_few);
      dropped = omega (arith, few, dropped_few);
      full = omega (arith, few, full_few);
    }

-- counts with one receipt more, where there were fewer than a list may have
pub one_more_fits : (xs : List (ℕ × LineReceipt)) (x : ℕ × LineReceipt) (c : CallCounts) → c ≡ counts_of xs → length xs < 2 ^ 62 → CountsFit (counts_together c (line_counts x.1))
one_more_fits xs x c is few =
    let longer = length-append xs (x ∷ []) in
    subst CountsFit (sym (one_more xs x c is)) (counts_fit (xs ++ x ∷ []) (omega (arith, longer, few)))
