-- No number of a row passes its word.
use Rattle.std.proofs.Common.{◌≡◌, ℕ, zero, suc, ◌+◌, ◌*◌, ◌<◌, ◌≤◌, Bool, true, false, cond, eqb, ◌&&◌, List, [], ◌∷◌, length, refl, ap, arith}
use Rattle.std.specs.Prelude.{Some, slice_get, sum_by}
use Rattle.std.proofs.lemmas.List.Sums.{sum_by-cons}
use Rattle.acct_base.specs.declared.label.Label.{Label}
use Rattle.acct_base.specs.declared.charge.Charge.{Charge}
use Rattle.grace_core.specs.declared.view.HookView.{HookView}
use Rattle.grace_core.specs.declared.state.State.{State}
use Rattle.grace_core.specs.declared.view.At.{At}
use Rattle.grace_core.specs.declared.view.At.TheVariants.{Outside, Inside, First, Second, Adding, Gone}
use Rattle.grace_core.specs.Machine.{IsValidJob, direction}
use Rattle.grace_core.specs.Sums.{pending_at, packets, bytes, is_to, weight, measure, stand, tally, share, shares, makes, made_sum, if_live}
use Rattle.grace_core.specs.Good.{side, Standing, ViewIsGood, IsGood}
use Rattle.grace_core.proofs.Items.{sum_below}

most : (b : Bool) (x m : ℕ) → x ≤ m → cond b x 0 ≤ m
most true x m l = l
most false x m l = omega arith

module _ {A : Type 0} where
  pub sum_plus : (f h : A → ℕ) (l : List A) → sum_by (λ x. f x + h x) l ≡ sum_by f l + sum_by h l
  sum_plus f h [] = refl
  sum_plus f h (x ∷ xs) = let a = sum_by-cons f x xs in let b = sum_by-cons h x xs in let c = sum_by-cons (λ y. f y + h y) x xs in let r = sum_plus f h xs in omega arith

  pub sum_times : (k : ℕ) (f : A → ℕ) (l : List A) → sum_by (λ x. k * f x) l ≡ k * sum_by f l
  sum_times k f [] = omega arith
  sum_times k f (x ∷ xs) = let a = sum_by-cons f x xs in let c = sum_by-cons (λ y. k * f y) x xs in let r = sum_times k f xs in let d : k * sum_by f (x ∷ xs) ≡ k * (f x + sum_by f xs) = ap (λ (z : ℕ). k * z) a in omega arith

  pub sum_many : (f : A → ℕ) (m : ℕ) (l : List A) → ((j : ℕ) (x : A) → slice_get l j ≡ Some x → f x ≤ m) → sum_by f l ≤ m * length l
  sum_many f m [] h = omega arith
  sum_many f m (x ∷ xs) h = let a = sum_by-cons f x xs in let r = sum_many f m xs (λ j y e. h (suc j) y e) in let k = h zero x refl in let d : length (x ∷ xs) ≡ 1 + length xs = omega arith in let e : m * length (x ∷ xs) ≡ m * (1 + length xs) = ap (λ (z : ℕ). m * z) d in omega arith

module _ (rows p n : ℕ) (l : Label) (e : ℕ) (ws : ℕ → List ℕ) where
  charge_packets : (c : Charge) → IsValidJob c.job → measure p (packets l e) c ≤ 524287
  charge_packets c ok = most (c.landed && (is_to p l c && eqb (direction c.job.dir) e)) c.job.packets 524287 ok.amount.few_packets

  charge_bytes : (c : Charge) → IsValidJob c.job → measure p (bytes l e) c ≤ 524287
  charge_bytes c ok = most (c.landed && (is_to p l c && eqb (direction c.job.dir) e)) c.job.bytes 524287 ok.amount.few_bytes

  pending_most : (i ph m cnt : ℕ) (a : At) → Standing rows ws ph m cnt a → 524287 * cnt + weight rows p a (pending_at i e) ≤ 1048574 * if_live a m
  pending_most i ph m cnt Outside k = omega arith
  pending_most i ph m cnt (Inside q c) k = let a = k.1 in let b = k.2 in omega arith
  pending_most i ph m cnt (First q c j t) k = let a = k.1 in let b = k.2 in omega arith
  pending_most i ph m cnt (Second q c j t) k = let a = k.1 in let b = k.2 in omega arith
  pending_most i ph m cnt (Adding q c j r d) k = let a = k.1 in let b = k.2 in let w = most (eqb q p && (eqb r i && (d && eqb (direction j.dir) e))) j.packets 524287 k.3.amount.few_packets in omega arith
  pending_most i ph m cnt Gone k = omega arith

  view_packets : (i : ℕ) (v : HookView) → ViewIsGood rows n ws v → sum_by (measure p (packets l e)) v.list + weight rows p v.at (pending_at i e) ≤ 1048574 * makes v
  view_packets i v ok = let a = pending_most i v.phase v.made (length v.list) v.at ok.standing in let b = sum_many (measure p (packets l e)) 524287 v.list (λ k c h. charge_packets c (ok.jobs k c h).0) in omega arith

  view_bytes : (v : HookView) → ViewIsGood rows n ws v → sum_by (measure p (bytes l e)) v.list ≤ 1048574 * makes v
  view_bytes v ok = let a = pending_most 0 v.phase v.made (length v.list) v.at ok.standing in let b = sum_many (measure p (bytes l e)) 524287 v.list (λ k c h. charge_bytes c (ok.jobs k c h).0) in omega arith

live_below : (a : At) (m n : ℕ) → m ≤ n → if_live a m ≤ if_live a n
live_below Gone m n l = omega arith
live_below _ m n l = l

pub made_below : (vs : List HookView) → made_sum vs ≤ shares vs
made_below vs = sum_below makes share vs (λ j v e. live_below v.at v.made (v.left + v.made) (omega arith))

module _ (s : State) (g : IsGood s) (p i e : ℕ) (l : Label) where
  pub made_most : made_sum s.hooks ≤ 268435456
  made_most = let a = made_below s.hooks in let b = g.shared in let c = g.size.3 in omega arith

  pub packets_most : tally p s.hooks (packets l e) + stand s.rows p s.hooks (pending_at i e) < 281474976710656
  packets_most = let f : HookView → ℕ = λ v. sum_by (measure p (packets l e)) v.list in let h : HookView → ℕ = λ v. weight s.rows p v.at (pending_at i e) in
      let a = sum_plus f h s.hooks in let b = sum_below (λ v. f v + h v) (λ v. 1048574 * makes v) s.hooks (λ j v at. view_packets s.rows p s.collector.phase l e (side s.rows s.words) i v (g.each_view j v at)) in
      let c = sum_times 1048574 makes s.hooks in let m = made_most in omega arith

  pub bytes_most : tally p s.hooks (bytes l e) < 281474976710656
  bytes_most = let b = sum_below (λ (v : HookView). sum_by (measure p (bytes l e)) v.list) (λ v. 1048574 * makes v) s.hooks (λ j v at. view_bytes s.rows p s.collector.phase l e (side s.rows s.words) v (g.each_view j v at)) in
      let c = sum_times 1048574 makes s.hooks in let m = made_most in omega arith
