-- What the views add up to, where one of them changes.
use Rattle.std.proofs.Common.{◌≡◌, ◌≢◌, ℕ, Bool, cond, eqb, List, set, refl, ap, eq-eqb, ne_eqb}
use Rattle.std.specs.Prelude.{Some, slice_get, sum_by}
use Rattle.grace_core.specs.declared.view.HookView.{HookView}
use Rattle.grace_core.specs.Sums.{Probe, weight, stand, Measure, measure, tally}
use Rattle.grace_core.proofs.Items.{sum_same}

abbrev pub flag : Bool → ℕ
flag b = cond b 1 0

pub one_here : (n : ℕ) → flag (eqb n n) ≡ 1
one_here n = ap flag (eq-eqb n n refl)

pub none_else : (p n : ℕ) → p ≢ n → flag (eqb p n) ≡ 0
none_else p n ne = ap flag (ne_eqb p n ne)

pub stand_same : (rows n : ℕ) (vs : List HookView) (id : ℕ) (v w : HookView) → slice_get vs id ≡ Some v → ((q : Probe) → weight rows n w.at q ≡ weight rows n v.at q)
    → stand rows n (set vs id w) ≡ stand rows n vs
stand_same rows n vs id v w at same = λ i q. sum_same (λ (x : HookView). weight rows n x.at q) vs id v w at (same q) i

pub tally_same : (n : ℕ) (vs : List HookView) (id : ℕ) (v w : HookView) → slice_get vs id ≡ Some v → ((m : Measure) → sum_by (measure n m) w.list ≡ sum_by (measure n m) v.list) → tally n (set vs id w) ≡ tally n vs
tally_same n vs id v w at same = λ i m. sum_same (λ (x : HookView). sum_by (measure n m) x.list) vs id v w at (same m) i
