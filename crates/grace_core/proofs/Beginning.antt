-- The first state is good.
use Rattle.std.proofs.Common.{◌≡◌, ℕ, zero, suc, ◌+◌, ◌*◌, ◌%◌, ◌≤◌, Bool, true, false, cond, eqb, List, [], ◌∷◌, length, replicate, get_or, take, drop, sym, refl, ◌∙◌, subst, arith}
use Rattle.std.specs.Prelude.{Some, slice_get}
use Rattle.grace_core.proofs.Items.{some-injective, some-ne-none}
use native.Mathlib.Decide.{dec_le}
use mathlib.Core.Logic.{dite}
use lib.ListN.{length-take, length-drop, get_or-eq_default, get_or-replicate, length-replicate}
use Rattle.std.proofs.lemmas.List.{get_or-take, get_or-drop}
use Rattle.acct_base.specs.declared.label.Label.{Label}
use Rattle.grace_core.specs.declared.view.HookView.{HookView}
use Rattle.grace_core.specs.declared.view.At.TheVariants.{Outside}
use Rattle.grace_core.specs.declared.state.State.{State}
use Rattle.grace_core.specs.declared.state.CollectAt.TheVariants.{Resting}
use Rattle.grace_core.specs.Sums.{Within, Probe, Measure, landed, missed, stand, tally}
use Rattle.grace_core.specs.Rows.{RowsAreGood}
use Rattle.grace_core.specs.Good.{side, ViewIsGood, IsGood}
use Rattle.row_probe.proofs.Packing.{pack1-ne-zero}

abbrev pub starting : ℕ → ℕ → List ℕ → State
starting rows calls words = record {
  rows = rows;
  budget = calls;
  choice = 0;
  exits = (0, 0);
  words = words;
  hooks = record { left = calls; made = 0; phase = 0; at = Outside; list = [] } ∷ [];
  collector = record { phase = 0; at = Resting };
  snapshots = [];
}

abbrev pub AllZero : List ℕ → Type 0
AllZero ws = (i : ℕ) → get_or ws i 0 ≡ 0

pub replicate_zero : (n : ℕ) → AllZero (replicate n 0)
replicate_zero n i = dite (dec_le (i + 1) n) (λ lt. get_or-replicate n i 0 0 (omega arith)) (λ ge. get_or-eq_default (replicate n 0) 0 (let l = length-replicate n (let z : ℕ = 0 in z) in omega arith))

take_zero : (n : ℕ) (ws : List ℕ) → AllZero ws → AllZero (take n ws)
take_zero n ws z i = dite (dec_le (i + 1) n) (λ lt. get_or-take n ws i 0 (omega arith) ∙ z i) (λ ge. get_or-eq_default (take n ws) 0 (let l = length-take n ws in omega arith))

drop_zero : (n : ℕ) (ws : List ℕ) → AllZero ws → AllZero (drop n ws)
drop_zero n ws z i = get_or-drop n ws i 0 ∙ z (n + i)

half_zero : (b : Bool) (n : ℕ) (ws : List ℕ) → AllZero ws → AllZero (cond b (take n ws) (drop n ws))
half_zero true n ws z = take_zero n ws z
half_zero false n ws z = drop_zero n ws z

half_wide : (b : Bool) (rows : ℕ) (ws : List ℕ) → length ws ≡ 12 * rows → length (cond b (take (6 * rows) ws) (drop (6 * rows) ws)) ≡ 6 * rows
half_wide true rows ws l = length-take (6 * rows) ws ∙ (omega arith)
half_wide false rows ws l = length-drop (6 * rows) ws ∙ (omega arith)

pub side_wide : (rows : ℕ) (ws : List ℕ) (p : ℕ) → length ws ≡ 12 * rows → length (side rows ws p) ≡ 6 * rows
side_wide rows ws p l = half_wide (eqb (p % 2) 0) rows ws l

-- rows without keys, in a phase without charges
pub rows_zero : (rows : ℕ) (ws : List ℕ) (S : Probe → ℕ) (T : Measure → ℕ) → length ws ≡ 6 * rows → AllZero ws → ((l : Label) → (T (landed l) ≡ 0) × (T (missed l) ≡ 0)) → RowsAreGood rows ws S T
rows_zero rows ws S T wide z none = record {
  wide = wide;
  keyed = λ i li e. z (6 * i + 1);
  label = λ i li ne. absurd (ne (z (6 * i + 1)));
  claimed = λ i li ne e. absurd (ne (z (6 * i + 0)));
  earlier = λ i t l lt e is h. absurd (pack1-ne-zero l (sym h.0 ∙ z (6 * i + 0)));
  packets_are = λ i e l li is h le. absurd (pack1-ne-zero l (sym h.0 ∙ z (6 * i + 0)));
  bytes_are = λ i e l li is h le. absurd (pack1-ne-zero l (sym h.0 ∙ z (6 * i + 0)));
  blank = λ i c li e lo hi. z (6 * i + c);
  used = λ i l li is h. absurd (pack1-ne-zero l (sym h.0 ∙ z (6 * i + 0)));
  placed = λ l is m. let n = (none l).0 in absurd (omega arith);
  filled = λ l is m. let n = (none l).1 in absurd (omega arith);
}

one_view : (P : HookView → Type 0) (v : HookView) → P v → (j : ℕ) (u : HookView) → slice_get (v ∷ []) j ≡ Some u → P u
one_view P v p zero u e = subst P (some-injective v u e) p
one_view P v p (suc j) u e = absurd (some-ne-none u (sym e))

pub keeps_start : (rows budget : ℕ) (words : List ℕ) → 1 ≤ rows → rows ≤ 5000 → budget ≤ 268435456 → length words ≡ 12 * rows → AllZero words → IsGood (starting rows budget words)
keeps_start rows budget words least few fits wide z = let v : HookView = record { left = budget; made = 0; phase = 0; at = Outside; list = [] } in record {
  size = (least, few, wide, fits);
  shared = let e : 0 + (budget + 0) ≡ budget = omega arith in e;
  choice_is = refl;
  phases = omega arith;
  entries = omega arith;
  each_view = one_view (ViewIsGood rows 0 (side rows words)) v record { phase = omega arith; standing = omega arith; called = tt; jobs = λ k c e. absurd (some-ne-none c (sym e)) };
  rows_now = rows_zero rows (side rows words 0) (stand rows 0 (v ∷ [])) (tally 0 (v ∷ [])) (side_wide rows words 0 wide) (half_zero true (6 * rows) words z) (λ l. (refl, refl));
  stage = record { within = one_view (λ u. Within (λ p. p ≡ 0) u.at) v tt; clear = half_zero false (6 * rows) words z; no_exits = refl };
  count = refl;
  snaps = λ n p e. absurd (some-ne-none p (sym e));
}
