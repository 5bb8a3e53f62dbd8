-- What the code of the steps does is the event.
use Rattle.std.proofs.Common.{◌≡◌, ◌≢◌, ℕ, ◌+◌, ◌/◌, ◌<◌, ◌≤◌, Bool, true, false, ◌&&◌, List, [], ◌∷◌, ◌++◌, length, get_or, set, sym, refl, ap, ◌∙◌, subst, arith, length-set}
use Rattle.std.specs.Prelude.{Option, Some, slice_get, nat_lt, nat_le, option_and_then}
use Rattle.std.proofs.lemmas.Bool.Decides.{nat_tests}
use Rattle.std.proofs.lemmas.List.{set-append_left, get_or_append_left}
use Rattle.std.proofs.lemmas.Bool.{and_parts}
use Rattle.acct_base.specs.declared.charge.Job.{Job}
use Rattle.acct_base.specs.Amounts.{IsValidLabel}
use Rattle.row_probe.specs.Keys.{pack1}
use Rattle.row_probe.specs.Places.{place_of}
use Rattle.grace_core.specs.declared.view.HookView.{HookView}
use Rattle.grace_core.specs.declared.view.Turn.{Turn}
use Rattle.grace_core.specs.declared.view.At.{At}
use Rattle.grace_core.specs.declared.view.At.TheVariants.{Outside, Inside, First, Adding}
use Rattle.grace_core.specs.declared.state.State.{State}
use Rattle.grace_core.specs.declared.event.Event.TheVariants as event
use Rattle.grace_core.specs.Machine.{is_valid_job, same_job, exits_at, one_more, live_phase, entered, moved, recorded, claimed, first_found, word_of, packets_column, bytes_column, split_left, split_right, claim_first, where_passes, at_hook, enter, first_claim, add, exit, split, after}
use Rattle.grace_core.specs.Turns.{turn_at, first_turn}
use Rattle.grace_core.specs.Sums.{share}
use Rattle.grace_core.specs.Good.{IsGood}
use Rattle.grace_core.proofs.Items.{at_or, at_below, sum_part, some-ne-none}
use Rattle.grace_core.proofs.Bounds.{made_below}
use Rattle.grace_core.proofs.Quiet.{room_exit}
use Rattle.grace_core.proofs.Events.{standing, packets_fit, bytes_fit}
use Rattle.grace_core.proofs.Keeps.{passes, valid_job}

-- the view that indexing gives
pub is_at : (hooks : List HookView) (id : ℕ) (v u : HookView) → slice_get hooks id ≡ Some v → u ≡ get_or hooks id u → u ≡ v
is_at hooks id v u at e = e ∙ at_or hooks id v u at

pub own_at : (hooks : List HookView) (id : ℕ) (v : HookView) → slice_get hooks id ≡ Some v → v ≡ get_or hooks id v
own_at hooks id v at = sym (at_or hooks id v v at)

pub still_there : (hooks others : List HookView) (id other : ℕ) (u w : HookView) → slice_get hooks other ≡ Some u → others ≡ set hooks id w → other < length others
still_there hooks others id other u w at e = let l = at_below hooks other u at in let m = length-set hooks id w in let n = ap length e in omega arith

is_less : (a b : ℕ) → a < b → nat_lt a b ≡ true
is_less a b l = grind (arith, nat_tests)

is_most : (a b : ℕ) → a ≤ b → nat_le a b ≡ true
is_most a b l = grind (arith, nat_tests)

pub passed_test : {A : Type 0} (b : Bool) (x : A) → b ≡ true → where_passes b x ≡ Some x
passed_test b x e = ap (λ (t : Bool). where_passes t x) e

module _ (s : State) (g : IsGood s) (id : ℕ) (v : HookView) (at : slice_get s.hooks id ≡ Some v) where
  -- the step is that of the view
  at_the_view : (next : HookView → Option State) → at_hook s id next ≡ next v
  at_the_view next = ap (option_and_then next) at

  pub there : id < length s.hooks
  there = at_below s.hooks id v at

  all_calls : v.at ≡ Outside → v.left + v.made ≤ 268435456
  all_calls out = let p = sum_part share s.hooks id v at in let q : share v ≡ v.left + v.made = ap (λ (a : At). share (moved v a)) out in let sh = g.shared in let z = g.size.3 in omega arith

  -- ---- Enter

  pub room : v.at ≡ Outside → v.left ≢ 0 → (u : HookView) → u ≡ get_or s.hooks id u → (0 < u.left) × (u.made < 268435456)
  room out some_left u e = let is = is_at s.hooks id v u at e in let l = ap (λ (x : HookView). x.left) is in let m = ap (λ (x : HookView). x.made) is in let c = all_calls out in (omega arith, omega arith)

  pub enters : v.at ≡ Outside → v.left ≢ 0 → (phase : ℕ) (hooks : List HookView) → phase ≡ s.choice / 4294967296 → ((u : HookView) → u ≡ get_or s.hooks id u → hooks ≡ set s.hooks id (entered phase u))
      → after s (event.Enter id) ≡ Some (record s { choice = s.choice + 1; hooks = hooks })
  enters out some_left phase hooks e f = at_the_view (λ view. enter s id view view.at) ∙ (ap (enter s id v) out ∙ (passed_test (nat_lt 0 v.left) (record s { choice = s.choice + 1; hooks = set s.hooks id (entered (live_phase s) v) }) (is_less 0 v.left (omega arith))
      ∙ (λ i. Some (record s { choice = s.choice + 1; hooks = sym (f v (own_at s.hooks id v at) ∙ ap (λ (z : ℕ). set s.hooks id (entered z v)) e) i }))))

  -- ---- Exit

  pub few_exits : (p c : ℕ) → v.at ≡ Inside p c → exits_at s.exits p < 268435456
  few_exits p c here = let a = room_exit s g id v at p c here in let b = made_below s.hooks in let sh = g.shared in let z = g.size.3 in omega arith

  pub exits : (p c : ℕ) → v.at ≡ Inside p c → (counts : ℕ × ℕ) (hooks : List HookView) → counts ≡ one_more s.exits p → ((u : HookView) → u ≡ get_or s.hooks id u → hooks ≡ set s.hooks id (moved u Outside))
      → after s (event.Exit id) ≡ Some (record s { exits = counts; hooks = hooks })
  exits p c here counts hooks e f = at_the_view (λ view. exit s id view view.at) ∙ (ap (exit s id v) here ∙ (λ i. Some (record s { exits = sym e i; hooks = sym (f v (own_at s.hooks id v at)) i })))

  -- ---- ClaimFirst

  label_by : (j : Job) (t : Turn) (a : At) → v.at ≡ a → first_turn j a ≡ Some t → IsValidLabel t.job.label
  label_by j t (Inside p c) here e = let k = passes (nat_lt c 2 && is_valid_job j) (turn_at p c j 0) t e in subst (λ (z : Turn). IsValidLabel z.job.label) k.1 (valid_job j (and_parts (nat_lt c 2) (is_valid_job j) k.0).1).label
  label_by j t (First p c own u) here e = let k = passes (same_job own j) (turn_at p c own u) t e in subst (λ (z : Turn). IsValidLabel z.job.label) k.1 (standing s g id v at p c own (First p c own u) here).3.label
  label_by j t _ here e = absurd (some-ne-none t (sym e))

  pub turn_label : (j : Job) (t : Turn) → first_turn j v.at ≡ Some t → IsValidLabel t.job.label
  turn_label j t e = label_by j t v.at refl e

  claim_by : (j : Job) (t : Turn) (a : At) → first_turn j a ≡ Some t → first_claim s id v j a ≡ Some (claim_first s id v t.phase t.charges t.job t.turn)
  claim_by j t (Inside p c) e = let k = passes (nat_lt c 2 && is_valid_job j) (turn_at p c j 0) t e in passed_test (nat_lt c 2 && is_valid_job j) (claim_first s id v p c j 0) k.0 ∙ ap (λ (z : Turn). Some (claim_first s id v z.phase z.charges z.job z.turn)) k.1
  claim_by j t (First p c own u) e = let k = passes (same_job own j) (turn_at p c own u) t e in passed_test (same_job own j) (claim_first s id v p c own u) k.0 ∙ ap (λ (z : Turn). Some (claim_first s id v z.phase z.charges z.job z.turn)) k.1
  claim_by j t _ e = absurd (some-ne-none t (sym e))

  pub claims_first : (j : Job) (t : Turn) → first_turn j v.at ≡ Some t → (row place found : ℕ) (words : List ℕ) (hooks : List HookView) → row ≡ place_of t.job.label t.turn s.rows → place ≡ word_of s.rows t.phase row 0 → found ≡ get_or s.words place 0
      → words ≡ set s.words place (claimed (pack1 t.job.label) found) → ((u : HookView) → u ≡ get_or s.hooks id u → hooks ≡ set s.hooks id (first_found s.rows u t.phase t.charges t.job t.turn found))
      → after s (event.ClaimFirst id j) ≡ Some (record s { words = words; hooks = hooks })
  claims_first j t e row place found words hooks is_row is_place is_found is_words is_hooks = let P : ℕ = word_of s.rows t.phase (place_of t.job.label t.turn s.rows) 0 in let p : place ≡ P = is_place ∙ ap (λ (r : ℕ). word_of s.rows t.phase r 0) is_row in
      let f : found ≡ get_or s.words P 0 = is_found ∙ ap (λ (z : ℕ). get_or s.words z 0) p in
      at_the_view (λ view. first_claim s id view j view.at) ∙ (claim_by j t v.at e ∙ (λ i. Some (record s {
        words = sym (is_words ∙ (λ k. set s.words (p k) (claimed (pack1 t.job.label) (f k)))) i;
        hooks = sym (is_hooks v (own_at s.hooks id v at) ∙ ap (λ (z : ℕ). set s.hooks id (first_found s.rows v t.phase t.charges t.job t.turn z)) f) i;
      })))

  -- ---- Add

  module _ (p c r : ℕ) (j : Job) (column place found : ℕ) where
    pub packets_sum : v.at ≡ Adding p c j r false → column ≡ packets_column j.dir → place ≡ word_of s.rows p r column → found ≡ get_or s.words place 0 → found + j.packets < 18446744073709551616
    packets_sum here e f h = let a = packets_fit s g id v at p c j r false here in let few = (standing s g id v at p c j (Adding p c j r false) here).3.amount.few_packets in
        let k : found ≡ get_or s.words (word_of s.rows p r (packets_column j.dir)) 0 = h ∙ ap (λ (z : ℕ). get_or s.words z 0) (f ∙ ap (word_of s.rows p r) e) in omega arith

    pub bytes_sum : v.at ≡ Adding p c j r true → column ≡ bytes_column j.dir → place ≡ word_of s.rows p r column → found ≡ get_or s.words place 0 → found + j.bytes < 18446744073709551616
    bytes_sum here e f h = let a = bytes_fit s g id v at p c j r true here in let few = (standing s g id v at p c j (Adding p c j r true) here).3.amount.few_bytes in
        let k : found ≡ get_or s.words (word_of s.rows p r (bytes_column j.dir)) 0 = h ∙ ap (λ (z : ℕ). get_or s.words z 0) (f ∙ ap (word_of s.rows p r) e) in omega arith

    module _ (words : List ℕ) (hooks : List HookView) where
      pub adds_packets : v.at ≡ Adding p c j r false → column ≡ packets_column j.dir → place ≡ word_of s.rows p r column → found ≡ get_or s.words place 0 → words ≡ set s.words place (found + j.packets)
          → ((u : HookView) → u ≡ get_or s.hooks id u → hooks ≡ set s.hooks id (moved u (Adding p c j r true))) → after s (event.Add id) ≡ Some (record s { words = words; hooks = hooks })
      adds_packets here e f h w k = let q : place ≡ word_of s.rows p r (packets_column j.dir) = f ∙ ap (word_of s.rows p r) e in let is : found ≡ get_or s.words (word_of s.rows p r (packets_column j.dir)) 0 = h ∙ ap (λ (z : ℕ). get_or s.words z 0) q in
          at_the_view (λ view. add s id view view.at) ∙ (ap (add s id v) here ∙ (λ i. Some (record s { words = sym (w ∙ (λ y. set s.words (q y) (is y + j.packets))) i; hooks = sym (k v (own_at s.hooks id v at)) i })))

      pub adds_bytes : v.at ≡ Adding p c j r true → column ≡ bytes_column j.dir → place ≡ word_of s.rows p r column → found ≡ get_or s.words place 0 → words ≡ set s.words place (found + j.bytes)
          → ((u : HookView) → u ≡ get_or s.hooks id u → hooks ≡ set s.hooks id (recorded u p c j true)) → after s (event.Add id) ≡ Some (record s { words = words; hooks = hooks })
      adds_bytes here e f h w k = let q : place ≡ word_of s.rows p r (bytes_column j.dir) = f ∙ ap (word_of s.rows p r) e in let is : found ≡ get_or s.words (word_of s.rows p r (bytes_column j.dir)) 0 = h ∙ ap (λ (z : ℕ). get_or s.words z 0) q in
          at_the_view (λ view. add s id view view.at) ∙ (ap (add s id v) here ∙ (λ i. Some (record s { words = sym (w ∙ (λ y. set s.words (q y) (is y + j.bytes))) i; hooks = sym (k v (own_at s.hooks id v at)) i })))

  -- ---- Split

  pub splits : (n : ℕ) → v.at ≡ Outside → n ≤ v.left → (x : HookView) (longer hooks : List HookView) → x ≡ split_right n v → longer ≡ s.hooks ++ x ∷ [] → ((u : HookView) → u ≡ get_or longer id u → hooks ≡ set longer id (split_left n u))
      → after s (event.Split id n) ≡ Some (record s { hooks = hooks })
  splits n out fits x longer hooks is_x is_longer f = let lt = there in let own : v ≡ get_or longer id v = own_at s.hooks id v at ∙ sym (ap (λ (l : List HookView). get_or l id v) is_longer ∙ get_or_append_left s.hooks (x ∷ []) v id lt) in
      let is : hooks ≡ set s.hooks id (split_left n v) ++ split_right n v ∷ [] = f v own ∙ (ap (λ (l : List HookView). set l id (split_left n v)) is_longer ∙ (set-append_left s.hooks (x ∷ []) id (split_left n v) lt ∙ ap (λ (z : HookView). set s.hooks id (split_left n v) ++ z ∷ []) is_x)) in
      at_the_view (λ view. split s id n view view.at) ∙ (ap (split s id n v) out ∙ (passed_test (nat_le n v.left) (record s { hooks = set s.hooks id (split_left n v) ++ split_right n v ∷ [] }) (is_most n v.left fits) ∙ (λ i. Some (record s { hooks = sym is i }))))

  -- ---- Join

  module _ (other : ℕ) (u : HookView) (at' : slice_get s.hooks other ≡ Some u) where
    calls_of_other : u.at ≡ Outside → u.left + u.made ≤ 268435456
    calls_of_other out = let p = sum_part share s.hooks other u at' in let q : share u ≡ u.left + u.made = ap (λ (a : At). share (moved u a)) out in let sh = g.shared in let z = g.size.3 in omega arith

    pub joined_calls : v.at ≡ Outside → u.at ≡ Outside → (v.left + u.left ≤ 536870912) × (v.made + u.made ≤ 536870912)
    joined_calls out out' = let a = all_calls out in let b = calls_of_other out' in (omega arith, omega arith)
