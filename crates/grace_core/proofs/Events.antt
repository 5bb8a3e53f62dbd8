-- The events on the rows keep a good state.
use Rattle.std.proofs.Common.{◌≡◌, ◌≢◌, ℕ, ◌+◌, ◌*◌, ◌<◌, Bool, true, false, cond, eqb, ◌||◌, List, length, get_or, set, sym, refl, ap, ◌∙◌, ◌==◌, subst, arith, eq-eqb, ne_eqb}
use mathlib.Core.Logic.{dite}
use native.Mathlib.Decide.{ℕ_discrete}
use Rattle.std.specs.Prelude.{slice_get, Some}
use Rattle.std.proofs.lemmas.List.{set-get_or}
use Rattle.acct_base.specs.declared.charge.Job.{Job}
use Rattle.acct_base.proofs.Members.{or_right}
use Rattle.grace_core.specs.declared.view.HookView.{HookView}
use Rattle.grace_core.specs.declared.view.At.{At}
use Rattle.grace_core.specs.declared.view.At.TheVariants.{Second, Adding}
use Rattle.grace_core.specs.declared.state.State.{State}
use Rattle.row_probe.specs.Keys.{pack1, pack2}
use Rattle.row_probe.specs.Places.{place_of}
use Rattle.row_probe.proofs.Turns.{place-lt}
use Rattle.grace_core.specs.Machine.{direction, moved, next_turn, first_found, second_found, claimed, word_of, claim_first, claim_second, add_packets, add_bytes}
use Rattle.grace_core.specs.Sums.{Probe, second_at, adding_at, pending_at, weight, stand, tally}
use Rattle.grace_core.specs.Rows.{cell, RowsAreGood}
use Rattle.grace_core.specs.Good.{side, Standing, IsGood}
use Rattle.grace_core.proofs.Within.{In}
use Rattle.grace_core.proofs.Sides.{side_cell}
use Rattle.grace_core.proofs.Changes.{after_change, in_use, rows_of}
use Rattle.grace_core.proofs.Claims.{Ready, first_took, first_mine, passed, second_took, second_mine, second_passed, added_packets, added_bytes, egress_low}
use Rattle.grace_core.proofs.Bounds.{packets_most, bytes_most}

either_true : (a b : Bool) → a ≡ true → (a || b) ≡ true
either_true a b e = ap (λ (z : Bool). z || b) e

both_false : (a b : Bool) → a ≡ false → b ≡ false → (a || b) ≡ false
both_false a b e f = λ i. e i || f i

-- a claim of a free word writes the key, and of another one writes nothing
claims_free : (ws : List ℕ) (k key : ℕ) → get_or ws k 0 ≡ 0 → set ws k (claimed key (get_or ws k 0)) ≡ set ws k key
claims_free ws k key free = ap (λ (b : Bool). set ws k (cond b key (get_or ws k 0))) (eq-eqb (get_or ws k 0) 0 free)

claims_taken : (ws : List ℕ) (k key : ℕ) → get_or ws k 0 ≢ 0 → set ws k (claimed key (get_or ws k 0)) ≡ ws
claims_taken ws k key taken = ap (λ (b : Bool). set ws k (cond b key (get_or ws k 0))) (ne_eqb (get_or ws k 0) 0 taken) ∙ set-get_or ws k 0

module _ (s : State) (g : IsGood s) (id : ℕ) (v : HookView) (at : slice_get s.hooks id ≡ Some v) (p c : ℕ) (j : Job) where
  pub standing : (a : At) → v.at ≡ a → Standing s.rows (side s.rows s.words) v.phase v.made (length v.list) a
  standing a e = subst (Standing s.rows (side s.rows s.words) v.phase v.made (length v.list)) e (g.each_view id v at).standing

  module _ (t : ℕ) where
    abbrev place1 : ℕ
    place1 = word_of s.rows p (place_of j.label t s.rows) 0

    abbrev place2 : ℕ
    place2 = word_of s.rows p (place_of j.label t s.rows) 1

    abbrev found1 : ℕ
    found1 = get_or s.words (word_of s.rows p (place_of j.label t s.rows) 0) 0

    abbrev found2 : ℕ
    found2 = get_or s.words (word_of s.rows p (place_of j.label t s.rows) 1) 0

    -- a view that is to try the place of the turn, and stands at no row
    module _ (was : In p v.at) (idle : (q : Probe) → weight s.rows p v.at q ≡ 0) (r : Ready s.rows (side s.rows s.words p) v p c j t) where
      is1 : cell (side s.rows s.words p) (place_of j.label t s.rows) 0 ≡ found1
      is1 = side_cell s.rows s.words p (place_of j.label t s.rows) 0 (place-lt (pack1 j.label) (pack2 j.label) t s.rows r.turn) (omega arith)

      first_outcome : (b : Bool) (us : List ℕ) → (found1 == 0 || found1 == pack1 j.label) ≡ b → IsGood (after_change s id (cond b (moved v (Second p c j t)) (next_turn s.rows v p c j t)) us) → IsGood (after_change s id (first_found s.rows v p c j t found1) us)
      first_outcome b us e h = subst (λ (z : Bool). IsGood (after_change s id (cond z (moved v (Second p c j t)) (next_turn s.rows v p c j t)) us)) (sym e) h

      pub keeps_first_claim : IsGood (claim_first s id v p c j t)
      keeps_first_claim = dite (ℕ_discrete found1 0)
          (λ free. subst (λ (us : List ℕ). IsGood (after_change s id (first_found s.rows v p c j t found1) us)) (sym (claims_free s.words place1 (pack1 j.label) free))
          (first_outcome true (set s.words place1 (pack1 j.label)) (either_true (eqb found1 0) (eqb found1 (pack1 j.label)) (eq-eqb found1 0 free)) (first_took s g id v at p was c t j r idle (is1 ∙ free))))
          (λ taken. subst (λ (us : List ℕ). IsGood (after_change s id (first_found s.rows v p c j t found1) us)) (sym (claims_taken s.words place1 (pack1 j.label) taken))
          (dite (ℕ_discrete found1 (pack1 j.label))
          (λ mine. first_outcome true s.words (or_right (eqb found1 0) (eqb found1 (pack1 j.label)) (eq-eqb found1 (pack1 j.label) mine)) (first_mine s g id v at p was c t j r idle (is1 ∙ mine)))
          (λ other. first_outcome false s.words (both_false (eqb found1 0) (eqb found1 (pack1 j.label)) (ne_eqb found1 0 taken) (ne_eqb found1 (pack1 j.label) other))
          (passed s g id v at p was c t j r ((λ e. taken (sym is1 ∙ e)), λ e. absurd (other (sym is1 ∙ e))) (λ a b _. idle (second_at a b)) (λ a. idle (adding_at a)) (λ a b. idle (pending_at a b))))))

    module _ (here : v.at ≡ Second p c j t) where
      abbrev st2 : Standing s.rows (side s.rows s.words) v.phase v.made (length v.list) (Second p c j t)
      st2 = standing (Second p c j t) here

      was2 : In p v.at
      was2 = subst (In p) (sym here) refl

      ready2 : Ready s.rows (side s.rows s.words p) v p c j t
      ready2 = let st = st2 in record { phase = st.0; few = st.1; room = st.2; job = st.3; turn = st.4; tried = st.5 }

      is2 : cell (side s.rows s.words p) (place_of j.label t s.rows) 1 ≡ found2
      is2 = side_cell s.rows s.words p (place_of j.label t s.rows) 1 (place-lt (pack1 j.label) (pack2 j.label) t s.rows st2.4) (omega arith)

      second_outcome : (b : Bool) (us : List ℕ) → (found2 == 0 || found2 == pack2 j.label) ≡ b → IsGood (after_change s id (cond b (moved v (Adding p c j (place_of j.label t s.rows) false)) (next_turn s.rows v p c j t)) us)
          → IsGood (after_change s id (second_found s.rows v p c j t found2) us)
      second_outcome b us e h = subst (λ (z : Bool). IsGood (after_change s id (cond z (moved v (Adding p c j (place_of j.label t s.rows) false)) (next_turn s.rows v p c j t)) us)) (sym e) h

      pub keeps_second_claim : IsGood (claim_second s id v p c j t)
      keeps_second_claim = dite (ℕ_discrete found2 0)
          (λ free. subst (λ (us : List ℕ). IsGood (after_change s id (second_found s.rows v p c j t found2) us)) (sym (claims_free s.words place2 (pack2 j.label) free))
          (second_outcome true (set s.words place2 (pack2 j.label)) (either_true (eqb found2 0) (eqb found2 (pack2 j.label)) (eq-eqb found2 0 free)) (second_took s g id v at p was2 c t j ready2 here st2.6 (is2 ∙ free))))
          (λ taken. subst (λ (us : List ℕ). IsGood (after_change s id (second_found s.rows v p c j t found2) us)) (sym (claims_taken s.words place2 (pack2 j.label) taken))
          (dite (ℕ_discrete found2 (pack2 j.label))
          (λ mine. second_outcome true s.words (or_right (eqb found2 0) (eqb found2 (pack2 j.label)) (eq-eqb found2 (pack2 j.label) mine)) (second_mine s g id v at p was2 c t j ready2 here st2.6 (is2 ∙ mine)))
          (λ other. second_outcome false s.words (both_false (eqb found2 0) (eqb found2 (pack2 j.label)) (ne_eqb found2 0 taken) (ne_eqb found2 (pack2 j.label) other))
          (second_passed s g id v at p was2 c t j ready2 here st2.6 (λ e. taken (sym is2 ∙ e)) (λ e. other (sym is2 ∙ e))))))

  module _ (r : ℕ) (d : Bool) (here : v.at ≡ Adding p c j r d) where
    abbrev st3 : Standing s.rows (side s.rows s.words) v.phase v.made (length v.list) (Adding p c j r d)
    st3 = standing (Adding p c j r d) here

    was3 : In p v.at
    was3 = subst (In p) (sym here) refl

    own3 : RowsAreGood s.rows (side s.rows s.words p) (stand s.rows p s.hooks) (tally p s.hooks)
    own3 = rows_of s g p s.collector.at g.stage (in_use s g id p v at was3 s.collector.at g.stage)

    pub row_below : r < s.rows
    row_below = st3.4

    packets_at : cell (side s.rows s.words p) r (2 + 2 * direction j.dir) ≡ get_or s.words (word_of s.rows p r (2 + 2 * direction j.dir)) 0
    packets_at = let low = egress_low j.dir in side_cell s.rows s.words p r (2 + 2 * direction j.dir) st3.4 (omega arith)

    bytes_at : cell (side s.rows s.words p) r (3 + 2 * direction j.dir) ≡ get_or s.words (word_of s.rows p r (3 + 2 * direction j.dir)) 0
    bytes_at = let low = egress_low j.dir in side_cell s.rows s.words p r (3 + 2 * direction j.dir) st3.4 (omega arith)

    -- the number before it grows
    pub packets_fit : get_or s.words (word_of s.rows p r (2 + 2 * direction j.dir)) 0 < 281474976710656
    packets_fit = let o = own3 in let h = st3 in let a = o.packets_are r (direction j.dir) j.label h.4 h.3.label h.5 (egress_low j.dir) in let b = packets_most s g p r (direction j.dir) j.label in let e = packets_at in omega arith

    pub bytes_fit : get_or s.words (word_of s.rows p r (3 + 2 * direction j.dir)) 0 < 281474976710656
    bytes_fit = let o = own3 in let h = st3 in let a = o.bytes_are r (direction j.dir) j.label h.4 h.3.label h.5 (egress_low j.dir) in let b = bytes_most s g p r (direction j.dir) j.label in let e = bytes_at in omega arith

  pub keeps_add_packets : (r : ℕ) → v.at ≡ Adding p c j r false → IsGood (add_packets s id v p c j r)
  keeps_add_packets r here = let e = packets_at r false here in added_packets s g id v at p (was3 r false here) c r j false here refl (get_or s.words (word_of s.rows p r (2 + 2 * direction j.dir)) 0 + j.packets) (omega arith)

  pub keeps_add_bytes : (r : ℕ) → v.at ≡ Adding p c j r true → IsGood (add_bytes s id v p c j r)
  keeps_add_bytes r here = let e = bytes_at r true here in added_bytes s g id v at p (was3 r true here) c r j true here refl (get_or s.words (word_of s.rows p r (3 + 2 * direction j.dir)) 0 + j.bytes) (omega arith)
