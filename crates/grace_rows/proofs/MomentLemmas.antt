-- What the rule tells of each moment.
use Rattle.std.proofs.Common.{◌≡◌, ◌≢◌, ℕ, ◌+◌, Bool, false, cond, List, [], ◌++◌, map, length, sym, ap, ◌∙◌, subst, arith, eq-eqb}
use Rattle.std.specs.Prelude.{slice_get}
use Rattle.acct_base.specs.declared.charge.Landed.{Landed}
use Rattle.acct_base.specs.declared.charge.Landed.TheVariants.{Row, Full}
use Rattle.acct_base.specs.declared.label.Label.{Label}
use Rattle.acct_base.specs.Landings.{IsBelow}
use Rattle.grace_core.specs.declared.view.At.{At}
use Rattle.grace_core.specs.declared.view.At.TheVariants.{Outside, Inside, First, Second, Adding, Gone}
use Rattle.grace_core.specs.declared.state.CollectView.{CollectView}
use Rattle.grace_core.specs.declared.state.CollectAt.TheVariants.{Waiting, Draining}
use Rattle.grace_core.specs.declared.state.State.{State}
use Rattle.grace_core.specs.Good.{StageIsGood, WaitingIsGood, DrainingIsGood}
use Rattle.grace_core.specs.Machine.{exits_at}
use Rattle.grace_core.specs.Sums.{Within, insiders}
use Rattle.grace_rows.specs.declared.collect_seat.Flipped.TheInside.{Inside as Held}
use Rattle.grace_rows.specs.declared.rule.Sight.{Sight}
use Rattle.grace_rows.specs.declared.rule.Setup.{Setup}
use Rattle.grace_rows.specs.declared.rule.Spot.{Spot}
use Rattle.grace_rows.specs.FlippedInside.{IsFlipped, flipped_state}
use Rattle.grace_rows.specs.Moments.{AtEachMoment, IsRowOf, EnteredBefore}
use Rattle.grace_rows.specs.Collecting.{polled, cleared}
use Rattle.grace_rows.specs.declared.rule.Sight.TheVariants.{Hook, Collector}
use Rattle.grace_core.specs.Phases.{NobodyInside}
use Rattle.grace_rows.proofs.Shifts.{differ}
use Rattle.grace_rows.specs.Seats.{PairedState, FlippedState, stage_of, standing_after}
use Rattle.grace_rows.specs.Shown.{shown, collector_of}
use Rattle.grace_rows.specs.Sights.{hook_of, collect_of, is_hook}
use Rattle.grace_rows.specs.Spots.{landed_spots}
use Rattle.grace_rows.proofs.Collector.{at_last}

-- the row that was noted last is the label's
pub row_of : (maps : PairedState) (before spots : List Spot) (phase : ℕ) (label : Label) (answer : Landed) → IsBelow maps.rows answer → spots ≡ before ++ landed_spots phase label answer → IsRowOf maps spots phase label answer
row_of maps before spots phase label (Row row) below e = let spot : Spot = record { phase = phase; label = label; row = row } in
    (below, λ s k n. (k.spots n.0 n.1 n.2 (length before) spot (ap (λ (l : List Spot). slice_get l (length before)) (n.3 ∙ e) ∙ at_last before spot)).has)
row_of maps before spots phase label Full below e = tt

-- where a collector that flipped stands
pub stands_after : (f : Held) → IsFlipped f → (flipped_state f).collector ≡ standing_after (flipped_state f)
stands_after f h = λ i. record { phase = h.phase i; at = (h.stage ∙ ap (λ (b : Bool). stage_of b f.entered) h.clear) i }

module _ (maps : PairedState) (f : FlippedState) where
  -- those that entered have left, or are inside
  pub entered_before : f.collector ≡ record { phase = f.phase + 1; at = Waiting f.entered } → EnteredBefore maps f
  entered_before e s k same = let key : Setup = record { rows = maps.rows; calls = maps.calls } in let there = same ∙ e in let st : State = shown key s.words s.views in
      let w : WaitingIsGood st f.entered = subst (λ (c : CollectView). StageIsGood st c.at) there k.good.stage in
      let old : w.old ≡ f.phase = (let a = w.old_is in let b = ap (λ (c : CollectView). c.phase) there in omega arith) in
      subst (λ (n : ℕ). f.entered ≡ exits_at st.exits n + insiders n st.hooks) old w.entered_is

elsewhere : (live n : ℕ) (a : At) → live ≢ n → Within (λ p. p ≡ live) a → Within (λ p. p ≢ n) a
elsewhere live n Outside ne h = tt
elsewhere live n (Inside p c) ne h = λ e. ne (sym h ∙ e)
elsewhere live n (First p c j t) ne h = λ e. ne (sym h ∙ e)
elsewhere live n (Second p c j t) ne h = λ e. ne (sym h ∙ e)
elsewhere live n (Adding p c j r d) ne h = λ e. ne (sym h ∙ e)
elsewhere live n Gone ne h = tt

-- nobody is inside the old phase of a collector that drains
pub all_left : (maps : PairedState) (collector : CollectView) (phase : ℕ) → collector ≡ record { phase = phase + 1; at = Draining 0 [] } → AtEachMoment maps (λ s. collector_of s.views ≡ collector → NobodyInside phase (map hook_of s.views))
all_left maps collector phase e s k same j view there = let key : Setup = record { rows = maps.rows; calls = maps.calls } in let here = same ∙ e in let st : State = shown key s.words s.views in
    let w : DrainingIsGood st 0 [] = subst (λ (c : CollectView). StageIsGood st c.at) here k.good.stage in
    elsewhere (collector_of s.views).phase phase view.at (λ q. let b = ap (λ (c : CollectView). c.phase) here in omega arith) (w.within j view there)

-- a load that finds all exits lets the collector drain
pub poll_clears : (x y : Sight) (phase entered found : ℕ) → y ≡ polled found x → is_hook x ≡ false → (collect_of x).phase ≡ phase + 1 → (collect_of x).at ≡ Waiting entered → found ≡ entered → collect_of y ≡ record { phase = phase + 1; at = Draining 0 [] }
poll_clears (Hook view trail) y phase entered found e h p w same = absurd (differ (sym h))
poll_clears (Collector view own snapshots loads exits) y phase entered found e h p w same = ap collect_of e ∙ (λ i. record { phase = p i; at = (ap (cleared found) w ∙ ap (λ (b : Bool). cond b (Draining 0 []) (Waiting entered)) (eq-eqb found entered same)) i })
