-- A section, by the contracts of the calls that it makes.
use Rattle.std.proofs.Common.{◌≡◌, ℕ, ◌+◌, ◌≤◌, List, [], ◌∷◌, ◌++◌, length, drop, refl, sym, ap, subst, ◌∙◌, arith, append-nil}
use Rattle.std.specs.Prelude.{flat_map, slice_get}
use Rattle.std.specs.List.{AllZip}
use Rattle.acct_base.specs.declared.amount.Amount.{Amount}
use Rattle.acct_base.specs.declared.register.Write.{Write}
use Rattle.acct_base.specs.declared.receipt.LineReceipt.{LineReceipt}
use Rattle.acct_base.specs.declared.sizes.Sizes.{Sizes}
use Rattle.acct_base.specs.Amounts.{IsAtMost}
use Rattle.acct_base.specs.Landings.{LandInTurn, AddInTurn}
use Rattle.acct_base.specs.Receipts.{Call, charges, app_adds, iface_adds}
use Rattle.acct_base.specs.Sums.{added}
use Rattle.shelf.specs.declared.report.SectionOut.{SectionOut}
use Rattle.shelf.specs.Shelved.{Phases}
use Rattle.captures.specs.Calls.{SectionCalls}
use Rattle.captures.specs.Honest.{IsHonestLane, IsCollected, lanes_pairs, collections, commands_of}
use Rattle.hook_engine.specs.Passes.{Pass, IsSole, recorded_reads}
use Rattle.collector.specs.Collectors.{Gathered, IsLevel}
use Rattle.lanes.specs.Lanes.{LanesRan}
use Rattle.lanes.specs.Desks.{DeskRan}
use Rattle.lanes.specs.Progress.{Progress, IsWhole}
use Rattle.lanes.specs.Sections.{SectionDone}
use Rattle.lanes.specs.Working.{Worked}
use Rattle.lanes.proofs.LaneLemmas.{LaneInTurn, lane_in_turn}
use Rattle.lanes.proofs.GatherLemmas.{gathered}
use Rattle.lanes.proofs.DeskLemmas.{desk_done}
use Rattle.lanes.proofs.Bounds.{at_most_trans, bounds, shelf_begins, shelf_long}

drop_front : {X : Type 0} (xs more : List X) → drop (length xs) (xs ++ more) ≡ more
drop_front [] more = refl
drop_front (x ∷ xs) more = drop_front xs more

module _ (budget : ℕ) (sizes : Sizes) where
  -- at most one lane, on a sole pass
  one_in_turn : (start end : Pass) (lanes : List (List (ℕ × Call))) (outs : List (List (ℕ × LineReceipt))) → length lanes ≤ 1 → IsSole budget start → LanesRan budget sizes start lanes outs end →
      LaneInTurn budget sizes start (lanes_pairs lanes outs)
  one_in_turn start end [] outs le sole h = record { land = tt; on_apps = tt; on_ifaces = tt }
  one_in_turn start end (lane ∷ []) [] le sole h = absurd h
  one_in_turn start end (lane ∷ []) (out ∷ o ∷ outs) le sole h = absurd h
  one_in_turn start end (lane ∷ l ∷ lanes) outs le sole h = absurd (omega (arith, le))
  one_in_turn start end (lane ∷ []) (out ∷ []) le sole h =
      subst (LaneInTurn budget sizes start) (sym (append-nil _)) (lane_in_turn budget sizes start end lane out h sole)

pub level_known : (c : Gathered) (known : ℕ → Amount) → IsLevel c → ((uid : ℕ) → IsAtMost (c.known uid) (known uid)) → IsLevel (record c { known = known })
level_known c known l up = record { phase = l.phase; shelved = l.shelved; recorded = λ uid. at_most_trans _ _ _ (l.recorded uid) (up uid) }

pub section_follows : (budget : ℕ) (privileged : List ℕ) (sizes : Sizes) (before : Progress) (calls : SectionCalls) (after : Progress) (out : SectionOut) → IsWhole budget before →
    Worked budget privileged sizes before calls after out → SectionDone budget privileged sizes before calls after out
section_follows budget privileged sizes before calls after out crew w =
    let regs = sizes.regs in
    let known : ℕ → Amount = w.start.gathered.known in
    let first : Gathered = record before.gathered { known = known } in
    let ran : DeskRan privileged regs before.journal first calls.desk out.replies w.end.journal w.end.gathered =
    subst (λ (x : List Write × Gathered). DeskRan privileged regs x.0 x.1 calls.desk out.replies w.end.journal w.end.gathered) (λ i. (w.met.journal i, w.met.gathered i)) w.went_on.desk in
    let met = w.met.met in
    let again = w.met_again.met in
    let pairs = lanes_pairs calls.lanes out.lanes in
    let commands = commands_of calls in
    let level = level_known before.gathered known crew.level w.met.met_apps.kept in
    let g = gathered budget sizes w.start.pass w.end.pass calls.lanes out.lanes w.went_on.lanes in
    let d = desk_done privileged regs before.journal first calls.desk out.replies w.end.journal w.end.gathered ran in
    let done = collections privileged regs before.journal commands in
    let end_level = level_known w.end.gathered after.gathered.known (d.level level) w.met_again.met_apps.kept in
    let begins = shelf_begins first done w.end.gathered d.ended in
    let long = shelf_long first done w.end.gathered d.ended in
    let phase_before = crew.level.phase in
    let phase_after = (d.level level).phase in
    -- the passes at both meetings
    let start_sole : w.start.pass.left + w.start.pass.made ≡ before.pass.left + before.pass.made = ap (λ (x : Pass). x.left + x.made) met.after_is in
    let start_left : w.start.pass.left ≡ before.pass.left = ap (λ (x : Pass). x.left) met.after_is in
    let start_seen : w.start.pass.writes ≡ before.journal = ap (λ (x : Pass). x.writes) met.after_is in
    let start_phase : w.start.pass.phase ≡ before.gathered.phase = ap (λ (x : Pass). x.phase) met.after_is in
    let end_sole : after.pass.left + after.pass.made ≡ w.end.pass.left + w.end.pass.made = ap (λ (x : Pass). x.left + x.made) again.after_is in
    let end_left : after.pass.left ≡ w.end.pass.left = ap (λ (x : Pass). x.left) again.after_is in
    let sole_before = crew.sole in
    let whole = g.whole in
    let left = g.left in
    let sole : IsSole budget after.pass = omega (arith, end_sole, whole, start_sole, sole_before) in
    let same_phases : after.gathered.phases ≡ w.end.gathered.phases = ap (λ (x : Gathered). x.phases) w.met_again.gathered in
    let shelf : after.gathered.phases ≡ before.gathered.phases ++ begins.0 = same_phases ∙ begins.1 in
    let to : ℕ = length before.gathered.phases + length done in
    let rose : w.end.pass.phase ≤ to = let up = again.rose in omega (arith, up, phase_after, long) in
    let apps_are : after.pass.apps ≡ before.pass.apps ++ flat_map app_adds pairs =
    ap (λ (x : Pass). x.apps) again.after_is ∙ g.apps ∙ (λ i. (met.after_is i).apps ++ flat_map app_adds pairs) in
    let low : (uid : ℕ) → IsAtMost (added before.pass.apps uid) (known uid) = λ uid. subst (λ (x : Pass). IsAtMost (added x.apps uid) (known uid)) met.after_is (w.met.met_apps.learnt uid) in
    let w_high : (uid : ℕ) → IsAtMost (w.end.gathered.known uid) (added after.pass.apps uid) = λ uid. at_most_trans _ _ _ (w.met_again.met_apps.kept uid) (w.met_again.met_apps.sole sole uid) in
    record {
      ran = record {
        honest = record {
          lanes = subst (λ (x : (ℕ × ℕ) × List Write). AllZip (IsHonestLane x.0.0 x.1 x.0.1 to) calls.lanes out.lanes)
              (λ i. ((length (start_seen i), (start_phase ∙ phase_before) i), d.journal_is i))
              (g.honest w.end.journal to again.knew rose);
          replies = d.replies_are;
        };
        charges = ap (λ (x : Pass). x.charges) again.after_is ∙ g.charges ∙ (λ i. (met.after_is i).charges ++ flat_map charges pairs);
        apps = apps_are;
        ifaces = ap (λ (x : Pass). x.ifaces) again.after_is ∙ g.ifaces ∙ (λ i. (met.after_is i).ifaces ++ flat_map iface_adds pairs);
        journal = w.met_again.journal ∙ d.journal_is;
        shelf = shelf ∙ ap (λ (ps : Phases). before.gathered.phases ++ ps) (sym (ap (drop (length before.gathered.phases)) shelf ∙ drop_front before.gathered.phases begins.0));
        grown = ap (λ (ps : Phases). length ps) same_phases ∙ long;
        collected = λ i c p e at.
            let fact = bounds first w.end.gathered done before.pass.apps after.pass.apps level d.ended low w_high i c p e (ap (λ (ps : Phases). slice_get ps (length before.gathered.phases + i)) (sym same_phases) ∙ at) in
            subst (λ (ps : Phases). IsCollected ps (length before.gathered.phases + i) (record { command = c; before = before.pass.apps; through = after.pass.apps }) p) (sym same_phases) fact;
      };
      reads = ap (λ (x : Pass). x.reads) again.after_is ∙ g.reads ∙ (λ i. (met.after_is i).reads ++ flat_map recorded_reads pairs);
      crew = record { sole = sole; level = subst IsLevel (sym w.met_again.gathered) end_level };
      left = omega (arith, end_left, left, start_left);
      known = w.met_again.met_apps.sole sole;
      in_turn = λ s.
          let t = one_in_turn budget sizes w.start.pass w.end.pass calls.lanes out.lanes s.one (omega (arith, start_sole, sole_before)) w.went_on.lanes in record {
            land = subst (λ (x : Pass). LandInTurn sizes.rows x.charges (flat_map charges pairs)) met.after_is t.land;
            on_apps = subst (λ (x : Pass). AddInTurn sizes.apps x.apps (flat_map app_adds pairs)) met.after_is t.on_apps;
            on_ifaces = subst (λ (x : Pass). AddInTurn sizes.ifaces x.ifaces (flat_map iface_adds pairs)) met.after_is t.on_ifaces;
          };
    }
