-- What an engine was closed with is what an honest replay ends with.
use Rattle.std.proofs.Common.{◌≡◌, ℕ, zero, suc, ◌≤◌, List, [], ◌∷◌, length, refl, sym, ap, subst, ◌∙◌, arith, Option, Some}
use Rattle.std.specs.Prelude.{slice_get}
use Rattle.std.specs.List.{AllByRecursion, AllZip}
use Rattle.std.proofs.lemmas.Option.{slice_get_within}
use Rattle.acct_base.specs.declared.amount.Snapshot.{Snapshot}
use Rattle.acct_base.specs.declared.charge.Charge.{Charge}
use Rattle.acct_base.specs.declared.register.Write.{Write}
use Rattle.acct_base.specs.declared.sizes.Sizes.{Sizes}
use Rattle.shelf.specs.declared.shelf.Deletion.{Deletion}
use Rattle.shelf.specs.declared.report.SectionOut.{SectionOut}
use Rattle.shelf.specs.Shelved.{Phases}
use Rattle.captures.specs.Calls.{SectionCalls}
use Rattle.captures.specs.Honest.{IsHonest}
use Rattle.acct_base.specs.Amounts.{IsAtMost, zero_amount}
use Rattle.acct_base.specs.Sums.{HoldsPhase, added}
use Rattle.hook_engine.specs.Ends.{Rest, EngineClosed}
use Rattle.shelf.specs.Phases.{IsShelved}
use Rattle.collector.specs.Collectors.{IsLevel}
use Rattle.captures.specs.Runs.{Closed, Ran, RunIsHonest}
use Rattle.captures.proofs.Lists.{place_left, place_right}
use Rattle.lanes.specs.Progress.{Progress, IsWhole, past_of}
use Rattle.lanes.specs.Sections.{CrewRan}
use Rattle.replay_main.specs.Replays.{nothing_done, ReplayIsHonest, report_of}

shelf_at : (given : List Snapshot) (phases : Phases) → AllZip IsShelved given phases → (n : ℕ) (p : Snapshot × Option Deletion) → slice_get phases n ≡ Some p →
    (g : Snapshot) × (slice_get given n ≡ Some g) × IsShelved g p
shelf_at [] [] h n p e = absurd cc
shelf_at [] (q ∷ ps) h n p e = absurd h
shelf_at (g ∷ gs) [] h n p e = absurd h
shelf_at (g ∷ gs) (q ∷ ps) h zero p e = (g, refl, subst (IsShelved g) (cc) h.0)
shelf_at (g ∷ gs) (q ∷ ps) h (suc n) p e = shelf_at gs ps h.1 n p e

shelf_long : (given : List Snapshot) (phases : Phases) → AllZip IsShelved given phases → length given ≡ length phases
shelf_long [] [] h = refl
shelf_long [] (p ∷ ps) h = absurd h
shelf_long (g ∷ gs) [] h = absurd h
shelf_long (g ∷ gs) (p ∷ ps) h = ap suc (shelf_long gs ps h.1)

-- with a level collector, what closing tells is what the tables hold at the end
pub close_follows : (sizes : Sizes) (crew : Progress) (rest : Rest) → IsLevel crew.gathered → EngineClosed sizes crew.pass crew.gathered.given crew.journal rest →
    Closed sizes (past_of crew) rest.live rest.apps rest.ifaces
close_follows sizes crew rest level closed =
    let given = crew.gathered.given in
    let phases = crew.gathered.phases in
    let live = rest.live in
    let long : length given ≡ length phases = shelf_long given phases level.shelved in
    record {
      phases = λ n p e.
          let at = shelf_at given phases level.shelved n p e in record {
            whole = at.0;
            shelved = at.2;
            holds = closed.phases n at.0 (place_left given (live ∷ []) n (slice_get_within given n at.0 at.1) ∙ at.1);
          };
      live_is = subst (λ (n : ℕ). HoldsPhase sizes.rows crew.pass.charges n live) long (closed.phases (length given) live (place_right given (live ∷ []) 0 (length given) (omega arith)));
      bounded = subst (λ (n : ℕ). AllByRecursion (λ (c : Charge). c.phase ≤ n) crew.pass.charges) long closed.bounded;
      apps_are = closed.apps_are;
      ifaces_are = closed.ifaces_are;
    }

-- The collector knows no more of an app than the crew added to it.
abbrev KnowsNoMore : Progress → Type 0
KnowsNoMore crew = (uid : ℕ) → IsAtMost (crew.gathered.known uid) (added crew.pass.apps uid)

module _ (budget : ℕ) (privileged : List ℕ) (sizes : Sizes) where
  pub crew_ran : (before : Progress) (cs : List SectionCalls) (after : Progress) (os : List SectionOut) → CrewRan budget privileged sizes before cs after os →
      Ran privileged sizes.regs (past_of before) cs (past_of after) os
  crew_ran before [] after [] h = ap past_of h
  crew_ran before [] after (o ∷ os) h = absurd h
  crew_ran before (c ∷ cs) after [] h = absurd h
  crew_ran before (c ∷ cs) after (o ∷ os) h = (past_of h.0, h.1.ran, crew_ran h.0 cs after os h.2)

  pub still_crew : (before : Progress) (cs : List SectionCalls) (after : Progress) (os : List SectionOut) → CrewRan budget privileged sizes before cs after os → IsWhole budget before → IsWhole budget after
  still_crew before [] after [] h k = subst (IsWhole budget) h k
  still_crew before [] after (o ∷ os) h k = absurd h
  still_crew before (c ∷ cs) after [] h k = absurd h
  still_crew before (c ∷ cs) after (o ∷ os) h k = still_crew h.0 cs after os h.2 h.1.crew

  known_on : (before : Progress) (cs : List SectionCalls) (after : Progress) (os : List SectionOut) → CrewRan budget privileged sizes before cs after os → KnowsNoMore before → KnowsNoMore after
  known_on before [] after [] h k = subst KnowsNoMore h k
  known_on before [] after (o ∷ os) h k = absurd h
  known_on before (c ∷ cs) after [] h k = absurd h
  known_on before (c ∷ cs) after (o ∷ os) h k = known_on h.0 cs after os h.2 h.1.known

pub fresh_crew : (budget : ℕ) → IsWhole budget (nothing_done budget)
fresh_crew budget =
    let none : IsAtMost zero_amount zero_amount = record { rx_packets = omega arith; rx_bytes = omega arith; tx_packets = omega arith; tx_bytes = omega arith } in
    record { sole = omega arith; level = record { phase = refl; shelved = tt; recorded = λ uid. none } }

fresh_known : (budget : ℕ) → KnowsNoMore (nothing_done budget)
fresh_known budget uid = record { rx_packets = omega arith; rx_bytes = omega arith; tx_packets = omega arith; tx_bytes = omega arith }

-- after a replay's sections the collector knows no more of an app than the crew added to it
pub still_known : (budget : ℕ) (privileged : List ℕ) (sizes : Sizes) (cs : List SectionCalls) (after : Progress) (os : List SectionOut) →
    CrewRan budget privileged sizes (nothing_done budget) cs after os → KnowsNoMore after
still_known budget privileged sizes cs after os h = known_on budget privileged sizes (nothing_done budget) cs after os h (fresh_known budget)

pub replay_is_honest : RunIsHonest → ReplayIsHonest
replay_is_honest honest budget asked crew outs rest r =
    let k = still_crew budget asked.privileged asked.sizes (nothing_done budget) asked.sections crew outs r.ran (fresh_crew budget) in
    let closed = close_follows asked.sizes crew rest k.level r.closed in
    let done = honest asked (past_of crew) outs rest.live rest.apps rest.ifaces (crew_ran budget asked.privileged asked.sizes (nothing_done budget) asked.sections crew outs r.ran) closed in
    subst (λ (j : List Write). IsHonest asked (report_of asked.names outs crew (record rest { journal = j }))) (sym r.closed.journal_is) done
