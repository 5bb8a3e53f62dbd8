-- Section after section the walk goes where the replay went.
use Rattle.std.proofs.Common.{◌≡◌, ℕ, suc, ◌+◌, ◌≤◌, List, [], ◌∷◌, ◌++◌, length, take, drop, refl, sym, ap, subst, ◌∙◌, arith, Option, Some, None, true, length-append}
use mathlib.Core.Logic.{◌⊎◌, inl, inr}
use Rattle.std.specs.Prelude.{slice_get, flat_map, is_some}
use Rattle.std.specs.List.{AllByRecursion}
use Rattle.std.proofs.lemmas.List.{append-nil, length-take-le}
use Rattle.std.proofs.lemmas.Option.{slice_get_within}
use Rattle.acct_base.specs.declared.amount.Amount.{Amount}
use Rattle.acct_base.specs.declared.charge.Charge.{Charge}
use Rattle.acct_base.specs.declared.sizes.Sizes.{Sizes}
use Rattle.acct_base.specs.declared.amount.Snapshot.{Snapshot}
use Rattle.acct_base.specs.declared.receipt.LineReceipt.{LineReceipt}
use Rattle.acct_base.specs.Receipts.{Call, Add, charges, app_adds}
use Rattle.acct_base.specs.Sums.{added}
use Rattle.acct_base.specs.Amounts.{IsAtMost}
use Rattle.desk_core.specs.declared.command.Command.{Command}
use Rattle.desk_core.specs.declared.command.Reply.{Reply}
use Rattle.desk_core.specs.Commands.{replies, after_commands}
use Rattle.shelf.specs.declared.shelf.Deletion.{Deletion}
use Rattle.shelf.specs.declared.report.SectionOut.{SectionOut}
use Rattle.shelf.specs.Shelved.{Phases}
use Rattle.shelf.specs.Phases.{deleted_app, uid_of}
use Rattle.captures.specs.Calls.{SectionCalls}
use Rattle.captures.specs.Honest.{AppIsBounded, IsBetween, Collection, collections, commands_of, section_pairs, all_pairs, lanes_pairs, lane_pairs}
use Rattle.captures.specs.Runs.{Past, SectionRan, Ran, done_in, nothing_yet}
use Rattle.captures.proofs.Lists.{place_left, place_right}
use Rattle.captures.proofs.Along.{run_list, run_begins}
use Rattle.acct_plain.specs.Serial.{rows_from, walk_lanes, walk_desk, walk_section, walk_sections, serial, told}
use Rattle.lanes.specs.Progress.{Progress, past_of}
use Rattle.lanes.specs.Sections.{CrewRan, IsSerialSection, RanInTurn}
use Rattle.replay_main.specs.Replays.{nothing_done}
use Rattle.replay_main.specs.Replays.{ReplayIsSerial}
use Rattle.replay_main.proofs.EngineEnds.{crew_ran, still_crew, fresh_crew, close_follows}
use Rattle.replay_main.proofs.Packets.{have_packets}
use Rattle.replay_main.proofs.InOrder.{Gave, in_order}
use Rattle.replay_main.proofs.SerialLane.{after_pairs}
use Rattle.replay_main.proofs.SerialDesk.{desk_is, EndInTurn, commands_in}
use Rattle.replay_main.proofs.SerialWhole.{run_later, rows_kept, ended_is, take_next, at_most_both, lanes_are, lane_out}

abbrev pub section_out : Past → List (List (ℕ × LineReceipt)) → List (ℕ × Reply) → Past × SectionOut
section_out past lanes replies = (past, record { lanes = lanes; replies = replies })

abbrev pub sections_out : Past → List SectionOut → Past × List SectionOut
sections_out past outs = (past, outs)

-- a bound that meets itself
bounded_is : (c : Collection) (phases : Phases) (o : Option Deletion) → ((uid : ℕ) → added c.before uid ≡ added c.through uid) → AppIsBounded c (deleted_app phases (uid_of o)) o →
    (d : Deletion) → o ≡ Some d → is_some d.app ≡ true → deleted_app phases d.uid ≡ added c.through d.uid
bounded_is c phases None same h d e sure = absurd (cc)
bounded_is c phases (Some x) same h d e sure =
    let is : x ≡ d = cc in
    let between : IsBetween c x.uid (deleted_app phases x.uid) = h (ap (λ (y : Deletion). is_some y.app) is ∙ sure) in
    let here : deleted_app phases x.uid ≡ added c.through x.uid = sym (at_most_both (added c.through x.uid) (deleted_app phases x.uid) (subst (λ (a : Amount). IsAtMost a (deleted_app phases x.uid)) (same x.uid) between.least) between.most) in
    subst (λ (y : Deletion). deleted_app phases y.uid ≡ added c.through y.uid) is here

lanes_none : (ls : List (List (ℕ × Call))) (rs : List (List (ℕ × LineReceipt))) → length ls ≤ 1 → flat_map (λ lane. lane) ls ≡ [] → lanes_pairs ls rs ≡ []
lanes_none [] rs le e = refl
lanes_none (l ∷ m ∷ ls) rs le e = absurd (omega (arith, le))
lanes_none (l ∷ []) [] le e = refl
lanes_none (l ∷ []) (r ∷ rs) le e =
    let none : l ≡ [] = sym (append-nil l) ∙ e in
    ap (λ (calls : List (ℕ × Call)). lane_pairs calls r ++ lanes_pairs [] rs) none

module _ (privileged : List ℕ) (sizes : Sizes) where
  -- sections in turn, each with its marks in turn
  abbrev pub AllInTurn : Past → List SectionCalls → Past → List SectionOut → Type 0
  AllInTurn before [] after [] = before ≡ after
  AllInTurn before (c ∷ cs) after (o ∷ os) = (next : Past) × SectionRan privileged sizes.regs before c next o × RanInTurn sizes before c o × AllInTurn next cs after os
  AllInTurn before _ after _ = ⊥

  plainly : (before : Past) (cs : List SectionCalls) (after : Past) (os : List SectionOut) → AllInTurn before cs after os → Ran privileged sizes.regs before cs after os
  plainly before [] after [] h = h
  plainly before [] after (o ∷ os) h = absurd h
  plainly before (c ∷ cs) after [] h = absurd h
  plainly before (c ∷ cs) after (o ∷ os) h = (h.0, h.1, plainly h.0 cs after os h.3)

  idle_desk : (before : Past) (c : SectionCalls) (command : Command) (i : ℕ) → c.desk ≡ [] → slice_get (done_in privileged sizes.regs before c) i ≡ Some command → ⊥
  idle_desk before c command i idle e =
      let none : done_in privileged sizes.regs before c ≡ [] = ap (λ (desk : List (ℕ × Command)). collections privileged sizes.regs before.journal (commands_in desk)) idle in
      let found : slice_get {X = Command} [] i ≡ Some command = sym (ap (λ (cs : List Command). slice_get cs i) none) ∙ e in
      absurd (cc)

  section_ends : (before : Past) (c : SectionCalls) (next : Past) (o : SectionOut) (cs : List SectionCalls) (after : Past) (os : List SectionOut) →
      SectionRan privileged sizes.regs before c next o → IsSerialSection c → Ran privileged sizes.regs next cs after os →
      ((n : ℕ) (p : Snapshot × Option Deletion) → slice_get after.phases n ≡ Some p → Gave after.charges n p) →
      EndInTurn (after_pairs before (section_pairs c o)) (drop (length before.phases) next.phases) (done_in privileged sizes.regs before c)
  section_ends before c next o cs after os ran serial rest gave i command p e k =
      let pairs = section_pairs c o in
      let past = after_pairs before pairs in
      let more = drop (length before.phases) next.phases in
      let n = length before.phases + i in
      let at_next : slice_get next.phases n ≡ Some p = ap (λ (xs : Phases). slice_get xs n) ran.shelf ∙ place_right before.phases more i n refl ∙ k in
      let within = slice_get_within next.phases n p at_next in
      let within_more = slice_get_within more i p k in
      let begins = run_begins privileged sizes.regs next cs after os rest in
      let at_after : slice_get after.phases n ≡ Some p = ap (λ (xs : Phases). slice_get xs n) begins.1 ∙ place_left next.phases begins.0 n within ∙ at_next in
      let g = gave n p at_after in
      let later = flat_map charges (all_pairs cs os) in
      let charged : after.charges ≡ next.charges ++ later = run_list privileged sizes.regs (λ (x : Past). x.charges) charges (λ b c n o s. s.charges) next cs after os rest in
      let rows : g.given.rows ≡ rows_from past.charges n =
      g.rows ∙ ap (λ (xs : List Charge). rows_from xs n) charged ∙ rows_kept next.charges later n (length next.phases) within (run_later privileged sizes.regs next cs after os rest) ∙ ap (λ (xs : List Charge). rows_from xs n) ran.charges in
      let collected = ran.collected i command p e at_next in
      -- the section has a desk line, so it has no call, and adds nothing
      let none : flat_map (λ lane. lane) c.lanes ≡ [] = elim serial.apart [
        | inl idle ↦ absurd (idle_desk before c command i idle e)
        | inr quiet ↦ quiet
      ] in
      let no_pairs : pairs ≡ [] = lanes_none c.lanes o.lanes serial.one none in
      let same_apps : before.apps ≡ next.apps = sym (ran.apps ∙ ap (λ (ps : List (Call × LineReceipt)). before.apps ++ flat_map app_adds ps) no_pairs ∙ append-nil before.apps) in
      let col : Collection = record { command = command; before = before.apps; through = next.apps } in
      let front : take (suc n) next.phases ≡ (before.phases ++ take i more) ++ p ∷ [] = ap (take (suc n)) ran.shelf ∙ take_next before.phases more i (suc n) p refl k in
      let app = bounded_is col (take (suc n) next.phases) p.1 (λ uid. ap (λ (xs : List Add). added xs uid) same_apps) collected.app in
      let long : length (before.phases ++ take i more) ≡ length before.phases + length (take i more) = length-append before.phases (take i more) in
      let short : length (take i more) ≡ i = length-take-le i more (omega (arith, within_more)) in
      ended_is (record past { phases = before.phases ++ take i more }) n command p g.given (omega (arith, long, short)) g.shelved g.phase rows collected.divided
      (λ d is sure. subst (λ (xs : Phases). deleted_app xs d.uid ≡ added past.apps d.uid) front (app d is sure ∙ ap (λ (xs : List Add). added xs d.uid) ran.apps))

  section_is : (before : Past) (c : SectionCalls) (next : Past) (o : SectionOut) → SectionRan privileged sizes.regs before c next o → IsSerialSection c → RanInTurn sizes before c o →
      EndInTurn (after_pairs before (section_pairs c o)) (drop (length before.phases) next.phases) (done_in privileged sizes.regs before c) →
      walk_section privileged sizes before c ≡ section_out next o.lanes o.replies
  section_is before c next o ran serial turn ends =
      let pairs = section_pairs c o in
      let past = after_pairs before pairs in
      let more = drop (length before.phases) next.phases in
      let journal = after_commands privileged sizes.regs before.journal (commands_of c) in
      let from = length before.phases in
      let apart : ((journal ≡ before.journal) × (from + length (done_in privileged sizes.regs before c) ≡ from)) ⊎ (flat_map (λ lane. lane) c.lanes ≡ []) = elim serial.apart [
        | inl idle ↦ inl (
          ap (λ (desk : List (ℕ × Command)). after_commands privileged sizes.regs before.journal (commands_in desk)) idle,
          ap (λ (desk : List (ℕ × Command)). from + length (collections privileged sizes.regs before.journal (commands_in desk))) idle ∙ omega arith,
        )
        | inr quiet ↦ inr quiet
      ] in
      let lanes : walk_lanes sizes before c.lanes ≡ lane_out past o.lanes =
      lanes_are sizes before journal from _ c.lanes o.lanes serial.one ran.honest.lanes refl apart turn.land turn.on_apps turn.on_ifaces in
      let whole : length next.phases ≡ from + length more = ap (λ (xs : Phases). length xs) ran.shelf ∙ length-append before.phases more in
      let grown = ran.grown in
      let long : length more ≡ length (done_in privileged sizes.regs before c) = omega (arith, whole, grown) in
      let desk = desk_is privileged sizes past c.desk more long ends in
      (λ i. let w = lanes i in let d = walk_desk privileged sizes w.0 c.desk in section_out d.0 w.1 d.1)
      ∙ (λ i. section_out (desk i).0 o.lanes (desk i).1)
      ∙ (λ i. section_out (record {
        journal = sym ran.journal i;
        phases = sym ran.shelf i;
        charges = sym ran.charges i;
        apps = sym ran.apps i;
        ifaces = sym ran.ifaces i;
      }) o.lanes (sym ran.honest.replies i))

  sections_are : (before : Past) (cs : List SectionCalls) (after : Past) (os : List SectionOut) → AllInTurn before cs after os → AllByRecursion IsSerialSection cs →
      ((n : ℕ) (p : Snapshot × Option Deletion) → slice_get after.phases n ≡ Some p → Gave after.charges n p) →
      walk_sections privileged sizes before cs ≡ sections_out after os
  sections_are before [] after [] h serial gave = ap (λ (x : Past). sections_out x []) h
  sections_are before [] after (o ∷ os) h serial gave = absurd h
  sections_are before (c ∷ cs) after [] h serial gave = absurd h
  sections_are before (c ∷ cs) after (o ∷ os) h serial gave =
      let next = h.0 in
      let ran = h.1 in
      let rest = plainly next cs after os h.3 in
      let first = section_is before c next o ran serial.0 h.2 (section_ends before c next o cs after os ran serial.0 rest gave) in
      let others = sections_are next cs after os h.3 serial.1 gave in
      (λ i. let f = first i in let w = walk_sections privileged sizes f.0 cs in sections_out w.0 (f.1 ∷ w.1))
      ∙ (λ i. sections_out (others i).0 (o ∷ (others i).1))

  crew_in_turn : (budget : ℕ) (before : Progress) (cs : List SectionCalls) (after : Progress) (os : List SectionOut) → CrewRan budget privileged sizes before cs after os → AllByRecursion IsSerialSection cs →
      AllInTurn (past_of before) cs (past_of after) os
  crew_in_turn budget before [] after [] h serial = ap past_of h
  crew_in_turn budget before [] after (o ∷ os) h serial = absurd h
  crew_in_turn budget before (c ∷ cs) after [] h serial = absurd h
  crew_in_turn budget before (c ∷ cs) after (o ∷ os) h serial = (past_of h.0, h.1.ran, h.1.in_turn serial.0, crew_in_turn budget h.0 cs after os h.2 serial.1)

pub replay_is_serial : ReplayIsSerial
replay_is_serial budget asked crew outs rest r serial_sections =
    let privileged = asked.privileged in
    let sizes = asked.sizes in
    let past = past_of crew in
    let k = still_crew budget privileged sizes (nothing_done budget) asked.sections crew outs r.ran (fresh_crew budget) in
    let ran = crew_ran budget privileged sizes (nothing_done budget) asked.sections crew outs r.ran in
    let order = in_order sizes past rest.live rest.apps rest.ifaces (have_packets privileged sizes.regs asked.sections past outs ran) (close_follows sizes crew rest k.level r.closed) in
    let walk : walk_sections privileged sizes nothing_yet asked.sections ≡ sections_out past outs =
    sections_are privileged sizes nothing_yet asked.sections past outs (crew_in_turn privileged sizes budget (nothing_done budget) asked.sections crew outs r.ran serial_sections) serial_sections order.gave in
    (λ i. record {
      names = asked.names;
      sections = outs;
      journal = r.closed.journal_is i;
      phases = crew.gathered.phases;
      live = record { phase = order.live_phase i; rows = order.live_rows i };
      apps = order.apps_are i;
      ifaces = order.ifaces_are i;
    })
    ∙ (λ i. let w = sym walk i in told asked.names w.1 w.0)
