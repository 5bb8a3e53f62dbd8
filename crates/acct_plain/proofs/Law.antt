-- The report of the walk is honest.
use Rattle.std.proofs.Common.{◌≡◌, ℕ, suc, ◌+◌, List, [], ◌∷◌, ◌++◌, length, take, drop, refl, sym, ap, subst, ◌∙◌, arith, Option, Some, None, length-append}
use Rattle.std.specs.Prelude.{flat_map}
use Rattle.std.specs.List.{AllByRecursion, AllZip}
use Rattle.acct_base.specs.declared.amount.Amount.{Amount}
use Rattle.acct_base.specs.declared.register.Write.{Write}
use Rattle.acct_base.specs.declared.sizes.Sizes.{Sizes}
use Rattle.acct_base.specs.Amounts.{IsAtMost, plus}
use Rattle.acct_base.specs.Receipts.{Add, app_adds}
use Rattle.acct_base.specs.Sums.{added}
use Rattle.acct_base.proofs.SumLemmas.{total_by-append}
use Rattle.desk_core.specs.declared.command.Command.{Command}
use Rattle.shelf.specs.declared.shelf.Deletion.{Deletion}
use Rattle.shelf.specs.Shelved.{Phases}
use Rattle.shelf.specs.Phases.{deleted_app, uid_of}
use Rattle.captures.specs.Calls.{SectionCalls, IsSectionInRange}
use Rattle.captures.specs.Honest.{AppIsBounded, IsHonestLane, lanes_pairs, collections, commands_of}
use Rattle.captures.specs.Runs.{Past, SectionRan, Ran, Closed, nothing_yet, RunIsHonest}
use Rattle.acct_plain.specs.Serial.{walk_lanes, walk_desk, walk_section, walk_sections, live_snapshot, totals_from}
use Rattle.acct_plain.specs.Laws.{SerialIsHonest}
use Rattle.acct_plain.specs.Sound.{DeletedWithin}
use Rattle.acct_plain.proofs.Tables.{phase_holds, totals_hold}
use Rattle.acct_plain.proofs.Lanes.{after_pairs, lanes_past, lanes_are_honest}
use Rattle.acct_plain.proofs.Desk.{RecordsApp, desk_walked, after_commands_grow}
use Rattle.acct_plain.proofs.Sound.{IsSound, whole_phase, lanes_sound, section_sound, none_sound}

drop_whole : {X : Type 0} (xs more : List X) → drop (length xs) (xs ++ more) ≡ more
drop_whole [] more = refl
drop_whole (x ∷ xs) more = drop_whole xs more

at_most_more : (a b : Amount) → IsAtMost a (plus a b)
at_most_more a b = record { rx_packets = omega arith; rx_bytes = omega arith; tx_packets = omega arith; tx_bytes = omega arith }

at_most_is : (a b : Amount) → a ≡ b → IsAtMost a b
at_most_is a b e = subst (IsAtMost a) e (record { rx_packets = omega arith; rx_bytes = omega arith; tx_packets = omega arith; tx_bytes = omega arith })

-- a deletion that recorded all of its app is between what the sections before added and what they and this one did
between : (command : Command) (before new through : List Add) (phases : Phases) (o : Option Deletion) → through ≡ before ++ new → RecordsApp (before ++ new) phases o →
    AppIsBounded (record { command = command; before = before; through = through }) (deleted_app phases (uid_of o)) o
between command before new through phases None e h = tt
between command before new through phases (Some d) e h = λ yes.
    let all : deleted_app phases d.uid ≡ added (before ++ new) d.uid = h yes in record {
      least = subst (IsAtMost (added before d.uid)) (sym (all ∙ total_by-append _ before new)) (at_most_more (added before d.uid) (added new d.uid));
      most = at_most_is (deleted_app phases d.uid) (added through d.uid) (all ∙ ap (λ (adds : List Add). added adds d.uid) (sym e));
    }

module _ (privileged : List ℕ) (sizes : Sizes) where
  section_ran : (past : Past) (s : SectionCalls) → IsSectionInRange s → IsSound sizes past → SectionRan privileged sizes.regs past s (walk_section privileged sizes past s).0 (walk_section privileged sizes past s).1
  section_ran past s range sound =
      let lanes = walk_lanes sizes past s.lanes in
      let pairs = lanes_pairs s.lanes lanes.1 in
      let mid : Past = after_pairs past pairs in
      let same : lanes.0 ≡ mid = lanes_past sizes past s.lanes in
      let within : DeletedWithin mid.phases mid.apps = subst (λ (x : Past). DeletedWithin x.phases x.apps) same (lanes_sound privileged sizes past s.lanes range.lanes sound).deleted in
      let w = desk_walked privileged sizes mid s.desk within in
      let end = (walk_desk privileged sizes mid s.desk).0 in
      let grows = after_commands_grow privileged sizes.regs past.journal (commands_of s) in
      let done = collections privileged sizes.regs past.journal (commands_of s) in
      let to = length past.phases + length done in
      let w_long = w.long in
      let ran : SectionRan privileged sizes.regs past s end (record { lanes = lanes.1; replies = (walk_desk privileged sizes mid s.desk).1 }) = record {
        honest = record {
          lanes = subst (λ (j : List Write). AllZip (IsHonestLane (length past.journal) j (length past.phases) to) s.lanes lanes.1) (sym grows.1)
              (lanes_are_honest sizes past grows.0 to s.lanes (omega arith));
          replies = w.answers_are;
        };
        charges = w.charges_are;
        apps = w.apps_are;
        ifaces = w.ifaces_are;
        journal = w.journal_is;
        shelf = w.phases_are ∙ ap (λ (ps : Phases). past.phases ++ ps) (sym (ap (drop (length past.phases)) w.phases_are ∙ drop_whole past.phases w.more));
        grown = ap (λ (ps : Phases). length ps) w.phases_are ∙ length-append past.phases w.more ∙ ap (λ (n : ℕ). length past.phases + n) w_long;
        collected = λ i c p is at.
            let fact = w.collected i c p is at in record {
              divided = fact.0;
              app = between c past.apps (flat_map app_adds pairs) end.apps (take (suc (length past.phases + i)) end.phases) p.1 w.apps_are fact.1;
            };
      } in
      subst (λ (x : Past). SectionRan privileged sizes.regs past s (walk_desk privileged sizes x s.desk).0 (record { lanes = lanes.1; replies = (walk_desk privileged sizes x s.desk).1 })) (sym same) ran

  sections_ran : (past : Past) (ss : List SectionCalls) → AllByRecursion IsSectionInRange ss → IsSound sizes past →
      Ran privileged sizes.regs past ss (walk_sections privileged sizes past ss).0 (walk_sections privileged sizes past ss).1
  sections_ran past [] range sound = refl
  sections_ran past (s ∷ ss) range sound =
      let next = (walk_section privileged sizes past s).0 in
      (next, section_ran past s range.0 sound, sections_ran next ss range.1 (section_sound privileged sizes past s range.0 sound))

  sections_sound : (past : Past) (ss : List SectionCalls) → AllByRecursion IsSectionInRange ss → IsSound sizes past → IsSound sizes (walk_sections privileged sizes past ss).0
  sections_sound past [] range sound = sound
  sections_sound past (s ∷ ss) range sound = sections_sound (walk_section privileged sizes past s).0 ss range.1 (section_sound privileged sizes past s range.0 sound)

closed : (sizes : Sizes) (past : Past) → IsSound sizes past → Closed sizes past (live_snapshot past) (totals_from past.apps) (totals_from past.ifaces)
closed sizes past sound = record {
  phases = λ n p e. record {
    whole = whole_phase past n;
    shelved = sound.shelved n p e;
    holds = phase_holds sizes.rows n past.charges sound.valid sound.charges_turn;
  };
  live_is = phase_holds sizes.rows (length past.phases) past.charges sound.valid sound.charges_turn;
  bounded = sound.bounded;
  apps_are = totals_hold sizes.apps past.apps sound.apps_turn;
  ifaces_are = totals_hold sizes.ifaces past.ifaces sound.ifaces_turn;
}

pub law : RunIsHonest → SerialIsHonest
law honest asked range =
    let walk = walk_sections asked.privileged asked.sizes nothing_yet asked.sections in
    honest asked walk.0 walk.1 (live_snapshot walk.0) (totals_from walk.0.apps) (totals_from walk.0.ifaces)
    (sections_ran asked.privileged asked.sizes nothing_yet asked.sections range (none_sound asked.sizes))
    (closed asked.sizes walk.0 (sections_sound asked.privileged asked.sizes nothing_yet asked.sections range (none_sound asked.sizes)))
