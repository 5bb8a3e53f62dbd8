-- What a tally is told is what the report says.
use Rattle.std.proofs.Common.{◌≡◌, ℕ, List, [], ◌∷◌, ◌++◌, sym, ap, ◌∙◌, append_assoc, append-nil}
use Rattle.std.specs.Prelude.{flat_map}
use Rattle.std.proofs.lemmas.Grind.{flat_map-append}
use Rattle.acct_base.specs.declared.register.Key.{Key}
use Rattle.acct_base.specs.declared.register.Seen.{Seen}
use Rattle.acct_base.specs.declared.sizes.Sizes.{Sizes}
use Rattle.acct_base.specs.Receipts.{charges, app_adds, iface_adds}
use Rattle.shelf.specs.declared.report.SectionOut.{SectionOut}
use Rattle.captures.specs.Calls.{SectionCalls}
use Rattle.captures.specs.Honest.{section_pairs, all_pairs}
use Rattle.captures.specs.Runs.{Past, nothing_yet}
use Rattle.captures.proofs.Along.{run_list}
use Rattle.hook_engine.specs.Passes.{recorded_reads}
use Rattle.lanes.specs.Progress.{Progress, past_of}
use Rattle.lanes.specs.Sections.{CrewRan}
use Rattle.replay_main.specs.Replays.{nothing_done, ReplayIsTold}
use Rattle.replay_main.proofs.EngineEnds.{crew_ran, still_crew, fresh_crew}

crew_reads : (budget : ℕ) (privileged : List ℕ) (sizes : Sizes) (before : Progress) (cs : List SectionCalls) (after : Progress) (os : List SectionOut) → CrewRan budget privileged sizes before cs after os →
    after.pass.reads ≡ before.pass.reads ++ flat_map recorded_reads (all_pairs cs os)
crew_reads budget privileged sizes before [] after [] h = sym (ap (λ (x : Progress). x.pass.reads) h) ∙ sym (append-nil before.pass.reads)
crew_reads budget privileged sizes before [] after (o ∷ os) h = absurd h
crew_reads budget privileged sizes before (c ∷ cs) after [] h = absurd h
crew_reads budget privileged sizes before (c ∷ cs) after (o ∷ os) h =
    crew_reads budget privileged sizes h.0 cs after os h.2
    ∙ ap (λ (xs : List (Key × Seen)). xs ++ flat_map recorded_reads (all_pairs cs os)) h.1.reads
    ∙ append_assoc before.pass.reads (flat_map recorded_reads (section_pairs c o)) (flat_map recorded_reads (all_pairs cs os))
    ∙ ap (λ (xs : List (Key × Seen)). before.pass.reads ++ xs) (sym (flat_map-append recorded_reads (section_pairs c o) (all_pairs cs os)))

pub replay_is_told : ReplayIsTold
replay_is_told budget asked crew outs rest before after r e =
    let privileged = asked.privileged in
    let regs = asked.sizes.regs in
    let past = past_of crew in
    let ran = crew_ran budget privileged asked.sizes (nothing_done budget) asked.sections crew outs r.ran in
    let k = still_crew budget privileged asked.sizes (nothing_done budget) asked.sections crew outs r.ran (fresh_crew budget) in
    record {
      charges = e.charges ∙ (λ i. before.charges ++ run_list privileged regs (λ (x : Past). x.charges) charges (λ b c n o s. s.charges) nothing_yet asked.sections past outs ran i);
      apps = e.apps ∙ (λ i. before.apps ++ run_list privileged regs (λ (x : Past). x.apps) app_adds (λ b c n o s. s.apps) nothing_yet asked.sections past outs ran i);
      ifaces = e.ifaces ∙ (λ i. before.ifaces ++ run_list privileged regs (λ (x : Past). x.ifaces) iface_adds (λ b c n o s. s.ifaces) nothing_yet asked.sections past outs ran i);
      reads = e.reads ∙ (λ i. before.reads ++ crew_reads budget privileged asked.sizes (nothing_done budget) asked.sections crew outs r.ran i);
      given = crew.gathered.given;
      snapshots = e.snapshots;
      shelved = k.level.shelved;
    }
