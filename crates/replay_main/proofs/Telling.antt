-- In the walk's report deletions recorded of no app more than its total.
use Rattle.std.proofs.Common.{ℕ, List, [], ◌∷◌, sym, subst}
use Rattle.std.specs.List.{AllByRecursion}
use Rattle.acct_base.specs.declared.sizes.Sizes.{Sizes}
use Rattle.acct_base.specs.Amounts.{IsAtMost}
use Rattle.shelf.specs.Phases.{deleted_app}
use Rattle.captures.specs.Calls.{SectionCalls, Asked, IsSectionInRange, IsAskedInRange}
use Rattle.captures.specs.Runs.{Past, nothing_yet}
use Rattle.acct_plain.specs.Serial.{serial, walk_section, walk_sections}
use Rattle.acct_plain.proofs.Sound.{IsSound, section_sound, none_sound}
use Rattle.acct_plain.proofs.Tables.{totals_hold}
use Rattle.dump_text.specs.Room.{AppsCoverDeletions}

sections_sound : (privileged : List ℕ) (sizes : Sizes) (past : Past) (ss : List SectionCalls) → AllByRecursion IsSectionInRange ss → IsSound sizes past → IsSound sizes (walk_sections privileged sizes past ss).0
sections_sound privileged sizes past [] range sound = sound
sections_sound privileged sizes past (s ∷ ss) range sound = sections_sound privileged sizes (walk_section privileged sizes past s).0 ss range.1 (section_sound privileged sizes past s range.0 sound)

-- ---- the walk's report

pub serial_covers : (asked : Asked) → IsAskedInRange asked → AppsCoverDeletions (serial asked)
serial_covers asked range =
    let past = (walk_sections asked.privileged asked.sizes nothing_yet asked.sections).0 in
    let sound = sections_sound asked.privileged asked.sizes nothing_yet asked.sections range (none_sound asked.sizes) in
    let totals = totals_hold asked.sizes.apps past.apps sound.apps_turn in
    record {
      ascend = totals.ascend;
      recorded = λ uid. subst (IsAtMost (deleted_app past.phases uid)) (sym (totals.amounts uid)) (sound.deleted uid);
    }
