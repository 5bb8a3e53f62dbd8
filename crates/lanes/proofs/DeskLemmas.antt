-- The lines of a desk: its journal, its answers, and its collections one after another.
use Rattle.std.proofs.Common.{◌≡◌, ℕ, ◌+◌, ◌≤◌, ◌&&◌, List, [], ◌∷◌, length, map, refl, sym, ap, subst, ◌∙◌, arith, Option, Some, None, Bool, true, false, length-append, append-nil}
use Rattle.std.specs.Prelude.{if◌then◌else◌, zip}
use Rattle.acct_base.specs.declared.register.Write.{Write}
use Rattle.acct_base.specs.declared.sizes.RegSizes.{RegSizes}
use Rattle.desk_core.specs.declared.command.Command.{Command}
use Rattle.desk_core.specs.declared.command.Command.TheVariants as command
use Rattle.desk_core.specs.declared.command.Reply.{Reply}
use Rattle.desk_core.specs.Commands.{reply, replies, after_command, after_commands, collects, is_done}
use Rattle.captures.specs.Honest.{collections, is_collection, line_number, line_item}
use Rattle.desk_regs.specs.Desks.{Commanded}
use Rattle.collector.specs.Collectors.{Gathered, IsLevel}
use Rattle.collector.specs.Collections.{Finished}
use Rattle.shelf.specs.Shelved.{Phases}
use Rattle.lanes.specs.Desks.{CarriedOut, DeskRan, collecting}
use Rattle.lanes.proofs.ListLemmas.{one_collecting}

-- What a collecting command drops.
abbrev pub drop_of : Command → Option (ℕ × ℕ)
drop_of (command.Delete caller uid tag) = Some (uid, tag)
drop_of _ = None

-- Collections one after another.
abbrev pub AllEnded : Gathered → List Command → Gathered → Type 0
AllEnded before [] after = before ≡ after
AllEnded before (c ∷ cs) after = (next : Gathered) × Finished (drop_of c) before next × AllEnded next cs after

module _ (privileged : List ℕ) (sizes : RegSizes) where
  pub record Line (journal : List Write) (before : Gathered) (c : Command) (answer : Reply) (mid : List Write) (next : Gathered) : Type 0 where
    pub answer_is : answer ≡ reply journal privileged sizes c
    pub writes : mid ≡ after_command privileged sizes journal c
    pub ended : is_collection privileged sizes journal c ≡ true → Finished (drop_of c) before next
    pub kept : is_collection privileged sizes journal c ≡ false → next ≡ before

  no_collection : (b : Bool) → b ≡ false → b ≡ true → ⊥
  no_collection true e k = absurd (cc)
  no_collection false e k = absurd (cc)

  plain : (journal : List Write) (before : Gathered) (c : Command) (answer : Reply) (mid : List Write) (next : Gathered) → is_collection privileged sizes journal c ≡ false →
      Commanded privileged sizes journal c answer mid × (next ≡ before) → Line journal before c answer mid next
  plain journal before c answer mid next none h = record {
    answer_is = h.0.answer_is;
    writes = h.0.enacted;
    ended = λ e. absurd (no_collection (is_collection privileged sizes journal c) none e);
    kept = λ e. h.1;
  }

  line_of : (journal : List Write) (before : Gathered) (c : Command) (answer : Reply) (mid : List Write) (next : Gathered) → CarriedOut privileged sizes journal before c answer mid next →
      Line journal before c answer mid next
  line_of journal before (command.Delete caller uid tag) answer mid next h = record {
    answer_is = h.commanded.answer_is;
    writes = h.commanded.enacted;
    ended = λ e. h.done (ap is_done h.commanded.answer_is ∙ e);
    kept = λ e. h.refused (ap is_done h.commanded.answer_is ∙ e);
  }
  line_of journal before command.Collect answer mid next h = record {
    answer_is = h.0;
    writes = h.1 ∙ sym (append-nil journal);
    ended = λ e. h.3.1;
    kept = λ e. absurd (cc);
  }
  line_of journal before (command.Tag a b c d) answer mid next h = plain journal before (command.Tag a b c d) answer mid next refl h
  line_of journal before (command.Untag a) answer mid next h = plain journal before (command.Untag a) answer mid next refl h
  line_of journal before (command.Set a b c) answer mid next h = plain journal before (command.Set a b c) answer mid next refl h
  line_of journal before (command.Add a b c) answer mid next h = plain journal before (command.Add a b c) answer mid next refl h
  line_of journal before (command.Remove a b) answer mid next h = plain journal before (command.Remove a b) answer mid next refl h
  line_of journal before (command.Toggle a b) answer mid next h = plain journal before (command.Toggle a b) answer mid next refl h
  line_of journal before (command.Firewall a b c) answer mid next h = plain journal before (command.Firewall a b c) answer mid next refl h
  line_of journal before (command.Replace a b) answer mid next h = plain journal before (command.Replace a b) answer mid next refl h

  and_left : (a b : Bool) → (a && b) ≡ true → a ≡ true
  and_left true b e = refl
  and_left false b e = absurd (cc)

  -- a command ends at most one phase, and only where it collects
  pub phase_step : (journal : List Write) (before : Gathered) (c : ℕ × Command) (answer : Reply) (mid : List Write) (next : Gathered) → IsLevel before → CarriedOut privileged sizes journal before c.1 answer mid next →
      next.phase ≤ before.phase + length (collecting (c ∷ []))
  phase_step journal before c answer mid next level h =
      let line = line_of journal before c.1 answer mid next h in
      let step : (b : Bool) → is_collection privileged sizes journal c.1 ≡ b → next.phase ≤ before.phase + length (collecting (c ∷ [])) =
      λ b. elim b as (λ b. is_collection privileged sizes journal c.1 ≡ b → next.phase ≤ before.phase + length (collecting (c ∷ []))) [
        | true ↦ λ e.
            let f = line.ended e in
            let long : length next.phases ≡ length before.phases + 1 = ap (λ (ps : Phases). length ps) f.put ∙ length-append before.phases (f.shelved ∷ []) in
            let one = one_collecting c (and_left (collects c.1) (is_done (reply journal privileged sizes c.1)) e) in
            let up = f.level.phase in
            let from = level.phase in
            omega (arith, long, one, up, from)
        | false ↦ λ e. let same : next.phase ≡ before.phase = ap (λ (x : Gathered). x.phase) (line.kept e) in omega (arith, same)
      ] in
      step (is_collection privileged sizes journal c.1) refl

  -- What a desk did.
  pub record DeskDone (journal : List Write) (before : Gathered) (desk : List (ℕ × Command)) (out : List (ℕ × Reply)) (journal_after : List Write) (after : Gathered) : Type 0 where
    pub journal_is : journal_after ≡ after_commands privileged sizes journal (map line_item desk)
    pub replies_are : out ≡ zip (map line_number desk) (replies privileged sizes journal (map line_item desk))
    pub ended : AllEnded before (collections privileged sizes journal (map line_item desk)) after
    pub level : IsLevel before → IsLevel after

  pub desk_done : (journal : List Write) (before : Gathered) (desk : List (ℕ × Command)) (out : List (ℕ × Reply)) (journal_after : List Write) (after : Gathered) →
      DeskRan privileged sizes journal before desk out journal_after after → DeskDone journal before desk out journal_after after
  desk_done journal before [] [] journal_after after h = record { journal_is = sym h.0; replies_are = refl; ended = h.1; level = λ l. subst IsLevel h.1 l }
  desk_done journal before [] (r ∷ rs) journal_after after h = absurd h
  desk_done journal before (c ∷ cs) [] journal_after after h = absurd h
  desk_done journal before (c ∷ cs) (r ∷ rs) journal_after after h =
      let line = line_of journal before c.1 r.1 h.0 h.1 h.2 in
      let next : Gathered = h.1 in
      let rest = subst (λ (j : List Write). DeskDone j next cs rs journal_after after) line.writes (desk_done h.0 next cs rs journal_after after h.4) in
      let others = collections privileged sizes (after_command privileged sizes journal c.1) (map line_item cs) in
      let ends : (b : Bool) → is_collection privileged sizes journal c.1 ≡ b → AllEnded before (if b then c.1 ∷ others else others) after =
      λ b. elim b as (λ b. is_collection privileged sizes journal c.1 ≡ b → AllEnded before (if b then c.1 ∷ others else others) after) [
        | true ↦ λ e. (next, line.ended e, rest.ended)
        | false ↦ λ e. subst (λ (x : Gathered). AllEnded x others after) (line.kept e) rest.ended
      ] in
      let levels : IsLevel before → (b : Bool) → is_collection privileged sizes journal c.1 ≡ b → IsLevel next =
      λ l b. elim b as (λ b. is_collection privileged sizes journal c.1 ≡ b → IsLevel next) [
        | true ↦ λ e. (line.ended e).level
        | false ↦ λ e. subst IsLevel (sym (line.kept e)) l
      ] in
      record {
        journal_is = rest.journal_is;
        replies_are = λ i. (h.3 i, line.answer_is i) ∷ rest.replies_are i;
        ended = ends (is_collection privileged sizes journal c.1) refl;
        level = λ l. rest.level (levels l (is_collection privileged sizes journal c.1) refl);
      }
