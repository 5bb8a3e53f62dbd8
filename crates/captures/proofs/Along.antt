-- Section after section: what the crew has at the end is what honesty speaks of.
use Rattle.std.proofs.Common.{◌≡◌, ℕ, suc, ◌+◌, ◌<◌, List, [], ◌∷◌, ◌++◌, length, take, drop, map, refl, sym, ap, subst, ◌∙◌, arith, Option, Some, None, append_assoc}
use Rattle.std.specs.Prelude.{slice_get, flat_map, option_map}
use Rattle.std.proofs.lemmas.List.Sums.{fold-append}
use Rattle.std.proofs.lemmas.List.{append-nil, take-append-le, length-map}
use Rattle.std.proofs.Common.{length-append, ◌-◌, inl, inr}
use Rattle.std.proofs.lemmas.Bool.{cases_lt}
use Rattle.std.proofs.lemmas.Grind.{flat_map-append}
use Rattle.std.proofs.lemmas.Option.{slice_get-map}
use Rattle.acct_base.specs.declared.register.Write.{Write}
use Rattle.acct_base.specs.declared.sizes.RegSizes.{RegSizes}
use Rattle.acct_base.specs.declared.amount.Snapshot.{Snapshot}
use Rattle.acct_base.specs.declared.receipt.LineReceipt.{LineReceipt}
use Rattle.acct_base.specs.Receipts.{Call, Add, app_adds}
use Rattle.desk_core.specs.declared.command.Command.{Command}
use Rattle.desk_core.specs.Commands.{after_command, after_commands}
use Rattle.shelf.specs.declared.shelf.Deletion.{Deletion}
use Rattle.shelf.specs.Shelved.{Phases}
use Rattle.shelf.specs.declared.report.SectionOut.{SectionOut}
use Rattle.shelf.specs.Phases.{deleted_app, uid_of}
use Rattle.captures.specs.Calls.{SectionCalls}
use Rattle.captures.specs.Honest.{SectionsAreHonest, IsCollected, AppIsBounded, Collection, collections_of, commands_of, section_pairs, all_pairs}
use Rattle.captures.specs.Runs.{Past, SectionRan, Ran, done_in}
use Rattle.captures.proofs.Lists.{place_left, place_right}

module _ (privileged : List ℕ) (sizes : RegSizes) where
  -- sections that ran are honest
  pub run_sections : (before : Past) (cs : List SectionCalls) (after : Past) (os : List SectionOut) → Ran privileged sizes before cs after os →
      SectionsAreHonest privileged sizes before.journal (length before.phases) cs os
  run_sections before [] after [] h = tt
  run_sections before [] after (o ∷ os) h = absurd h
  run_sections before (c ∷ cs) after [] h = absurd h
  run_sections before (c ∷ cs) after (o ∷ os) h = (
    h.1.honest,
    subst (λ (x : List Write × ℕ). SectionsAreHonest privileged sizes x.0 x.1 cs os) (λ i. (h.1.journal i, h.1.grown i)) (run_sections h.0 cs after os h.2),
  )

  -- the journal grows by what their commands write
  pub run_journal : (before : Past) (cs : List SectionCalls) (after : Past) (os : List SectionOut) → Ran privileged sizes before cs after os →
      after.journal ≡ after_commands privileged sizes before.journal (flat_map commands_of cs)
  run_journal before [] after [] h = sym (ap (λ (x : Past). x.journal) h)
  run_journal before [] after (o ∷ os) h = absurd h
  run_journal before (c ∷ cs) after [] h = absurd h
  run_journal before (c ∷ cs) after (o ∷ os) h =
      run_journal h.0 cs after os h.2
      ∙ ap (λ j. after_commands privileged sizes j (flat_map commands_of cs)) h.1.journal
      ∙ sym (fold-append (after_command privileged sizes) before.journal (commands_of c) (flat_map commands_of cs))

  -- each list grows by what their receipts say
  pub run_list : {A : Type 0} (of : Past → List A) (f : Call × LineReceipt → List A)
      (step : (b : Past) (c : SectionCalls) (n : Past) (o : SectionOut) → SectionRan privileged sizes b c n o → of n ≡ of b ++ flat_map f (section_pairs c o))
      (before : Past) (cs : List SectionCalls) (after : Past) (os : List SectionOut) → Ran privileged sizes before cs after os →
      of after ≡ of before ++ flat_map f (all_pairs cs os)
  run_list of f step before [] after [] h = sym (ap of h) ∙ sym (append-nil (of before))
  run_list of f step before [] after (o ∷ os) h = absurd h
  run_list of f step before (c ∷ cs) after [] h = absurd h
  run_list {A} of f step before (c ∷ cs) after (o ∷ os) h =
      run_list of f step h.0 cs after os h.2
      ∙ ap (λ (xs : List A). xs ++ flat_map f (all_pairs cs os)) (step before c h.0 o h.1)
      ∙ append_assoc (of before) (flat_map f (section_pairs c o)) (flat_map f (all_pairs cs os))
      ∙ ap (λ (xs : List A). of before ++ xs) (sym (flat_map-append f (section_pairs c o) (all_pairs cs os)))

  -- the phases grow at their end
  pub run_begins : (before : Past) (cs : List SectionCalls) (after : Past) (os : List SectionOut) → Ran privileged sizes before cs after os →
      (more : Phases) × (after.phases ≡ before.phases ++ more)
  run_begins before [] after [] h = ([], sym (ap (λ (x : Past). x.phases) h) ∙ sym (append-nil before.phases))
  run_begins before [] after (o ∷ os) h = absurd h
  run_begins before (c ∷ cs) after [] h = absurd h
  run_begins before (c ∷ cs) after (o ∷ os) h =
      let rest = run_begins h.0 cs after os h.2 in
      let own = drop (length before.phases) h.0.phases in
      (own ++ rest.0, rest.1 ∙ ap (λ (xs : Phases). xs ++ rest.0) h.1.shelf ∙ append_assoc before.phases own rest.0)

  -- how many snapshots there are, from a journal and adds on
  abbrev pub Count : Past → ℕ → List Write → List Add → List SectionCalls → List SectionOut → Type 0
  Count after long journal apps cs os = length after.phases ≡ long + length (collections_of privileged sizes journal apps cs os)

  abbrev pub Grew : Past → ℕ → List Write → List Add → List SectionCalls → List SectionOut → Type 0
  Grew after long journal apps cs os = (n : ℕ) (c : Collection) (p : Snapshot × Option Deletion) →
      slice_get (collections_of privileged sizes journal apps cs os) n ≡ Some c → slice_get after.phases (long + n) ≡ Some p →
      IsCollected after.phases (long + n) c p

  abbrev pub made : List Add → List Add → Command → Collection
  made before through command = record { command = command; before = before; through = through }

  pub run_count : (before : Past) (cs : List SectionCalls) (after : Past) (os : List SectionOut) → Ran privileged sizes before cs after os →
      length after.phases ≡ length before.phases + length (collections_of privileged sizes before.journal before.apps cs os)
  run_count before [] after [] h = let same : length before.phases ≡ length after.phases = ap (λ (x : Past). length x.phases) h in omega (arith, same)
  run_count before [] after (o ∷ os) h = absurd h
  run_count before (c ∷ cs) after [] h = absurd h
  run_count before (c ∷ cs) after (o ∷ os) h =
      let own = map (made before.apps (before.apps ++ flat_map app_adds (section_pairs c o))) (done_in privileged sizes before c) in
      let rest = collections_of privileged sizes (after_commands privileged sizes before.journal (commands_of c)) (before.apps ++ flat_map app_adds (section_pairs c o)) cs os in
      let later : length after.phases ≡ length h.0.phases + length rest = subst (λ (x : List Write × List Add). length after.phases ≡ length h.0.phases + length (collections_of privileged sizes x.0 x.1 cs os))
      (λ i. (h.1.journal i, h.1.apps i)) (run_count h.0 cs after os h.2) in
      let grown : length h.0.phases ≡ length before.phases + length (done_in privileged sizes before c) = h.1.grown in
      let both : length (own ++ rest) ≡ length own + length rest = simp length-append in
      let mapped : length own ≡ length (done_in privileged sizes before c) = simp length-map in
      omega (arith, later, grown, both, mapped)

  -- a fact of a place on the shelf stays when the shelf grows
  take_kept : (xs more ys : Phases) (n : ℕ) → ys ≡ xs ++ more → n < length xs → take (suc n) ys ≡ take (suc n) xs
  take_kept xs more ys n e lt = ap (take (suc n)) e ∙ take-append-le (suc n) xs more (omega arith)

  kept : (xs more ys : Phases) (n : ℕ) (c : Collection) (p : Snapshot × Option Deletion) → ys ≡ xs ++ more → n < length xs → IsCollected xs n c p → IsCollected ys n c p
  kept xs more ys n c p e lt h = record {
    divided = h.divided;
    app = subst (λ (front : Phases). AppIsBounded c (deleted_app front (uid_of p.1)) p.1) (sym (take_kept xs more ys n e lt)) h.app;
  }

  -- the collections of a section, and those after it
  option_made : (f : Command → Collection) (o : Option Command) (c : Collection) → option_map f o ≡ Some c → (command : Command) × (o ≡ Some command) × (f command ≡ c)
  option_made f None c e = absurd cc
  option_made f (Some command) c e = (command, refl, cc)

  pub run_grew : (before : Past) (cs : List SectionCalls) (after : Past) (os : List SectionOut) → Ran privileged sizes before cs after os →
      Grew after (length before.phases) before.journal before.apps cs os
  run_grew before [] after [] h n found p e k = absurd cc
  run_grew before [] after (o ∷ os) h n found p e k = absurd h
  run_grew before (c ∷ cs) after [] h n found p e k = absurd h
  run_grew before (c ∷ cs) after (o ∷ os) h n found p e k =
      let through = before.apps ++ flat_map app_adds (section_pairs c o) in
      let done : List Command = done_in privileged sizes before c in
      let own : List Collection = map (made before.apps through) done in
      let rest : List Collection = collections_of privileged sizes (after_commands privileged sizes before.journal (commands_of c)) through cs os in
      let long : length own ≡ length done = simp length-map in
      let grown : length h.0.phases ≡ length before.phases + length done = h.1.grown in
      let later : Grew after (length h.0.phases) (after_commands privileged sizes before.journal (commands_of c)) through cs os =
      subst (λ (x : List Write × List Add). Grew after (length h.0.phases) x.0 x.1 cs os) (λ i. (h.1.journal i, h.1.apps i)) (run_grew h.0 cs after os h.2) in
      let begins = run_begins h.0 cs after os h.2 in
      elim (cases_lt n (length own)) [
        | inl lt ↦
            let at_own : slice_get own n ≡ Some found = sym (place_left own rest n lt) ∙ e in
            let whose = option_made (made before.apps through) (slice_get done n) found (sym (slice_get-map (made before.apps through) done n) ∙ at_own) in
            let within : length before.phases + n < length h.0.phases = omega (arith, long, grown, lt) in
            let at_next : slice_get h.0.phases (length before.phases + n) ≡ Some p =
            sym (place_left h.0.phases begins.0 (length before.phases + n) within) ∙ ap (λ (xs : Phases). slice_get xs (length before.phases + n)) (sym begins.1) ∙ k in
            let fact : IsCollected h.0.phases (length before.phases + n) (made before.apps h.0.apps whose.0) p = h.1.collected n whose.0 p whose.1 at_next in
            let fact_here : IsCollected h.0.phases (length before.phases + n) found p =
            subst (λ (c : Collection). IsCollected h.0.phases (length before.phases + n) c p) (ap (λ (adds : List Add). made before.apps adds whose.0) h.1.apps ∙ whose.2) fact in
            kept h.0.phases begins.0 after.phases (length before.phases + n) found p begins.1 within fact_here
        | inr ge ↦
            let m = n - length own in
            let place : n ≡ length own + m = omega (arith, ge) in
            let at_rest : slice_get rest m ≡ Some found = sym (place_right own rest m n place) ∙ e in
            let same : length before.phases + n ≡ length h.0.phases + m = omega (arith, long, grown, place) in
            subst (λ (j : ℕ). IsCollected after.phases j found p) (sym same)
            (later m found p at_rest (ap (slice_get after.phases) (sym same) ∙ k))
      ]

  -- the step of a loop over the sections
  pub ran_more : (start : Past) (cs : List SectionCalls) (mid : Past) (os : List SectionOut) → Ran privileged sizes start cs mid os →
      (c : SectionCalls) (next : Past) (o : SectionOut) → SectionRan privileged sizes mid c next o → Ran privileged sizes start (cs ++ c ∷ []) next (os ++ o ∷ [])
  ran_more start [] mid [] h c next o s = (next, subst (λ (x : Past). SectionRan privileged sizes x c next o) (sym h) s, refl)
  ran_more start [] mid (p ∷ ps) h c next o s = absurd h
  ran_more start (d ∷ ds) mid [] h c next o s = absurd h
  ran_more start (d ∷ ds) mid (p ∷ ps) h c next o s = (h.0, h.1, ran_more h.0 ds mid ps h.2 c next o s)
