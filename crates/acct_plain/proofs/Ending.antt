-- What the replay keeps, after a command and after a collection.
use Rattle.std.proofs.Common.{◌≡◌, ℕ, ◌+◌, ◌≤◌, ◌<◌, ◌&&◌, Bool, true, false, List, [], ◌∷◌, ◌++◌, length, map, Option, Some, None, refl, sym, ap, subst, ◌∙◌, arith, length-append}
use Rattle.std.specs.Prelude.{◌==◌, if◌then◌else◌, filter, cond, unwrap_or}
use Rattle.std.specs.List.{AllByRecursion, list_any}
use Rattle.std.specs.Ordering.{nat_cmp}
use Rattle.acct_base.specs.declared.amount.Amount.{Amount}
use Rattle.acct_base.specs.declared.amount.Snapshot.{Snapshot}
use Rattle.acct_base.specs.declared.charge.Charge.{Charge}
use Rattle.acct_base.specs.declared.label.Label.{Label}
use Rattle.acct_base.specs.declared.register.Write.{Write}
use Rattle.acct_base.specs.declared.sizes.Sizes.{Sizes}
use Rattle.acct_base.specs.Amounts.{label_cmp, same_label, plus, amount_if, zero_amount}
use Rattle.acct_base.specs.Ordered.{ascending}
use Rattle.acct_base.specs.Receipts.{Add, add_amount}
use Rattle.acct_base.specs.Sums.{added, folded}
use Rattle.captures.proofs.Lists.{all_append, all_more}
use Rattle.desk_core.specs.declared.command.Command.{Command}
use Rattle.desk_core.specs.declared.command.Command.TheVariants as command
use Rattle.desk_core.specs.Commands.{writes, after_command, collects, is_done, reply}
use Rattle.shelf.specs.declared.shelf.Deletion.{Deletion}
use Rattle.shelf.specs.Shelved.{Phases}
use Rattle.shelf.specs.Phases.{deleted_app}
use Rattle.desk_core.specs.Book.{BookView}
use Rattle.desk_core.specs.Ranges.{IsInRange}
use Rattle.captures.specs.Runs.{Past}
use Rattle.acct_plain.specs.Serial.{less, value_if, ended_phase, with_phase, after_desk_line}
use Rattle.acct_base.specs.Landings.{landed_labels, landed_keys, same_number}
use Rattle.acct_plain.specs.Sound.{IsSoundWrite, DeletedWithin}
use Rattle.acct_plain.specs.Ledgers.{HoldsSums, amount_of}
use Rattle.acct_plain.specs.Kept.{Tables, Keeps}
use Rattle.acct_plain.specs.Ending.{deletion_of, ended_by, recorded_after, IsEnded}
use Rattle.acct_base.proofs.Keys.{nat_agree, eqb_same, plus_zero}
use Rattle.acct_plain.proofs.Desk.{deleted_more, deleted_within, plus_less}
use Rattle.acct_plain.proofs.Turns.{in_phase}
use Rattle.acct_plain.proofs.Valid.{writes_sound}
use Rattle.acct_plain.proofs.Holding.{amount_is}
use Rattle.acct_plain.proofs.Keeping.{same_numbers}

pub app_is : (p : Tables) (past : Past) (n uid : ℕ) → Keeps p past n → amount_of nat_cmp p.apps uid ≡ added past.apps uid
app_is p past n uid k = amount_is nat_cmp same_number nat_agree same_numbers (λ (a : Add). a.key) (λ (a : Add). a.landed) (λ (a : Add). a.landed ≡ false) add_amount p.apps past.apps k.apps uid

pub ended_is : (past : Past) (c : Command) → ended_by past (deletion_of c) ≡ ended_phase past c
ended_is past (command.Delete caller uid tag) = refl
ended_is past (command.Tag caller cookie uid tag) = refl
ended_is past (command.Untag cookie) = refl
ended_is past (command.Set caller uid set) = refl
ended_is past (command.Add uid b iface) = refl
ended_is past (command.Remove uid b) = refl
ended_is past (command.Toggle c on) = refl
ended_is past (command.Firewall c uid allowed) = refl
ended_is past (command.Replace c uids) = refl
ended_is past command.Collect = refl

-- ---- a command's writes

pub written_kept : (p q : Tables) (past : Past) (n : ℕ) (c : Command) (ws : List Write) → Keeps p past n → IsInRange c → ws ≡ writes p.book.journal p.book.privileged p.book.limits c →
    q ≡ record p { book = record p.book { journal = p.book.journal ++ ws } } →
    Keeps q (record past { journal = after_command p.book.privileged p.sizes.regs past.journal c }) n
written_kept p q past n c ws k range is same =
    let new : ws ≡ writes past.journal p.book.privileged p.sizes.regs c = is ∙ (λ i. writes (k.journal i) p.book.privileged (k.limits i) c) in
    let after : Past = record past { journal = after_command p.book.privileged p.sizes.regs past.journal c } in
    subst (λ (x : Tables). Keeps x after n) (sym same) (record {
      limits = k.limits;
      journal = λ i. k.journal i ++ new i;
      phases = k.phases;
      rows = k.rows;
      apps = k.apps;
      ifaces = k.ifaces;
      recorded = k.recorded;
      within = k.within;
      sound = all_append IsSoundWrite past.journal (writes past.journal p.book.privileged p.sizes.regs c) k.sound (writes_sound past.journal p.book.privileged p.sizes.regs c k.sound range);
      few = record {
        charges = k.few.charges;
        apps = k.few.apps;
        ifaces = k.few.ifaces;
        small_charges = k.few.small_charges;
        small_apps = k.few.small_apps;
        small_ifaces = k.few.small_ifaces;
      };
      bounded = k.bounded;
      few_phases = k.few_phases;
    })

-- ---- a phase ends

and_false : (a b : Bool) → b ≡ false → (a && b) ≡ false
and_false true b e = e
and_false false b e = refl

later : (n m p : ℕ) → m < n → p ≤ m → (p == n) ≡ false
later n m p lt le = grind (arith, lt, le)

none_later : (n m : ℕ) (cs : List Charge) → m < n → AllByRecursion (λ (c : Charge). c.phase ≤ m) cs → filter (in_phase n) cs ≡ []
none_later n m [] lt h = refl
none_later n m (c ∷ cs) lt h =
    ap (λ b. cond b (c ∷ filter (in_phase n) cs) (filter (in_phase n) cs)) (and_false c.landed (c.phase == n) (later n m c.phase lt h.0)) ∙ none_later n m cs lt h.1

nothing_held : (keys : List Label) (sum : Label → Amount) → keys ≡ [] → HoldsSums label_cmp same_label [] keys sum
nothing_held keys sum e = record {
  sums = λ k. sym (ap (λ (ks : List Label). if list_any (λ y. same_label y k) ks then Some (sum k) else None) e);
  count = sym (ap (λ (ks : List Label). length ks) e);
}

deleted_by : (past : Past) (apps recorded : List (ℕ × Amount)) → DeletedWithin past.phases past.apps → ((uid : ℕ) → amount_of nat_cmp apps uid ≡ added past.apps uid) → ((uid : ℕ) → amount_of nat_cmp recorded uid ≡ deleted_app past.phases uid) →
    (drop : Option (ℕ × ℕ)) (other : ℕ) → recorded_after apps recorded drop other ≡ deleted_app (past.phases ++ ended_by past drop ∷ []) other
deleted_by past apps recorded within totals before None other = before other ∙ sym (plus_zero (deleted_app past.phases other)) ∙ sym (deleted_more past.phases (ended_by past None) other)
deleted_by past apps recorded within totals before (Some (uid, tag)) other =
    by_tests (tag == 0) (uid == other) refl ∙ sym (deleted_more past.phases (ended_by past (Some (uid, tag))) other)
  where
    by_tests : (untagged of_uid : Bool) → (uid == other) ≡ of_uid →
        (if untagged && of_uid then amount_of nat_cmp apps uid else amount_of nat_cmp recorded other)
        ≡ plus (deleted_app past.phases other) (amount_if of_uid (unwrap_or (value_if untagged (less (added past.apps uid) (deleted_app past.phases uid))) zero_amount))
    by_tests true true e =
        totals uid ∙ sym (plus_less (added past.apps uid) (deleted_app past.phases uid) (within uid))
        ∙ ap (λ (u : ℕ). plus (deleted_app past.phases u) (less (added past.apps uid) (deleted_app past.phases uid))) (eqb_same uid other e)
    by_tests true false e = before other ∙ sym (plus_zero (deleted_app past.phases other))
    by_tests false true e = before other ∙ sym (plus_zero (deleted_app past.phases other))
    by_tests false false e = before other ∙ sym (plus_zero (deleted_app past.phases other))

within_by : (past : Past) (drop : Option (ℕ × ℕ)) → DeletedWithin past.phases past.apps → DeletedWithin (past.phases ++ ended_by past drop ∷ []) past.apps
within_by past None within = deleted_within past command.Collect within
within_by past (Some (uid, tag)) within = deleted_within past (command.Delete 0 uid tag) within

pub phase_kept : (p q : Tables) (past : Past) (n : ℕ) (drop : Option (ℕ × ℕ)) (ended : Snapshot × Option Deletion) → Keeps p past n → length past.phases + 1 ≤ 1024 → ended ≡ ended_by past drop →
    q.sizes ≡ p.sizes → q.book ≡ p.book → q.phases ≡ p.phases ++ ended ∷ [] → q.rows ≡ [] → q.apps ≡ p.apps → q.ifaces ≡ p.ifaces →
    ((uid : ℕ) → amount_of nat_cmp q.recorded uid ≡ recorded_after p.apps p.recorded drop uid) → Keeps q (with_phase past ended) n
phase_kept p q past n drop ended k few_phases is sizes book shelf rows apps ifaces base =
    let now = length past.phases in
    let longer : length (past.phases ++ ended ∷ []) ≡ now + 1 = length-append past.phases (ended ∷ []) in
    let none : landed_labels past.charges (length (past.phases ++ ended ∷ [])) ≡ [] =
    ap (λ (cs : List Charge). ascending label_cmp (map (λ (c : Charge). c.job.label) cs)) (none_later (length (past.phases ++ ended ∷ [])) now past.charges (omega (arith, longer)) k.bounded) in
    record {
      limits = ap (λ (b : BookView). b.limits) book ∙ k.limits ∙ sym (ap (λ (s : Sizes). s.regs) sizes);
      journal = ap (λ (b : BookView). b.journal) book ∙ k.journal;
      phases = shelf ∙ ap (λ (ps : Phases). ps ++ ended ∷ []) k.phases;
      rows = subst (λ (es : List (Label × Amount)). HoldsSums label_cmp same_label es (landed_labels past.charges (length (past.phases ++ ended ∷ []))) (folded past.charges (length (past.phases ++ ended ∷ [])))) (sym rows)
          (nothing_held (landed_labels past.charges (length (past.phases ++ ended ∷ []))) (folded past.charges (length (past.phases ++ ended ∷ []))) none);
      apps = subst (λ (t : List (ℕ × Amount)). HoldsSums nat_cmp same_number t (landed_keys past.apps) (added past.apps)) (sym apps) k.apps;
      ifaces = subst (λ (t : List (ℕ × Amount)). HoldsSums nat_cmp same_number t (landed_keys past.ifaces) (added past.ifaces)) (sym ifaces) k.ifaces;
      recorded = λ uid. base uid ∙ deleted_by past p.apps p.recorded k.within (λ u. app_is p past n u k) k.recorded drop uid
          ∙ ap (λ (e : Snapshot × Option Deletion). deleted_app (past.phases ++ e ∷ []) uid) (sym is);
      within = subst (λ (e : Snapshot × Option Deletion). DeletedWithin (past.phases ++ e ∷ []) past.apps) (sym is) (within_by past drop k.within);
      sound = k.sound;
      few = record {
        charges = k.few.charges;
        apps = k.few.apps;
        ifaces = k.few.ifaces;
        small_charges = k.few.small_charges;
        small_apps = k.few.small_apps;
        small_ifaces = k.few.small_ifaces;
      };
      bounded = all_more (λ (c : Charge). c.phase ≤ now) (λ (c : Charge). c.phase ≤ length (past.phases ++ ended ∷ [])) (λ c le. omega (arith, le, longer)) past.charges k.bounded;
      few_phases = omega (arith, longer, few_phases);
    }

-- ---- a command

abbrev pub written : List ℕ → Sizes → Past → Command → Past
written privileged sizes past c = record past { journal = after_command privileged sizes.regs past.journal c }

pub after_done : (privileged : List ℕ) (sizes : Sizes) (past : Past) (c : Command) (ended : Snapshot × Option Deletion) → true ≡ (collects c && is_done (reply past.journal privileged sizes.regs c)) →
    ended ≡ ended_phase past c → with_phase (written privileged sizes past c) ended ≡ after_desk_line privileged sizes past c
after_done privileged sizes past c ended on e =
    ap (with_phase (written privileged sizes past c)) e
    ∙ ap (λ b. if b then with_phase (written privileged sizes past c) (ended_phase past c) else written privileged sizes past c) on

pub after_plain : (privileged : List ℕ) (sizes : Sizes) (past : Past) (c : Command) → false ≡ (collects c && is_done (reply past.journal privileged sizes.regs c)) →
    written privileged sizes past c ≡ after_desk_line privileged sizes past c
after_plain privileged sizes past c off = ap (λ b. if b then with_phase (written privileged sizes past c) (ended_phase past c) else written privileged sizes past c) off

pub and_first : (a b : Bool) → true ≡ (a && b) → a ≡ true
and_first true b e = refl
and_first false b e = absurd (cc)

-- the live phase ended after the command's writes
pub ended_kept : (p q : Tables) (past : Past) (n : ℕ) (c : Command) (ws : List Write) → Keeps p past n → IsInRange c → length past.phases + 1 ≤ 1024 →
    ws ≡ writes p.book.journal p.book.privileged p.book.limits c → IsEnded p q (deletion_of c) ws → Keeps q (with_phase (written p.book.privileged p.sizes past c) (ended_by past (deletion_of c))) n
ended_kept p q past n c ws k range few is ended =
    let mid : Tables = record p { book = record p.book { journal = p.book.journal ++ ws } } in
    phase_kept mid q (written p.book.privileged p.sizes past c) n (deletion_of c) (ended_by past (deletion_of c))
    (written_kept p mid past n c ws k range is refl) few (same_end past c)
    ended.sizes ended.book (ended.phases past n k) ended.rows ended.apps ended.ifaces ended.recorded
  where
    same_end : (past : Past) (c : Command) → ended_by past (deletion_of c) ≡ ended_by (written p.book.privileged p.sizes past c) (deletion_of c)
    same_end past c = elim (deletion_of c) as (λ d. ended_by past d ≡ ended_by (written p.book.privileged p.sizes past c) d) [
      | None ↦ refl
      | Some d ↦ refl
    ]
