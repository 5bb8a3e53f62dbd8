-- The desk of a section: its journal, its replies, and the phases that its collections end.
use Rattle.std.proofs.Common.{◌≡◌, ℕ, zero, suc, ◌+◌, List, [], ◌∷◌, ◌++◌, length, take, map, refl, sym, ap, subst, ◌∙◌, arith, Option, Some, None, Bool, true, false, append_assoc, append-nil, length-append}
use Rattle.std.specs.Prelude.{if◌then◌else◌, ◌==◌, ◌&&◌, not, slice_get, zip, filter, cond, is_some, unwrap_or}
use Rattle.std.specs.List.{AllByRecursion}
use Rattle.acct_base.specs.declared.amount.Amount.{Amount}
use Rattle.acct_base.specs.declared.amount.Row.{Row}
use Rattle.acct_base.specs.declared.amount.Snapshot.{Snapshot}
use Rattle.acct_base.specs.declared.register.Write.{Write}
use Rattle.acct_base.specs.declared.sizes.Sizes.{Sizes}
use Rattle.acct_base.specs.declared.sizes.RegSizes.{RegSizes}
use Rattle.acct_base.specs.Amounts.{plus, zero_amount, amount_if, IsAtMost}
use Rattle.acct_base.specs.Receipts.{Add}
use Rattle.acct_base.specs.Sums.{added}
use Rattle.acct_base.proofs.SumLemmas.{total_by-append}
use Rattle.desk_core.specs.declared.command.Command.{Command}
use Rattle.desk_core.specs.declared.command.Command.TheVariants as command
use Rattle.desk_core.specs.declared.command.Reply.{Reply}
use Rattle.desk_core.specs.Commands.{reply, replies, is_done, after_command, after_commands, writes, collects}
use Rattle.shelf.specs.declared.shelf.Deletion.{Deletion}
use Rattle.shelf.specs.Shelved.{Phases}
use Rattle.shelf.specs.Phases.{is_deleted, deleted_app, recorded_app}
use Rattle.captures.specs.Honest.{collections, IsDivided, line_item}
use Rattle.captures.specs.Runs.{Past}
use Rattle.captures.proofs.Lists.{place_right}
use Rattle.acct_plain.specs.Sound.{DeletedWithin}
use Rattle.acct_plain.specs.Serial.{value_if, less, app_now, live_snapshot, ended_phase, with_phase, walk_desk}
use Rattle.acct_base.proofs.Keys.{plus_zero, eqb_same, eqb_self}

-- ---- journals grow

pub after_commands_grow : (privileged : List ℕ) (sizes : RegSizes) (journal : List Write) (cs : List Command) → (more : List Write) × (after_commands privileged sizes journal cs ≡ journal ++ more)
after_commands_grow privileged sizes journal [] = ([], sym (append-nil journal))
after_commands_grow privileged sizes journal (c ∷ cs) =
    let ws = writes journal privileged sizes c in
    let rest = after_commands_grow privileged sizes (journal ++ ws) cs in
    (ws ++ rest.0, rest.1 ∙ append_assoc journal ws rest.0)

-- ---- what deletions recorded

at_most_same : (a : Amount) → IsAtMost a a
at_most_same a = record { rx_packets = omega arith; rx_bytes = omega arith; tx_packets = omega arith; tx_bytes = omega arith }

pub plus_less : (a b : Amount) → IsAtMost b a → plus b (less a b) ≡ a
plus_less a b h =
    let p : b.rx_packets + (less a b).rx_packets ≡ a.rx_packets = omega (arith, h.rx_packets) in
    let q : b.rx_bytes + (less a b).rx_bytes ≡ a.rx_bytes = omega (arith, h.rx_bytes) in
    let r : b.tx_packets + (less a b).tx_packets ≡ a.tx_packets = omega (arith, h.tx_packets) in
    let t : b.tx_bytes + (less a b).tx_bytes ≡ a.tx_bytes = omega (arith, h.tx_bytes) in
    λ i. record { rx_packets = p i; rx_bytes = q i; tx_packets = r i; tx_bytes = t i }

pub deleted_more : (phases : Phases) (p : Snapshot × Option Deletion) (uid : ℕ) → deleted_app (phases ++ p ∷ []) uid ≡ plus (deleted_app phases uid) (recorded_app uid p)
deleted_more phases p uid = total_by-append (recorded_app uid) phases (p ∷ []) ∙ ap (plus (deleted_app phases uid)) (plus_zero (recorded_app uid p))

-- what a deletion recorded, told of any uid
abbrev recorded_then : Amount → Amount → Bool → Bool → Amount
recorded_then total before of_uid untagged = plus before (amount_if of_uid (unwrap_or (value_if untagged (less total before)) zero_amount))

recorded_within : (total before : Amount) (of_uid untagged : Bool) → IsAtMost before total → IsAtMost (recorded_then total before of_uid untagged) total
recorded_within total before true true h = subst (λ (a : Amount). IsAtMost a total) (sym (plus_less total before h)) (at_most_same total)
recorded_within total before true false h = subst (λ (a : Amount). IsAtMost a total) (sym (plus_zero before)) h
recorded_within total before false untagged h = subst (λ (a : Amount). IsAtMost a total) (sym (plus_zero before)) h

-- a deletion of another uid changes nothing
other_uid : (past : Past) (uid other tag : ℕ) (b : Bool) → (uid == other) ≡ b → DeletedWithin past.phases past.apps →
    IsAtMost (plus (deleted_app past.phases other) (amount_if b (unwrap_or (app_now past uid tag) zero_amount))) (added past.apps other)
other_uid past uid other tag true e h =
    let same : uid ≡ other = eqb_same uid other e in
    subst (λ (u : ℕ). IsAtMost (plus (deleted_app past.phases u) (amount_if true (unwrap_or (app_now past uid tag) zero_amount))) (added past.apps u)) same
    (recorded_within (added past.apps uid) (deleted_app past.phases uid) true (tag == 0) (h uid))
other_uid past uid other tag false e h = subst (λ (a : Amount). IsAtMost a (added past.apps other)) (sym (plus_zero (deleted_app past.phases other))) (h other)

none_recorded : (past : Past) (other : ℕ) → DeletedWithin past.phases past.apps → IsAtMost (plus (deleted_app past.phases other) zero_amount) (added past.apps other)
none_recorded past other h = subst (λ (a : Amount). IsAtMost a (added past.apps other)) (sym (plus_zero (deleted_app past.phases other))) (h other)

ended_within : (past : Past) (c : Command) (other : ℕ) → DeletedWithin past.phases past.apps → IsAtMost (plus (deleted_app past.phases other) (recorded_app other (ended_phase past c))) (added past.apps other)
ended_within past (command.Delete caller uid tag) other h = other_uid past uid other tag (uid == other) refl h
ended_within past (command.Tag caller cookie uid tag) other h = none_recorded past other h
ended_within past (command.Untag cookie) other h = none_recorded past other h
ended_within past (command.Set caller uid set) other h = none_recorded past other h
ended_within past (command.Add uid b iface) other h = none_recorded past other h
ended_within past (command.Remove uid b) other h = none_recorded past other h
ended_within past (command.Toggle c on) other h = none_recorded past other h
ended_within past (command.Firewall c uid allowed) other h = none_recorded past other h
ended_within past (command.Replace c uids) other h = none_recorded past other h
ended_within past command.Collect other h = none_recorded past other h

pub deleted_within : (past : Past) (c : Command) → DeletedWithin past.phases past.apps → DeletedWithin (past.phases ++ ended_phase past c ∷ []) past.apps
deleted_within past c h other = subst (λ (a : Amount). IsAtMost a (added past.apps other)) (sym (deleted_more past.phases (ended_phase past c) other)) (ended_within past c other h)

-- a deletion without a tag records all that its app had
abbrev pub RecordsApp : List Add → Phases → Option Deletion → Type 0
RecordsApp adds phases None = Unit {0}
RecordsApp adds phases (Some d) = is_some d.app ≡ true → deleted_app phases d.uid ≡ added adds d.uid

recorded_all : (past : Past) (uid tag : ℕ) (b : Bool) → (tag == 0) ≡ b → is_some (value_if b (less (added past.apps uid) (deleted_app past.phases uid))) ≡ true → DeletedWithin past.phases past.apps →
    plus (deleted_app past.phases uid) (amount_if (uid == uid) (unwrap_or (value_if b (less (added past.apps uid) (deleted_app past.phases uid))) zero_amount)) ≡ added past.apps uid
recorded_all past uid tag true e there h =
    ap (λ c. plus (deleted_app past.phases uid) (amount_if c (less (added past.apps uid) (deleted_app past.phases uid)))) (eqb_self uid)
    ∙ plus_less (added past.apps uid) (deleted_app past.phases uid) (h uid)
recorded_all past uid tag false e there h = absurd (cc)

ended_records : (past : Past) (c : Command) → DeletedWithin past.phases past.apps → RecordsApp past.apps (past.phases ++ ended_phase past c ∷ []) (ended_phase past c).1
ended_records past (command.Delete caller uid tag) h =
    λ there. deleted_more past.phases (ended_phase past (command.Delete caller uid tag)) uid ∙ recorded_all past uid tag (tag == 0) refl there h
ended_records past (command.Tag caller cookie uid tag) h = tt
ended_records past (command.Untag cookie) h = tt
ended_records past (command.Set caller uid set) h = tt
ended_records past (command.Add uid b iface) h = tt
ended_records past (command.Remove uid b) h = tt
ended_records past (command.Toggle c on) h = tt
ended_records past (command.Firewall c uid allowed) h = tt
ended_records past (command.Replace c uids) h = tt
ended_records past command.Collect h = tt

-- ---- a deletion divides its phase

all_kept : (p : Row → Bool) (rows : List Row) → AllByRecursion (λ row. p row ≡ true) (filter p rows)
all_kept p [] = tt
all_kept p (r ∷ rs) =
    let step : (b : Bool) → p r ≡ b → AllByRecursion (λ row. p row ≡ true) (cond b (r ∷ filter p rs) (filter p rs)) = λ b. elim b as (λ b. p r ≡ b → AllByRecursion (λ row. p row ≡ true) (cond b (r ∷ filter p rs) (filter p rs))) [
      | true ↦ λ e. (e, all_kept p rs)
      | false ↦ λ e. all_kept p rs
    ] in
    step (p r) refl

not_true : (b : Bool) → not b ≡ true → b ≡ false
not_true true e = absurd (cc)
not_true false e = refl

all_left : (p : Row → Bool) (rows : List Row) → AllByRecursion (λ row. not (p row) ≡ true) rows → AllByRecursion (λ row. p row ≡ false) rows
all_left p [] h = tt
all_left p (r ∷ rs) h = (not_true (p r) h.0, all_left p rs h.1)

is_some_if : {A : Type 0} (b : Bool) (x : A) → is_some (value_if b x) ≡ b
is_some_if true x = refl
is_some_if false x = refl

ended_divided : (past : Past) (c : Command) → IsDivided (length past.phases) c (ended_phase past c)
ended_divided past (command.Delete caller uid tag) =
    let rows = (live_snapshot past).rows in record {
      phase = refl;
      uid_is = refl;
      tag_is = refl;
      taken = all_kept (is_deleted uid tag) rows;
      left = all_left (is_deleted uid tag) (filter (λ row. not (is_deleted uid tag row)) rows) (all_kept (λ row. not (is_deleted uid tag row)) rows);
      app = is_some_if (tag == 0) _;
    }
ended_divided past (command.Tag caller cookie uid tag) = tt
ended_divided past (command.Untag cookie) = tt
ended_divided past (command.Set caller uid set) = tt
ended_divided past (command.Add uid b iface) = tt
ended_divided past (command.Remove uid b) = tt
ended_divided past (command.Toggle c on) = tt
ended_divided past (command.Firewall c uid allowed) = tt
ended_divided past (command.Replace c uids) = tt
ended_divided past command.Collect = tt

-- ---- the walk of a desk

pub record Walked (past : Past) (journal : List Write) (done : List Command) (answers : List (ℕ × Reply)) (w : Past × List (ℕ × Reply)) : Type 0 where
  pub journal_is : w.0.journal ≡ journal
  pub charges_are : w.0.charges ≡ past.charges
  pub apps_are : w.0.apps ≡ past.apps
  pub ifaces_are : w.0.ifaces ≡ past.ifaces
  pub more : Phases
  pub phases_are : w.0.phases ≡ past.phases ++ more
  pub long : length more ≡ length done
  pub answers_are : w.1 ≡ answers
  pub collected : (i : ℕ) (c : Command) (p : Snapshot × Option Deletion) → slice_get done i ≡ Some c → slice_get w.0.phases (length past.phases + i) ≡ Some p →
      IsDivided (length past.phases + i) c p × RecordsApp past.apps (take (suc (length past.phases + i)) w.0.phases) p.1

abbrev answered : ℕ × Reply → Past × List (ℕ × Reply) → Past × List (ℕ × Reply)
answered line rest = (rest.0, line ∷ rest.1)

take_whole : {X : Type 0} (xs more : List X) (n : ℕ) → n ≡ length xs → take n (xs ++ more) ≡ xs
take_whole [] more n e = ap (λ k. take k more) e
take_whole (x ∷ xs) more zero e = absurd (omega arith)
take_whole {X} (x ∷ xs) more (suc n) e = ap (λ (ys : List X). x ∷ ys) (take_whole xs more n (omega arith))

-- no collection: the rest of the desk says all
plain_line : (past written : Past) (journal : List Write) (done : List Command) (answers : List (ℕ × Reply)) (line : ℕ × Reply) (rest : Past × List (ℕ × Reply)) →
    written.phases ≡ past.phases → written.charges ≡ past.charges → written.apps ≡ past.apps → written.ifaces ≡ past.ifaces →
    Walked written journal done answers rest → Walked past journal done (line ∷ answers) (answered line rest)
plain_line past written journal done answers line rest ph ch ap_is if_is w = record {
  journal_is = w.journal_is;
  charges_are = w.charges_are ∙ ch;
  apps_are = w.apps_are ∙ ap_is;
  ifaces_are = w.ifaces_are ∙ if_is;
  more = w.more;
  phases_are = w.phases_are ∙ ap (λ (ps : Phases). ps ++ w.more) ph;
  long = w.long;
  answers_are = ap (λ (ls : List (ℕ × Reply)). line ∷ ls) w.answers_are;
  collected = subst (λ (x : Phases × List Add). (i : ℕ) (c : Command) (p : Snapshot × Option Deletion) → slice_get done i ≡ Some c → slice_get rest.0.phases (length x.0 + i) ≡ Some p →
      IsDivided (length x.0 + i) c p × RecordsApp x.1 (take (suc (length x.0 + i)) rest.0.phases) p.1) (λ i. (ph i, ap_is i)) w.collected;
}

-- a collection: one phase more
collecting_line : (past written : Past) (c : Command) (journal : List Write) (done : List Command) (answers : List (ℕ × Reply)) (line : ℕ × Reply) (rest : Past × List (ℕ × Reply)) →
    written.phases ≡ past.phases ++ ended_phase past c ∷ [] → written.charges ≡ past.charges → written.apps ≡ past.apps → written.ifaces ≡ past.ifaces →
    DeletedWithin past.phases past.apps → Walked written journal done answers rest → Walked past journal (c ∷ done) (line ∷ answers) (answered line rest)
collecting_line past written c journal done answers line rest ph ch ap_is if_is within w =
    let e = ended_phase past c in
    let n = length past.phases in
    let whole : rest.0.phases ≡ past.phases ++ (e ∷ w.more) = w.phases_are ∙ ap (λ (ps : Phases). ps ++ w.more) ph ∙ append_assoc past.phases (e ∷ []) w.more in
    let whole_too : rest.0.phases ≡ (past.phases ++ e ∷ []) ++ w.more = w.phases_are ∙ ap (λ (ps : Phases). ps ++ w.more) ph in
    let longer : length written.phases ≡ n + 1 = ap (λ (ps : Phases). length ps) ph ∙ length-append past.phases (e ∷ []) in
    let w_long = w.long in
    record {
      journal_is = w.journal_is;
      charges_are = w.charges_are ∙ ch;
      apps_are = w.apps_are ∙ ap_is;
      ifaces_are = w.ifaces_are ∙ if_is;
      more = e ∷ w.more;
      phases_are = whole;
      long = omega (arith, w_long);
      answers_are = ap (λ (ls : List (ℕ × Reply)). line ∷ ls) w.answers_are;
      collected = λ i. elim i as (λ i. (d : Command) (p : Snapshot × Option Deletion) → slice_get (c ∷ done) i ≡ Some d → slice_get rest.0.phases (n + i) ≡ Some p →
          IsDivided (n + i) d p × RecordsApp past.apps (take (suc (n + i)) rest.0.phases) p.1) [
            | zero ↦ λ d p is at.
                let found : slice_get rest.0.phases (n + 0) ≡ Some e = ap (λ (ps : Phases). slice_get ps (n + 0)) whole ∙ place_right past.phases (e ∷ w.more) 0 (n + 0) refl in
                let is_p : e ≡ p = cc in
                let is_d : c ≡ d = cc in
                let front : take (suc (n + 0)) rest.0.phases ≡ past.phases ++ e ∷ [] =
                ap (take (suc (n + 0))) whole_too ∙ take_whole (past.phases ++ e ∷ []) w.more (suc (n + 0)) (omega (arith, length-append past.phases (e ∷ []))) in
                let fact : IsDivided (n + 0) c e × RecordsApp past.apps (take (suc (n + 0)) rest.0.phases) e.1 = (
                  subst (λ (k : ℕ). IsDivided k c e) (omega arith) (ended_divided past c),
                  subst (λ (ps : Phases). RecordsApp past.apps ps e.1) (sym front) (ended_records past c within),
                ) in
                subst (λ (x : Command × (Snapshot × Option Deletion)). IsDivided (n + 0) x.0 x.1 × RecordsApp past.apps (take (suc (n + 0)) rest.0.phases) x.1.1) (λ j. (is_d j, is_p j)) fact
            | suc j ↦ λ d p is at.
                let same : length written.phases + j ≡ n + suc j = omega (arith, longer) in
                let fact = w.collected j d p is (ap (slice_get rest.0.phases) same ∙ at) in
                subst (λ (x : ℕ × List Add). IsDivided x.0 d p × RecordsApp x.1 (take (suc x.0) rest.0.phases) p.1) (λ k. (same k, ap_is k)) fact
          ];
    }

module _ (privileged : List ℕ) (sizes : Sizes) where
  pub desk_walked : (past : Past) (desk : List (ℕ × Command)) → DeletedWithin past.phases past.apps →
      Walked past (after_commands privileged sizes.regs past.journal (map line_item desk)) (collections privileged sizes.regs past.journal (map line_item desk))
      (zip (map (λ (c : ℕ × Command). c.0) desk) (replies privileged sizes.regs past.journal (map line_item desk))) (walk_desk privileged sizes past desk)
  desk_walked past [] within = record {
    journal_is = refl;
    charges_are = refl;
    apps_are = refl;
    ifaces_are = refl;
    more = [];
    phases_are = sym (append-nil past.phases);
    long = refl;
    answers_are = refl;
    collected = λ i c p is at. absurd (cc);
  }
  desk_walked past (c ∷ cs) within =
      let answer = reply past.journal privileged sizes.regs c.1 in
      let written : Past = record past { journal = after_command privileged sizes.regs past.journal c.1 } in
      let next : Past = with_phase written (ended_phase past c.1) in
      let others : List Command = collections privileged sizes.regs written.journal (map line_item cs) in
      let given = zip (map (λ (c : ℕ × Command). c.0) cs) (replies privileged sizes.regs written.journal (map line_item cs)) in
      elim (collects c.1 && is_done answer) as (λ b.
      Walked past (after_commands privileged sizes.regs written.journal (map line_item cs)) (if b then c.1 ∷ others else others) ((c.0, answer) ∷ given)
      (answered (c.0, answer) (walk_desk privileged sizes (if b then next else written) cs))) [
        | false ↦ plain_line past written _ others given (c.0, answer) (walk_desk privileged sizes written cs) refl refl refl refl (desk_walked written cs within)
        | true ↦ collecting_line past next c.1 _ others given (c.0, answer) (walk_desk privileged sizes next cs) refl refl refl refl within
            (desk_walked next cs (deleted_within past c.1 within))
      ]
