-- Calls and commands in their ranges charge labels that a packet can have.
use Rattle.std.proofs.Common.{ℕ, ◌-◌, ◌^◌, ◌≤◌, ◌<◌, List, [], ◌∷◌, map, sym, subst, arith, Option, Some, None, Bool, true, false}
use Rattle.std.specs.Prelude.{IfSome, ◌==◌, if◌then◌else◌, option_map, unwrap_or}
use Rattle.std.specs.List.{AllByRecursion}
use Rattle.std.proofs.lemmas.Nat.{or_lt, and_le_l}
use Rattle.acct_base.specs.declared.register.Key.{Key}
use Rattle.acct_base.specs.declared.register.Key.TheVariants.{Cookie, Set, Owner, Enabled}
use Rattle.acct_base.specs.declared.register.Write.{Write}
use Rattle.acct_base.specs.declared.register.Seen.{Seen}
use Rattle.acct_base.specs.declared.receipt.Mark.{Mark}
use Rattle.acct_base.specs.declared.sizes.Sizes.{Sizes}
use Rattle.acct_base.specs.declared.sizes.RegSizes.{RegSizes}
use Rattle.acct_base.specs.declared.label.Label.{Label}
use Rattle.acct_base.specs.declared.charge.Charge.{Charge}
use Rattle.acct_base.specs.declared.verdict.Match.{Match}
use Rattle.acct_base.specs.declared.verdict.Settled.{Settled}
use Rattle.acct_base.specs.declared.verdict.Match.TheVariants as matched
use Rattle.acct_base.specs.declared.verdict.Verdict.TheVariants as verdict
use Rattle.acct_base.specs.Amounts.{IsValidLabel}
use Rattle.acct_base.specs.Entries.{word_uid, word_tag}
use Rattle.acct_base.specs.Rules.{settle, is_dns}
use Rattle.acct_base.specs.Journal.{current}
use Rattle.acct_base.proofs.JournalLemmas.{current_all}
use Rattle.acct_base.specs.Receipts.{HookCall, Call, settled_of, settled, counted, is_clat, tagged_uid, match_read, tag_of, label, charge_to, untagged, charges, number_read}
use Rattle.acct_base.specs.Receipts.Call.{Hook, Iface, Allow, Deny}
use Rattle.desk_core.specs.declared.command.Command.{Command}
use Rattle.desk_core.specs.declared.command.Command.TheVariants as command
use Rattle.desk_core.specs.Commands.{clear, clear_set, effect, writes, reply, is_done, has_entry, take_bit, put_bit, entry_with, entry_without, puts_bit, cookies_tagged, unlisted, bit_value, chain_bit, old_enabled, with_bit, without_bit}
use Rattle.desk_core.specs.Ranges.{IsInRange}
use Rattle.acct_base.specs.Ranges.{IsCallInRange, IsHookInRange}
use Rattle.desk_core.proofs.FormLemmas.{bit_small, enabled_in, word_back}
use Rattle.captures.specs.Runs.{Past}
use Rattle.captures.proofs.Lists.{all_append}
use Rattle.acct_plain.specs.Sound.{IsSoundValue, IsSoundWrite}
use Rattle.acct_plain.specs.Serial.{serial_receipt, serial_line}

-- ---- what is in the journal

pub current_sound : (key : Key) (journal : List Write) → AllByRecursion IsSoundWrite journal → IfSome (current journal key) (IsSoundValue key)
current_sound key journal a = current_all IsSoundValue key journal a

-- ---- what commands write

free : (o : Option ℕ) → IfSome o (λ v. Unit {0})
free None = tt
free (Some v) = tt

all_clear : (cs : List ℕ) → AllByRecursion IsSoundWrite (map (λ c. clear (Cookie c)) cs)
all_clear [] = tt
all_clear (c ∷ cs) = (tt, all_clear cs)

all_taken : (journal : List Write) (b : ℕ) (uids : List ℕ) → AllByRecursion IsSoundWrite (map (take_bit journal b) uids)
all_taken journal b [] = tt
all_taken journal b (uid ∷ uids) = (free (entry_without b (current journal (Owner uid))), all_taken journal b uids)

all_put : (journal : List Write) (b iface : ℕ) (uids : List ℕ) → AllByRecursion IsSoundWrite (map (put_bit journal b iface) uids)
all_put journal b iface [] = tt
all_put journal b iface (uid ∷ uids) = (free (entry_with b iface (current journal (Owner uid))), all_put journal b iface uids)

set_cleared : (journal : List Write) (uid : ℕ) → AllByRecursion IsSoundWrite (clear_set journal uid)
set_cleared journal uid = elim (has_entry journal (Set uid)) as (λ b. AllByRecursion IsSoundWrite (if b then clear (Set uid) ∷ [] else [])) [ true ↦ (tt, tt) | false ↦ tt ]

effect_sound : (journal : List Write) (c : Command) → AllByRecursion IsSoundWrite journal → IsInRange c → AllByRecursion IsSoundWrite (effect journal c)
effect_sound journal (command.Tag caller cookie uid tag) sound h = (subst (λ (n : ℕ). n < 4294967295) (sym (word_back uid tag h.2)) h.1, tt)
effect_sound journal (command.Untag cookie) sound h = (tt, tt)
effect_sound journal (command.Set caller uid set) sound h =
    elim (set == 0) as (λ b. AllByRecursion IsSoundWrite (if b then clear_set journal uid else record { key = Set uid; value = Some 1 } ∷ [])) [ true ↦ set_cleared journal uid | false ↦ (omega arith, tt) ]
effect_sound journal (command.Delete caller uid tag) sound h =
    all_append IsSoundWrite (map (λ c. clear (Cookie c)) (cookies_tagged journal uid tag)) (if tag == 0 then clear_set journal uid else []) (all_clear (cookies_tagged journal uid tag))
    (elim (tag == 0) as (λ b. AllByRecursion IsSoundWrite (if b then clear_set journal uid else [])) [ true ↦ set_cleared journal uid | false ↦ tt ])
effect_sound journal (command.Add uid b iface) sound h = (free (entry_with (bit_value b) iface (current journal (Owner uid))), tt)
effect_sound journal (command.Remove uid b) sound h = (free (entry_without (bit_value b) (current journal (Owner uid))), tt)
effect_sound journal (command.Toggle c on) sound h =
    let old = enabled_in (current journal Enabled) (current_sound Enabled journal sound) in (
      elim on as (λ b. (if b then with_bit (old_enabled journal) (bit_value (chain_bit c)) else without_bit (old_enabled journal) (bit_value (chain_bit c))) < 2 ^ 32) [
        | true ↦ or_lt 32 (old_enabled journal) (bit_value (chain_bit c)) old (bit_small (chain_bit c))
        | false ↦ omega (arith, old, and_le_l (old_enabled journal) (4294967295 - bit_value (chain_bit c)))
      ],
      tt,
    )
effect_sound journal (command.Firewall c uid allowed) sound h =
    elim (puts_bit c allowed) as (λ b. AllByRecursion IsSoundWrite ((if b then put_bit journal (bit_value (chain_bit c)) 0 uid else take_bit journal (bit_value (chain_bit c)) uid) ∷ [])) [
      | true ↦ (free (entry_with (bit_value (chain_bit c)) 0 (current journal (Owner uid))), tt)
      | false ↦ (free (entry_without (bit_value (chain_bit c)) (current journal (Owner uid))), tt)
    ]
effect_sound journal (command.Replace c uids) sound h =
    all_append IsSoundWrite (map (take_bit journal (bit_value (chain_bit c))) (unlisted journal (bit_value (chain_bit c)) uids)) (map (put_bit journal (bit_value (chain_bit c)) 0) uids)
    (all_taken journal (bit_value (chain_bit c)) (unlisted journal (bit_value (chain_bit c)) uids)) (all_put journal (bit_value (chain_bit c)) 0 uids)
effect_sound journal command.Collect sound h = tt

pub writes_sound : (journal : List Write) (privileged : List ℕ) (sizes : RegSizes) (c : Command) → AllByRecursion IsSoundWrite journal → IsInRange c → AllByRecursion IsSoundWrite (writes journal privileged sizes c)
writes_sound journal privileged sizes c sound h =
    elim (is_done (reply journal privileged sizes c)) as (λ b. AllByRecursion IsSoundWrite (if b then effect journal c else [])) [ true ↦ effect_sound journal c sound h | false ↦ tt ]

-- ---- labels

abbrev pub uid_if : Bool → Settled → Settled → ℕ
uid_if b x y = let z : Settled = if b then x else y in z.uid

settle_either : (P : ℕ → Type 0) (m : Match) (sock_uid uid tag : ℕ) → P sock_uid → P uid → P (settle m sock_uid uid tag).uid
settle_either P matched.Pass sock_uid uid tag a b = elim (is_dns uid tag) as (λ d. P (if d then sock_uid else uid)) [ true ↦ a | false ↦ b ]
settle_either P matched.Drop sock_uid uid tag a b = elim (is_dns uid tag) as (λ d. P (if d then sock_uid else uid)) [ true ↦ a | false ↦ b ]
settle_either P matched.UnlessDns sock_uid uid tag a b =
    elim (is_dns uid tag) as (λ d. P (uid_if d (record { uid = sock_uid; verdict = verdict.Pass }) (record { uid = uid; verdict = verdict.Drop }))) [ true ↦ a | false ↦ b ]

settled_either : (P : ℕ → Type 0) (call : HookCall) (tag_read : Seen) (rules_read owner_read : Option Seen) → P call.sock_uid → P (tagged_uid call tag_read) →
    P (settled_of call tag_read rules_read owner_read).uid
settled_either P call tag_read rules_read owner_read a b =
    elim (is_clat call tag_read) as (λ clat. P (uid_if clat (record { uid = tagged_uid call tag_read; verdict = verdict.Pass }) (settle (match_read call tag_read rules_read owner_read) call.sock_uid (tagged_uid call tag_read) (tag_of call tag_read)))) [
      | true ↦ b
      | false ↦ settle_either P (match_read call tag_read rules_read owner_read) call.sock_uid (tagged_uid call tag_read) (tag_of call tag_read) a b
    ]

uid_in : (o : Option ℕ) (uid : ℕ) → uid < 4294967295 → IfSome o (λ v. word_uid v < 4294967295) → unwrap_or (option_map word_uid o) uid < 4294967295
uid_in None uid h k = h
uid_in (Some v) uid h k = k

tag_in : (o : Option ℕ) → unwrap_or (option_map word_tag o) 0 < 2 ^ 32
tag_in None = omega arith
tag_in (Some v) = omega arith

pub rules_in : (b : Bool) (o : Option ℕ) (version : ℕ) → IfSome o (λ v. v < 2 ^ 32) → number_read (if b then Some (record { version = version; value = o }) else None) < 2 ^ 32
rules_in true None version h = omega arith
rules_in true (Some v) version h = h
rules_in false o version h = omega arith

pub set_in : (b : Bool) (o : Option ℕ) (version : ℕ) → IfSome o (λ v. v ≤ 1) → number_read (if b then Some (record { version = version; value = o }) else None) ≤ 1
set_in true None version h = omega arith
set_in true (Some v) version h = h
set_in false o version h = omega arith

pub label_valid : (sizes : Sizes) (past : Past) (call : HookCall) → AllByRecursion IsSoundWrite past.journal → IsHookInRange call → IsValidLabel (label call (serial_receipt sizes past call))
label_valid sizes past call sound h =
    let r = serial_receipt sizes past call in
    record {
      uid = settled_either (λ uid. uid < 4294967295) call r.tag_read r.rules_read r.owner_read h.uid
          (uid_in (current past.journal (Cookie call.cookie)) call.sock_uid h.uid (current_sound (Cookie call.cookie) past.journal sound));
      tag = tag_in (current past.journal (Cookie call.cookie));
      set = set_in (counted call r) (current past.journal (Set (settled call r).uid)) _ (current_sound (Set (settled call r).uid) past.journal sound);
      some_iface = h.some_iface;
      iface = h.iface;
    }

untagged_valid : (l : Label) → IsValidLabel l → IsValidLabel (untagged l)
untagged_valid l h = record { uid = h.uid; tag = omega arith; set = h.set; some_iface = h.some_iface; iface = h.iface }

to_valid : (call : HookCall) (l : Label) (phase : Option ℕ) (m : Option Mark) → IsValidLabel l → AllByRecursion (λ (c : Charge). IsValidLabel c.job.label) (charge_to call l phase m)
to_valid call l (Some n) (Some m) h = (h, tt)
to_valid call l None m h = tt
to_valid call l (Some n) None h = tt

pub charges_valid : (sizes : Sizes) (past : Past) (call : Call) → AllByRecursion IsSoundWrite past.journal → IsCallInRange call →
    AllByRecursion (λ (c : Charge). IsValidLabel c.job.label) (charges (call, serial_line sizes past call))
charges_valid sizes past (Hook call) sound h =
    let r = serial_receipt sizes past call in
    let valid = label_valid sizes past call sound h in
    all_append (λ (c : Charge). IsValidLabel c.job.label) (charge_to call (label call r) r.phase r.landed_tag) (charge_to call (untagged (label call r)) r.phase r.landed_plain)
    (to_valid call (label call r) r.phase r.landed_tag valid) (to_valid call (untagged (label call r)) r.phase r.landed_plain (untagged_valid (label call r) valid))
charges_valid sizes past (Iface call) sound h = tt
charges_valid sizes past (Allow sock_uid cookie received) sound h = tt
charges_valid sizes past (Deny sock_uid) sound h = tt
