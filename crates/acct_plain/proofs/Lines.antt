-- One call of the walk: its receipt obeys the rules, on reads of the whole journal, in the live phase, with marks in turn.
use Rattle.std.proofs.Common.{◌≡◌, ℕ, ◌+◌, ◌≤◌, List, [], ◌∷◌, ◌++◌, length, refl, sym, ap, subst, ◌∙◌, arith, Option, Some, None, Bool, true, false, length-append}
use Rattle.std.specs.Prelude.{is_some, max, ◌&&◌, not, option_map, option_to_list}
use Rattle.std.specs.List.{AllByRecursion}
use Rattle.acct_base.specs.declared.register.Key.{Key}
use Rattle.acct_base.specs.declared.register.Key.TheVariants.{Cookie, Set, Owner, Enabled}
use Rattle.acct_base.specs.declared.register.Write.{Write}
use Rattle.acct_base.specs.declared.register.Seen.{Seen}
use Rattle.acct_base.specs.declared.sizes.Sizes.{Sizes}
use Rattle.acct_base.specs.declared.label.Label.{Label}
use Rattle.acct_base.specs.declared.charge.Charge.{Charge}
use Rattle.acct_base.specs.declared.receipt.Mark.{Mark}
use Rattle.acct_base.specs.Amounts.{same_label}
use Rattle.acct_base.specs.Rules.{allowed_unseen}
use Rattle.acct_base.specs.Journal.{IsTrueRead, AreTrueReads, known_after, last_write, value_of_write}
use Rattle.acct_base.proofs.JournalLemmas.{last_write_within, last_write-append, value_of_write-append}
use Rattle.acct_base.specs.Receipts.{HookCall, Call, Obeys, ObeysCall, reads_of, keyed_read, is_looked_up, is_tagged, settled, counted, label, charge_to, add_to, untagged, is_landed, charges, app_adds, iface_adds, iface_add, reads, iface_matches}
use Rattle.acct_base.specs.Receipts.Call.{Hook, Iface, Allow, Deny}
use Rattle.desk_core.specs.Registers.{seen_now}
use Rattle.captures.specs.Runs.{Past}
use Rattle.acct_plain.specs.Serial.{serial_receipt, serial_line, value_if, read_if, row_mark, key_mark, mark_of}
use Rattle.acct_base.specs.Landings.{finds_room, landed_labels, landed_keys, same_number}
use Rattle.acct_base.specs.Landings.{LandInTurn, AddInTurn}
use Rattle.captures.proofs.Lists.{all_append}
use Rattle.acct_base.proofs.TurnLemmas.{land_append}

-- ---- it obeys

is_some-value_if : {A : Type 0} (b : Bool) (x : A) → is_some (value_if b x) ≡ b
is_some-value_if true x = refl
is_some-value_if false x = refl

serial_obeys : (sizes : Sizes) (past : Past) (call : HookCall) → Obeys call (serial_receipt sizes past call)
serial_obeys sizes past call = record {
  verdict = refl;
  rules_read = is_some-value_if _ _;
  owner_read = is_some-value_if _ _;
  set_read = is_some-value_if _ _;
  phase = is_some-value_if _ _;
  label_is = refl;
  landed_tag = is_some-value_if _ _;
  landed_plain = is_some-value_if _ _;
  landed_app = is_some-value_if _ _;
}

pub line_obeys : (sizes : Sizes) (past : Past) (call : Call) → ObeysCall call (serial_line sizes past call)
line_obeys sizes past (Hook call) = serial_obeys sizes past call
line_obeys sizes past (Iface call) = record { matched = refl; landed = is_some-value_if _ _ }
line_obeys sizes past (Allow sock_uid cookie received) = record { matched = refl; owner_read = is_some-value_if _ _ }
line_obeys sizes past (Deny sock_uid) = record { matched = refl; owner_read = refl }

-- ---- its reads

abbrev pub AreNow : List Write → List (Key × Seen) → Type 0
AreNow journal rs = AllByRecursion (λ (r : Key × Seen). r.1 ≡ seen_now journal r.0) rs

are_now-append : (journal : List Write) (xs ys : List (Key × Seen)) → AreNow journal xs → AreNow journal ys → AreNow journal (xs ++ ys)
are_now-append journal [] ys h k = k
are_now-append journal (x ∷ xs) ys h k = (h.0, are_now-append journal xs ys h.1 k)

keyed_now : (b : Bool) (journal : List Write) (key : Key) → AreNow journal (keyed_read key (read_if b journal key))
keyed_now true journal key = (refl, tt)
keyed_now false journal key = tt

hook_now : (sizes : Sizes) (past : Past) (call : HookCall) → AreNow past.journal (reads_of call (serial_receipt sizes past call))
hook_now sizes past call =
    let journal = past.journal in
    let r = serial_receipt sizes past call in
    let looked : Bool = is_looked_up call r.tag_read in
    let rules : AreNow journal (keyed_read Enabled r.rules_read) = keyed_now looked journal Enabled in
    let owner : AreNow journal (keyed_read (Owner call.sock_uid) r.owner_read) = keyed_now looked journal (Owner call.sock_uid) in
    let set : AreNow journal (keyed_read (Set (settled call r).uid) r.set_read) = keyed_now (counted call r) journal (Set (settled call r).uid) in
    let first : AreNow journal ((Cookie call.cookie, r.tag_read) ∷ keyed_read Enabled r.rules_read) = (refl, rules) in
    let two = are_now-append journal ((Cookie call.cookie, r.tag_read) ∷ keyed_read Enabled r.rules_read) (keyed_read (Owner call.sock_uid) r.owner_read) first owner in
    are_now-append journal (((Cookie call.cookie, r.tag_read) ∷ keyed_read Enabled r.rules_read) ++ keyed_read (Owner call.sock_uid) r.owner_read)
    (keyed_read (Set (settled call r).uid) r.set_read) two set

pub line_now : (sizes : Sizes) (past : Past) (call : Call) → AreNow past.journal (reads (call, serial_line sizes past call))
line_now sizes past (Hook call) = hook_now sizes past call
line_now sizes past (Iface call) = tt
line_now sizes past (Allow sock_uid cookie received) = keyed_now (not (allowed_unseen sock_uid cookie received)) past.journal (Owner sock_uid)
line_now sizes past (Deny sock_uid) = (refl, tt)

now_true : (journal : List Write) (key : Key) → IsTrueRead journal (length journal) key (seen_now journal key)
now_true journal key =
    let within : last_write journal (length journal) key ≤ length journal = last_write_within journal key in
    let whole : max (length journal) (last_write journal (length journal) key) ≡ length journal = omega (arith, within) in record {
      in_journal = rw whole (omega arith);
      last = rw whole refl;
      value = rw whole refl;
    }

-- a read that is true of a journal stays true when it grows
true_kept : (ws more : List Write) (known : ℕ) (key : Key) (seen : Seen) → IsTrueRead ws known key seen → IsTrueRead (ws ++ more) known key seen
true_kept ws more known key seen h =
    let m = max known seen.version in
    let inside : m ≤ length ws = h.in_journal in
    let long : length (ws ++ more) ≡ length ws + length more = simp length-append in
    let same : last_write (ws ++ more) m key ≡ last_write ws m key = last_write-append ws more m key inside in
    let version : seen.version ≤ length ws = omega (arith, inside) in
    let last_in : last_write ws m key ≤ length ws = subst (λ (v : ℕ). v ≤ length ws) h.last version in
    record {
      in_journal = omega (arith, inside, long);
      last = h.last ∙ sym same;
      value = h.value ∙ sym (ap (λ n. value_of_write (ws ++ more) n) same ∙ value_of_write-append ws more (last_write ws m key) last_in);
    }

pub known_same : (journal : List Write) (rs : List (Key × Seen)) → AreNow journal rs → known_after (length journal) rs ≡ length journal
known_same journal [] h = refl
known_same journal (r ∷ rs) h =
    let version : r.1.version ≡ last_write journal (length journal) r.0 = ap (λ (seen : Seen). seen.version) h.0 in
    let within : last_write journal (length journal) r.0 ≤ length journal = last_write_within journal r.0 in
    let whole : max (length journal) r.1.version ≡ length journal = omega (arith, version, within) in
    ap (λ n. known_after n rs) whole ∙ known_same journal rs h.1

pub now_true_later : (journal more : List Write) (rs : List (Key × Seen)) → AreNow journal rs → AreTrueReads (journal ++ more) (length journal) rs
now_true_later journal more [] h = tt
now_true_later journal more (r ∷ rs) h =
    let now : r.1 ≡ seen_now journal r.0 = h.0 in
    let first : IsTrueRead journal (length journal) r.0 r.1 = subst (λ seen. IsTrueRead journal (length journal) r.0 seen) (sym now) (now_true journal r.0) in
    let version : r.1.version ≡ last_write journal (length journal) r.0 = ap (λ (seen : Seen). seen.version) now in
    let within : last_write journal (length journal) r.0 ≤ length journal = last_write_within journal r.0 in
    let whole : max (length journal) r.1.version ≡ length journal = omega (arith, version, within) in
    (true_kept journal more (length journal) r.0 r.1 first, subst (λ n. AreTrueReads (journal ++ more) n rs) (sym whole) (now_true_later journal more rs h.1))

-- ---- its charges

landed-mark_of : (b : Bool) → is_landed (mark_of b) ≡ b
landed-mark_of true = refl
landed-mark_of false = refl

to_in_turn : (size : ℕ) (before : List Charge) (call : HookCall) (l : Label) (n : ℕ) (b c : Bool) →
    LandInTurn size before (charge_to call l (value_if b n) (value_if c (row_mark size before n l)))
to_in_turn size before call l n true true = (landed-mark_of (finds_room same_label size (landed_labels before n) l), tt)
to_in_turn size before call l n true false = tt
to_in_turn size before call l n false c = tt

pub charges_in_turn : (sizes : Sizes) (past : Past) (call : Call) → LandInTurn sizes.rows past.charges (charges (call, serial_line sizes past call))
charges_in_turn sizes past (Hook call) =
    let r = serial_receipt sizes past call in
    let n = length past.phases in
    let first = charge_to call (label call r) r.phase r.landed_tag in
    land_append sizes.rows past.charges first (charge_to call (untagged (label call r)) r.phase r.landed_plain)
    (to_in_turn sizes.rows past.charges call (label call r) n (counted call r) (counted call r && is_tagged call r.tag_read))
    (to_in_turn sizes.rows (past.charges ++ first) call (untagged (label call r)) n (counted call r) (counted call r))
charges_in_turn sizes past (Iface call) = tt
charges_in_turn sizes past (Allow sock_uid cookie received) = tt
charges_in_turn sizes past (Deny sock_uid) = tt

pub apps_in_turn : (sizes : Sizes) (past : Past) (call : Call) → AddInTurn sizes.apps past.apps (app_adds (call, serial_line sizes past call))
apps_in_turn sizes past (Hook call) = turn (counted call (serial_receipt sizes past call)) (settled call (serial_receipt sizes past call)).uid
  where
    turn : (b : Bool) (key : ℕ) → AddInTurn sizes.apps past.apps (add_to call key (value_if b (key_mark sizes.apps past.apps key)))
    turn true key = (landed-mark_of (finds_room same_number sizes.apps (landed_keys past.apps) key), tt)
    turn false key = tt
apps_in_turn sizes past (Iface call) = tt
apps_in_turn sizes past (Allow sock_uid cookie received) = tt
apps_in_turn sizes past (Deny sock_uid) = tt

pub ifaces_in_turn : (sizes : Sizes) (past : Past) (call : Call) → AddInTurn sizes.ifaces past.ifaces (iface_adds (call, serial_line sizes past call))
ifaces_in_turn sizes past (Hook call) = tt
ifaces_in_turn sizes past (Iface call) = turn (iface_matches call)
  where
    turn : (b : Bool) → AddInTurn sizes.ifaces past.ifaces (option_to_list (option_map (iface_add call) (value_if b (key_mark sizes.ifaces past.ifaces call.iface))))
    turn true = (landed-mark_of (finds_room same_number sizes.ifaces (landed_keys past.ifaces) call.iface), tt)
    turn false = tt
ifaces_in_turn sizes past (Allow sock_uid cookie received) = tt
ifaces_in_turn sizes past (Deny sock_uid) = tt

-- ---- its phase

to_phase : (call : HookCall) (l : Label) (n : ℕ) (b : Bool) (m : Option Mark) → AllByRecursion (λ (c : Charge). c.phase ≡ n) (charge_to call l (value_if b n) m)
to_phase call l n true (Some m) = (refl, tt)
to_phase call l n true None = tt
to_phase call l n false m = tt

pub charges_now : (sizes : Sizes) (past : Past) (call : Call) → AllByRecursion (λ (c : Charge). c.phase ≡ length past.phases) (charges (call, serial_line sizes past call))
charges_now sizes past (Hook call) =
    let r = serial_receipt sizes past call in
    let n = length past.phases in
    all_append (λ (c : Charge). c.phase ≡ n) (charge_to call (label call r) r.phase r.landed_tag) (charge_to call (untagged (label call r)) r.phase r.landed_plain)
    (to_phase call (label call r) n (counted call r) r.landed_tag) (to_phase call (untagged (label call r)) n (counted call r) r.landed_plain)
charges_now sizes past (Iface call) = tt
charges_now sizes past (Allow sock_uid cookie received) = tt
charges_now sizes past (Deny sock_uid) = tt
