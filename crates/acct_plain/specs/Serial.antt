-- The report of a replay on one thread: section by section, the lanes in order, then the desk. The walk keeps whole lists of what
-- happened and asks them each time.
use Rattle.std.specs.Prelude.{ℕ, ◌-◌, ◌==◌, ◌&&◌, not, Bool, if◌then◌else◌, List, [], ◌∷◌, ◌++◌, length, map, filter, Option, None, Some}
use Rattle.acct_base.specs.declared.amount.Amount.{Amount}
use Rattle.acct_base.specs.declared.label.Label.{Label}
use Rattle.acct_base.specs.declared.amount.Row.{Row}
use Rattle.acct_base.specs.declared.register.Write.{Write}
use Rattle.acct_base.specs.declared.register.Seen.{Seen}
use Rattle.acct_base.specs.declared.register.Key.{Key}
use Rattle.acct_base.specs.declared.register.Key.TheVariants as key
use Rattle.acct_base.specs.declared.receipt.Mark.{Mark}
use Rattle.acct_base.specs.declared.receipt.Mark.TheVariants as mark
use Rattle.acct_base.specs.declared.charge.Charge.{Charge}
use Rattle.acct_base.specs.declared.sizes.Sizes.{Sizes}
use Rattle.acct_base.specs.declared.amount.Snapshot.{Snapshot}
use Rattle.acct_base.specs.declared.packet.IfaceIn.{IfaceIn}
use Rattle.acct_base.specs.declared.receipt.Receipt.{Receipt}
use Rattle.acct_base.specs.declared.receipt.IfaceReceipt.{IfaceReceipt}
use Rattle.acct_base.specs.declared.receipt.ListReceipt.{ListReceipt}
use Rattle.acct_base.specs.declared.receipt.LineReceipt.{LineReceipt}
use Rattle.acct_base.specs.declared.receipt.LineReceipt.TheVariants as line
use Rattle.acct_base.specs.Landings.{landed_labels, landed_keys, charge_lands, add_lands}
use Rattle.acct_base.specs.Rules.{allow, allowed_unseen, deny}
use Rattle.acct_base.specs.Receipts.{HookCall, Call, Add, is_looked_up, settled_of, is_counted, is_tagged, label_of, charge_to, untagged, charges, app_adds, iface_adds, iface_matches, rule_read}
use Rattle.acct_base.specs.Receipts.Call.{Hook, Iface, Allow, Deny}
use Rattle.acct_base.specs.Sums.{folded, added}
use Rattle.desk_core.specs.declared.command.Command.{Command}
use Rattle.desk_core.specs.declared.command.Command.TheVariants.{Delete}
use Rattle.desk_core.specs.declared.command.Reply.{Reply}
use Rattle.desk_core.specs.Commands.{reply, after_command, collects, is_done}
use Rattle.desk_core.specs.Registers.{seen_now}
use Rattle.shelf.specs.declared.shelf.Deletion.{Deletion}
use Rattle.shelf.specs.declared.report.SectionOut.{SectionOut}
use Rattle.shelf.specs.Phases.{is_deleted, deleted_app}
use Rattle.shelf.specs.Shown.{Shown}
use Rattle.captures.specs.Calls.{SectionCalls, Asked}
use Rattle.captures.specs.Runs.{Past, nothing_yet, report_of}

-- ---- what lands

-- A mark says whether a charge landed.
abbrev pub mark_of : Bool → Mark
mark_of b = if b then mark.Landed else mark.Full

abbrev pub row_mark : ℕ → List Charge → ℕ → Label → Mark
row_mark size cs phase label = mark_of (charge_lands size cs phase label)

abbrev pub key_mark : ℕ → List Add → ℕ → Mark
key_mark size adds k = mark_of (add_lands size adds k)

-- The rows of a phase, and totals: a sum for each of these.
abbrev pub rows_from : List Charge → ℕ → List Row
rows_from cs phase = map (λ label. record { label = label; amount = folded cs phase label }) (landed_labels cs phase)

abbrev pub totals_from : List Add → List (ℕ × Amount)
totals_from adds = map (λ k. (k, added adds k)) (landed_keys adds)

-- ---- calls

abbrev pub value_if : {A : Type 0} → Bool → A → Option A
value_if b x = if b then Some x else None

abbrev pub read_if : Bool → List Write → Key → Option Seen
read_if b journal k = value_if b (seen_now journal k)

-- The receipt that obeys the rules on reads of the whole journal; each charge finds those before it made.
abbrev pub serial_receipt : Sizes → Past → HookCall → Receipt
serial_receipt sizes past call =
    let journal = past.journal in
    let now = length past.phases in
    let tag_read = seen_now journal (key.Cookie call.cookie) in
    let rules_read = read_if (is_looked_up call tag_read) journal key.Enabled in
    let owner_read = read_if (is_looked_up call tag_read) journal (key.Owner call.sock_uid) in
    let settled = settled_of call tag_read rules_read owner_read in
    let counted = is_counted call tag_read settled in
    let set_read = read_if counted journal (key.Set settled.uid) in
    let label = label_of call tag_read settled set_read in
    let phase = value_if counted now in
    let landed_tag = value_if (counted && is_tagged call tag_read) (row_mark sizes.rows past.charges now label) in
    let charged = past.charges ++ charge_to call label phase landed_tag in
    record {
      front = length journal;
      tag_read = tag_read;
      rules_read = rules_read;
      owner_read = owner_read;
      set_read = set_read;
      phase = phase;
      label = value_if counted label;
      verdict = settled.verdict;
      landed_tag = landed_tag;
      landed_plain = value_if counted (row_mark sizes.rows charged now (untagged label));
      landed_app = value_if counted (key_mark sizes.apps past.apps settled.uid);
    }

abbrev pub serial_iface : Sizes → Past → IfaceIn → IfaceReceipt
serial_iface sizes past call = record {
  matched = iface_matches call;
  landed = value_if (iface_matches call) (key_mark sizes.ifaces past.ifaces call.iface);
}

abbrev pub serial_allow : List Write → ℕ → ℕ → Bool → ListReceipt
serial_allow journal sock_uid cookie received =
    let seen = read_if (not (allowed_unseen sock_uid cookie received)) journal (key.Owner sock_uid) in
    record { front = length journal; owner_read = seen; matched = allow sock_uid cookie received (rule_read seen) }

abbrev pub serial_deny : List Write → ℕ → ListReceipt
serial_deny journal sock_uid =
    let seen = Some (seen_now journal (key.Owner sock_uid)) in
    record { front = length journal; owner_read = seen; matched = deny (rule_read seen) }

abbrev pub serial_line : Sizes → Past → Call → LineReceipt
serial_line sizes past (Hook call) = line.Hook (serial_receipt sizes past call)
serial_line sizes past (Iface call) = line.Iface (serial_iface sizes past call)
serial_line sizes past (Allow sock_uid cookie received) = line.List (serial_allow past.journal sock_uid cookie received)
serial_line sizes past (Deny sock_uid) = line.List (serial_deny past.journal sock_uid)

-- All that a call charged, behind what was charged before.
abbrev pub after_call : Past → Call → LineReceipt → Past
after_call past call r = record past {
  charges = past.charges ++ charges (call, r);
  apps = past.apps ++ app_adds (call, r);
  ifaces = past.ifaces ++ iface_adds (call, r);
}

-- ---- the desk

-- Number by number; nothing falls below 0.
abbrev pub less : Amount → Amount → Amount
less a b = record {
  rx_packets = a.rx_packets - b.rx_packets;
  rx_bytes = a.rx_bytes - b.rx_bytes;
  tx_packets = a.tx_packets - b.tx_packets;
  tx_bytes = a.tx_bytes - b.tx_bytes;
}

-- What a deletion without a tag records: the app's sum, less what earlier deletions of it recorded.
abbrev pub app_now : Past → ℕ → ℕ → Option Amount
app_now past uid tag = value_if (tag == 0) (less (added past.apps uid) (deleted_app past.phases uid))

-- The live phase, as a collection finds it.
abbrev pub live_snapshot : Past → Snapshot
live_snapshot past = record { phase = length past.phases; rows = rows_from past.charges (length past.phases) }

-- The phase that a collecting command ends. A deletion divides its rows.
abbrev pub ended_phase : Past → Command → Snapshot × Option Deletion
ended_phase past (Delete caller uid tag) = (
  record { phase = length past.phases; rows = filter (λ row. not (is_deleted uid tag row)) (live_snapshot past).rows },
  Some (record {
    phase = length past.phases;
    uid = uid;
    tag = tag;
    rows = filter (is_deleted uid tag) (live_snapshot past).rows;
    app = app_now past uid tag;
  }),
)
ended_phase past _ = (live_snapshot past, None)

abbrev pub with_phase : Past → Snapshot × Option Deletion → Past
with_phase past p = record past { phases = past.phases ++ p ∷ [] }

-- After a command: its writes stand in the journal, and where it collects and is done, the phase has ended.
abbrev pub after_desk_line : List ℕ → Sizes → Past → Command → Past
after_desk_line privileged sizes past command =
    let written = record past { journal = after_command privileged sizes.regs past.journal command } in
    if collects command && is_done (reply past.journal privileged sizes.regs command) then with_phase written (ended_phase past command) else written

-- ---- the walk: what happened then, and what was answered

abbrev pub walk_lane : Sizes → Past → List (ℕ × Call) → Past × List (ℕ × LineReceipt)
walk_lane sizes past [] = (past, [])
walk_lane sizes past (c ∷ cs) =
    let r = serial_line sizes past c.1 in
    let rest = walk_lane sizes (after_call past c.1 r) cs in
    (rest.0, (c.0, r) ∷ rest.1)

abbrev pub walk_lanes : Sizes → Past → List (List (ℕ × Call)) → Past × List (List (ℕ × LineReceipt))
walk_lanes sizes past [] = (past, [])
walk_lanes sizes past (lane ∷ lanes) =
    let first = walk_lane sizes past lane in
    let rest = walk_lanes sizes first.0 lanes in
    (rest.0, first.1 ∷ rest.1)

abbrev pub walk_desk : List ℕ → Sizes → Past → List (ℕ × Command) → Past × List (ℕ × Reply)
walk_desk privileged sizes past [] = (past, [])
walk_desk privileged sizes past (c ∷ cs) =
    let answer = reply past.journal privileged sizes.regs c.1 in
    let rest = walk_desk privileged sizes (after_desk_line privileged sizes past c.1) cs in
    (rest.0, (c.0, answer) ∷ rest.1)

abbrev pub walk_section : List ℕ → Sizes → Past → SectionCalls → Past × SectionOut
walk_section privileged sizes past s =
    let lanes = walk_lanes sizes past s.lanes in
    let desk = walk_desk privileged sizes lanes.0 s.desk in
    (desk.0, record { lanes = lanes.1; replies = desk.1 })

abbrev pub walk_sections : List ℕ → Sizes → Past → List SectionCalls → Past × List SectionOut
walk_sections privileged sizes past [] = (past, [])
walk_sections privileged sizes past (s ∷ ss) =
    let first = walk_section privileged sizes past s in
    let rest = walk_sections privileged sizes first.0 ss in
    (rest.0, first.1 ∷ rest.1)

-- What the tables hold then.
abbrev pub told : List (ℕ × List ℕ) → List SectionOut → Past → Shown
told names outs past = report_of names outs past (live_snapshot past) (totals_from past.apps) (totals_from past.ifaces)

-- The report of the walk.
abbrev pub serial : Asked → Shown
serial asked =
    let walk = walk_sections asked.privileged asked.sizes nothing_yet asked.sections in
    told asked.names walk.1 walk.0
