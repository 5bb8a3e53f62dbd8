-- The dump: the text of a report, line by line.
use Rattle.std.specs.Prelude.{ℕ, ◌==◌, ◌&&◌, Bool, true, false, if◌then◌else◌, List, [], ◌∷◌, ◌++◌, length, Option, Some, None, option_map, unwrap_or, codes, decimal}
use Rattle.std.specs.List.{find, flat_map}
use Rattle.acct_base.specs.declared.amount.Amount.{Amount}
use Rattle.acct_base.specs.declared.amount.Row.{Row}
use Rattle.acct_base.specs.declared.amount.Snapshot.{Snapshot}
use Rattle.acct_base.specs.declared.label.Label.{Label}
use Rattle.acct_base.specs.declared.receipt.Mark.{Mark}
use Rattle.acct_base.specs.declared.receipt.Mark.TheVariants as mark
use Rattle.acct_base.specs.declared.receipt.LineReceipt.{LineReceipt}
use Rattle.acct_base.specs.declared.receipt.LineReceipt.TheVariants as line
use Rattle.acct_base.specs.declared.register.Seen.{Seen}
use Rattle.acct_base.specs.declared.verdict.Verdict.{Verdict}
use Rattle.acct_base.specs.declared.verdict.Verdict.TheVariants as verdict
use Rattle.acct_base.specs.Amounts.{minus}
use Rattle.acct_base.specs.Entries.{word_uid, word_tag, word_iface, word_rule}
use Rattle.acct_base.specs.Text.{line_text}
use Rattle.desk_core.specs.declared.command.Reply.{Reply}
use Rattle.desk_core.specs.declared.command.Reply.TheVariants.{Done, Perm, NoEntry, Invalid, KeysSpent, JournalFull}
use Rattle.shelf.specs.declared.counts.CallCounts.{CallCounts}
use Rattle.shelf.specs.declared.shelf.Deletion.{Deletion}
use Rattle.shelf.specs.declared.report.SectionOut.{SectionOut}
use Rattle.shelf.specs.Counted.{counts_of}
use Rattle.shelf.specs.Shelved.{Phases}
use Rattle.shelf.specs.Phases.{deleted_app, kept_rows, added_rows}
use Rattle.shelf.specs.Shown.{Shown}

-- ---- the head

-- The receipts of a section, lane after lane, with their line numbers.
abbrev pub section_receipts : SectionOut → List (ℕ × LineReceipt)
section_receipts s = flat_map (λ lane. lane) s.lanes

-- The receipts of all sections.
abbrev pub receipts_of : List SectionOut → List (ℕ × LineReceipt)
receipts_of sections = flat_map section_receipts sections

-- The line that counts receipts, packets that passed and were dropped, and marks of full tables.
abbrev pub calls_text : CallCounts → List ℕ
calls_text c = line_text (codes "calls" ∷ decimal c.calls ∷ codes "pass" ∷ decimal c.passed
    ∷ codes "drop" ∷ decimal c.dropped ∷ codes "full" ∷ decimal c.full ∷ [])

-- How many writes the commands made, and the live phase.
abbrev pub writes_text : ℕ → ℕ → List ℕ
writes_text writes phase = line_text (codes "writes" ∷ decimal writes ∷ codes "phase" ∷ decimal phase ∷ [])

-- ---- replies

-- The word of a reply.
abbrev pub reply_word : Reply → List ℕ
reply_word Done = codes "done"
reply_word Perm = codes "perm"
reply_word NoEntry = codes "no-entry"
reply_word Invalid = codes "invalid"
reply_word KeysSpent = codes "keys-spent"
reply_word JournalFull = codes "journal-full"

-- The line of a reply: the number of its desk line, and the reply.
abbrev pub reply_text : ℕ × Reply → List ℕ
reply_text r = line_text (codes "reply" ∷ decimal r.0 ∷ reply_word r.1 ∷ [])

-- A line for each desk line of a section.
abbrev pub section_replies : SectionOut → List ℕ
section_replies s = flat_map reply_text s.replies

-- The replies of all sections.
abbrev pub replies_text : List SectionOut → List ℕ
replies_text sections = line_text (codes "replies" ∷ []) ++ flat_map section_replies sections

-- ---- receipts

-- What stands for a value, or a dash where there is none.
abbrev pub or_dash : {A : Type 0} → (A → List ℕ) → Option A → List ℕ
or_dash spell None = codes "-"
or_dash spell (Some x) = spell x

-- A cookie's value: uid and tag.
abbrev pub tag_value : ℕ → List ℕ
tag_value word = decimal (word_uid word) ++ (codes "/" ++ decimal (word_tag word))

-- An owner's value: rule and interface.
abbrev pub owner_value : ℕ → List ℕ
owner_value word = decimal (word_rule word) ++ (codes "/" ++ decimal (word_iface word))

-- What a read saw: the value that was written, or a dash where nothing was written or the entry was taken out.
abbrev pub seen_value : (ℕ → List ℕ) → Seen → List ℕ
seen_value spell seen = if seen.version == 0 then codes "-" else or_dash spell seen.value

-- A read: its version, a colon, and what it saw.
abbrev pub seen_word : (ℕ → List ℕ) → Seen → List ℕ
seen_word spell seen = decimal seen.version ++ (codes ":" ++ seen_value spell seen)

-- The word of a verdict.
abbrev pub verdict_word : Verdict → List ℕ
verdict_word verdict.Pass = codes "pass"
verdict_word verdict.Drop = codes "drop"

-- The word of a mark.
abbrev pub mark_word : Mark → List ℕ
mark_word mark.Landed = codes "landed"
mark_word mark.Full = codes "full"

-- Whether a list or an interface program matched.
abbrev pub match_word : Bool → List ℕ
match_word true = codes "match"
match_word false = codes "nomatch"

-- A number of the label, or a dash where the packet is not counted.
abbrev pub label_word : (Label → ℕ) → Option Label → List ℕ
label_word part label = or_dash (λ l. decimal (part l)) label

-- The words of a receipt, after the number of its line. For a hook: the verdict; the writes that it knew; the reads of cookie, rules, owner and
-- set; phase, uid, tag and set that it is counted under; and the marks of the tagged row, the plain row and the app.
abbrev pub receipt_words : ℕ → LineReceipt → List (List ℕ)
receipt_words n (line.Hook r) =
    codes "rc" ∷ decimal n ∷ verdict_word r.verdict ∷ decimal r.front
    ∷ seen_word tag_value r.tag_read ∷ or_dash (seen_word decimal) r.rules_read ∷ or_dash (seen_word owner_value) r.owner_read ∷ or_dash (seen_word decimal) r.set_read
    ∷ or_dash decimal r.phase ∷ label_word (λ l. l.uid) r.label ∷ label_word (λ l. l.tag) r.label ∷ label_word (λ l. l.set) r.label
    ∷ or_dash mark_word r.landed_tag ∷ or_dash mark_word r.landed_plain ∷ or_dash mark_word r.landed_app ∷ []
receipt_words n (line.Iface r) = codes "ic" ∷ decimal n ∷ match_word r.matched ∷ or_dash mark_word r.landed ∷ []
receipt_words n (line.List r) = codes "lc" ∷ decimal n ∷ match_word r.matched ∷ decimal r.front ∷ or_dash (seen_word owner_value) r.owner_read ∷ []

-- The line of a receipt.
abbrev pub receipt_text : ℕ × LineReceipt → List ℕ
receipt_text r = line_text (receipt_words r.0 r.1)

-- The receipts of a section, lane after lane.
abbrev pub section_text : SectionOut → List ℕ
section_text s = flat_map (flat_map receipt_text) s.lanes

-- The receipts of all sections, where they are asked for.
abbrev pub receipts_text : Bool → List SectionOut → List ℕ
receipts_text false sections = []
receipts_text true sections = line_text (codes "receipts" ∷ []) ++ flat_map section_text sections

-- ---- rows

-- An amount's four numbers: packets and bytes received, packets and bytes sent.
abbrev pub amount_words : Amount → List (List ℕ)
amount_words a = decimal a.rx_packets ∷ decimal a.rx_bytes ∷ decimal a.tx_packets ∷ decimal a.tx_bytes ∷ []

-- The name of an interface, where it has one.
abbrev pub iface_name : List (ℕ × List ℕ) → ℕ → Option (List ℕ)
iface_name names iface = option_map (λ (n : ℕ × List ℕ). n.1) (find (λ (n : ℕ × List ℕ). n.0 == iface) names)

-- An interface's name, or else its index.
abbrev pub iface_word : List (ℕ × List ℕ) → ℕ → List ℕ
iface_word names iface = unwrap_or (iface_name names iface) (decimal iface)

-- A row's line: uid, tag, set, interface, amount.
abbrev pub row_text : List (ℕ × List ℕ) → Row → List ℕ
row_text names row = line_text (codes "row" ∷ decimal row.label.uid ∷ decimal row.label.tag ∷ decimal row.label.set
    ∷ iface_word names row.label.iface ∷ amount_words row.amount)

-- A line for each row.
abbrev pub rows_text : List (ℕ × List ℕ) → List Row → List ℕ
rows_text names rows = flat_map (row_text names) rows

-- A uid and the amount of its app.
abbrev pub app_text : ℕ → Amount → List ℕ
app_text uid amount = line_text (codes "app" ∷ decimal uid ∷ amount_words amount)

-- ---- phases

-- What a deletion recorded of its uid's app; one of a tag recorded nothing.
abbrev pub recorded_text : ℕ → Option Amount → List ℕ
recorded_text uid None = []
recorded_text uid (Some amount) = app_text uid amount

-- What the collection of a phase deleted: the rows that it took out, and what it recorded.
abbrev pub deletion_text : List (ℕ × List ℕ) → Option Deletion → List ℕ
deletion_text names None = []
deletion_text names (Some d) =
    line_text (codes "deleted" ∷ decimal d.phase ∷ decimal d.uid ∷ decimal d.tag ∷ []) ++ rows_text names d.rows ++ recorded_text d.uid d.app

-- A phase that ended.
abbrev pub phase_text : List (ℕ × List ℕ) → Snapshot × Option Deletion → List ℕ
phase_text names p =
    line_text (codes "snapshot" ∷ decimal p.0.phase ∷ []) ++ rows_text names p.0.rows ++ deletion_text names p.1

-- The live phase and its rows.
abbrev pub live_text : List (ℕ × List ℕ) → Snapshot → List ℕ
live_text names live = line_text (codes "live" ∷ decimal live.phase ∷ []) ++ rows_text names live.rows

-- The rows of all phases, added by label; what was deleted is left out.
abbrev pub total_text : List (ℕ × List ℕ) → List Row → List ℕ
total_text names rows = line_text (codes "total" ∷ []) ++ rows_text names rows

-- ---- totals

-- All four numbers are zero.
abbrev pub is_zero : Amount → Bool
is_zero a = a.rx_packets == 0 && a.rx_bytes == 0 && a.tx_packets == 0 && a.tx_bytes == 0

-- An app's line, unless nothing is left of its total.
abbrev pub app_unless_zero : ℕ → Amount → List ℕ
app_unless_zero uid left = if is_zero left then [] else app_text uid left

-- What is left of an app's total, less what deletions of its uid recorded.
abbrev pub app_left_text : Phases → ℕ × Amount → List ℕ
app_left_text phases t = app_unless_zero t.0 (minus t.1 (deleted_app phases t.0))

-- The totals by uid.
abbrev pub apps_text : Phases → List (ℕ × Amount) → List ℕ
apps_text phases apps = line_text (codes "apps" ∷ []) ++ flat_map (app_left_text phases) apps

-- An interface's line.
abbrev pub iface_text : List (ℕ × List ℕ) → ℕ × Amount → List ℕ
iface_text names t = line_text (codes "iface" ∷ iface_word names t.0 ∷ amount_words t.1)

-- The totals by interface.
abbrev pub ifaces_text : List (ℕ × List ℕ) → List (ℕ × Amount) → List ℕ
ifaces_text names ifaces = line_text (codes "ifaces" ∷ []) ++ flat_map (iface_text names) ifaces

-- ---- the dump

-- The dump of a report, with or without its receipts.
abbrev pub dump : Shown → Bool → List ℕ
dump r receipts =
    line_text (codes "netacct-dump" ∷ codes "1" ∷ [])
    ++ calls_text (counts_of (receipts_of r.sections))
    ++ writes_text (length r.journal) r.live.phase
    ++ replies_text r.sections
    ++ receipts_text receipts r.sections
    ++ flat_map (phase_text r.names) r.phases
    ++ live_text r.names r.live
    ++ total_text r.names (added_rows (kept_rows r.phases r.live))
    ++ apps_text r.phases r.apps
    ++ ifaces_text r.names r.ifaces
    ++ line_text (codes "end" ∷ [])
