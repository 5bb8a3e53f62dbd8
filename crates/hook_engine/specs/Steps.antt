-- What the parts of a call do with single seats.
use Rattle.std.specs.Prelude.{◌≡◌, ℕ, ◌+◌, ◌-◌, ◌≤◌, ◌==◌, not, if◌then◌else◌, List, [], ◌∷◌, ◌++◌, length, filter, Option, None, Some, is_some, unwrap_or, IfSome}
use Rattle.acct_base.specs.declared.charge.Charge.{Charge}
use Rattle.acct_base.specs.declared.charge.Job.{Job}
use Rattle.acct_base.specs.declared.packet.IfaceIn.{IfaceIn}
use Rattle.acct_base.specs.declared.receipt.IfaceReceipt.{IfaceReceipt}
use Rattle.acct_base.specs.declared.receipt.Mark.{Mark}
use Rattle.acct_base.specs.declared.receipt.Receipt.{Receipt}
use Rattle.acct_base.specs.declared.register.Key.{Key}
use Rattle.acct_base.specs.declared.register.Seen.{Seen}
use Rattle.acct_base.specs.Amounts.{IsValidLabel}
use Rattle.acct_base.specs.Journal.{AreTrueReads, known_after}
use Rattle.acct_base.specs.Length.{IsChargeable}
use Rattle.acct_base.specs.Landings.{LandInTurn, AddInTurn}
use Rattle.acct_base.specs.Receipts.{HookCall, Obeys, ObeysIface, settled, counted, label, is_looked_up, charges_of, app_adds_of, iface_adds_of, reads_of, is_landed, untagged, PhaseIsFrom}
use Rattle.reg_words.specs.Seats.{ReaderState}
use Rattle.grace_rows.specs.Seats.{PairedState, HookState, IsSole as HasAllCalls}
use Rattle.total_rows.specs.Seats.{TotalsState, SeatState, IsSole as HasAllAdds}
use Rattle.hook_engine.specs.declared.count.RowMarks.{RowMarks}
use Rattle.hook_engine.specs.Passes.{Begins, is_recorded}

-- A reader made these reads, in order, and no load of the front.
pub record DidRead (before after : ReaderState) (reads : List (Key × Seen)) : Type 0 where
  pub from : after.origin ≡ before.origin
  pub are_true : AreTrueReads after.known (length before.known) reads
  pub seen_is : length after.known ≡ known_after (length before.known) reads
  pub knew : Begins before.known after.known
  pub recorded : after.reads ≡ before.reads ++ filter is_recorded reads
  pub loads : after.loads ≡ before.loads
  pub loaded : after.loaded ≡ before.loaded

-- A hook's receipt before its charges are made: what it read and decided obeys the rules, and nothing is charged yet.
pub record Looked (call : HookCall) (front : ℕ) (r : Receipt) : Type 0 where
  pub front_is : r.front ≡ front
  pub verdict : r.verdict ≡ (settled call r).verdict
  pub rules_read : is_some r.rules_read ≡ is_looked_up call r.tag_read
  pub owner_read : is_some r.owner_read ≡ is_looked_up call r.tag_read
  pub set_read : is_some r.set_read ≡ counted call r
  pub label_is : r.label ≡ (if counted call r then Some (label call r) else None)
  pub valid : IfSome r.label IsValidLabel
  pub no_phase : r.phase ≡ None
  pub no_tag : r.landed_tag ≡ None
  pub no_plain : r.landed_plain ≡ None
  pub no_app : r.landed_app ≡ None

-- A job that can be charged: its label is valid, and its numbers are within their ranges.
pub record IsJob (job : Job) : Type 0 where
  pub label : IsValidLabel job.label
  pub amounts : IsChargeable job.packets job.bytes

-- The charge of a job in a phase, where it was made.
abbrev pub charged_to : Job → ℕ → Option Mark → List Charge
charged_to job phase None = []
charged_to job phase (Some mark) = record { phase = phase; job = job; landed = is_landed mark } ∷ []

-- The job without its label's tag.
abbrev pub untagged_job : Job → Job
untagged_job job = record job { label = untagged job.label }

-- The charges of a packet: to its label, where that has a tag, and to the label without its tag.
abbrev pub row_charges : Job → RowMarks → List Charge
row_charges job marks = charged_to job marks.phase marks.tag ++ charged_to (untagged_job job) marks.phase (Some marks.plain)

-- A packet entered a phase, made its charges to rows, and left.
pub record Charged (maps : PairedState) (job : Job) (before after : HookState) (marks : RowMarks) : Type 0 where
  pub phase_from : before.phase ≤ marks.phase
  pub seat : after ≡ record before {
    left = before.left - 1;
    made = before.made + 1;
    phase = marks.phase;
    charges = before.charges ++ row_charges job marks;
    steps = after.steps;
    spots = after.spots;
  }
  pub tagged : is_some marks.tag ≡ not (job.label.tag == 0)
  pub in_turn : HasAllCalls maps before → LandInTurn maps.rows before.charges (row_charges job marks)

-- A seat of some calls spent at most one of them.
pub record SpentAtMostOne (left made left' made' : ℕ) : Type 0 where
  pub same : left' + made' ≡ left + made
  pub most : left ≤ left' + 1

-- A hook's receipt was completed: its packet was counted where it is to be, and what it charged was appended to the seats' lists.
pub record Counted (maps : PairedState) (totals : TotalsState) (call : HookCall) (looked : Receipt) (hook : HookState) (apps : SeatState) (r : Receipt) (hook' : HookState) (apps' : SeatState) : Type 0 where
  pub obeys : Obeys call r
  pub front : r.front ≡ looked.front
  pub reads : reads_of call r ≡ reads_of call looked
  pub phase_from : PhaseIsFrom hook.phase r.phase
  pub hook_is : hook' ≡ record hook {
    left = hook'.left;
    made = hook'.made;
    phase = unwrap_or r.phase hook.phase;
    charges = hook.charges ++ charges_of call r;
    steps = hook'.steps;
    spots = hook'.spots;
  }
  pub hook_calls : SpentAtMostOne hook.left hook.made hook'.left hook'.made
  pub apps_is : apps' ≡ record apps {
    left = apps'.left;
    made = apps'.made;
    adds = apps.adds ++ app_adds_of call r;
    places = apps'.places;
  }
  pub app_calls : SpentAtMostOne apps.left apps.made apps'.left apps'.made
  pub land : HasAllCalls maps hook → LandInTurn maps.rows hook.charges (charges_of call r)
  pub on_apps : HasAllAdds totals apps → AddInTurn totals.rows apps.adds (app_adds_of call r)

-- An interface program's receipt: its packet was added where it matches.
pub record IfaceCounted (totals : TotalsState) (call : IfaceIn) (before after : SeatState) (r : IfaceReceipt) : Type 0 where
  pub obeys : ObeysIface call r
  pub seat : after ≡ record before {
    left = after.left;
    made = after.made;
    adds = before.adds ++ iface_adds_of call r;
    places = after.places;
  }
  pub calls : SpentAtMostOne before.left before.made after.left after.made
  pub in_turn : HasAllAdds totals before → AddInTurn totals.rows before.adds (iface_adds_of call r)
