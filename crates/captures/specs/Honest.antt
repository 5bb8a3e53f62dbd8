-- A report is honest to what a script asks for: it could be the report of the script's lanes, desks and collections, whatever the
-- order in which the lanes of one section and its desk took their steps.
--
-- Sections run one after another. What a section's desk did, and what its collections ended, each later section knows. Within a
-- section the lanes and the desk run beside one another: a lane may see any of the desk's writes as soon as they are made, and its
-- packets may fall into any phase that the section's collections leave open.
use Rattle.std.specs.Prelude.{◌≡◌, ℕ, suc, ◌+◌, ◌≤◌, ◌==◌, ◌&&◌, Bool, true, false, if◌then◌else◌, List, [], ◌∷◌, ◌++◌, length, map, flat_map, zip, take, slice_get, Option, None, Some, is_some, unwrap_or}
use Rattle.std.specs.List.{AllByRecursion, AllZip}
use Rattle.acct_base.specs.declared.amount.Amount.{Amount}
use Rattle.acct_base.specs.declared.register.Write.{Write}
use Rattle.acct_base.specs.declared.sizes.RegSizes.{RegSizes}
use Rattle.acct_base.specs.declared.amount.Snapshot.{Snapshot}
use Rattle.acct_base.specs.declared.receipt.LineReceipt.{LineReceipt}
use Rattle.acct_base.specs.Amounts.{IsAtMost}
use Rattle.acct_base.specs.Journal.{AreTrueReads, known_after, known_at_front, FrontIsFrom}
use Rattle.acct_base.specs.Receipts.{Call, Add, ObeysCall, charges, app_adds, iface_adds, front_of, reads, phase_of, PhaseIsFrom}
use Rattle.acct_base.specs.Sums.{added, AreTotals}
use Rattle.desk_core.specs.declared.command.Command.{Command}
use Rattle.desk_core.specs.declared.command.Command.TheVariants.{Delete}
use Rattle.desk_core.specs.Commands.{reply, replies, is_done, after_command, after_commands, collects}
use Rattle.shelf.specs.declared.shelf.Deletion.{Deletion}
use Rattle.shelf.specs.declared.report.SectionOut.{SectionOut}
use Rattle.shelf.specs.Shelved.{Phases}
use Rattle.shelf.specs.Phases.{IsConserved, FullIsShown, is_deleted, deleted_app, uid_of}
use Rattle.shelf.specs.Shown.{Shown}
use Rattle.captures.specs.Calls.{SectionCalls, Asked}

-- ---- lines, and each call with its receipt

-- The number of a line.
abbrev pub line_number : {A : Type 0} → ℕ × A → ℕ
line_number line = line.0

-- What stands on a line: a call, a command, or the receipt of one.
abbrev pub line_item : {A : Type 0} → ℕ × A → A
line_item line = line.1

-- The calls of a lane, each with its receipt.
abbrev pub lane_pairs : List (ℕ × Call) → List (ℕ × LineReceipt) → List (Call × LineReceipt)
lane_pairs calls receipts = zip (map line_item calls) (map line_item receipts)

-- Those of lanes, one lane after another.
abbrev pub lanes_pairs : List (List (ℕ × Call)) → List (List (ℕ × LineReceipt)) → List (Call × LineReceipt)
lanes_pairs [] _ = []
lanes_pairs (c ∷ cs) [] = []
lanes_pairs (c ∷ cs) (r ∷ rs) = lane_pairs c r ++ lanes_pairs cs rs

-- Those of a section.
abbrev pub section_pairs : SectionCalls → SectionOut → List (Call × LineReceipt)
section_pairs c o = lanes_pairs c.lanes o.lanes

-- Those of sections, one section after another.
abbrev pub all_pairs : List SectionCalls → List SectionOut → List (Call × LineReceipt)
all_pairs [] _ = []
all_pairs (c ∷ cs) [] = []
all_pairs (c ∷ cs) (o ∷ os) = section_pairs c o ++ all_pairs cs os

-- The commands of a section's desk, in order.
abbrev pub commands_of : SectionCalls → List Command
commands_of c = map line_item c.desk

-- ---- a lane

-- A lane that knew of so many writes never knows less later on: each front is no less than what was known and is known from then
-- on, each read is true of the journal by what was known, and in the end no more is known than the journal has.
abbrev pub KnowledgeGrows : List Write → ℕ → List (Call × LineReceipt) → Type 0
KnowledgeGrows journal known [] = known ≤ length journal
KnowledgeGrows journal known (p ∷ ps) =
    let known_then = known_at_front known (front_of p.1) in
    FrontIsFrom known (front_of p.1) × AreTrueReads journal known_then (reads p)
    × KnowledgeGrows journal (known_after known_then (reads p)) ps

-- Along a lane the phases never fall, from one phase up to another.
abbrev pub PhasesRise : ℕ → ℕ → List (Call × LineReceipt) → Type 0
PhasesRise from to [] = from ≤ to
PhasesRise from to (p ∷ ps) = PhaseIsFrom from (phase_of p.1) × PhasesRise (unwrap_or (phase_of p.1) from) to ps

-- A lane is honest: it began with the knowledge of so many writes of the journal, and its phases lie between these two.
pub record IsHonestLane (known : ℕ) (journal : List Write) (from to : ℕ) (calls : List (ℕ × Call)) (receipts : List (ℕ × LineReceipt)) : Type 0 where
  -- There is one receipt for each call, in order, with the number of its line.
  pub lines : map line_number receipts ≡ map line_number calls
  -- Each receipt is of its call's kind, and its answer, its label and its marks follow from its reads by the rules.
  pub obey : AllZip (λ (c : ℕ × Call) (r : ℕ × LineReceipt). ObeysCall c.1 r.1) calls receipts
  -- Each read gave what the journal says, and never something older than the lane had seen.
  pub knowledge_grows : KnowledgeGrows journal known (lane_pairs calls receipts)
  -- No packet is counted in an earlier phase than one before it.
  pub phases_rise : PhasesRise from to (lane_pairs calls receipts)

-- ---- sections

module _ (privileged : List ℕ) (sizes : RegSizes) where
  -- The command ends a phase: it is a collection or a deletion, and it is done.
  abbrev pub is_collection : List Write → Command → Bool
  is_collection journal c = collects c && is_done (reply journal privileged sizes c)

  -- The commands among these that end a phase, in order.
  abbrev pub collections : List Write → List Command → List Command
  collections journal [] = []
  collections journal (c ∷ cs) =
      let others = collections (after_command privileged sizes journal c) cs in
      if is_collection journal c then c ∷ others else others

  -- A section is honest, from the journal and the phase that the sections before it left.
  pub record IsHonestSection (before : List Write) (phase : ℕ) (calls : SectionCalls) (out : SectionOut) : Type 0 where
    -- Each lane knew all writes of earlier sections, reads no further than to this section's last write, and counts in phases from
    -- the earlier sections' last one up to that after this section's collections.
    pub lanes : AllZip
        (IsHonestLane (length before) (after_commands privileged sizes before (commands_of calls))
        phase (phase + length (collections before (commands_of calls)))) calls.lanes out.lanes
    -- Each command has its reply, in order, with the number of its line: what it answers after the commands before it.
    pub replies : out.replies ≡ zip (map line_number calls.desk) (replies privileged sizes before (commands_of calls))

  -- There is one outcome for each section, and each section is honest, from the journal and the phase that those before it left.
  abbrev pub SectionsAreHonest : List Write → ℕ → List SectionCalls → List SectionOut → Type 0
  SectionsAreHonest journal phase [] [] = Unit {0}
  SectionsAreHonest journal phase (c ∷ cs) (o ∷ os) =
      IsHonestSection journal phase c o
      × SectionsAreHonest (after_commands privileged sizes journal (commands_of c))
      (phase + length (collections journal (commands_of c))) cs os
  SectionsAreHonest _ _ _ _ = ⊥

-- ---- collections

-- A collection that was done: its command, what had been added to apps before its section, and what had been after it.
pub record Collection : Type 0 where
  pub command : Command
  pub before : List Add
  pub through : List Add

-- The collections of sections that were done, in order, from a journal and the adds before these sections on.
abbrev pub collections_of : List ℕ → RegSizes → List Write → List Add → List SectionCalls → List SectionOut → List Collection
collections_of privileged sizes journal before [] _ = []
collections_of privileged sizes journal before (c ∷ cs) [] = []
collections_of privileged sizes journal before (c ∷ cs) (o ∷ os) =
    let through = before ++ flat_map app_adds (section_pairs c o) in
    map (λ command. record { command = command; before = before; through = through }) (collections privileged sizes journal (commands_of c))
    ++ collections_of privileged sizes (after_commands privileged sizes journal (commands_of c)) through cs os

-- A deletion divides the rows of its phase from those that the snapshot keeps.
pub record Divides (n uid tag : ℕ) (snapshot : Snapshot) (d : Deletion) : Type 0 where
  -- It is the phase's, with the command's uid and tag.
  pub phase : d.phase ≡ n
  pub uid_is : d.uid ≡ uid
  pub tag_is : d.tag ≡ tag
  -- It has only rows of the uid, and of the tag where that is not 0.
  pub taken : AllByRecursion (λ row. is_deleted uid tag row ≡ true) d.rows
  -- The snapshot has no row of them left.
  pub left : AllByRecursion (λ row. is_deleted uid tag row ≡ false) snapshot.rows
  -- It records the app exactly where the tag is 0.
  pub app : is_some d.app ≡ (tag == 0)

-- A phase has a deletion exactly where the command that ended it is one.
abbrev pub IsDivided : ℕ → Command → Snapshot × Option Deletion → Type 0
IsDivided n (Delete caller uid tag) (snapshot, Some d) = Divides n uid tag snapshot d
IsDivided n (Delete caller uid tag) (snapshot, None) = ⊥
IsDivided n _ (snapshot, Some d) = ⊥
IsDivided n _ (snapshot, None) = Unit {0}

-- What a uid's deletions recorded of its app, this one with them, is the app's total when the collection read it.
pub record IsBetween (c : Collection) (uid : ℕ) (recorded : Amount) : Type 0 where
  -- It is no less than what the sections before had added.
  pub least : IsAtMost (added c.before uid) recorded
  -- It is no more than what these and the collection's own section had added.
  pub most : IsAtMost recorded (added c.through uid)

-- Where a deletion records an app, all that was recorded of this app so far lies within these bounds.
abbrev pub AppIsBounded : Collection → Amount → Option Deletion → Type 0
AppIsBounded c recorded None = Unit {0}
AppIsBounded c recorded (Some d) = is_some d.app ≡ true → IsBetween c d.uid recorded

-- Phase n ended as its collection says.
pub record IsCollected (phases : Phases) (n : ℕ) (c : Collection) (p : Snapshot × Option Deletion) : Type 0 where
  -- It is whole after a collection, and divided after a deletion.
  pub divided : IsDivided n c.command p
  -- What deletions up to this phase recorded of the uid's app is within what was added to it.
  pub app : AppIsBounded c (deleted_app (take (suc n) phases) (uid_of p.1)) p.1

-- ---- the report

module _ (asked : Asked) (report : Shown) where
  -- All calls, each with the receipt that the report gives for it.
  abbrev pub pairs : List (Call × LineReceipt)
  pairs = all_pairs asked.sections report.sections

  -- The collections that were done, in order.
  abbrev pub done_collections : List Collection
  done_collections = collections_of asked.privileged asked.sizes.regs [] [] asked.sections report.sections

  -- What the report says line by line.
  pub record LinesAreHonest : Type 0 where
    -- The names of interfaces are the script's.
    pub names : report.names ≡ asked.names
    -- Each call has a receipt that follows the rules on true reads, and each command has its reply.
    pub sections : SectionsAreHonest asked.privileged asked.sizes.regs [] 0 asked.sections report.sections
    -- The journal is all that the commands wrote, in order.
    pub journal : report.journal ≡ after_commands asked.privileged asked.sizes.regs [] (flat_map commands_of asked.sections)

  -- What the report says phase by phase.
  pub record PhasesAreHonest : Type 0 where
    -- For each phase and each label, the rows hold the sum of the charges that landed there in that phase, and nothing else.
    pub conserved : IsConserved (flat_map charges pairs) report.phases report.live
    -- A charge that did not land met a map that was full of other labels.
    pub full_is_shown : FullIsShown asked.sizes.rows (flat_map charges pairs) report.phases report.live
    -- There is one phase for each collection that was done, and the live one after them.
    pub snapshots : length report.phases ≡ length done_collections
    -- Each phase ended as its collection says.
    pub collected : (n : ℕ) (c : Collection) (p : Snapshot × Option Deletion) →
        slice_get done_collections n ≡ Some c → slice_get report.phases n ≡ Some p → IsCollected report.phases n c p

  -- What the report says in total.
  pub record TotalsAreHonest : Type 0 where
    -- For each app the sum of the adds that landed; one that did not land met a table full of other apps.
    pub apps : AreTotals asked.sizes.apps (flat_map app_adds pairs) report.apps
    -- The same for each interface.
    pub ifaces : AreTotals asked.sizes.ifaces (flat_map iface_adds pairs) report.ifaces

  -- The report is honest to what was asked.
  pub record IsHonest : Type 0 where
    -- Line by line: each call has its receipt, and each command its reply and its writes.
    pub lines : LinesAreHonest
    -- Phase by phase: what landed stands whole under the phase and the label that its packet was counted in.
    pub phases : PhasesAreHonest
    -- In total: what landed stands under its app, and under its interface.
    pub totals : TotalsAreHonest
