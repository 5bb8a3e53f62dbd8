-- The two maps of statistics as a pure machine: where each step of a hook or of the collector can be the next, and what it makes of the state.
use Rattle.std.specs.Prelude.{◌≡◌, ℕ, zero, suc, ◌+◌, ◌-◌, ◌*◌, ◌/◌, ◌%◌, ◌^◌, ◌==◌, ◌&&◌, ◌||◌, not, max, Bool, true, false, nat_lt, nat_le, if◌then◌else◌, List, [], ◌∷◌, ◌++◌, replicate, slice_get, slice_index, slice_set, Option, None, Some, option_and_then}
use Rattle.std.specs.declared.cmp.Ordering.{Ordering}
use Rattle.acct_base.specs.declared.packet.Dir.{Dir}
use Rattle.acct_base.specs.declared.packet.Dir.TheVariants.{Ingress, Egress}
use Rattle.acct_base.specs.declared.label.Label.{Label}
use Rattle.acct_base.specs.declared.amount.Amount.{Amount}
use Rattle.acct_base.specs.declared.amount.Row.{Row}
use Rattle.acct_base.specs.declared.charge.Job.{Job}
use Rattle.acct_base.specs.declared.charge.Charge.{Charge}
use Rattle.acct_base.specs.Amounts.{label_cmp, same_label, IsValidLabel, is_valid_label}
use Rattle.acct_base.specs.Length.{IsChargeable}
use Rattle.acct_base.specs.Ordered.{sorted}
use Rattle.row_probe.specs.Keys.{pack1, pack2, unpack}
use Rattle.row_probe.specs.Places.{place_of}
use Rattle.grace_core.specs.declared.view.At.{At}
use Rattle.grace_core.specs.declared.view.At.TheVariants.{Outside, Inside, First, Second, Adding, Gone}
use Rattle.grace_core.specs.declared.view.HookView.{HookView}
use Rattle.grace_core.specs.declared.state.CollectAt.{CollectAt}
use Rattle.grace_core.specs.declared.state.CollectAt.TheVariants.{Resting, Waiting, Draining}
use Rattle.grace_core.specs.declared.state.State.{State}
use Rattle.grace_core.specs.declared.event.Event.{Event}
use Rattle.grace_core.specs.declared.event.Event.TheVariants as event

-- ---- words: two sides of rows of six; a phase is counted on the side of its parity

-- The number of the word of a row and a column, on the side of a phase.
abbrev pub word_of : ℕ → ℕ → ℕ → ℕ → ℕ
word_of rows phase row column = (phase % 2 * rows + row) * 6 + column

-- The number of the k-th word of the side of a phase.
abbrev pub word_at : ℕ → ℕ → ℕ → ℕ
word_at rows phase k = phase % 2 * rows * 6 + k

-- Received comes before sent in a row.
abbrev pub direction : Dir → ℕ
direction Ingress = 0
direction Egress = 1

-- The columns of a row are its two keys, then packets and bytes received, then packets and bytes sent.
abbrev pub packets_column : Dir → ℕ
packets_column dir = 2 + 2 * direction dir

-- The bytes stand behind the packets.
abbrev pub bytes_column : Dir → ℕ
bytes_column dir = 3 + 2 * direction dir

-- The phase that is live, which the choice has above the number of its entries.
abbrev pub live_phase : State → ℕ
live_phase s = s.choice / 2 ^ 32

-- The phase that the collector ended last.
abbrev pub old_phase : State → ℕ
old_phase s = s.collector.phase - 1

-- How often the side of a phase was left.
abbrev pub exits_at : ℕ × ℕ → ℕ → ℕ
exits_at exits phase = if phase % 2 == 0 then exits.0 else exits.1

-- The side of a phase is left once more.
abbrev pub one_more : ℕ × ℕ → ℕ → ℕ × ℕ
one_more exits phase = if phase % 2 == 0 then (exits.0 + 1, exits.1) else (exits.0, exits.1 + 1)

-- The exits of the side of a phase are set back.
abbrev pub no_more : ℕ × ℕ → ℕ → ℕ × ℕ
no_more exits phase = if phase % 2 == 0 then (0, exits.1) else (exits.0, 0)

-- What a word holds after a claim: a free word takes the key.
abbrev pub claimed : ℕ → ℕ → ℕ
claimed key found = if found == 0 then key else found

-- ---- jobs

-- A job may be charged: a packet can have its label, and it has some packets and bytes, and not too many.
pub record IsValidJob (job : Job) : Type 0 where
  pub label : IsValidLabel job.label
  pub amount : IsChargeable job.packets job.bytes

-- The test of packets, or of bytes, that one charge may have.
abbrev pub is_chargeable : ℕ → Bool
is_chargeable n = nat_le 1 n && nat_le n 524287

-- The test of a job that may be charged.
abbrev pub is_valid_job : Job → Bool
is_valid_job job = is_valid_label job.label && is_chargeable job.packets && is_chargeable job.bytes

-- Two jobs agree in all that they say.
abbrev pub same_job : Job → Job → Bool
same_job a b = same_label a.label b.label && direction a.dir == direction b.dir && a.packets == b.packets && a.bytes == b.bytes

-- ---- views

-- The view stands elsewhere.
abbrev pub moved : HookView → At → HookView
moved view at = record { left = view.left; made = view.made; phase = view.phase; at = at; list = view.list }

-- The view made a call, which is inside a phase.
abbrev pub entered : ℕ → HookView → HookView
entered phase view = record { left = view.left - 1; made = view.made + 1; phase = phase; at = Inside phase 0; list = view.list }

-- What becomes of a job: it landed, or found all places taken.
abbrev pub charge : ℕ → Job → Bool → Charge
charge phase job landed = record { phase = phase; job = job; landed = landed }

-- A job is done: its charge is recorded at the end of the view's list.
abbrev pub recorded : HookView → ℕ → ℕ → Job → Bool → HookView
recorded view phase charges job landed = record {
  left = view.left;
  made = view.made;
  phase = view.phase;
  at = Inside phase (charges + 1);
  list = view.list ++ charge phase job landed ∷ [];
}

-- On to the next turn; after the last one the charge did not land.
abbrev pub next_turn : ℕ → HookView → ℕ → ℕ → Job → ℕ → HookView
next_turn rows view phase charges job turn =
    if turn + 1 == rows then recorded view phase charges job false else moved view (First phase charges job (turn + 1))

-- The first key that was found at the turn's place was free, or is the label's; or else the place is another label's.
abbrev pub first_found : ℕ → HookView → ℕ → ℕ → Job → ℕ → ℕ → HookView
first_found rows view phase charges job turn found =
    if found == 0 || found == pack1 job.label then moved view (Second phase charges job turn) else next_turn rows view phase charges job turn

-- The second key that was found there was free, or is the label's, and then the place is the label's row.
abbrev pub second_found : ℕ → HookView → ℕ → ℕ → Job → ℕ → ℕ → HookView
second_found rows view phase charges job turn found =
    if found == 0 || found == pack2 job.label
    then moved view (Adding phase charges job (place_of job.label turn rows) false)
    else next_turn rows view phase charges job turn

-- A view's calls are divided: some stay, and the others go to a new view.
abbrev pub split_left : ℕ → HookView → HookView
split_left n view = record { left = view.left - n; made = view.made; phase = view.phase; at = view.at; list = view.list }

-- The new view.
abbrev pub split_right : ℕ → HookView → HookView
split_right n view = record { left = n; made = 0; phase = view.phase; at = Outside; list = [] }

-- One view takes what another has, which is then gone.
abbrev pub joined : HookView → HookView → HookView
joined view other = record {
  left = view.left + other.left;
  made = view.made + other.made;
  phase = max view.phase other.phase;
  at = Outside;
  list = view.list ++ other.list;
}

-- The view that was joined into another.
abbrev pub gone : HookView
gone = record { left = 0; made = 0; phase = 0; at = Gone; list = [] }

-- ---- steps of a hook: of the view with this number, by where it stands

-- The next state, where the test passes.
abbrev pub where_passes : {A : Type 0} → Bool → A → Option A
where_passes test next = if test then Some next else None

-- One view changes, and one word.
abbrev pub with_word : State → ℕ → HookView → ℕ → ℕ → State
with_word s hook view place word = record s { words = slice_set s.words place word; hooks = slice_set s.hooks hook view }

-- A call begins where calls are left: it is one more entry of the live phase, and inside that phase.
abbrev pub enter : State → ℕ → HookView → At → Option State
enter s hook view Outside = where_passes (nat_lt 0 view.left) (record s { choice = s.choice + 1; hooks = slice_set s.hooks hook (entered (live_phase s) view) })
enter s hook view _ = None

-- The first key at the turn's place is claimed.
abbrev pub claim_first : State → ℕ → HookView → ℕ → ℕ → Job → ℕ → State
claim_first s hook view phase charges job turn =
    let place = word_of s.rows phase (place_of job.label turn s.rows) 0 in
    let found = slice_index s.words place in
    with_word s hook (first_found s.rows view phase charges job turn found) place (claimed (pack1 job.label) found)

-- A view begins a job in a call with room for it, at turn 0, or goes on with the job that it has.
abbrev pub first_claim : State → ℕ → HookView → Job → At → Option State
first_claim s hook view job (Inside phase charges) = where_passes (nat_lt charges 2 && is_valid_job job) (claim_first s hook view phase charges job 0)
first_claim s hook view job (First phase charges own turn) = where_passes (same_job own job) (claim_first s hook view phase charges own turn)
first_claim s hook view job _ = None

-- The second key at the turn's place is claimed.
abbrev pub claim_second : State → ℕ → HookView → ℕ → ℕ → Job → ℕ → State
claim_second s hook view phase charges job turn =
    let place = word_of s.rows phase (place_of job.label turn s.rows) 1 in
    let found = slice_index s.words place in
    with_word s hook (second_found s.rows view phase charges job turn found) place (claimed (pack2 job.label) found)

-- A view that has the first key goes on to the second.
abbrev pub second_claim : State → ℕ → HookView → At → Option State
second_claim s hook view (Second phase charges job turn) = Some (claim_second s hook view phase charges job turn)
second_claim s hook view _ = None

-- The packets are added.
abbrev pub add_packets : State → ℕ → HookView → ℕ → ℕ → Job → ℕ → State
add_packets s hook view phase charges job row =
    let place = word_of s.rows phase row (packets_column job.dir) in
    with_word s hook (moved view (Adding phase charges job row true)) place (slice_index s.words place + job.packets)

-- The bytes are added, which completes the charge.
abbrev pub add_bytes : State → ℕ → HookView → ℕ → ℕ → Job → ℕ → State
add_bytes s hook view phase charges job row =
    let place = word_of s.rows phase row (bytes_column job.dir) in
    with_word s hook (recorded view phase charges job true) place (slice_index s.words place + job.bytes)

-- A view that has its row adds to it.
abbrev pub add : State → ℕ → HookView → At → Option State
add s hook view (Adding phase charges job row false) = Some (add_packets s hook view phase charges job row)
add s hook view (Adding phase charges job row true) = Some (add_bytes s hook view phase charges job row)
add s hook view _ = None

-- The call ends, and its phase's side is left once more.
abbrev pub exit : State → ℕ → HookView → At → Option State
exit s hook view (Inside phase charges) = Some (record s { exits = one_more s.exits phase; hooks = slice_set s.hooks hook (moved view Outside) })
exit s hook view _ = None

-- A view outside gives some of its calls to a new view, which comes last.
abbrev pub split : State → ℕ → ℕ → HookView → At → Option State
split s hook n view Outside = where_passes (nat_le n view.left) (record s { hooks = slice_set s.hooks hook (split_left n view) ++ split_right n view ∷ [] })
split s hook n view _ = None

-- A view outside takes what another one outside has.
abbrev pub join : State → ℕ → ℕ → HookView → HookView → At → At → Option State
join s hook other view second Outside Outside =
    where_passes (not (hook == other)) (record s { hooks = slice_set (slice_set s.hooks hook (joined view second)) other gone })
join s hook other view second _ _ = None

-- ---- steps of the collector, by where it stands

-- The collector stands elsewhere.
abbrev pub collector_at : State → CollectAt → State
collector_at s at = record s { collector = record { phase = s.collector.phase; at = at } }

-- The next phase becomes the live one, and the collector waits for the entries that the choice had.
abbrev pub flip : State → CollectAt → Option State
flip s Resting = where_passes (nat_lt s.collector.phase 1024) (record s {
  choice = (s.collector.phase + 1) * 2 ^ 32;
  collector = record { phase = s.collector.phase + 1; at = Waiting (s.choice % 2 ^ 32) };
})
flip s _ = None

-- Where all that entered have left, the old side is drained.
abbrev pub load_exits : State → CollectAt → Option State
load_exits s (Waiting entries) = Some (if exits_at s.exits (old_phase s) == entries then collector_at s (Draining 0 []) else s)
load_exits s _ = None

-- The next word of the old side is taken, and is 0 then.
abbrev pub take_word : State → CollectAt → Option State
take_word s (Draining next taken) = where_passes (nat_lt next (6 * s.rows)) (record s {
  words = slice_set s.words (word_at s.rows (old_phase s) next) 0;
  collector = record { phase = s.collector.phase; at = Draining (next + 1) (taken ++ slice_index s.words (word_at s.rows (old_phase s) next) ∷ []) };
})
take_word s _ = None

-- The row of a label, where there is one.
abbrev pub row_with : Amount → Option Label → List Row
row_with amount None = []
row_with amount (Some label) = record { label = label; amount = amount } ∷ []

-- The four numbers of a row.
abbrev pub amount_of_row : List ℕ → ℕ → Amount
amount_of_row words row = record {
  rx_packets = slice_index words (6 * row + 2);
  rx_bytes = slice_index words (6 * row + 3);
  tx_packets = slice_index words (6 * row + 4);
  tx_bytes = slice_index words (6 * row + 5);
}

-- The row at a place, where both of its keys are set.
abbrev pub row_at : List ℕ → ℕ → List Row
row_at words row = row_with (amount_of_row words row) (unpack (slice_index words (6 * row + 0)) (slice_index words (6 * row + 1)))

-- The rows that have both keys, in order of their places.
abbrev pub rows_in : ℕ → List ℕ → List Row
rows_in zero words = []
rows_in (suc n) words = rows_in n words ++ row_at words n

-- Rows stand in the order of their labels.
abbrev pub row_cmp : Row → Row → Ordering
row_cmp a b = label_cmp a.label b.label

-- The rows that have both keys, by label.
abbrev pub ascending_rows : ℕ → List ℕ → List Row
ascending_rows rows words = sorted row_cmp (rows_in rows words)

-- The old side is free again, and its rows are the next snapshot.
abbrev pub reopened : State → List Row → State
reopened s rows = record s {
  exits = no_more s.exits (old_phase s);
  collector = record { phase = s.collector.phase; at = Resting };
  snapshots = s.snapshots ++ record { phase = old_phase s; rows = rows } ∷ [];
}

-- This comes once all words of the old side are taken.
abbrev pub reopen : State → CollectAt → Option State
reopen s (Draining next taken) = where_passes (next == 6 * s.rows) (reopened s (ascending_rows s.rows taken))
reopen s _ = None

-- ---- the machine

-- A number that is no view's enables nothing.
abbrev pub at_hook : State → ℕ → (HookView → Option State) → Option State
at_hook s hook next = option_and_then next (slice_get s.hooks hook)

-- The state after an event, or None where the event is not enabled.
abbrev pub after : State → Event → Option State
after s (event.Enter hook) = at_hook s hook (λ view. enter s hook view view.at)
after s (event.ClaimFirst hook job) = at_hook s hook (λ view. first_claim s hook view job view.at)
after s (event.ClaimSecond hook) = at_hook s hook (λ view. second_claim s hook view view.at)
after s (event.Add hook) = at_hook s hook (λ view. add s hook view view.at)
after s (event.Exit hook) = at_hook s hook (λ view. exit s hook view view.at)
after s (event.Split hook n) = at_hook s hook (λ view. split s hook n view view.at)
after s (event.Join hook other) = at_hook s hook (λ view. at_hook s other (λ second. join s hook other view second view.at second.at))
after s event.Flip = flip s s.collector.at
after s event.LoadExits = load_exits s s.collector.at
after s event.TakeWord = take_word s s.collector.at
after s event.Reopen = reopen s s.collector.at

-- At the start there is one view, which has all calls, and nothing is counted.
abbrev pub started : ℕ → ℕ → State
started rows calls = record {
  rows = rows;
  budget = calls;
  choice = 0;
  exits = (0, 0);
  words = replicate (12 * rows) 0;
  hooks = record { left = calls; made = 0; phase = 0; at = Outside; list = [] } ∷ [];
  collector = record { phase = 0; at = Resting };
  snapshots = [];
}

-- An event that is not enabled changes nothing.
abbrev pub or_same : State → Option State → State
or_same s None = s
or_same s (Some next) = next

-- The state after a list of events, enabled or not.
abbrev pub after_all : State → List Event → State
after_all s [] = s
after_all s (e ∷ es) = after_all (or_same s (after s e)) es

-- The event was made, or was not enabled and changed nothing.
abbrev pub Steps : Option State → Bool → State → State → Type 0
Steps next true old new = next ≡ Some new
Steps next false old new = (next ≡ None) × (new ≡ old)
