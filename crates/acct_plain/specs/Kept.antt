-- What the replay keeps of all that happened: running sums in place of lists.
use Rattle.std.specs.Prelude.{◌≡◌, ℕ, ◌+◌, ◌≤◌, ◌^◌, List, length, None}
use Rattle.std.specs.List.{AllByRecursion}
use Rattle.std.specs.Ordering.{nat_cmp}
use Rattle.acct_base.specs.declared.amount.Amount.{Amount}
use Rattle.acct_base.specs.declared.charge.Charge.{Charge}
use Rattle.acct_base.specs.declared.label.Label.{Label}
use Rattle.acct_base.specs.declared.receipt.Receipt.{Receipt}
use Rattle.acct_base.specs.declared.register.Write.{Write}
use Rattle.acct_base.specs.declared.register.Key.TheVariants as key
use Rattle.acct_base.specs.Amounts.{label_cmp, same_label}
use Rattle.acct_base.specs.Receipts.{HookCall, Add, charge_amount, add_amount, is_looked_up, settled_of, is_counted, label_of}
use Rattle.acct_base.specs.Sums.{folded, added}
use Rattle.desk_core.specs.Registers.{seen_now}
use Rattle.acct_base.specs.declared.sizes.Sizes.{Sizes}
use Rattle.desk_core.specs.Book.{BookView}
use Rattle.shelf.specs.Shelved.{Phases}
use Rattle.shelf.specs.Phases.{deleted_app}
use Rattle.captures.specs.Runs.{Past}
use Rattle.acct_plain.specs.Serial.{value_if, read_if}
use Rattle.acct_base.specs.Landings.{landed_labels, landed_keys, same_number}
use Rattle.acct_plain.specs.Sound.{IsSoundWrite, DeletedWithin}
use Rattle.acct_plain.specs.Ledgers.{HoldsSums, amount_of}

-- Each number of the amount is below 2 ^ 19.
pub record IsSmall (a : Amount) : Type 0 where
  pub rx_packets : a.rx_packets ≤ 524287
  pub rx_bytes : a.rx_bytes ≤ 524287
  pub tx_packets : a.tx_packets ≤ 524287
  pub tx_bytes : a.tx_bytes ≤ 524287

-- The lists are of at most this many charges and adds, each of them small.
pub record AreFew (past : Past) (n : ℕ) : Type 0 where
  pub charges : length past.charges ≤ n
  pub apps : length past.apps ≤ n
  pub ifaces : length past.ifaces ≤ n
  pub small_charges : AllByRecursion (λ (c : Charge). IsSmall (charge_amount c)) past.charges
  pub small_apps : AllByRecursion (λ (a : Add). IsSmall (add_amount a)) past.apps
  pub small_ifaces : AllByRecursion (λ (a : Add). IsSmall (add_amount a)) past.ifaces

-- What a replay keeps.
pub record Tables : Type 0 where
  pub sizes : Sizes
  -- The journal, the privileged apps, and the limits of the registers.
  pub book : BookView
  -- The phases that ended.
  pub phases : Phases
  -- The sums of the live phase's labels, of apps and of interfaces, ascending.
  pub rows : List (Label × Amount)
  pub apps : List (ℕ × Amount)
  pub ifaces : List (ℕ × Amount)
  -- What deletions recorded of each app.
  pub recorded : List (ℕ × Amount)

-- The replay keeps what all this came to: the journal and the phases as they are; for the live phase a sum for each label that
-- landed; for apps and interfaces a sum for each key that landed; and for apps what deletions recorded.
pub record Keeps (p : Tables) (past : Past) (n : ℕ) : Type 0 where
  pub limits : p.book.limits ≡ p.sizes.regs
  pub journal : p.book.journal ≡ past.journal
  pub phases : p.phases ≡ past.phases
  pub rows : HoldsSums label_cmp same_label p.rows (landed_labels past.charges (length past.phases)) (folded past.charges (length past.phases))
  pub apps : HoldsSums nat_cmp same_number p.apps (landed_keys past.apps) (added past.apps)
  pub ifaces : HoldsSums nat_cmp same_number p.ifaces (landed_keys past.ifaces) (added past.ifaces)
  pub recorded : (uid : ℕ) → amount_of nat_cmp p.recorded uid ≡ deleted_app past.phases uid
  pub within : DeletedWithin past.phases past.apps
  pub sound : AllByRecursion IsSoundWrite past.journal
  pub few : AreFew past n
  -- No charge is of a later phase than the live one.
  pub bounded : AllByRecursion (λ (c : Charge). c.phase ≤ length past.phases) past.charges
  pub few_phases : length past.phases ≤ 1024

-- It keeps something, and there is room for so many charges and adds more.
abbrev pub HasRoomFor : Tables → ℕ → Type 0
HasRoomFor p more = (past : Past) × (n : ℕ) × (n + more ≤ 2 ^ 30) × Keeps p past n

-- A hook's receipt before its charges are made.
abbrev pub unmarked : List Write → ℕ → HookCall → Receipt
unmarked journal now call =
    let tag_read = seen_now journal (key.Cookie call.cookie) in
    let rules_read = read_if (is_looked_up call tag_read) journal key.Enabled in
    let owner_read = read_if (is_looked_up call tag_read) journal (key.Owner call.sock_uid) in
    let settled = settled_of call tag_read rules_read owner_read in
    let counted = is_counted call tag_read settled in
    let set_read = read_if counted journal (key.Set settled.uid) in
    let label = label_of call tag_read settled set_read in
    record {
      front = length journal;
      tag_read = tag_read;
      rules_read = rules_read;
      owner_read = owner_read;
      set_read = set_read;
      phase = value_if counted now;
      label = value_if counted label;
      verdict = settled.verdict;
      landed_tag = None;
      landed_plain = None;
      landed_app = None;
    }
