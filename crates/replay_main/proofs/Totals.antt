-- Sums of rows, as loops add them up.
use Rattle.std.proofs.Common.{Result, Ok, Err, IfOk, ◌≡◌, ℕ, ◌+◌, ◌<◌, List, length, get_or, take, sym, ap, ◌∙◌}
use Rattle.std.specs.Prelude.{Option}
use Rattle.acct_base.specs.declared.amount.Amount.{Amount}
use Rattle.acct_base.specs.declared.amount.Row.{Row}
use Rattle.acct_base.specs.declared.amount.Snapshot.{Snapshot}
use Rattle.acct_base.specs.Amounts.{plus, total_by}
use Rattle.acct_base.proofs.SumLemmas.{total_by-append}
use Rattle.shelf.specs.declared.shelf.Deletion.{Deletion}
use Rattle.shelf.specs.Phases.{snapshot_rows, kept_rows}
use Rattle.shelf.specs.Shelved.{Phases}
use Rattle.shelf.proofs.FrontLemmas.{total_more, total_by-flat_map}

-- one item more
pub total_step : {X : Type 0} (f : X → Amount) (xs : List X) (i : ℕ) (x : X) (sum new : Amount) → i < length xs → x ≡ get_or xs i x
    → sum ≡ total_by f (take i xs) → new ≡ plus sum (f x) → new ≡ total_by f (take (i + 1) xs)
total_step f xs i x sum new lt is before after =
    after ∙ ap (λ (a : Amount). plus a (f x)) before ∙ ap (λ y. plus (total_by f (take i xs)) (f y)) is ∙ sym (total_more f xs i x lt)

-- what the rows of a snapshot hold
abbrev pub snapshot_total : (Row → Amount) → Snapshot × Option Deletion → Amount
snapshot_total f p = total_by f p.0.rows

-- the rows of the snapshots and the live ones
pub total_kept : (f : Row → Amount) (phases : Phases) (live : Snapshot) (ended all : Amount) → ended ≡ total_by (snapshot_total f) phases
    → all ≡ plus ended (total_by f live.rows) → all ≡ total_by f (kept_rows phases live)
total_kept f phases live ended all before after =
    let snapshots : total_by f (snapshot_rows phases) ≡ total_by (snapshot_total f) phases = total_by-flat_map f (λ (p : Snapshot × Option Deletion). p.0.rows) phases in
    after ∙ ap (λ (a : Amount). plus a (total_by f live.rows)) (before ∙ sym snapshots) ∙ sym (total_by-append f (snapshot_rows phases) live.rows)

-- what follows of a value follows of an answer
pub if_ok : {T E : Type 0} {P Q : T → Type 0} (r : Result T E) → ((x : T) → P x → Q x) → IfOk r P → IfOk r Q
if_ok (Ok x) f h = f x h
if_ok (Err e) f h = tt
