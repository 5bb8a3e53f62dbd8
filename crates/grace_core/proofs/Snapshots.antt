-- The rows that are taken, in order of their labels, are a good snapshot.
use Rattle.std.proofs.Common.{ℕ, suc, zero, ◌≤◌, List, [], ◌∷◌, arith}
use Rattle.std.specs.Prelude.{sum_by, All}
use Rattle.std.specs.List.{AllByRecursion}
use Rattle.acct_base.specs.declared.label.Label.{Label}
use Rattle.acct_base.specs.declared.amount.Row.{Row}
use Rattle.acct_base.specs.Amounts.{IsValidLabel}
use Rattle.grace_core.specs.declared.view.HookView.{HookView}
use Rattle.grace_core.specs.Machine.{row_cmp, rows_in, ascending_rows}
use Rattle.grace_core.specs.Sums.{tally}
use Rattle.grace_core.specs.Rows.{RowsAreGood, row_is}
use Rattle.grace_core.specs.Good.{SnapshotIsGood}
use Rattle.grace_core.proofs.Weights.{law}
use Rattle.grace_core.proofs.Folding.{rows_valid, rows_once, folds}
use Rattle.grace_core.proofs.Ascending.{row_cmp_total, sorted-moves, sorted-strict, rows_ascend, rows_apart}

each_once : (whole rows : List Row) → All (λ (r : Row). IsValidLabel r.label) rows → ((l : Label) → IsValidLabel l → sum_by (row_is l) whole ≤ 1) → AllByRecursion (λ (x : Row). sum_by (row_is x.label) whole ≤ 1) rows
each_once whole [] v h = tt
each_once whole (x ∷ xs) v h = (h x.label (v zero x (omega arith)), each_once whole xs (λ k d l. v (suc k) d (omega arith)) h)

pub taken_rows_are_good : (rows : ℕ) (ws : List ℕ) (n : ℕ) (hooks : List HookView) → RowsAreGood rows ws (λ _. 0) (tally n hooks) → SnapshotIsGood rows (ascending_rows rows ws) (tally n hooks)
taken_rows_are_good rows ws n hooks ok = record {
  ascend = rows_ascend (ascending_rows rows ws) (sorted-strict row_cmp row_cmp_total (rows_in rows ws) (rows_apart (rows_in rows ws) (each_once (rows_in rows ws) (rows_in rows ws) (rows_valid rows ws (tally n hooks) ok) (rows_once rows ws (tally n hooks) ok))));
  folds = folds rows ws (tally n hooks) ok (law n hooks) (ascending_rows rows ws) (sorted-moves row_cmp (rows_in rows ws));
}
