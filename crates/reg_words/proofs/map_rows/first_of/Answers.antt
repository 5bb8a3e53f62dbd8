use Rattle.std.proofs.Common.{◌≡◌, ◌<◌, ℕ, sym, subst, arith}
use Rattle.acct_base.specs.declared.register.Key.{Key}
use Rattle.row_probe.specs.Places.{place}
use Rattle.row_probe.proofs.Turns.{place-lt}
use Rattle.reg_words.specs.Places.{code, rows}
use Rattle.reg_words.proofs.map_rows.first_of.Goals as goal

-- the only place is the first
only-place : (k : ℕ) → 0 ≡ place k 1 0 1
only-place k = let l : place k 1 0 1 < 1 = place-lt k 1 0 1 (omega arith) in omega (arith, l)

pub returns-in-Enabled-clause-place : goal.returns-in-Enabled-clause-place
returns-in-Enabled-clause-place c = subst (λ (k : Key). 0 ≡ place (code k) 1 0 (rows c.args.limits.now k)) (sym c.in-Enabled.is) (only-place 1)
