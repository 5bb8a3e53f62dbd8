use Rattle.std.proofs.Common.{◌≡◌, ℕ, List, rules, sym, subst, ⊎_elim}
use Rattle.total_rows.specs.declared.plan.Stage.{Stage}
use Rattle.total_rows.specs.declared.plan.Stage.TheVariants.{Idle, Reading}
use Rattle.total_rows.specs.Rows.{At}
use Rattle.total_rows.specs.Rule.{Stands}
use Rattle.total_rows.specs.SeatSteps.{GoesOnReading}
use Rattle.total_rows.proofs.Lookups.{IsQuiet, reading_is_quiet, idle_is_quiet, reads_at}
use Rattle.total_rows.proofs.totals.Totals.read_number.Goals as goal

quiet_next : (key turn : ℕ) (next : Stage) → GoesOnReading key turn next → IsQuiet next
quiet_next key turn next h = ⊎_elim (λ (e : next ≡ Reading key turn). subst IsQuiet (sym e) (reading_is_quiet key turn)) (λ (e : next ≡ Idle). subst IsQuiet (sym e) idle_is_quiet) h

stands_next : (rows key turn : ℕ) (next : Stage) → GoesOnReading key turn next → (words : List ℕ) → At rows words key turn → Stands rows words next
stands_next rows key turn next h words at = ⊎_elim (λ (e : next ≡ Reading key turn). subst (Stands rows words) (sym e) at) (λ (e : next ≡ Idle). subst (Stands rows words) (sym e) tt) h

pub load-requires : goal.load-requires
load-requires g c = (search rules, search rules, reads_at _ _ _ _ _ c.args.at.row _ c.args.key _ c.args.at.turn c.args.number _ g.B.About.next _ (search rules) (search rules) (quiet_next c.args.key c.args.at.turn g.B.About.next c.requires.next) (stands_next _ c.args.key c.args.at.turn g.B.About.next c.requires.next) (search rules) (search rules) (search rules) (search rules) (search rules) (search rules))
