use Rattle.std.proofs.Common.{◌≡◌, ℕ, List, take, None}
use Rattle.std.specs.Prelude.{◌==◌}
use Rattle.std.specs.List.{find}
use Rattle.dump_text.proofs.rows.name_of.Given as goal

abbrev pub invariant-loop-index : goal.invariant-loop-index
invariant-loop-index l = find (λ (n : ℕ × List ℕ). n.0 == l.iface) (take l.index-index l.index-items) ≡ None
