use Rattle.std.proofs.Common.{◌++◌, List, ℕ, codes, ap, ◌∙◌}
use Rattle.outside.proofs.Rounds.{ahead, ahead-first}
use Rattle.outside.proofs.generated.GenSource.new.Goals as goal

pub returns : goal.returns
returns c =
    ap (λ (x : List ℕ). x ++ ahead 64 4 0 c.args.n) c.text_of.ensures
    ∙ ap (λ (x : List ℕ). codes "netacct 1\n" ++ x) (ahead-first c.args.n)
