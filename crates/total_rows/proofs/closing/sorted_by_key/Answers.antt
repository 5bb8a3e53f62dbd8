use Rattle.std.proofs.Common.{rules}
use Rattle.std.proofs.lemmas.List.Sorted.{IsNonDecreasingBy-from_sort_by_key}
use Rattle.total_rows.specs.Closed.{key_of}
use Rattle.total_rows.proofs.closing.sorted_by_key.Goals as goal

pub returns-clause-ascends : goal.returns-clause-ascends
returns-clause-ascends c = IsNonDecreasingBy-from_sort_by_key key_of _ c.sort_unstable_by_key.ensures.sorted (λ a r q k. search rules)
