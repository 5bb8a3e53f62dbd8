use Rattle.std.proofs.Common.{append_assoc}
use Rattle.outside.proofs.generated.put_rule.Goals as goal

pub returns-clause-bytes : goal.returns-clause-bytes
returns-clause-bytes c =
    rw (c.push_str-2.ensures.bytes, c.put_number.ensures.bytes, c.push_str.ensures.bytes) (simp append_assoc)
