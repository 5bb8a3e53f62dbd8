use Rattle.std.proofs.Common.{append_assoc}
use Rattle.outside.proofs.generated.put_chain.Goals as goal

pub returns-clause-bytes : goal.returns-clause-bytes
returns-clause-bytes c =
    rw (c.push_str-3.ensures.bytes, c.push_str-2.ensures.bytes, c.push_str.ensures.bytes, c.switch.ensures.word) (simp append_assoc)
