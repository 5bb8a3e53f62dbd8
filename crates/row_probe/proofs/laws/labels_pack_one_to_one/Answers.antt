use Rattle.row_probe.proofs.Packing.{unpack-pack, unpack_only}
use Rattle.row_probe.proofs.laws.labels_pack_one_to_one.Goals as goal

pub returns-clause-back : goal.returns-clause-back
returns-clause-back c = unpack-pack

pub returns-clause-only : goal.returns-clause-only
returns-clause-only c = unpack_only
