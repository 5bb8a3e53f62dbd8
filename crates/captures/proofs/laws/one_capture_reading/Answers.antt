use Rattle.captures.proofs.Reading.{one_reading}
use Rattle.captures.proofs.laws.one_capture_reading.Goals as goal

pub returns : goal.returns
returns c = one_reading
