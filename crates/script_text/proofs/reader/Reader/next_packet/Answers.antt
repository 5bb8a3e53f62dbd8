use Rattle.script_text.specs.declared.line.Line.TheVariants as lines
use Rattle.script_text.proofs.Lines.{sizes_front}
use Rattle.script_text.proofs.reader.Reader.next_packet.Goals as goal

pub passed_by_bytes-requires-clause-bare : goal.passed_by_bytes-requires-clause-bare
passed_by_bytes-requires-clause-bare c = (sizes_front c.args.self.now.rest.now c.in_ok-line.behind.now (lines.Hook c.in_ok-line.line) c.in_ok-line.ensures.fits c.in_ok-line.ensures.text).0

pub passed_by_bytes-requires-clause-whole : goal.passed_by_bytes-requires-clause-whole
passed_by_bytes-requires-clause-whole c = (sizes_front c.args.self.now.rest.now c.in_ok-line.behind.now (lines.Hook c.in_ok-line.line) c.in_ok-line.ensures.fits c.in_ok-line.ensures.text).1
