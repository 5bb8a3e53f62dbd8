use Rattle.total_rows.specs.declared.plan.Stage.TheVariants.{Reading}
use Rattle.total_rows.proofs.ReadLemmas.{reads_row}
use Rattle.total_rows.proofs.totals.Totals.read_row.Goals as goal

pub returns-clause-read : goal.returns-clause-read
returns-clause-read c = let at = Reading c.args.key c.args.at.turn in
    reads_row c.args.self.now.calls c.args.key c.args.seat.now.me.0 c.read_number-rx_packets.new.seat.me.0 c.read_number-rx_bytes.new.seat.me.0 c.read_number-tx_packets.new.seat.me.0 c.read_number-tx_bytes.new.seat.me.0
    c.read_number-rx_packets.result c.read_number-rx_bytes.result c.read_number-tx_packets.result c.read_number-tx_bytes.result at at at
    c.read_number-rx_packets.ensures.view c.read_number-rx_bytes.ensures.view c.read_number-tx_packets.ensures.view c.read_number-tx_bytes.ensures.view
