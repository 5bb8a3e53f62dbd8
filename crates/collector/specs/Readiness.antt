-- The collector that a collection which is ready to begin would begin with.
use Rattle.collector.specs.declared.ready.Ready.{Ready}
use Rattle.collector.specs.Collectors.{CollectorState}

abbrev pub stands_ready : Ready → CollectorState
stands_ready r = record { seat = r.seat; apps = r.apps; phases = (r.shelf).phases }
