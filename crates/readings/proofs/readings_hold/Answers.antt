use Rattle.readings.proofs.Readings.{readings-hold}
use Rattle.readings.proofs.readings_hold.Goals as goal

pub returns : goal.returns
returns c = readings-hold
