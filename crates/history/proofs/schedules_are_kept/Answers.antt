use Rattle.history.proofs.Existence.{runs_exist}
use Rattle.history.proofs.schedules_are_kept.Goals as goal

pub returns : goal.returns
returns g c = runs_exist _
