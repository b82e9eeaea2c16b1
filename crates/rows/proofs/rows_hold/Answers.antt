use Rattle.std.proofs.Common.{refl}
use lib.Count.{ones}
use Rattle.sets.specs.Sets.{has, full, mask}
use Rattle.agreement.specs.Step.{caught, saying, step}
use Rattle.rows.specs.Rows.{rows}
use Rattle.rows.proofs.rows_hold.Goals as goal

-- the check computes every example
pub returns : goal.returns
unfolding rows has full mask ones caught saying step
returns c = (refl, refl)
