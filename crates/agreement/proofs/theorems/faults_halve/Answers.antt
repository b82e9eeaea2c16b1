use Rattle.agreement.proofs.Agreeing.{faults_halve}
use Rattle.agreement.proofs.theorems.faults_halve.Goals as goal

pub returns : goal.returns
returns c = faults_halve
