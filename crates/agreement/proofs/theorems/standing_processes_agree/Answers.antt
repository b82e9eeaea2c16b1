use Rattle.agreement.proofs.Agreeing.{agreement}
use Rattle.agreement.proofs.theorems.standing_processes_agree.Goals as goal

pub returns : goal.returns
returns c = agreement
