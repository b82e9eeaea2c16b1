use Rattle.agreement.proofs.Agreeing.{good_phase_agrees}
use Rattle.agreement.proofs.theorems.good_phase_agrees.Goals as goal

pub returns : goal.returns
returns c = good_phase_agrees
