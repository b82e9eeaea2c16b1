use Rattle.agreement.proofs.Agreeing.{phase_ends_in_a_bit}
use Rattle.agreement.proofs.theorems.phase_ends_in_a_bit.Goals as goal

pub returns : goal.returns
returns c = phase_ends_in_a_bit
