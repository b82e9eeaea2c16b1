use Rattle.agreement.proofs.Agreeing.{validity}
use Rattle.agreement.proofs.theorems.shared_bit_is_kept.Goals as goal

pub returns : goal.returns
returns c = validity
