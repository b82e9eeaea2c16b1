use Rattle.agreement.proofs.Agreeing.{persistence}
use Rattle.agreement.proofs.theorems.unanimity_persists.Goals as goal

pub returns : goal.returns
returns c = persistence
