use Rattle.agreement.proofs.Agreeing.{courses_exist}
use Rattle.agreement.proofs.theorems.courses_exist.Goals as goal

pub returns : goal.returns
returns c = courses_exist
