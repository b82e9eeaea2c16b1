use Rattle.machine.proofs.Promising.{promise_kept}
use Rattle.machine.proofs.promise.promise_is_kept.Goals as goal

pub returns : goal.returns
returns c = promise_kept
