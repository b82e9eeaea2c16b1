use Rattle.std.proofs.Common.{◌≡◌, ℕ, Bool}
use Rattle.sets.specs.Sets.{mask}
use Rattle.process.specs.Tests.{AgreesBelow}
use Rattle.process.proofs.selection.passing.Given as goal

abbrev pub invariant-loop-position : goal.invariant-loop-position
invariant-loop-position g l = (t : ℕ → Bool) → AgreesBelow (goal.F-post g l.test) l.fn.count t → l.set.bits ≡ mask l.position t
