-- What it tells of a process that it is correct.
use Rattle.std.proofs.Common.{◌≡◌, ℕ, true, false}
use Rattle.std.proofs.lemmas.Bool.{and_parts, not-true}
use Rattle.sets.specs.Sets.{has}
use Rattle.history.specs.Schedules.{Schedule, correct}

-- it is not Byzantine
pub honest_by : (c : Schedule) (r k : ℕ) → correct c r k ≡ true → has c.byzantine r ≡ false
honest_by c r k e = not-true (has c.byzantine r) (and_parts _ _ e).0
