use Rattle.std.proofs.Common.{◌≡◌, ℕ, ◌-◌, ◌<◌, Option}
use Rattle.adversary.specs.Refusals.{first}
use Rattle.adversary.proofs.adopt.first_from.Given as goal

-- what is left to ask decides the answer
abbrev pub invariant-loop-k : goal.invariant-loop-k
invariant-loop-k g l = (f : ℕ → Option _) → ((k : ℕ) (o : _) → k < l.end → goal.F-post g l.answer k o → o ≡ f k) → first f l.k (l.end - l.k) ≡ first f l.start (l.end - l.start)
