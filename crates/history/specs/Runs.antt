-- How a run goes: all rounds one after another, words going as a fault schedule says.
use Rattle.std.specs.Prelude.{ℕ, zero, suc, Bool, cond, Some, None, Option, ◌==◌}
use Rattle.sets.specs.Sets.{has}
use Rattle.history.specs.Protocols.{Protocol, History}
use Rattle.history.specs.Schedules.{Schedule, correct}

-- the processes start with these bits; `lies k r p` is what the Byzantine process r says to p in the round after k,
-- and `lost k r p` tells whether r's word to p in the round after k gets lost if that is its last round
module _ {S : Type 0} (a : Protocol S) (start : ℕ → ℕ) (c : Schedule) (lies : ℕ → ℕ → ℕ → Option ℕ) (lost : ℕ → ℕ → ℕ → Bool) where
  -- what a process in state s is heard with, if it still speaks
  unfoldable pub said : ℕ → S → Option ℕ
  said k s = cond (a.over s) None (Some (a.word k s))

  -- what p hears from r in the round after k, where r is in state s
  unfoldable pub hears : ℕ → ℕ → ℕ → S → Option ℕ
  hears k p r s =
      cond (has c.byzantine r) (lies k r p)
      (cond (correct c r (suc k)) (said k s)
      (cond (c.last r == suc k) (cond (lost k r p) None (said k s)) None))

  -- the states of all processes after k rounds
  unfoldable pub states : ℕ → ℕ → S
  states zero p = a.begin (start p)
  states (suc k) p = cond (a.over (states k p)) (states k p) (a.next k (λ r. hears k p r (states k r)) (states k p))

  -- how many of k rounds a process shuts: all, unless it stops before
  unfoldable pub shuts : ℕ → ℕ → ℕ
  shuts p zero = 0
  shuts p (suc k) = cond (a.over (states k p)) (shuts p k) (suc k)

  -- what the processes did in so many rounds
  unfoldable pub run : ℕ → History
  run rounds = record { start = start; shut = λ p. shuts p rounds; row = λ p k r. hears k p r (states k r) }
