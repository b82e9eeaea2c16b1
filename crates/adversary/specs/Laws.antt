-- The laws of a fault rule. A rule is for n processes and holds some fault pairs: `held a f` tells whether it holds (a, f).
use Rattle.std.specs.Prelude.{◌≡◌, ℕ, ◌≤◌, Bool, true, false}
use Rattle.sets.specs.Pairs.{contained, covers}
use Rattle.sets.specs.Sets.{limit}

-- a crew has from 1 process up to the limit
pub record Sized (n : ℕ) : Type 0 where
  pub some : 1 ≤ n
  pub few : n ≤ limit

-- the three laws
pub record Lawful (n : ℕ) (held : ℕ → ℕ → Bool) : Type 0 where
  -- the empty pair is held
  pub empty : held 0 0 ≡ true
  -- with a pair, every pair contained in it is held
  pub down : (a f a' f' : ℕ) → held a f ≡ true → contained a' f' a f ≡ true → held a' f' ≡ true
  -- no three held pairs, which need not differ, cover the crew
  pub apart : (a₁ f₁ a₂ f₂ a₃ f₃ : ℕ) → held a₁ f₁ ≡ true → held a₂ f₂ ≡ true → held a₃ f₃ ≡ true → covers n a₁ f₁ a₂ f₂ a₃ f₃ ≡ false
