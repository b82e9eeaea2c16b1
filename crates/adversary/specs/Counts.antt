-- What a threshold has.
use Rattle.std.specs.Prelude.{◌≡◌, ℕ}
use Rattle.adversary.specs.declared.threshold.Threshold.{Threshold}

-- x is for n processes, with at most t faulty and at most b of them Byzantine
pub record Counts (x : Threshold) (n t b : ℕ) : Type 0 where
  pub size : x.processes ≡ n
  pub total : x.total ≡ t
  pub byzantine : x.byzantine ≡ b
