-- That schedules can be kept: what a history has to show for it.
use Rattle.std.specs.Prelude.{◌≡◌, ℕ, suc, ◌≤◌, Bool, true, false, ◌⊎◌, None, Option}
use Rattle.sets.specs.Sets.{has}
use Rattle.history.specs.Protocols.{Protocol, History, state}
use Rattle.history.specs.Schedules.{Schedule, Keeps}

-- the history h of n processes runs for so many rounds from these start bits and keeps the schedule c,
-- where `lies k r p` is what the Byzantine process r says to p in the round after k,
-- and `lost k r p` tells whether r's word to p in the round after k gets lost if that is its last round
pub record Runs {S : Type 0} (n : ℕ) (a : Protocol S) (rounds : ℕ) (start : ℕ → ℕ) (c : Schedule) (lies : ℕ → ℕ → ℕ → Option ℕ) (lost : ℕ → ℕ → ℕ → Bool) (h : History) : Type 0 where
  pub begins : (p : ℕ) → h.start p ≡ start p
  pub kept : Keeps n a h c
  -- every process shuts all rounds, or as many as it takes to stop
  pub ends : (p : ℕ) → (h.shut p ≡ rounds) ⊎ ((h.shut p ≤ rounds) × (a.over (state a h p (h.shut p)) ≡ true))
  pub lied : (p k r : ℕ) → has c.byzantine r ≡ true → h.row p k r ≡ lies k r p
  pub dropped : (p k r : ℕ) → has c.byzantine r ≡ false → c.last r ≡ suc k → lost k r p ≡ true → h.row p k r ≡ None

-- whatever the start bits, the schedule, the lies and the lost words, there is such a history
abbrev pub RunsExist : (S : Type 0) → Type 0
RunsExist S =
    (n : ℕ) (a : Protocol S) (rounds : ℕ) (start : ℕ → ℕ) (c : Schedule) (lies : ℕ → ℕ → ℕ → Option ℕ) (lost : ℕ → ℕ → ℕ → Bool)
    → (h : History) × Runs n a rounds start c lies lost h
