-- Fault schedules, and what it is that a history keeps one.
use Rattle.std.specs.Prelude.{◌≡◌, ℕ, suc, ◌<◌, ◌≤◌, Bool, true, false, not, ◌&&◌, ◌||◌, ◌⊎◌, Some, None, ◌==◌, nat_lt}
use Rattle.sets.specs.Sets.{has, mask}
use Rattle.history.specs.Protocols.{Protocol, History, state}

-- a set of Byzantine processes, and for each other process its last round, or 0 where it has none
pub record Schedule : Type 0 where
  pub byzantine : ℕ
  pub last : ℕ → ℕ

-- whether process r is correct through k rounds: not Byzantine, and without a last round or with a later one
abbrev pub correct : Schedule → ℕ → ℕ → Bool
correct c r k = not (has c.byzantine r) && (c.last r == 0 || nat_lt k (c.last r))

-- whether it is neither Byzantine nor failing
abbrev pub standing : Schedule → ℕ → Bool
standing c r = not (has c.byzantine r) && c.last r == 0

-- the failing ones of n processes: those with a last round
abbrev pub failing : ℕ → Schedule → ℕ
failing n c = mask n (λ r. not (has c.byzantine r) && nat_lt 0 (c.last r))

-- process p of n is correct through k rounds and has shut them
pub record Through (n : ℕ) (h : History) (c : Schedule) (p k : ℕ) : Type 0 where
  pub known : p < n
  pub closed : k ≤ h.shut p
  pub right : correct c p k ≡ true

module _ {S : Type 0} (n : ℕ) (a : Protocol S) (h : History) (c : Schedule) where
  -- the message from r to p in the round after k is under the schedule:
  -- p has shut the round and is correct in it, and a word is due from r, another process
  pub record Message (p k r : ℕ) : Type 0 where
    pub receiver : p < n
    pub closed : k < h.shut p
    pub right : correct c p (suc k) ≡ true
    pub sender : r < n
    pub other : r ≡ p → ⊥
    pub owed : a.due k r ≡ true

  -- r came to that round, has not stopped, and p heard what r said in it
  pub record Heard (p k r : ℕ) : Type 0 where
    pub came : k ≤ h.shut r
    pub running : a.over (state a h r k) ≡ false
    pub got : h.row p k r ≡ Some (a.word k (state a h r k))

  -- a history keeps a schedule if this holds of every process and round
  pub record Keeps : Type 0 where
    -- a process hears its own word
    pub own : (p k : ℕ) → p < n → k < h.shut p → correct c p (suc k) ≡ true → a.due k p ≡ true → Heard p k p
    -- a correct process is heard, or it has stopped and is heard as nothing
    pub heard : (p k r : ℕ) → Message p k r → correct c r (suc k) ≡ true → Heard p k r ⊎ ((a.over (state a h r k) ≡ true) × (h.row p k r ≡ None))
    -- in its last round a process is heard, or not
    pub last_word : (p k r : ℕ) → Message p k r → has c.byzantine r ≡ false → c.last r ≡ suc k → Heard p k r ⊎ (h.row p k r ≡ None)
    -- after its last round it is heard as nothing; a Byzantine process may be heard with anything
    pub later : (p k r : ℕ) → Message p k r → has c.byzantine r ≡ false → 0 < c.last r → c.last r ≤ k → h.row p k r ≡ None
