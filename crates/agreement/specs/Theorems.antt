-- What the agreement protocol achieves, over histories that keep a fault schedule.
use Rattle.std.specs.Prelude.{◌≡◌, ℕ, zero, suc, ◌+◌, ◌*◌, ◌%◌, ◌<◌, ◌≤◌, Bool, true, false, cond, Option, ◌≢◌}
use Rattle.sets.specs.Sets.{has}
use Rattle.history.specs.Claims.{Runs}
use Rattle.history.specs.Protocols.{History, state}
use Rattle.history.specs.Schedules.{Schedule, correct, standing, failing, Through, Keeps}
use Rattle.adversary.specs.Laws.{Lawful}
use Rattle.agreement.specs.Rounds.{rounds_of}
use Rattle.agreement.specs.Step.{protocol}

-- how many of the numbers below n pass a test
unfoldable pub count : ℕ → (ℕ → Bool) → ℕ
count zero test = 0
count (suc n) test = cond (test n) 1 0 + count n test

module _ (n : ℕ) (held : ℕ → ℕ → Bool) (h : History) (c : Schedule) where
  -- the value that process p prefers after k rounds
  abbrev pub value_after : ℕ → ℕ → ℕ
  value_after p k = (state (protocol n held) h p k).preferred

  -- the premises: n processes run the protocol under a lawful rule, their history keeps a schedule that the rule holds,
  -- and those that are not Byzantine started with bits
  pub record Course : Type 0 where
    pub lawful : Lawful n held
    pub kept : Keeps n (protocol n held) h c
    pub pair : held c.byzantine (failing n c) ≡ true
    pub bits : (r : ℕ) → r < n → has c.byzantine r ≡ false → h.start r ≤ 1

  -- p is a standing process that has shut all its rounds
  pub record Finished (p : ℕ) : Type 0 where
    pub known : p < n
    pub stands : standing c p ≡ true
    pub closed : rounds_of n ≤ h.shut p

  -- all processes that are correct through k rounds and have shut them prefer v
  abbrev pub Unanimous : ℕ → ℕ → Type 0
  Unanimous k v = (r : ℕ) → Through n h c r k → value_after r k ≡ v

  -- phase i, of the rounds 3 · i + 1 to 3 · i + 3, is good: its king is correct through it,
  -- and nobody has its last round in the first two
  pub record Good (i : ℕ) : Type 0 where
    pub king_right : correct c (i % n) (3 * i + 3) ≡ true
    pub quiet : (r : ℕ) → r < n → has c.byzantine r ≡ false → (c.last r ≢ 3 * i + 1) × (c.last r ≢ 3 * i + 2)

  -- how many processes are correct through the first i phases
  abbrev pub correct_count : ℕ → ℕ
  correct_count i = count n (λ r. correct c r (3 * i))

-- for every rule, every number of processes, every history and every schedule
abbrev Always : ((n : ℕ) (held : ℕ → ℕ → Bool) (h : History) (c : Schedule) → Type 0) → Type 0
Always P = (n : ℕ) (held : ℕ → ℕ → Bool) (h : History) (c : Schedule) → Course n held h c → P n held h c

-- two standing processes that have shut all rounds hold the same value
abbrev pub Agreement : Type 0
Agreement = Always (λ n held h c. (p q : ℕ) → Finished n held h c p → Finished n held h c q → value_after n held h c p (rounds_of n) ≡ value_after n held h c q (rounds_of n))

-- if all processes that are not Byzantine started with b, a standing process that has shut all rounds holds b
abbrev pub Validity : Type 0
Validity = Always (λ n held h c. (b : ℕ) → ((r : ℕ) → r < n → has c.byzantine r ≡ false → h.start r ≡ b) → (p : ℕ) → Finished n held h c p → value_after n held h c p (rounds_of n) ≡ b)

-- a bit that all correct processes prefer before a phase they prefer after it
abbrev pub Persistence : Type 0
Persistence = Always (λ n held h c. (i v : ℕ) → v ≤ 1 → Unanimous n held h c (3 * i) v → Unanimous n held h c (3 * i + 3) v)

-- after a good phase all correct processes prefer the same
abbrev pub GoodPhaseAgrees : Type 0
GoodPhaseAgrees = Always (λ n held h c. (i : ℕ) → Good n held h c i → (p q : ℕ) → Through n h c p (3 * i + 3) → Through n h c q (3 * i + 3) → value_after n held h c p (3 * i + 3) ≡ value_after n held h c q (3 * i + 3))

-- in n phases of which none is good the number of correct processes at least halves
abbrev pub FaultsHalve : Type 0
FaultsHalve = Always (λ n held h c. (s : ℕ) → 0 < n → ((i : ℕ) → s ≤ i → i < s + n → Good n held h c i → ⊥) → 2 * correct_count n held h c (s + n) ≤ correct_count n held h c s)

-- at the end of a phase a process that is not Byzantine prefers 0 or 1
abbrev pub PhaseEndsInABit : Type 0
PhaseEndsInABit = Always (λ n held h c. (i p : ℕ) → p < n → has c.byzantine p ≡ false → value_after n held h c p (3 * i) ≤ 1)

-- these premises can be met: for every lawful rule, bits, schedule that the rule holds, lies and lost words
-- there is a history that keeps the schedule, in which every process shuts all rounds
abbrev pub CoursesExist : Type 0
CoursesExist =
    (n : ℕ) (held : ℕ → ℕ → Bool) (start : ℕ → ℕ) (c : Schedule) (lies : ℕ → ℕ → ℕ → Option ℕ) (lost : ℕ → ℕ → ℕ → Bool)
    → Lawful n held → held c.byzantine (failing n c) ≡ true → ((r : ℕ) → r < n → has c.byzantine r ≡ false → start r ≤ 1)
    → (h : History) × Course n held h c × Runs n (protocol n held) (rounds_of n) start c lies lost h × ((p : ℕ) → h.shut p ≡ rounds_of n)
