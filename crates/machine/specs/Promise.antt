-- The promise over every list of calls. A log is the list with what came of each call, the latest first;
-- all processes rest before it. Process number m stands at position m - 1.
use Rattle.std.specs.Prelude.{◌≡◌, ℕ, suc, ◌<◌, ◌≤◌, Bool, true, false, cond, List, [], ◌∷◌, Some, ◌==◌}
use Rattle.sets.specs.Sets.{has, limit}
use Rattle.history.specs.Schedules.{Schedule, correct, standing, failing}
use Rattle.adversary.specs.Laws.{Lawful}
use Rattle.agreement.specs.Rounds.{rounds_of}
use Rattle.agreement.specs.Step.{kind_of, due_by}
use Rattle.machine.specs.Deeds.{started, spoke, heard, shuts, Did}
use Rattle.machine.specs.Machine.{resting, after, replied, answered_by}
use Rattle.machine.specs.declared.types.Answer.TheVariants as answer
use Rattle.machine.specs.declared.types.Call.TheVariants as call
use Rattle.machine.specs.declared.types.Entry.{Entry}
use Rattle.machine.specs.declared.types.ProcessState.{ProcessState}

module _ (n : ℕ) (held : ℕ → ℕ → Bool) where
  -- the process at position p after the calls of a log
  abbrev pub ran : ℕ → List Entry → ProcessState
  ran p [] = resting
  ran p (e ∷ log) = cond (e.who == p) (after n held (ran p log) e.call) (ran p log)

  -- every call on p in the log was answered as the six calls go
  abbrev pub Faithful : ℕ → List Entry → Type 0
  Faithful p [] = Unit {0}
  Faithful p (e ∷ log) = (e.who ≡ p → e.reply ≡ replied n (ran p log) e.call) × Faithful p log

  -- p shows the verdict v: the call verdict, made after the log, answers it
  abbrev pub Shows : ℕ → List Entry → ℕ → Type 0
  Shows p log v = answered_by n (ran p log) call.Verdict ≡ answer.Verdict (Some v)

  module _ (c : Schedule) (log : List Entry) where
    -- p is not Byzantine
    abbrev pub Honest : ℕ → Type 0
    Honest p = has c.byzantine p ≡ false

    -- the message from r to p in round k + 1 is under the schedule: p has shut the round and is correct in it,
    -- and a word is due from r, another process; in a third round from the king alone
    pub record Message (p k r : ℕ) : Type 0 where
      pub receiver : p < n
      pub closed : k < shuts p log
      pub right : correct c p (suc k) ≡ true
      pub sender : r < n
      pub other : r ≡ p → ⊥
      pub owed : due_by n held (kind_of k) k r ≡ true

    -- the crew keeps the schedule over the whole log
    pub record Keeps : Type 0 where
      -- a process that is not Byzantine starts under its own number, if at all
      pub numbered : (p k m b : ℕ) → p < n → Honest p → Did p k (started m b) log → m ≡ suc p
      -- of a correct process the word that it spoke in that round is accepted
      pub accepted : (p k r : ℕ) → Message p k r → correct c r (suc k) ≡ true → (w : ℕ) × Did r k (spoke (Some w)) log × Did p k (heard (suc r) w) log
      -- in its last round nothing but the word that it spoke
      pub last_word : (p k r w : ℕ) → Message p k r → Honest r → c.last r ≡ suc k → Did p k (heard (suc r) w) log → Did r k (spoke (Some w)) log
      -- after its last round nothing; of a Byzantine process anything
      pub later : (p k r w : ℕ) → Message p k r → Honest r → 0 < c.last r → c.last r ≤ k → Did p k (heard (suc r) w) log → ⊥

    -- the premises: a lawful rule, calls answered as they go, and a schedule that the rule holds and the crew keeps
    pub record Course : Type 0 where
      pub few : n ≤ limit
      pub lawful : Lawful n held
      pub faithful : (p : ℕ) → p < n → Honest p → Faithful p log
      pub pair : held c.byzantine (failing n c) ≡ true
      pub kept : Keeps

    -- p started
    abbrev pub Started : ℕ → Type 0
    Started p = (k : ℕ) × (m : ℕ) × (b : ℕ) × Did p k (started m b) log

    -- what is promised
    pub record Promise : Type 0 where
      -- standing processes show at most one verdict
      pub one_verdict : (p q v w : ℕ) → p < n → q < n → standing c p ≡ true → standing c q ≡ true → Shows p log v → Shows q log w → v ≡ w
      -- if every process that is not Byzantine and started did so with b, no standing process' verdict is another
      pub shared_bit : (b : ℕ) → ((p k m x : ℕ) → p < n → Honest p → Did p k (started m x) log → x ≡ b) → (p v : ℕ) → p < n → standing c p ≡ true → Shows p log v → v ≡ b
      -- a process that is not Byzantine shows a verdict exactly if it has started and shut exactly all its rounds
      pub in_time : (p v : ℕ) → p < n → Honest p → Shows p log v → Started p × (shuts p log ≡ rounds_of n)
      pub at_last : (p : ℕ) → p < n → Honest p → Started p → shuts p log ≡ rounds_of n → (v : ℕ) × Shows p log v

-- for every rule, schedule and log
abbrev pub PromiseKept : Type 0
PromiseKept = (n : ℕ) (held : ℕ → ℕ → Bool) (c : Schedule) (log : List Entry) → Course n held c log → Promise n held c log
