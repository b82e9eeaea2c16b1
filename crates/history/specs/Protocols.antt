-- Round-by-round protocols of many processes, and what may have happened when they ran.
-- Processes are positions from 0, and rounds are counted by how many were shut before: the round after k is round k + 1.
use Rattle.std.specs.Prelude.{ℕ, zero, suc, Bool, cond, Option}

-- one process' part of a protocol, over a type of states
pub record Protocol (S : Type 0) : Type 0 where
  -- the state that a start bit begins with
  pub begin : ℕ → S
  -- whether a process in this state has stopped: it says nothing more, and its state stays
  pub over : S → Bool
  -- whether a word is due from process r in the round after k
  pub due : ℕ → ℕ → Bool
  -- what a process in this state says in the round after k, where a word is due from it
  pub word : ℕ → S → ℕ
  -- the round's step, on the row of words that were heard: a word or nothing for each process, one's own among them
  pub next : ℕ → (ℕ → Option ℕ) → S → S
  -- the value that a state stands for
  pub value : S → ℕ

-- what many processes did, with no order between them; each may have halted anywhere
pub record History : Type 0 where
  -- the start bit of process p
  pub start : ℕ → ℕ
  -- how many rounds it has shut
  pub shut : ℕ → ℕ
  -- the row that it had in the round after k: from each process a word or nothing
  pub row : ℕ → ℕ → ℕ → Option ℕ

-- the state of process p after k rounds
unfoldable pub state : {S : Type 0} → Protocol S → History → ℕ → ℕ → S
state a h p zero = a.begin (h.start p)
state a h p (suc k) = cond (a.over (state a h p k)) (state a h p k) (a.next k (h.row p k) (state a h p k))
