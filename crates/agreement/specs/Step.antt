-- One process of the agreement protocol, round by round, on plain values.
-- There are n processes, at the positions below n, and `held a f` tells whether the rule holds the pair (a, f).
-- Rounds are counted by how many were shut before: the round after k is of kind k mod 3, in phase k div 3.
use Rattle.std.specs.Prelude.{ℕ, zero, suc, ◌/◌, ◌%◌, min, Bool, true, false, cond, not, ◌&&◌, is_some, Some, None, Option, ◌==◌, bit_or, nat_le}
use Rattle.sets.specs.Sets.{has, mask}
use Rattle.history.specs.Protocols.{Protocol}

-- what a process knows between rounds: its preferred value (0, 1, or 2 for none), the processes that it has
-- detected as faulty, and whether it follows the king of this phase
pub record State : Type 0 where
  pub preferred : ℕ
  pub detected : ℕ
  pub follows : Bool

-- the three kinds of rounds: in the first all values are unified, in the second they are exchanged, in the third the king speaks
pub data Kind : Type 0 where
  unify : Kind
  exchange : Kind
  king : Kind

abbrev pub kind_at : ℕ → Kind
kind_at zero = unify
kind_at (suc zero) = exchange
kind_at (suc (suc m)) = king

abbrev pub kind_of : ℕ → Kind
kind_of k = kind_at (k % 3)

-- the words that count in a round are those up to this one
abbrev pub most_word : Kind → ℕ
most_word unify = 1
most_word exchange = 2
most_word king = 2

-- how a word that was heard, or none, is read: a word that does not count is as good as none
abbrev pub reading : ℕ → Option ℕ → Option ℕ
reading most None = None
reading most (Some w) = cond (nat_le w most) (Some w) None

-- whether something was read, and whether it was the word w
abbrev pub says : ℕ → Option ℕ → Bool
says w None = false
says w (Some x) = x == w

-- the word of a king, where there is none or one that does not count: 0
abbrev pub or_zero : Option ℕ → ℕ
or_zero None = 0
or_zero (Some w) = w

module _ (n : ℕ) where
  -- the king of the phase in which the round after k is
  abbrev pub king_of : ℕ → ℕ
  king_of k = (k / 3) % n

  -- the detected processes, with those that said nothing that counts
  unfoldable pub caught : ℕ → (ℕ → Option ℕ) → ℕ → ℕ
  caught most row l = bit_or l (mask n (λ r. not (is_some (reading most (row r)))))

  -- those that said w and are not detected
  unfoldable pub saying : ℕ → (ℕ → Option ℕ) → ℕ → ℕ → ℕ
  saying most row l w = mask n (λ r. says w (reading most (row r)) && not (has (caught most row l) r))

  module _ (held : ℕ → ℕ → Bool) where
    -- whether the rule holds the pair of those that said w and those that are detected
    abbrev pub holds_saying : ℕ → (ℕ → Option ℕ) → ℕ → ℕ → Bool
    holds_saying most row l w = held (saying most row l w) (caught most row l)

    -- first round: 0 if those that said 1 may all be faulty, else 1 if those that said 0 may, else no value
    abbrev pub unified : (ℕ → Option ℕ) → State → State
    unified row s = record {
      preferred = cond (holds_saying 1 row s.detected 1) 0 (cond (holds_saying 1 row s.detected 0) 1 2);
      detected = caught 1 row s.detected;
      follows = s.follows;
    }

    -- second round: 0 if those that said 0 cannot all be faulty, else 1 likewise, else no value;
    -- the king is followed if those that said 2 cannot all be faulty
    abbrev pub exchanged : (ℕ → Option ℕ) → State → State
    exchanged row s = record {
      preferred = cond (holds_saying 2 row s.detected 0) (cond (holds_saying 2 row s.detected 1) 2 1) 0;
      detected = caught 2 row s.detected;
      follows = not (holds_saying 2 row s.detected 2);
    }

    -- third round: a king that is followed gives the value, 1 at most
    abbrev pub told : ℕ → (ℕ → Option ℕ) → State → State
    told k row s = record {
      preferred = cond s.follows (min 1 (or_zero (reading 2 (row (king_of k))))) s.preferred;
      detected = s.detected;
      follows = s.follows;
    }

    abbrev pub step_by : Kind → ℕ → (ℕ → Option ℕ) → State → State
    step_by unify k row s = unified row s
    step_by exchange k row s = exchanged row s
    step_by king k row s = told k row s

    -- the step of the round after k
    unfoldable pub step : ℕ → (ℕ → Option ℕ) → State → State
    step k row s = step_by (kind_of k) k row s

    -- from whom a word is due: from everyone, in third rounds from the king alone
    abbrev pub due_by : Kind → ℕ → ℕ → Bool
    due_by unify k r = true
    due_by exchange k r = true
    due_by king k r = r == king_of k

    -- the protocol: it never stops before its rounds are over, and says the preferred value
    unfoldable pub protocol : Protocol State
    protocol = record {
      begin = λ b. record { preferred = b; detected = 0; follows = false };
      over = λ s. false;
      due = λ k r. due_by (kind_of k) k r;
      word = λ k s. s.preferred;
      next = step;
      value = λ s. s.preferred;
    }
