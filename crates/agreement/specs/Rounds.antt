-- How many rounds a crew runs.
use Rattle.std.specs.Prelude.{ℕ, zero, suc, ◌*◌, ◌^◌, ◌≤◌, cond, nat_le}

-- m is the logarithm of n to base 2, rounded up: the least number with n ≤ 2 ^ m
pub record CeilLog (n m : ℕ) : Type 0 where
  pub enough : n ≤ 2 ^ m
  pub least : (k : ℕ) → n ≤ 2 ^ k → m ≤ k

-- that number, looked for from m on in at most d steps
abbrev pub log_from : ℕ → ℕ → ℕ → ℕ
log_from zero m n = m
log_from (suc d) m n = cond (nat_le n (2 ^ m)) m (log_from d (suc m) n)

abbrev pub clog : ℕ → ℕ
clog n = log_from n 0 n

-- the rounds of n processes: ⌈log2 n⌉ times every process is king of a phase of three rounds
abbrev pub rounds_of : ℕ → ℕ
rounds_of n = 3 * n * clog n
