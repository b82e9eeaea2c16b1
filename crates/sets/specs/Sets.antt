-- Sets of processes. A set is a number: the process at position s is in it exactly if bit s is one.
-- Processes are numbered from 1 and positions from 0, so process p stands at position p - 1 and is worth 2 ^ (p - 1).
-- Nothing here has a width: the definitions hold for masks of any length.
use Rattle.std.specs.Prelude.{ℕ, zero, suc, ◌+◌, ◌-◌, ◌*◌, ◌/◌, ◌%◌, ◌^◌, Bool, cond, ◌&&◌, Some, None, Option, ◌==◌, bit_and, bit_or, nat_le}
use Rattle.sets.specs.declared.process_set.ProcessSet.{ProcessSet}

-- the greatest number of processes in a crew
abbrev pub limit : ℕ
limit = 16

-- whether the process at position s is in the set m
unfoldable pub has : ℕ → ℕ → Bool
has m s = m / 2 ^ s % 2 == 1

-- the set of the first n processes
unfoldable pub full : ℕ → ℕ
full n = 2 ^ n - 1

-- the set of those of the first n processes that pass a test
unfoldable pub mask : ℕ → (ℕ → Bool) → ℕ
mask zero test = 0
mask (suc n) test = cond (test 0) 1 0 + 2 * mask n (λ s. test (suc s))

-- whether every process of a is in b: what a has in common with b is all of a
abbrev pub subset : ℕ → ℕ → Bool
subset a b = bit_and a b == a

-- whether p is the number of a process: 1 to the limit
abbrev pub numbered : ℕ → Bool
numbered p = nat_le 1 p && nat_le p limit

-- the value that holds the mask m
abbrev pub set_of : ℕ → ProcessSet
set_of m = record { bits = m }

-- the set of process p alone, if p is the number of a process
abbrev pub single : ℕ → Option ProcessSet
single p = cond (numbered p) (Some (set_of (2 ^ (p - 1)))) None

-- a set with process p added, if p is the number of a process
abbrev pub with_process : ProcessSet → ℕ → ProcessSet
with_process m p = cond (numbered p) (set_of (bit_or m.bits (2 ^ (p - 1)))) m
