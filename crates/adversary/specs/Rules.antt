-- Which pairs each kind of rule holds.
use Rattle.std.specs.Prelude.{ℕ, Bool, false, ◌&&◌, ◌||◌, List, [], ◌∷◌, bit_or, count_ones, nat_le}
use Rattle.sets.specs.declared.fault_pair.FaultPair.{FaultPair}
use Rattle.sets.specs.Pairs.{contained, byz, fail}
use Rattle.sets.specs.Sets.{subset, full}

-- a pair list holds what is contained in a listed pair
abbrev pub listed : List FaultPair → ℕ → ℕ → Bool
listed [] a f = false
listed (p ∷ ps) a f = contained a f (byz p) (fail p) || listed ps a f

-- a threshold holds the pairs of the first n processes with at most b in a and at most t in a ∪ f
abbrev pub within : ℕ → ℕ → ℕ → ℕ → ℕ → Bool
within n t b a f = subset (bit_or a f) (full n) && (nat_le (count_ones a) b && nat_le (count_ones (bit_or a f)) t)

-- two rules at once hold what both hold
abbrev pub both : (ℕ → ℕ → Bool) → (ℕ → ℕ → Bool) → ℕ → ℕ → Bool
both held held' a f = held a f && held' a f
