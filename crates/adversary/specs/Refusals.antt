-- What a rule is refused with, and when.
use Rattle.std.specs.Prelude.{◌≡◌, ℕ, zero, suc, ◌+◌, ◌-◌, ◌*◌, ◌<◌, ◌≤◌, Bool, true, false, not, ◌||◌, ◌⊎◌, List, [], ◌∷◌, length, is_some, Some, None, Ok, Err, Option, Result, ◌==◌, bit_and, bit_or, nat_le, nat_lt, slice_index_or}
use Rattle.sets.specs.declared.fault_pair.FaultPair.{FaultPair}
use Rattle.sets.specs.Pairs.{covers, byz, fail, pair_of}
use Rattle.sets.specs.Sets.{subset, full, numbered}
use Rattle.refusal.specs.declared.rule.RuleRefusal.{RuleRefusal}
use Rattle.refusal.specs.declared.rule.RuleRefusal.TheVariants.{Processes, PairCount, AboveProcesses, InBothSets, Cover, ByzantineAboveTotal, TotalTooHigh}

-- the first of two refusals that comes
abbrev pub or_else : {X : Type 0} → Option X → Option X → Option X
or_else None y = y
or_else (Some x) y = Some x

-- the refusal x where the test says so
abbrev pub when : {X : Type 0} → Bool → X → Option X
when true x = Some x
when false x = None

-- the first answer of f among c numbers from s
abbrev pub first : {X : Type 0} → (ℕ → Option X) → ℕ → ℕ → Option X
first f s zero = None
first f s (suc c) = or_else (f s) (first f (suc s) c)

-- the most pairs that a list has
abbrev pub most_pairs : ℕ
most_pairs = 64

-- 1: n is not the number of processes of a crew
abbrev pub size_refusal : ℕ → Option RuleRefusal
size_refusal n = when (not (numbered n)) Processes

-- 2: no pair, or too many
abbrev pub length_refusal : ℕ → Option RuleRefusal
length_refusal m = when (m == 0 || nat_lt most_pairs m) PairCount

-- whether a pair has a process above n
abbrev pub above : ℕ → FaultPair → Bool
above n p = not (subset (bit_or (byz p) (fail p)) (full n))

-- whether a process is in both sets of a pair
abbrev pub overlaps : FaultPair → Bool
overlaps p = not (bit_and (byz p) (fail p) == 0)

-- one pair at place i: 3, then 4
abbrev pub pair_refusal : ℕ → ℕ → FaultPair → Option RuleRefusal
pair_refusal n i p = or_else (when (above n p) (AboveProcesses i)) (when (overlaps p) (InBothSets i))

-- pair by pair in order, the first at place i
abbrev pub pairs_refusal : ℕ → ℕ → List FaultPair → Option RuleRefusal
pairs_refusal n i [] = None
pairs_refusal n i (p ∷ ps) = or_else (pair_refusal n i p) (pairs_refusal n (suc i) ps)

-- the pair at index i of a list, counted from 0
abbrev pub pair_at : List FaultPair → ℕ → FaultPair
pair_at ps i = slice_index_or ps i (pair_of 0 0)

-- whether the listed pairs at the indices i, j and k cover n processes
abbrev pub covers_at : ℕ → List FaultPair → ℕ → ℕ → ℕ → Bool
covers_at n ps i j k = covers n (byz (pair_at ps i)) (fail (pair_at ps i)) (byz (pair_at ps j)) (fail (pair_at ps j)) (byz (pair_at ps k)) (fail (pair_at ps k))

-- the indices i ≤ j ≤ k of three listed pairs that cover n processes, with the smallest k for given i and j
abbrev pub third_from : ℕ → List FaultPair → ℕ → ℕ → Option (ℕ × ℕ × ℕ)
third_from n ps i j = first (λ k. when (covers_at n ps i j k) (i, j, k)) j (length ps - j)

-- the same with the smallest j, and then k, for a given i
abbrev pub second_from : ℕ → List FaultPair → ℕ → Option (ℕ × ℕ × ℕ)
second_from n ps i = first (third_from n ps i) i (length ps - i)

-- the same with the smallest i, then j, then k
abbrev pub least_cover : ℕ → List FaultPair → Option (ℕ × ℕ × ℕ)
least_cover n ps = first (second_from n ps) 0 (length ps)

-- 5: three listed pairs cover the crew; their places are counted from 1
abbrev pub blamed : Option (ℕ × ℕ × ℕ) → Option RuleRefusal
blamed None = None
blamed (Some t) = Some (Cover (suc t.0) (suc t.1) (suc t.2))

abbrev pub cover_refusal : ℕ → List FaultPair → Option RuleRefusal
cover_refusal n ps = blamed (least_cover n ps)

-- what adopting n and these pairs is refused with, if at all: 1, 2, then 3 and 4 pair by pair, then 5
abbrev pub list_refusal : ℕ → List FaultPair → Option RuleRefusal
list_refusal n ps = or_else (size_refusal n) (or_else (length_refusal (length ps)) (or_else (pairs_refusal n 1 ps) (cover_refusal n ps)))

-- the places i' ≤ j' ≤ k' come before i ≤ j ≤ k: a smaller first, else a smaller second, else a smaller third
abbrev pub Before : ℕ → ℕ → ℕ → ℕ → ℕ → ℕ → Type 0
Before i' j' k' i j k = (i' < i) ⊎ ((i' ≡ i) × ((j' < j) ⊎ ((j' ≡ j) × (k' < k))))

-- three places of listed pairs, counted from 1
pub record Places (ps : List FaultPair) (i j k : ℕ) : Type 0 where
  pub first_place : 1 ≤ i
  pub second_place : i ≤ j
  pub third_place : j ≤ k
  pub last_place : k ≤ length ps

-- 5 is right to name i, j and k: the listed pairs there cover n processes, and none do that come before them
pub record Blamed (n : ℕ) (ps : List FaultPair) (i j k : ℕ) : Type 0 where
  pub places : Places ps i j k
  pub cover : covers_at n ps (i - 1) (j - 1) (k - 1) ≡ true
  pub least : (i' j' k' : ℕ) → Places ps i' j' k' → Before i' j' k' i j k → covers_at n ps (i' - 1) (j' - 1) (k' - 1) ≡ false

-- no three listed pairs cover n processes, in whatever order
abbrev pub Coverless : ℕ → List FaultPair → Type 0
Coverless n ps = (i j k : ℕ) → i < length ps → j < length ps → k < length ps → covers_at n ps i j k ≡ false

-- what the answer of adopting n and these pairs says, where `o` is the refusal, if there is one
pub record Judged (o : Option RuleRefusal) (n : ℕ) (ps : List FaultPair) : Type 0 where
  -- it is refused with just this
  pub answer : o ≡ list_refusal n ps
  -- 5 names the first three pairs that cover the crew
  pub blame : (i j k : ℕ) → o ≡ Some (Cover i j k) → Blamed n ps i j k
  -- where it is not refused, no three pairs cover the crew
  pub coverless : o ≡ None → Coverless n ps

-- whether they can be adopted
abbrev pub adoptable : ℕ → List FaultPair → Bool
adoptable n ps = not (is_some (list_refusal n ps))

-- what the counts t and b are refused with for n processes, if at all: 1, 6, 7
abbrev pub threshold_refusal : ℕ → ℕ → ℕ → Option RuleRefusal
threshold_refusal n t b = or_else (size_refusal n) (or_else (when (nat_lt t b) ByzantineAboveTotal) (when (nat_le n (t + 2 * b)) TotalTooHigh))

-- whether they are accepted
abbrev pub tolerable : ℕ → ℕ → ℕ → Bool
tolerable n t b = not (is_some (threshold_refusal n t b))

-- the answer of a check that is refused with this, if at all
abbrev pub answered : {X : Type 0} → X → Option RuleRefusal → Result X RuleRefusal
answered x None = Ok x
answered x (Some e) = Err e
