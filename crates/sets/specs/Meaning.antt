-- What the operations on masks mean, process by process. Nothing here has a width.
use Rattle.std.specs.Prelude.{◌≡◌, ℕ, ◌+◌, ◌<◌, ◌≤◌, Bool, true, ◌&&◌, ◌||◌, Decides, bit_and, bit_or, count_ones, nat_lt}
use Rattle.sets.specs.Pairs.{contained, covers}
use Rattle.sets.specs.Sets.{has, full, mask, subset}

-- every process of a is in b
abbrev pub Subset : ℕ → ℕ → Type 0
Subset a b = (s : ℕ) → has a s ≡ true → has b s ≡ true

-- (a', f') is contained in (a, f): a' ⊆ a, and f' ⊆ a ∪ f
pub record Contained (a' f' a f : ℕ) : Type 0 where
  pub byzantine : (s : ℕ) → has a' s ≡ true → has a s ≡ true
  pub failing : (s : ℕ) → has f' s ≡ true → (has a s || has f s) ≡ true

-- the four ways in which three pairs cover a process: it is Byzantine in one of them, or failing in all
pub data Covered (a₁ f₁ a₂ f₂ a₃ f₃ s : ℕ) : Type 0 where
  by_first : has a₁ s ≡ true → Covered a₁ f₁ a₂ f₂ a₃ f₃ s
  by_second : has a₂ s ≡ true → Covered a₁ f₁ a₂ f₂ a₃ f₃ s
  by_third : has a₃ s ≡ true → Covered a₁ f₁ a₂ f₂ a₃ f₃ s
  by_all : has f₁ s ≡ true → has f₂ s ≡ true → has f₃ s ≡ true → Covered a₁ f₁ a₂ f₂ a₃ f₃ s

-- masks are sets
pub record MasksAreSets : Type 0 where
  -- `|` is the union, `&` the intersection
  pub union : (a b s : ℕ) → has (bit_or a b) s ≡ (has a s || has b s)
  pub intersection : (a b s : ℕ) → has (bit_and a b) s ≡ (has a s && has b s)
  -- the first n processes are those at the positions below n
  pub first : (n s : ℕ) → has (full n) s ≡ nat_lt s n
  -- a mask that is made by a test has the processes that pass it
  pub passing : (n : ℕ) (test : ℕ → Bool) (s : ℕ) → has (mask n test) s ≡ (nat_lt s n && test s)
  -- two masks with the same processes are the same
  pub same : (a b : ℕ) → ((s : ℕ) → has a s ≡ has b s) → a ≡ b
  -- the tests tell what they should
  pub inside : (a b : ℕ) → Decides (subset a b) (Subset a b)
  pub containment : (a' f' a f : ℕ) → Decides (contained a' f' a f) (Contained a' f' a f)
  pub cover : (n a₁ f₁ a₂ f₂ a₃ f₃ : ℕ) → Decides (covers n a₁ f₁ a₂ f₂ a₃ f₃) ((s : ℕ) → s < n → Covered a₁ f₁ a₂ f₂ a₃ f₃ s)
  -- the count of ones is a number of processes
  pub count_first : (n : ℕ) → count_ones (full n) ≡ n
  pub count_union : (a b : ℕ) → count_ones (bit_or a b) + count_ones (bit_and a b) ≡ count_ones a + count_ones b
  pub count_inside : (a b : ℕ) → subset a b ≡ true → count_ones a ≤ count_ones b
