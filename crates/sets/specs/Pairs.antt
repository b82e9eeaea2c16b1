-- Fault pairs (a, f): a set a of Byzantine processes, which may say anything, and a set f of failing ones, which fall silent once.
use Rattle.std.specs.Prelude.{ℕ, Bool, ◌&&◌, bit_and, bit_or}
use Rattle.sets.specs.Sets.{subset, full, set_of}
use Rattle.sets.specs.declared.fault_pair.FaultPair.{FaultPair}

-- whether (a', f') is contained in (a, f): a' ⊆ a and f' ⊆ a ∪ f
abbrev pub contained : ℕ → ℕ → ℕ → ℕ → Bool
contained a' f' a f = subset a' a && subset f' (bit_or a f)

-- what the pairs (a₁, f₁), (a₂, f₂), (a₃, f₃) cover: a₁ ∪ a₂ ∪ a₃ ∪ (f₁ ∩ f₂ ∩ f₃)
abbrev pub cover_of : ℕ → ℕ → ℕ → ℕ → ℕ → ℕ → ℕ
cover_of a₁ f₁ a₂ f₂ a₃ f₃ = bit_or (bit_or (bit_or a₁ a₂) a₃) (bit_and (bit_and f₁ f₂) f₃)

-- whether they cover n processes: what they cover has all of the first n
abbrev pub covers : ℕ → ℕ → ℕ → ℕ → ℕ → ℕ → ℕ → Bool
covers n a₁ f₁ a₂ f₂ a₃ f₃ = subset (full n) (cover_of a₁ f₁ a₂ f₂ a₃ f₃)

-- the Byzantine and the failing set of a pair, as masks
abbrev pub byz : FaultPair → ℕ
byz p = p.byzantine.bits

abbrev pub fail : FaultPair → ℕ
fail p = p.failing.bits

-- the pair of these two masks
abbrev pub pair_of : ℕ → ℕ → FaultPair
pair_of a f = record { byzantine = set_of a; failing = set_of f }
