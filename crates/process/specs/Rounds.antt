-- The values of the code as those of the protocol's definition.
use Rattle.std.specs.Prelude.{ℕ, List, None, Option, slice_index_or}
use Rattle.agreement.specs.Step.{State, Kind as RoundKind, unify, exchange, king, most_word, caught, saying}
use Rattle.process.specs.declared.kind.Kind.{Kind}
use Rattle.process.specs.declared.kind.Kind.TheVariants.{Unify, Exchange, King}
use Rattle.process.specs.declared.state.Core.{Core}

-- the row of words that these slots hold
abbrev pub row_of : List (Option ℕ) → ℕ → Option ℕ
row_of slots r = slice_index_or slots r None

-- the kind of a round
abbrev pub round_kind : Kind → RoundKind
round_kind Unify = unify
round_kind Exchange = exchange
round_kind King = king

-- what a process knows between rounds
abbrev pub state_of : Core → State
state_of c = record { preferred = c.preferred; detected = c.detected.bits; follows = c.follows }

-- whom a process of a crew of n has detected after a round of this kind, and who said w in it and is not detected
abbrev pub caught_in : ℕ → Kind → List (Option ℕ) → Core → ℕ
caught_in n kind slots before = caught n (most_word (round_kind kind)) (row_of slots) before.detected.bits

abbrev pub saying_in : ℕ → Kind → List (Option ℕ) → Core → ℕ → ℕ
saying_in n kind slots before w = saying n (most_word (round_kind kind)) (row_of slots) before.detected.bits w
