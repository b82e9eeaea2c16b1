-- Questions that are asked about the processes of a crew, one by one.
use Rattle.std.specs.Prelude.{◌≡◌, ℕ, ◌<◌, Bool}

-- at the positions below n, whatever is answered is what this test says
abbrev pub AgreesBelow : (ℕ → Bool → Type 0) → ℕ → (ℕ → Bool) → Type 0
AgreesBelow answers n test = (r : ℕ) (b : Bool) → r < n → answers r b → b ≡ test r
