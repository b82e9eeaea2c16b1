-- What one process did, gathered round by round, and how its state follows from it.
use Rattle.std.proofs.Common.{◌≡◌, ℕ, zero, suc, ◌-◌, ◌<◌, Bool, false, cond, ◌&&◌, eqb, Some, None, Option, refl, ap, ◌∙◌, arith}
use mathlib.Core.Path.{fun_ext}
use Rattle.std.proofs.lemmas.Bool.{cond-true, cond-false, and_from, and_left, and_right, eq-eqb, ne_eqb}
use Rattle.agreement.specs.Step.{State, step}
use Rattle.machine.specs.Deeds.{Deed, started, spoke, heard, shut}

-- the rounds shut, the start bit, and the row of words that process had in each round
pub record Journal : Type 0 where
  pub rounds : ℕ
  pub bit : ℕ
  pub row : ℕ → ℕ → Option ℕ

-- a word put into the row of the round after k, for the process at position r
pub put : (ℕ → ℕ → Option ℕ) → ℕ → ℕ → Option ℕ → ℕ → ℕ → Option ℕ
put row k r w k' r' = cond (eqb k k' && eqb r r') w (row k' r')

pub put_here : (row : ℕ → ℕ → Option ℕ) (k r : ℕ) (w : Option ℕ) → put row k r w k r ≡ w
unfolding put
put_here row k r w = cond-true (eqb k k && eqb r r) _ _ (and_from _ _ (eq-eqb k k refl) (eq-eqb r r refl))

pub put_other_round : (row : ℕ → ℕ → Option ℕ) (k r : ℕ) (w : Option ℕ) (k' r' : ℕ) → (k ≡ k' → ⊥) → put row k r w k' r' ≡ row k' r'
unfolding put
put_other_round row k r w k' r' ne = cond-false (eqb k k' && eqb r r') _ _ (and_left (eqb k k') _ (ne_eqb k k' ne))

pub put_other : (row : ℕ → ℕ → Option ℕ) (k r : ℕ) (w : Option ℕ) (r' : ℕ) → (r ≡ r' → ⊥) → put row k r w k r' ≡ row k r'
unfolding put
put_other row k r w r' ne = cond-false (eqb k k && eqb r r') _ _ (and_right (eqb k k) _ (ne_eqb r r' ne))

-- one deed more of the process at position p
abbrev pub add : ℕ → Option Deed → Journal → Journal
add p None j = j
add p (Some (started m b)) j = record { rounds = j.rounds; bit = b; row = j.row }
add p (Some (spoke w)) j = record { rounds = j.rounds; bit = j.bit; row = put j.row j.rounds p w }
add p (Some (heard m w)) j = record { rounds = j.rounds; bit = j.bit; row = put j.row j.rounds (m - 1) (Some w) }
add p (Some shut) j = record { rounds = suc j.rounds; bit = j.bit; row = j.row }

module _ (n : ℕ) (held : ℕ → ℕ → Bool) where
  -- the protocol's state after k rounds with these rows
  unfoldable pub folded : (ℕ → ℕ → Option ℕ) → ℕ → ℕ → State
  folded row b zero = record { preferred = b; detected = 0; follows = false }
  folded row b (suc k) = step n held k (row k) (folded row b k)

  -- it depends on the rows of the rounds before alone
  pub folded_same : (row row' : ℕ → ℕ → Option ℕ) (b k : ℕ) → ((j r : ℕ) → j < k → row j r ≡ row' j r) → folded row b k ≡ folded row' b k
  unfolding folded
  folded_same row row' b zero e = refl
  folded_same row row' b (suc k) e =
      let rows : row k ≡ row' k = fun_ext (λ r. e k r (omega arith)) in
      ap (λ (x : ℕ → Option ℕ). step n held k x (folded row b k)) rows ∙ ap (step n held k (row' k)) (folded_same row row' b k (λ j r l. e j r (omega arith)))
