-- How many processes are in a set, for masks of any width.
use Rattle.std.proofs.Common.{◌≡◌, ℕ, ◌+◌, ◌*◌, ◌/◌, ◌%◌, ◌^◌, ◌<◌, ◌≤◌, min, max, true, false, refl, ap, ◌∙◌, ⊎_elim, arith}
use lib.Bits.{bit_and, bit_or, and_step, or_step}
use lib.Count.{ones, ones_step, ones-ones, ones-le}
use Rattle.std.proofs.lemmas.Bool.{eqb-true, cases_Bool}
use Rattle.sets.specs.Sets.{full, subset}
use Rattle.sets.proofs.Masks.{by_halves}

-- a number that is twice h and d more has the ones of h and d
halved : (n h d : ℕ) → n ≡ h * 2 + d → d ≤ 1 → ones n ≡ d + ones h
halved n h d e small =
    let low : n % 2 ≡ d = omega arith in
    let high : n / 2 ≡ h = omega arith in
    ones_step n ∙ ap (λ x. x + ones (n / 2)) low ∙ ap (λ x. d + ones x) high

-- the processes of either and those of both are together those of the one and those of the other
pub ones_or_and : (a b : ℕ) → ones (bit_or a b) + ones (bit_and a b) ≡ ones a + ones b
ones_or_and = by_halves (λ a b. ones (bit_or a b) + ones (bit_and a b) ≡ ones a + ones b) refl step
  where
    step : (a b : ℕ) → ones (bit_or (a / 2) (b / 2)) + ones (bit_and (a / 2) (b / 2)) ≡ ones (a / 2) + ones (b / 2) → ones (bit_or a b) + ones (bit_and a b) ≡ ones a + ones b
    step a b ih =
        let either : ones (bit_or a b) ≡ max (a % 2) (b % 2) + ones (bit_or (a / 2) (b / 2)) = halved (bit_or a b) (bit_or (a / 2) (b / 2)) (max (a % 2) (b % 2)) (or_step a b) (omega arith) in
        let both : ones (bit_and a b) ≡ min (a % 2) (b % 2) + ones (bit_and (a / 2) (b / 2)) = halved (bit_and a b) (bit_and (a / 2) (b / 2)) (min (a % 2) (b % 2)) (and_step a b) (omega arith) in
        let p = ones_step a in
        let q = ones_step b in
        omega arith

-- a has no more than either
ones_grows : (a b : ℕ) → ones a ≤ ones (bit_or a b)
ones_grows = by_halves (λ a b. ones a ≤ ones (bit_or a b)) (omega arith) step
  where
    step : (a b : ℕ) → ones (a / 2) ≤ ones (bit_or (a / 2) (b / 2)) → ones a ≤ ones (bit_or a b)
    step a b ih =
        let either : ones (bit_or a b) ≡ max (a % 2) (b % 2) + ones (bit_or (a / 2) (b / 2)) = halved (bit_or a b) (bit_or (a / 2) (b / 2)) (max (a % 2) (b % 2)) (or_step a b) (omega arith) in
        omega (arith, ones_step a)

pub ones_or : (a b : ℕ) → ones (bit_or a b) ≤ ones a + ones b
ones_or a b = omega (arith, ones_or_and a b)

-- a set has as many processes as one that holds it, or fewer
pub ones_subset : (a b : ℕ) → subset a b ≡ true → ones a ≤ ones b
ones_subset a b t =
    let common : ones (bit_and a b) ≡ ones a = ap ones (eqb-true (bit_and a b) a t) in
    omega (arith, ones_or_and a b, ones_grows a b)

pub ones_full : (n : ℕ) → ones (full n) ≡ n
unfolding full
ones_full n = ones-ones n

-- no set of k bits has all of more than k processes
pub full_too_long : (k n m : ℕ) → m < 2 ^ k → k < n → subset (full n) m ≡ false
full_too_long k n m short long =
    ⊎_elim (λ t. absurd (let all = ones_subset (full n) m t in omega (arith, all, ones_full n, ones-le k m short))) (λ e. e) (cases_Bool (subset (full n) m))
