-- The logarithm rounded up is what it should be, and there is only one.
use Rattle.std.proofs.Common.{◌≡◌, ℕ, zero, suc, ◌+◌, ◌^◌, ◌<◌, ◌≤◌, leb, subst, ⊎_elim, mul-le-mul, mul-le-mul_left, pow-suc, arith}
use Rattle.std.proofs.lemmas.Bool.{leb-true, leb-false, cond_both, cases_lt}
use Rattle.agreement.specs.Rounds.{CeilLog, log_from, clog, rounds_of}

below_pow : (n : ℕ) → n < 2 ^ n
below_pow zero = omega arith
below_pow (suc n) = omega (arith, pow-suc 2 n, below_pow n)

-- nothing below m is enough, and d steps from m on are enough to find what is
from : (d m n : ℕ) → ((k : ℕ) → k < m → 2 ^ k < n) → n ≤ 2 ^ (d + m) → CeilLog n (log_from d m n)
from zero m n low high =
    let e : 0 + m ≡ m = omega arith in
    record {
      enough = subst (λ (x : ℕ). n ≤ 2 ^ x) e high;
      least = λ k h. ⊎_elim (λ (p : k < m). absurd (omega (arith, low k p))) (λ p. p) (cases_lt k m);
    }
from (suc d) m n low high =
    cond_both (leb n (2 ^ m)) m (log_from d (suc m) n) (CeilLog n)
    (λ t. record {
      enough = leb-true n (2 ^ m) t;
      least = λ k h. ⊎_elim (λ (p : k < m). absurd (omega (arith, low k p))) (λ p. p) (cases_lt k m);
    })
    (λ t.
    let short = leb-false n (2 ^ m) t in
    let e : suc d + m ≡ d + suc m = omega arith in
    from d (suc m) n (λ k h. ⊎_elim (low k) (λ p. let same : m ≡ k = omega arith in subst (λ (x : ℕ). 2 ^ x < n) same short) (cases_lt k m)) (subst (λ (x : ℕ). n ≤ 2 ^ x) e high))

pub clog_is : (n : ℕ) → CeilLog n (clog n)
clog_is n =
    let e : n ≡ n + 0 = omega arith in
    from n 0 n (λ k h. absurd (omega arith)) (subst (λ (x : ℕ). n ≤ 2 ^ x) e (let p = below_pow n in omega arith))

pub one_log : (n m m' : ℕ) → CeilLog n m → CeilLog n m' → m ≡ m'
one_log n m m' p q = omega (arith, p.least m' q.enough, q.least m p.enough)

-- a greater crew runs no fewer rounds
pub rounds_mono : (n m : ℕ) → n ≤ m → rounds_of n ≤ rounds_of m
rounds_mono n m l =
    mul-le-mul (mul-le-mul_left 3 l) ((clog_is n).least (clog m) (omega (arith, (clog_is m).enough)))
