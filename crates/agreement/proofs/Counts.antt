-- How many numbers pass a test.
use Rattle.std.proofs.Common.{◌≡◌, ℕ, zero, suc, ◌+◌, ◌%◌, ◌<◌, ◌≤◌, Bool, true, cond, sym, refl, ap, ◌∙◌, subst, ap₂, ⊎_elim, add-zero, mod-eq_of_lt, zero-add, arith}
use native.Mathlib.Nat.{add-mod_right}
use Rattle.std.proofs.lemmas.Bool.{cases_lt}
use Rattle.agreement.specs.Theorems.{count}

abbrev one : Bool → ℕ
one b = cond b 1 0

one_le : (b d : Bool) → (b ≡ true → d ≡ true) → one b ≤ one d
one_le b d f = grind arith

one_back : (b d : Bool) → one d ≤ one b → d ≡ true → b ≡ true
one_back b d l e = grind arith

pub count_mono : (n : ℕ) (P Q : ℕ → Bool) → ((x : ℕ) → x < n → P x ≡ true → Q x ≡ true) → count n P ≤ count n Q
unfolding count
count_mono zero P Q f = omega arith
count_mono (suc n) P Q f = omega (arith, one_le (P n) (Q n) (f n (omega arith)), count_mono n P Q (λ x l. f x (omega arith)))

-- where as many pass, the same pass
pub count_same : (n : ℕ) (P Q : ℕ → Bool) → ((x : ℕ) → x < n → P x ≡ true → Q x ≡ true) → count n Q ≤ count n P → (x : ℕ) → x < n → Q x ≡ true → P x ≡ true
unfolding count
count_same zero P Q f l x h e = absurd (omega arith)
count_same (suc n) P Q f l x h e =
    let a = one_le (P n) (Q n) (f n (omega arith)) in
    let b = count_mono n P Q (λ x l. f x (omega arith)) in
    ⊎_elim
    (λ (small : x < n). count_same n P Q (λ x l. f x (omega arith)) (omega arith) x small e)
    (λ (big : n ≤ x). let same : n ≡ x = omega arith in subst (λ (y : ℕ). P y ≡ true) same (one_back (P n) (Q n) (omega arith) (subst (λ (y : ℕ). Q y ≡ true) (sym same) e)))
    (cases_lt x n)

pub count_most : (n : ℕ) (P : ℕ → Bool) → count n P ≤ n
unfolding count
count_most zero P = omega arith
count_most (suc n) P = omega (arith, one_le (P n) true (λ _. refl), count_most n P)

pub count_ext : (n : ℕ) (P Q : ℕ → Bool) → ((x : ℕ) → x < n → P x ≡ Q x) → count n P ≡ count n Q
unfolding count
count_ext zero P Q f = refl
count_ext (suc n) P Q f = ap₂ (λ (x : Bool) (y : ℕ). one x + y) (f n (omega arith)) (count_ext n P Q (λ x l. f x (omega arith)))

count_one : (n : ℕ) (P : ℕ → Bool) (p : ℕ) → p < n → P p ≡ true → 1 ≤ count n P
unfolding count
count_one zero P p l e = absurd (omega arith)
count_one (suc n) P p l e =
    ⊎_elim
    (λ (small : p < n). omega (arith, count_one n P p small e))
    (λ (big : n ≤ p). let same : p ≡ n = omega arith in let t = ap one (subst (λ (y : ℕ). P y ≡ true) same e) in omega arith)
    (cases_lt p n)

count_pair : (n : ℕ) (P : ℕ → Bool) (p q : ℕ) → p < q → q < n → P p ≡ true → P q ≡ true → 2 ≤ count n P
unfolding count
count_pair zero P p q l m e f = absurd (omega arith)
count_pair (suc n) P p q l m e f =
    ⊎_elim
    (λ (small : q < n). omega (arith, count_pair n P p q l small e f))
    (λ (big : n ≤ q). let same : q ≡ n = omega arith in let t = ap one (subst (λ (y : ℕ). P y ≡ true) same f) in omega (arith, count_one n P p (omega arith) e))
    (cases_lt q n)

-- two that pass make two
pub count_two : (n : ℕ) (P : ℕ → Bool) (p q : ℕ) → (p ≡ q → ⊥) → p < n → q < n → P p ≡ true → P q ≡ true → 2 ≤ count n P
count_two n P p q ne l m e f =
    ⊎_elim (λ (a : p < q). count_pair n P p q a m e f) (λ (a : q ≤ p). count_pair n P q p (omega arith) l f e) (cases_lt p q)

-- the numbers from 1 on, and the first and the last beside them
count_shift : (n : ℕ) (Q : ℕ → Bool) → count n (λ j. Q (suc j)) + one (Q 0) ≡ count n Q + one (Q n)
unfolding count
count_shift zero Q = refl
count_shift (suc n) Q = omega (arith, count_shift n Q)

-- going round from any number on, as many pass
pub count_round : (n : ℕ) → 0 < n → (P : ℕ → Bool) (s : ℕ) → count n (λ j. P ((s + j) % n)) ≡ count n P
count_round n some P zero = count_ext n _ P (λ x l. ap P (small x l))
  where
    small : (x : ℕ) → x < n → (0 + x) % n ≡ x
    small x l = ap (λ y. y % n) (zero-add x) ∙ mod-eq_of_lt l
count_round n some P (suc s) =
    let Q : ℕ → Bool = λ j. P ((s + j) % n) in
    let round : Q n ≡ Q 0 = ap P (add-mod_right s n ∙ ap (λ y. y % n) (sym (add-zero s))) in
    let shifted = count_shift n Q in
    count_ext n _ (λ j. Q (suc j)) (λ x l. ap (λ y. P (y % n)) (omega arith)) ∙ (let t = ap one round in omega arith) ∙ count_round n some P s
