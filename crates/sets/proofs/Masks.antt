-- What is in a set, process by process, for masks of any width.
use Rattle.std.proofs.Common.{◌≡◌, ℕ, zero, suc, ◌+◌, ◌-◌, ◌*◌, ◌/◌, ◌%◌, ◌^◌, ◌<◌, ◌≤◌, min, max, Bool, true, false, cond, ◌&&◌, ◌||◌, eqb, ltb, Decides, sym, refl, ap, ◌∙◌, subst, ap₂, ⊎_elim, pow-suc, arith}
use lib.Bits.{bit_and, bit_or, and_step, or_step, and_shr, or_shr}
use Rattle.std.proofs.lemmas.Nat.{shr-shr, mod-mul-add, pow_pos}
use Rattle.std.proofs.lemmas.Bool.{cases_Bool, cases_eq, eq-eqb, ne_eqb, eqb-true, lt-ltb, le-ltb, cond-true, cond-false, and_parts, true≢false}
use Rattle.std.proofs.Math.Bool.{or-false, and-false}
use Rattle.std.proofs.lemmas.Bool.Decides.{nat_tests}
use Rattle.sets.specs.Meaning.{Subset}
use Rattle.sets.specs.Sets.{has, full, mask, subset}

-- what holds of 0 and 0, and of two numbers if it holds of their halves, holds of any two
pub by_halves : (P : ℕ → ℕ → Type 0) → P 0 0 → ((a b : ℕ) → P (a / 2) (b / 2) → P a b) → (a b : ℕ) → P a b
by_halves P none step a b = below (a + b) a b (omega arith) (omega arith)
  where
    below : (k a b : ℕ) → a ≤ k → b ≤ k → P a b
    below zero a b p q =
        let e : 0 ≡ a = omega arith in
        let f : 0 ≡ b = omega arith in
        subst (λ (x : ℕ). P x b) e (subst (P 0) f none)
    below (suc k) a b p q = step a b (below k (a / 2) (b / 2) (omega arith) (omega arith))

and_low : (a b : ℕ) → bit_and a b % 2 ≡ min (a % 2) (b % 2)
and_low a b = ap (λ x. x % 2) (and_step a b) ∙ mod-mul-add (bit_and (a / 2) (b / 2)) 2 (min (a % 2) (b % 2)) (omega arith)

or_low : (a b : ℕ) → bit_or a b % 2 ≡ max (a % 2) (b % 2)
or_low a b = ap (λ x. x % 2) (or_step a b) ∙ mod-mul-add (bit_or (a / 2) (b / 2)) 2 (max (a % 2) (b % 2)) (omega arith)

pub has_or : (a b s : ℕ) → has (bit_or a b) s ≡ (has a s || has b s)
unfolding has
has_or a b s =
    let x = a / 2 ^ s in
    let y = b / 2 ^ s in
    let e : bit_or a b / 2 ^ s % 2 ≡ max (x % 2) (y % 2) = ap (λ n. n % 2) (or_shr a b s) ∙ or_low x y in
    rw e (grind (arith, nat_tests))

pub has_and : (a b s : ℕ) → has (bit_and a b) s ≡ (has a s && has b s)
unfolding has
has_and a b s =
    let x = a / 2 ^ s in
    let y = b / 2 ^ s in
    let e : bit_and a b / 2 ^ s % 2 ≡ min (x % 2) (y % 2) = ap (λ n. n % 2) (and_shr a b s) ∙ and_low x y in
    rw e (grind (arith, nat_tests))

pub has_none : (s : ℕ) → has 0 s ≡ false
unfolding has
has_none s =
    let e : 0 / 2 ^ s ≡ 0 = omega (arith, pow_pos s) in
    rw e refl

-- the first process, and those after it
pub has_zero : (m : ℕ) → has m 0 ≡ eqb (m % 2) 1
unfolding has
has_zero m =
    let e : m / 2 ^ 0 ≡ m = omega arith in
    ap (λ x. eqb (x % 2) 1) e

pub has_suc : (m s : ℕ) → has m (suc s) ≡ has (m / 2) s
unfolding has
has_suc m s =
    let e : m / 2 / 2 ^ s ≡ m / 2 ^ suc s = shr-shr m 1 s ∙ ap (λ k. m / 2 ^ k) (omega arith) in
    ap (λ x. eqb (x % 2) 1) (sym e)

-- two sets with the same processes are the same
pub same_sets : (a b : ℕ) → ((s : ℕ) → has a s ≡ has b s) → a ≡ b
same_sets = by_halves (λ a b. ((s : ℕ) → has a s ≡ has b s) → a ≡ b) (λ _. refl) step
  where
    step : (a b : ℕ) → (((s : ℕ) → has (a / 2) s ≡ has (b / 2) s) → a / 2 ≡ b / 2) → ((s : ℕ) → has a s ≡ has b s) → a ≡ b
    step a b ih h =
        let high : a / 2 ≡ b / 2 = ih (λ s. sym (has_suc a s) ∙ h (suc s) ∙ has_suc b s) in
        let low : eqb (a % 2) 1 ≡ eqb (b % 2) 1 = sym (has_zero a) ∙ h 0 ∙ has_zero b in
        let same : a % 2 ≡ b % 2 = grind (arith, nat_tests) in
        omega arith

-- the first n processes
pub has_full : (n s : ℕ) → has (full n) s ≡ ltb s n
unfolding full
has_full zero s = has_none s ∙ grind (arith, nat_tests)
has_full (suc n) zero =
    let p = pow-suc 2 n in
    let q = pow_pos n in
    let odd : (2 ^ suc n - 1) % 2 ≡ 1 = omega arith in
    has_zero (2 ^ suc n - 1) ∙ ap (λ x. eqb x 1) odd ∙ grind (arith, nat_tests)
has_full (suc n) (suc s) =
    let p = pow-suc 2 n in
    let q = pow_pos n in
    let half : (2 ^ suc n - 1) / 2 ≡ 2 ^ n - 1 = omega arith in
    has_suc (2 ^ suc n - 1) s ∙ ap (λ x. has x s) half ∙ has_full n s ∙ grind (arith, nat_tests)

-- those of the first n processes that pass a test
pub has_mask : (n : ℕ) (test : ℕ → Bool) (s : ℕ) → has (mask n test) s ≡ (ltb s n && test s)
unfolding mask
has_mask zero test s = has_none s ∙ grind (arith, nat_tests)
has_mask (suc n) test zero =
    let low : (cond (test 0) 1 0 + 2 * mask n (λ s. test (suc s))) % 2 ≡ cond (test 0) 1 0 = elim (test 0) as (λ b. (cond b 1 0 + 2 * mask n (λ s. test (suc s))) % 2 ≡ cond b 1 0) [ true ↦ omega arith | false ↦ omega arith ] in
    has_zero _ ∙ ap (λ x. eqb x 1) low ∙ elim (test 0) as (λ b. eqb (cond b 1 0) 1 ≡ (ltb 0 (suc n) && b)) [ true ↦ grind (arith, nat_tests) | false ↦ grind (arith, nat_tests) ]
has_mask (suc n) test (suc s) =
    let half : (cond (test 0) 1 0 + 2 * mask n (λ s. test (suc s))) / 2 ≡ mask n (λ s. test (suc s)) = elim (test 0) as (λ b. (cond b 1 0 + 2 * mask n (λ s. test (suc s))) / 2 ≡ mask n (λ s. test (suc s))) [ true ↦ omega arith | false ↦ omega arith ] in
    has_suc _ s ∙ ap (λ x. has x s) half ∙ has_mask n (λ s. test (suc s)) s ∙ grind (arith, nat_tests)

-- a single process
pub has_single : (i s : ℕ) → has (2 ^ i) s ≡ eqb i s
has_single zero zero = has_zero (2 ^ 0) ∙ grind (arith, nat_tests)
has_single zero (suc s) = has_suc (2 ^ 0) s ∙ has_none s ∙ grind (arith, nat_tests)
has_single (suc i) zero = let p = pow-suc 2 i in let even : 2 ^ suc i % 2 ≡ 0 = omega arith in has_zero (2 ^ suc i) ∙ ap (λ x. eqb x 1) even ∙ grind (arith, nat_tests)
has_single (suc i) (suc s) = let p = pow-suc 2 i in let half : 2 ^ suc i / 2 ≡ 2 ^ i = omega arith in has_suc (2 ^ suc i) s ∙ ap (λ x. has x s) half ∙ has_single i s ∙ grind (arith, nat_tests)

-- one process more is tested: it joins where it passes
pub mask_passed : (i : ℕ) (test : ℕ → Bool) → test i ≡ true → mask (i + 1) test ≡ bit_or (mask i test) (2 ^ i)
mask_passed i test e =
    same_sets (mask (i + 1) test) (bit_or (mask i test) (2 ^ i)) (λ s. has_mask (i + 1) test s ∙ by s ∙ sym (has_or (mask i test) (2 ^ i) s ∙ ap (λ b. b || has (2 ^ i) s) (has_mask i test s) ∙ ap (λ b. (ltb s i && test s) || b) (has_single i s)))
  where
    by : (s : ℕ) → (ltb s (i + 1) && test s) ≡ ((ltb s i && test s) || eqb i s)
    by s =
        ⊎_elim
        (λ (same : i ≡ s). let t : test s ≡ true = subst (λ (x : ℕ). test x ≡ true) same e in let a : ltb s (i + 1) ≡ true = lt-ltb s (i + 1) (omega arith) in let b : eqb i s ≡ true = eq-eqb i s same in let l : ltb s i ≡ false = le-ltb s i (omega arith) in rw (a, t, b, l) refl)
        (λ (ne : i ≡ s → ⊥). let b : eqb i s ≡ false = ne_eqb i s ne in let same : ltb s (i + 1) ≡ ltb s i = grind (arith, nat_tests) in rw (b, same) (sym (or-false (ltb s i && test s))))
        (cases_eq i s)

pub mask_failed : (i : ℕ) (test : ℕ → Bool) → test i ≡ false → mask (i + 1) test ≡ mask i test
mask_failed i test e =
    same_sets (mask (i + 1) test) (mask i test) (λ s. has_mask (i + 1) test s ∙ by s ∙ sym (has_mask i test s))
  where
    by : (s : ℕ) → (ltb s (i + 1) && test s) ≡ (ltb s i && test s)
    by s =
        ⊎_elim
        (λ (same : i ≡ s). let t : test s ≡ false = subst (λ (x : ℕ). test x ≡ false) same e in rw t (and-false (ltb s (i + 1)) ∙ sym (and-false (ltb s i))))
        (λ (ne : i ≡ s → ⊥). let same : ltb s (i + 1) ≡ ltb s i = grind (arith, nat_tests) in ap (λ b. b && test s) same)
        (cases_eq i s)

pub mask_step : (i : ℕ) (test : ℕ → Bool) → mask (i + 1) test ≡ cond (test i) (bit_or (mask i test) (2 ^ i)) (mask i test)
mask_step i test =
    ⊎_elim (λ e. mask_passed i test e ∙ sym (cond-true (test i) _ _ e)) (λ e. mask_failed i test e ∙ sym (cond-false (test i) _ _ e)) (cases_Bool (test i))

-- the test says what it should
pub subset_members : (a b : ℕ) → subset a b ≡ true → Subset a b
subset_members a b t s h =
    let e : bit_and a b ≡ a = eqb-true (bit_and a b) a t in
    (and_parts (has a s) (has b s) (sym (has_and a b s) ∙ ap (λ m. has m s) e ∙ h)).1

pub members_subset : (a b : ℕ) → Subset a b → subset a b ≡ true
members_subset a b h = eq-eqb (bit_and a b) a (same_sets (bit_and a b) a (λ s. has_and a b s ∙ kept (has a s) (has b s) (h s)))
  where
    kept : (x y : Bool) → (x ≡ true → y ≡ true) → (x && y) ≡ x
    kept true y e = e refl
    kept false y e = refl

pub subset_decides : (a b : ℕ) → Decides (subset a b) (Subset a b)
subset_decides a b = (subset_members a b, members_subset a b)

-- a single process is a subset where it is in the set
pub single_subset : (i m : ℕ) → subset (2 ^ i) m ≡ has m i
single_subset i m =
    ⊎_elim
    (λ e. members_subset (2 ^ i) m (λ s h. subst (λ (x : ℕ). has m x ≡ true) (eqb-true i s (sym (has_single i s) ∙ h)) e) ∙ sym e)
    (λ e. ⊎_elim (λ t. absurd (true≢false (sym (subset_members (2 ^ i) m t i (has_single i i ∙ eq-eqb i i refl)) ∙ e))) (λ f. f ∙ sym e) (cases_Bool (subset (2 ^ i) m)))
    (cases_Bool (has m i))

-- a mask depends on the test of the first n positions alone
pub mask_ext : (n : ℕ) (P Q : ℕ → Bool) → ((s : ℕ) → s < n → P s ≡ Q s) → mask n P ≡ mask n Q
unfolding mask
mask_ext zero P Q e = refl
mask_ext (suc n) P Q e =
    ap₂ (λ (b : Bool) (m : ℕ). cond b 1 0 + 2 * m) (e 0 (omega arith)) (mask_ext n (λ s. P (suc s)) (λ s. Q (suc s)) (λ s l. e (suc s) (omega arith)))
