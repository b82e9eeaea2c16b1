-- The first answer of a search through numbers that follow one another, step by step.
use Rattle.std.specs.Prelude.{◌≡◌, ℕ, zero, suc, ◌+◌, ◌-◌, ◌<◌, ◌≤◌, Some, None, Option, refl}
use Rattle.std.proofs.Common.{sym, ap, ◌∙◌, ⊎_elim, arith}
use Rattle.std.proofs.lemmas.Bool.{cases_eq}
use Rattle.adversary.specs.Refusals.{first, or_else}

pub or_else_none : {X : Type 0} (x y : Option X) → or_else x y ≡ None → (x ≡ None) × (y ≡ None)
or_else_none None y e = (refl, e)
or_else_none (Some x) y e = absurd cc

module _ {X : Type 0} (f : ℕ → Option X) where
  -- at k, with numbers up to m left to try
  pub first_more : (k m : ℕ) → k < m → first f k (m - k) ≡ or_else (f k) (first f (k + 1) (m - (k + 1)))
  first_more k m h =
      let c : m - k ≡ suc (m - (k + 1)) = omega arith in
      let n : suc k ≡ k + 1 = omega arith in
      ap (first f k) c ∙ ap (λ s. or_else (f k) (first f s (m - (k + 1)))) n

  pub first_none : (k m : ℕ) → m ≤ k → first f k (m - k) ≡ None
  first_none k m h =
      let c : m - k ≡ 0 = omega arith in
      ap (first f k) c

  -- the answer at k, and going on where there is none
  pub first_found : (k m : ℕ) (x : X) → k < m → f k ≡ Some x → first f k (m - k) ≡ Some x
  first_found k m x h e = first_more k m h ∙ ap (λ o. or_else o (first f (k + 1) (m - (k + 1)))) e

  pub first_on : (k m : ℕ) → k < m → f k ≡ None → first f k (m - k) ≡ first f (k + 1) (m - (k + 1))
  first_on k m h e = first_more k m h ∙ ap (λ o. or_else o (first f (k + 1) (m - (k + 1)))) e

  -- where the search finds nothing, there is nothing
  pub first_empty : (c s : ℕ) → first f s c ≡ None → (k : ℕ) → s ≤ k → k < s + c → f k ≡ None
  first_empty zero s e k low high = absurd (omega arith)
  first_empty (suc c) s e k low high =
      let p = or_else_none (f s) (first f (suc s) c) e in
      ⊎_elim
      (λ (same : s ≡ k). ap f (sym same) ∙ p.0)
      (λ (ne : s ≡ k → ⊥). first_empty c (suc s) p.1 k (omega arith) (omega arith))
      (cases_eq s k)

  -- where it finds something, that is the first
  pub first_is : (c s : ℕ) (x : X) → first f s c ≡ Some x → (k : ℕ) × (s ≤ k) × (k < s + c) × (f k ≡ Some x) × ((m : ℕ) → s ≤ m → m < k → f m ≡ None)
  first_is zero s x e = absurd cc
  first_is (suc c) s x e = at (f s) refl e (first_is c (suc s) x)
    where
      at : (o : Option X) → f s ≡ o → or_else o (first f (suc s) c) ≡ Some x → (first f (suc s) c ≡ Some x → (k : ℕ) × (suc s ≤ k) × (k < suc s + c) × (f k ≡ Some x) × ((m : ℕ) → suc s ≤ m → m < k → f m ≡ None)) → (k : ℕ) × (s ≤ k) × (k < s + suc c) × (f k ≡ Some x) × ((m : ℕ) → s ≤ m → m < k → f m ≡ None)
      at None h e ih =
          let r = ih e in
          (r.0, omega (arith, r.1), omega (arith, r.2), r.3, λ m low high. ⊎_elim (λ (same : s ≡ m). ap f (sym same) ∙ h) (λ (ne : s ≡ m → ⊥). r.4 m (omega arith) high) (cases_eq s m))
      at (Some y) h e ih = (s, omega arith, omega arith, h ∙ e, λ m low high. absurd (omega arith))
