-- The laws of a rule, process by process.
use Rattle.std.proofs.Common.{◌≡◌, ℕ, ◌<◌, ◌≤◌, Bool, true, ◌⊎◌, Option, sym, ◌∙◌, subst, ⊎_elim, arith}
use Rattle.std.proofs.lemmas.Bool.{or_left, or_right, true≢false}
use Rattle.sets.specs.Meaning.{Covered, by_first, by_second, by_third, by_all}
use Rattle.sets.specs.Sets.{has}
use Rattle.sets.proofs.Covering.{members_contained, each_covers}
use Rattle.adversary.specs.Laws.{Lawful}
use Rattle.agreement.specs.Step.{caught, saying, holds_saying}
use Rattle.agreement.proofs.Rows.{everybody}

-- the words that count at most
pub up_to_two : (w : ℕ) → w ≤ 2 → (w ≡ 0) ⊎ ((w ≡ 1) ⊎ (w ≡ 2))
up_to_two w l = grind arith

module _ (n : ℕ) (held : ℕ → ℕ → Bool) (laws : Lawful n held) where
  -- a pair within a held one is held
  pub held_within : (a f a' f' : ℕ) → held a f ≡ true → ((s : ℕ) → has a' s ≡ true → has a s ≡ true) → ((s : ℕ) → has f' s ≡ true → (has a s ≡ true) ⊎ (has f s ≡ true)) → held a' f' ≡ true
  held_within a f a' f' e liars faulty =
      laws.down a f a' f' e
      (members_contained a' f' a f (record { byzantine = liars; failing = λ s h. ⊎_elim (or_left (has a s) (has f s)) (or_right (has a s) (has f s)) (faulty s h) }))

  -- no three held pairs cover every process
  pub no_cover : (a₁ f₁ a₂ f₂ a₃ f₃ : ℕ) → held a₁ f₁ ≡ true → held a₂ f₂ ≡ true → held a₃ f₃ ≡ true → ((s : ℕ) → s < n → Covered a₁ f₁ a₂ f₂ a₃ f₃ s) → ⊥
  no_cover a₁ f₁ a₂ f₂ a₃ f₃ p q r all = true≢false (sym (each_covers a₁ f₁ a₂ f₂ a₃ f₃ n all) ∙ laws.apart a₁ f₁ a₂ f₂ a₃ f₃ p q r)

  -- where every word that counts is x, y or z, those that said one of the three cannot all be faulty, for each
  pub some_not_held : (most : ℕ) (row : ℕ → Option ℕ) (l x y z : ℕ) → ((w : ℕ) → w ≤ most → (w ≡ x) ⊎ ((w ≡ y) ⊎ (w ≡ z)))
      → holds_saying n held most row l x ≡ true → holds_saying n held most row l y ≡ true → holds_saying n held most row l z ≡ true → ⊥
  some_not_held most row l x y z words p q r =
      let f = caught n most row l in
      no_cover (saying n most row l x) f (saying n most row l y) f (saying n most row l z) f p q r
      (λ s known. ⊎_elim
      (λ e. by_all e e e)
      (λ t. ⊎_elim
      (λ e. by_first (subst (λ (w : ℕ). has (saying n most row l w) s ≡ true) e t.2))
      (⊎_elim
      (λ e. by_second (subst (λ (w : ℕ). has (saying n most row l w) s ≡ true) e t.2))
      (λ e. by_third (subst (λ (w : ℕ). has (saying n most row l w) s ≡ true) e t.2)))
      (words t.0 t.1))
      (everybody n most row l s known))
