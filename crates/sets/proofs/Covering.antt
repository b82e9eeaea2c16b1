-- Containment and cover, process by process, for masks of any width.
use Rattle.std.proofs.Common.{◌≡◌, ℕ, ◌<◌, true, ◌&&◌, ◌||◌, sym, refl, ◌∙◌, ⊎_elim}
use lib.Bits.{bit_or}
use Rattle.std.proofs.lemmas.Bool.{and_parts, and_from, or_cases, or_left, or_right, ltb-true, lt-ltb}
use Rattle.sets.specs.Meaning.{Contained, Covered, by_first, by_second, by_third, by_all}
use Rattle.sets.specs.Pairs.{contained, cover_of, covers}
use Rattle.sets.specs.Sets.{has, full}
use Rattle.sets.proofs.Masks.{has_and, has_or, has_full, subset_members, members_subset}

pub contained_members : (a' f' a f : ℕ) → contained a' f' a f ≡ true → Contained a' f' a f
contained_members a' f' a f t =
    let p = and_parts _ _ t in
    record { byzantine = subset_members a' a p.0; failing = λ s h. sym (has_or a f s) ∙ subset_members f' (bit_or a f) p.1 s h }

pub members_contained : (a' f' a f : ℕ) → Contained a' f' a f → contained a' f' a f ≡ true
members_contained a' f' a f c = and_from _ _ (members_subset a' a c.byzantine) (members_subset f' (bit_or a f) (λ s h. has_or a f s ∙ c.failing s h))

module _ (a₁ f₁ a₂ f₂ a₃ f₃ : ℕ) where
  has_covered : (s : ℕ) → has (cover_of a₁ f₁ a₂ f₂ a₃ f₃) s ≡ (((has a₁ s || has a₂ s) || has a₃ s) || ((has f₁ s && has f₂ s) && has f₃ s))
  has_covered s = simp (has_or, has_and)

  pub in_covered : (s : ℕ) → has (cover_of a₁ f₁ a₂ f₂ a₃ f₃) s ≡ true → Covered a₁ f₁ a₂ f₂ a₃ f₃ s
  in_covered s h =
      ⊎_elim
      (λ p. ⊎_elim (λ q. ⊎_elim by_first by_second (or_cases _ _ q)) by_third (or_cases _ _ p))
      (λ p. let q = and_parts _ _ p in let r = and_parts _ _ q.0 in by_all r.0 r.1 q.1)
      (or_cases _ _ (sym (has_covered s) ∙ h))

  covered_in : (s : ℕ) → Covered a₁ f₁ a₂ f₂ a₃ f₃ s → has (cover_of a₁ f₁ a₂ f₂ a₃ f₃) s ≡ true
  covered_in s (by_first p) = has_covered s ∙ or_left _ _ (or_left _ _ (or_left _ _ p))
  covered_in s (by_second p) = has_covered s ∙ or_left _ _ (or_left _ _ (or_right _ _ p))
  covered_in s (by_third p) = has_covered s ∙ or_left _ _ (or_right _ _ p)
  covered_in s (by_all p q r) = has_covered s ∙ or_right _ _ (and_from _ _ (and_from _ _ p q) r)

  pub covers_each : (n : ℕ) → covers n a₁ f₁ a₂ f₂ a₃ f₃ ≡ true → (s : ℕ) → s < n → Covered a₁ f₁ a₂ f₂ a₃ f₃ s
  covers_each n t s h = in_covered s (subset_members (full n) (cover_of a₁ f₁ a₂ f₂ a₃ f₃) t s (has_full n s ∙ lt-ltb s n h))

  pub each_covers : (n : ℕ) → ((s : ℕ) → s < n → Covered a₁ f₁ a₂ f₂ a₃ f₃ s) → covers n a₁ f₁ a₂ f₂ a₃ f₃ ≡ true
  each_covers n all = members_subset (full n) (cover_of a₁ f₁ a₂ f₂ a₃ f₃) (λ s h. covered_in s (all s (ltb-true s n (sym (has_full n s) ∙ h))))

-- containment goes on
pub contained_trans : (a f b g c h : ℕ) → contained a f b g ≡ true → contained b g c h ≡ true → contained a f c h ≡ true
contained_trans a f b g c h t u =
    let p = contained_members a f b g t in
    let q = contained_members b g c h u in
    members_contained a f c h record {
      byzantine = λ s i. q.byzantine s (p.byzantine s i);
      failing = λ s i. ⊎_elim (λ j. or_left _ _ (q.byzantine s j)) (q.failing s) (or_cases _ _ (p.failing s i));
    }

-- the empty pair is contained in every pair
pub none_contained : (a f : ℕ) → contained 0 0 a f ≡ true
none_contained a f = refl

-- what three pairs cover, three that contain them cover too
module _ (a₁ f₁ a₂ f₂ a₃ f₃ b₁ g₁ b₂ g₂ b₃ g₃ : ℕ) (p : contained a₁ f₁ b₁ g₁ ≡ true) (q : contained a₂ f₂ b₂ g₂ ≡ true) (r : contained a₃ f₃ b₃ g₃ ≡ true) where
  wider : (s : ℕ) → Covered a₁ f₁ a₂ f₂ a₃ f₃ s → Covered b₁ g₁ b₂ g₂ b₃ g₃ s
  wider s (by_first h) = by_first ((contained_members _ _ _ _ p).byzantine s h)
  wider s (by_second h) = by_second ((contained_members _ _ _ _ q).byzantine s h)
  wider s (by_third h) = by_third ((contained_members _ _ _ _ r).byzantine s h)
  wider s (by_all h i j) =
      ⊎_elim by_first
      (λ x. ⊎_elim by_second (λ y. ⊎_elim by_third (λ z. by_all x y z) (or_cases _ _ ((contained_members _ _ _ _ r).failing s j))) (or_cases _ _ ((contained_members _ _ _ _ q).failing s i)))
      (or_cases _ _ ((contained_members _ _ _ _ p).failing s h))

  pub covers_wider : (n : ℕ) → covers n a₁ f₁ a₂ f₂ a₃ f₃ ≡ true → covers n b₁ g₁ b₂ g₂ b₃ g₃ ≡ true
  covers_wider n t = each_covers b₁ g₁ b₂ g₂ b₃ g₃ n (λ s h. wider s (covers_each a₁ f₁ a₂ f₂ a₃ f₃ n t s h))

-- the order of the three does not matter
module _ (a₁ f₁ a₂ f₂ a₃ f₃ : ℕ) where
  swapped : (s : ℕ) → Covered a₁ f₁ a₂ f₂ a₃ f₃ s → Covered a₂ f₂ a₁ f₁ a₃ f₃ s
  swapped s (by_first h) = by_second h
  swapped s (by_second h) = by_first h
  swapped s (by_third h) = by_third h
  swapped s (by_all h i j) = by_all i h j

  turned : (s : ℕ) → Covered a₁ f₁ a₂ f₂ a₃ f₃ s → Covered a₂ f₂ a₃ f₃ a₁ f₁ s
  turned s (by_first h) = by_third h
  turned s (by_second h) = by_first h
  turned s (by_third h) = by_second h
  turned s (by_all h i j) = by_all i j h

  pub covers_swap : (n : ℕ) → covers n a₁ f₁ a₂ f₂ a₃ f₃ ≡ true → covers n a₂ f₂ a₁ f₁ a₃ f₃ ≡ true
  covers_swap n t = each_covers a₂ f₂ a₁ f₁ a₃ f₃ n (λ s h. swapped s (covers_each a₁ f₁ a₂ f₂ a₃ f₃ n t s h))

  pub covers_turn : (n : ℕ) → covers n a₁ f₁ a₂ f₂ a₃ f₃ ≡ true → covers n a₂ f₂ a₃ f₃ a₁ f₁ ≡ true
  covers_turn n t = each_covers a₂ f₂ a₃ f₃ a₁ f₁ n (λ s h. turned s (covers_each a₁ f₁ a₂ f₂ a₃ f₃ n t s h))
