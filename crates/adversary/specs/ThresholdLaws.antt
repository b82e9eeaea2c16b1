-- Counts within their bounds are a lawful rule, and so are two rules at once.
use Rattle.std.specs.Prelude.{◌≡◌, ℕ, ◌+◌, ◌*◌, ◌<◌, ◌≤◌, Bool, true, false, ◌||◌, None, bit_or, nat_le, nat_lt, refl}
use Rattle.std.proofs.Common.{sym, ◌∙◌, ⊎_elim, arith}
use Rattle.std.specs.Int.Count.{ones}
use Rattle.std.proofs.lemmas.Bool.{cases_Bool, and_parts, and_from, or_cases, or_left, or_right, leb-true, le-leb, leb-false}
use Rattle.sets.specs.Pairs.{contained, covers, cover_of}
use Rattle.sets.specs.Meaning.{Covered, by_first, by_second, by_third, by_all, Subset}
use Rattle.sets.specs.Sets.{has, full, subset}
use Rattle.sets.proofs.Masks.{has_or, subset_members, members_subset}
use Rattle.sets.proofs.Counting.{ones_or, ones_subset, ones_full}
use Rattle.sets.proofs.Covering.{contained_members, in_covered}
use Rattle.adversary.specs.Laws.{Lawful}
use Rattle.refusal.specs.declared.rule.RuleRefusal.TheVariants.{ByzantineAboveTotal, TotalTooHigh}
use Rattle.adversary.specs.Refusals.{when, size_refusal, threshold_refusal, tolerable}
use Rattle.adversary.specs.Rules.{within, both}
use Rattle.adversary.specs.ListLaws.{unless, when_none}
use Rattle.adversary.specs.Search.{or_else_none}

-- what a threshold holds, in words
record Within (n t b a f : ℕ) : Type 0 where
  inside : subset (bit_or a f) (full n) ≡ true
  few_byzantine : ones a ≤ b
  few : ones (bit_or a f) ≤ t

within_tells : (n t b a f : ℕ) → within n t b a f ≡ true → Within n t b a f
within_tells n t b a f e =
    let p = and_parts (subset (bit_or a f) (full n)) _ e in
    let q = and_parts (nat_le (ones a) b) (nat_le (ones (bit_or a f)) t) p.1 in
    record { inside = p.0; few_byzantine = leb-true (ones a) b q.0; few = leb-true (ones (bit_or a f)) t q.1 }

within_from : (n t b a f : ℕ) → Within n t b a f → within n t b a f ≡ true
within_from n t b a f w = and_from _ _ w.inside (and_from _ _ (le-leb (ones a) b w.few_byzantine) (le-leb (ones (bit_or a f)) t w.few))

-- a contained pair has no faulty process that the other has not
faulty_down : (a f a' f' : ℕ) → contained a' f' a f ≡ true → Subset (bit_or a' f') (bit_or a f)
faulty_down a f a' f' c s h =
    let k = contained_members a' f' a f c in
    has_or a f s ∙ ⊎_elim (λ p. or_left (has a s) (has f s) (k.byzantine s p)) (k.failing s) (or_cases (has a' s) (has f' s) (sym (has_or a' f' s) ∙ h))

within_down : (n t b a f a' f' : ℕ) → within n t b a f ≡ true → contained a' f' a f ≡ true → within n t b a' f' ≡ true
within_down n t b a f a' f' e c =
    let w = within_tells n t b a f e in
    let k = contained_members a' f' a f c in
    let down = faulty_down a f a' f' c in
    let p = ones_subset a' a (members_subset a' a k.byzantine) in
    let q = ones_subset (bit_or a' f') (bit_or a f) (members_subset _ _ down) in
    within_from n t b a' f' record {
      inside = members_subset _ _ (λ s h. subset_members (bit_or a f) (full n) w.inside s (down s h));
      few_byzantine = omega (arith, w.few_byzantine);
      few = omega (arith, w.few);
    }

-- what three pairs cover is faulty in the first, or Byzantine in the second or the third
cover_few : (a₁ f₁ a₂ f₂ a₃ f₃ : ℕ) → Subset (cover_of a₁ f₁ a₂ f₂ a₃ f₃) (bit_or (bit_or (bit_or a₁ f₁) a₂) a₃)
cover_few a₁ f₁ a₂ f₂ a₃ f₃ s h = few (in_covered a₁ f₁ a₂ f₂ a₃ f₃ s h)
  where
    spread : has (bit_or (bit_or (bit_or a₁ f₁) a₂) a₃) s ≡ (((has a₁ s || has f₁ s) || has a₂ s) || has a₃ s)
    spread = simp has_or

    few : Covered a₁ f₁ a₂ f₂ a₃ f₃ s → has (bit_or (bit_or (bit_or a₁ f₁) a₂) a₃) s ≡ true
    few (by_first p) = spread ∙ or_left _ _ (or_left _ _ (or_left _ _ p))
    few (by_second p) = spread ∙ or_left _ _ (or_right _ _ p)
    few (by_third p) = spread ∙ or_right _ _ p
    few (by_all p q r) = spread ∙ or_left _ _ (or_left _ _ (or_right _ _ p))

within_apart : (n t b : ℕ) → t + 2 * b < n → (a₁ f₁ a₂ f₂ a₃ f₃ : ℕ) → within n t b a₁ f₁ ≡ true → within n t b a₂ f₂ ≡ true → within n t b a₃ f₃ ≡ true → covers n a₁ f₁ a₂ f₂ a₃ f₃ ≡ false
within_apart n t b few a₁ f₁ a₂ f₂ a₃ f₃ x y z =
    ⊎_elim
    (λ c.
    let p = within_tells n t b a₁ f₁ x in
    let q = within_tells n t b a₂ f₂ y in
    let r = within_tells n t b a₃ f₃ z in
    let all : ones (full n) ≤ ones (bit_or (bit_or (bit_or a₁ f₁) a₂) a₃) =
    ones_subset (full n) _ (members_subset _ _ (λ s h. cover_few a₁ f₁ a₂ f₂ a₃ f₃ s (subset_members (full n) (cover_of a₁ f₁ a₂ f₂ a₃ f₃) c s h))) in
    absurd (omega (arith, ones_full n, ones_or (bit_or (bit_or a₁ f₁) a₂) a₃, ones_or (bit_or a₁ f₁) a₂, p.few, q.few_byzantine, r.few_byzantine)))
    (λ e. e)
    (cases_Bool (covers n a₁ f₁ a₂ f₂ a₃ f₃))

none : ones 0 ≡ 0
unfolding ones
none = refl

pub threshold_lawful : (n t b : ℕ) → t + 2 * b < n → Lawful n (within n t b)
threshold_lawful n t b few = record { empty = within_from n t b 0 0 (record { inside = refl; few_byzantine = omega (arith, none); few = omega (arith, none) }); down = within_down n t b; apart = within_apart n t b few }

-- the counts of an accepted threshold
pub record Accepted (n t b : ℕ) : Type 0 where
  pub size : size_refusal n ≡ None
  pub few : t + 2 * b < n

pub accepted : (n t b : ℕ) → tolerable n t b ≡ true → Accepted n t b
accepted n t b e =
    let p = or_else_none (size_refusal n) _ (unless (threshold_refusal n t b) e) in
    let q = or_else_none (when (nat_lt t b) ByzantineAboveTotal) _ p.1 in
    record { size = p.0; few = leb-false n (t + 2 * b) (when_none (nat_le n (t + 2 * b)) TotalTooHigh q.1) }

-- two lawful rules at once, with the processes of the first
pub both_lawful : (n n' : ℕ) (held held' : ℕ → ℕ → Bool) → Lawful n held → Lawful n' held' → Lawful n (both held held')
both_lawful n n' held held' p q = record {
  empty = and_from _ _ p.empty q.empty;
  down = λ a f a' f' e c. let t = and_parts (held a f) (held' a f) e in and_from (held a' f') (held' a' f') (p.down a f a' f' t.0 c) (q.down a f a' f' t.1 c);
  apart = λ a₁ f₁ a₂ f₂ a₃ f₃ x y z. p.apart a₁ f₁ a₂ f₂ a₃ f₃ (and_parts (held a₁ f₁) (held' a₁ f₁) x).0 (and_parts (held a₂ f₂) (held' a₂ f₂) y).0 (and_parts (held a₃ f₃) (held' a₃ f₃) z).0;
}
