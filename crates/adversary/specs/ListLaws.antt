-- A list that can be adopted is a lawful rule.
use Rattle.std.specs.Prelude.{◌≡◌, ℕ, suc, ◌-◌, ◌<◌, ◌≤◌, Bool, true, false, not, List, [], ◌∷◌, length, is_some, Some, None, Option, ◌==◌, nat_le, refl}
use Rattle.std.proofs.Common.{sym, ◌∙◌, ⊎_elim, arith}
use Rattle.std.proofs.lemmas.Bool.{cases_lt, cases_Bool, and_parts, or_cases, or_left, or_right, or_parts, leb-true, eqb-false, not-false, true≢false}
use Rattle.sets.specs.declared.fault_pair.FaultPair.{FaultPair}
use Rattle.sets.specs.Pairs.{contained, covers, byz, fail}
use Rattle.sets.specs.Sets.{limit, numbered}
use Rattle.sets.proofs.Covering.{contained_trans, none_contained, covers_wider, covers_swap, covers_turn}
use Rattle.adversary.specs.Laws.{Sized, Lawful}
use Rattle.adversary.specs.Refusals.{when, blamed, size_refusal, length_refusal, pairs_refusal, least_cover, second_from, third_from, covers_at, pair_at, list_refusal, adoptable, Coverless}
use Rattle.adversary.specs.Rules.{listed}
use Rattle.adversary.specs.Search.{or_else_none, first_empty}

pub unless : {X : Type 0} (o : Option X) → not (is_some o) ≡ true → o ≡ None
unless None e = refl
unless (Some x) e = absurd (true≢false (sym e))

pub when_none : {X : Type 0} (b : Bool) (x : X) → when b x ≡ None → b ≡ false
when_none true x e = absurd cc
when_none false x e = refl

blamed_none : (o : Option (ℕ × ℕ × ℕ)) → blamed o ≡ None → o ≡ None
blamed_none None e = refl
blamed_none (Some t) e = absurd cc

-- n is the number of processes of a crew where 1 does not come
pub sized : (n : ℕ) → size_refusal n ≡ None → Sized n
sized n e =
    let p = and_parts (nat_le 1 n) (nat_le n limit) (not-false (numbered n) (when_none (not (numbered n)) _ e)) in
    record { some = leb-true 1 n p.0; few = leb-true n limit p.1 }

-- a pair that is held stands within a listed one
listed_at : (ps : List FaultPair) (a f : ℕ) → listed ps a f ≡ true → (i : ℕ) × (i < length ps) × (contained a f (byz (pair_at ps i)) (fail (pair_at ps i)) ≡ true)
listed_at [] a f e = absurd (true≢false (sym e))
listed_at (p ∷ ps) a f e =
    ⊎_elim
    (λ t. (0, omega arith, t))
    (λ t. let r = listed_at ps a f t in (suc r.0, omega (arith, r.1), r.2))
    (or_cases (contained a f (byz p) (fail p)) (listed ps a f) e)

listed_down : (ps : List FaultPair) (a f a' f' : ℕ) → listed ps a f ≡ true → contained a' f' a f ≡ true → listed ps a' f' ≡ true
listed_down [] a f a' f' e c = e
listed_down (p ∷ ps) a f a' f' e c =
    ⊎_elim
    (λ t. or_left (contained a' f' (byz p) (fail p)) (listed ps a' f') (contained_trans a' f' a f (byz p) (fail p) c t))
    (λ t. or_right (contained a' f' (byz p) (fail p)) (listed ps a' f') (listed_down ps a f a' f' t c))
    (or_cases (contained a f (byz p) (fail p)) (listed ps a f) e)

listed_empty : (ps : List FaultPair) → 0 < length ps → listed ps 0 0 ≡ true
listed_empty [] h = absurd (omega arith)
listed_empty (p ∷ ps) h = or_left (contained 0 0 (byz p) (fail p)) (listed ps 0 0) (none_contained (byz p) (fail p))

-- where the search from i and j, or from i, finds nothing, there is nothing
module _ (n : ℕ) (ps : List FaultPair) where
  pub third_empty : (i j k : ℕ) → third_from n ps i j ≡ None → j ≤ k → k < length ps → covers_at n ps i j k ≡ false
  third_empty i j k none q r =
      when_none (covers_at n ps i j k) (i, j, k) (first_empty (λ k. when (covers_at n ps i j k) (i, j, k)) (length ps - j) j none k q (omega arith))

  pub second_empty : (i j k : ℕ) → second_from n ps i ≡ None → i ≤ j → j ≤ k → k < length ps → covers_at n ps i j k ≡ false
  second_empty i j k none p q r = third_empty i j k (first_empty (third_from n ps i) (length ps - i) i none j p (omega arith)) q r

module _ (n : ℕ) (ps : List FaultPair) (none : least_cover n ps ≡ None) where
  -- three listed pairs in order
  ordered : (i j k : ℕ) → i ≤ j → j ≤ k → k < length ps → covers_at n ps i j k ≡ false
  ordered i j k p q r = second_empty n ps i j k (first_empty (second_from n ps) (length ps) 0 none i (omega arith) (omega arith)) p q r

  abbrev Apart : ℕ → ℕ → ℕ → Type 0
  Apart i j k = covers_at n ps i j k ≡ true → ⊥

  in_order : (i j k : ℕ) → i ≤ j → j ≤ k → k < length ps → Apart i j k
  in_order i j k p q r t = true≢false (sym t ∙ ordered i j k p q r)

  swap : (i j k : ℕ) → Apart j i k → Apart i j k
  swap i j k h t = h (covers_swap (byz (pair_at ps i)) (fail (pair_at ps i)) (byz (pair_at ps j)) (fail (pair_at ps j)) (byz (pair_at ps k)) (fail (pair_at ps k)) n t)

  turn : (i j k : ℕ) → Apart j k i → Apart i j k
  turn i j k h t = h (covers_turn (byz (pair_at ps i)) (fail (pair_at ps i)) (byz (pair_at ps j)) (fail (pair_at ps j)) (byz (pair_at ps k)) (fail (pair_at ps k)) n t)

  -- and in any other
  pub any_order : (i j k : ℕ) → i < length ps → j < length ps → k < length ps → Apart i j k
  any_order i j k x y z =
      ⊎_elim
      (λ (ij : i < j). ⊎_elim
      (λ (jk : j < k). in_order i j k (omega arith) (omega arith) z)
      (λ (kj : k ≤ j). ⊎_elim
      (λ (ik : i < k). turn i j k (turn j k i (swap k i j (in_order i k j (omega arith) kj y))))
      (λ (ki : k ≤ i). turn i j k (turn j k i (in_order k i j ki (omega arith) y)))
      (cases_lt i k))
      (cases_lt j k))
      (λ (ji : j ≤ i). ⊎_elim
      (λ (ik : i < k). swap i j k (in_order j i k ji (omega arith) z))
      (λ (ki : k ≤ i). ⊎_elim
      (λ (jk : j < k). turn i j k (in_order j k i (omega arith) ki x))
      (λ (kj : k ≤ j). swap i j k (turn j i k (turn i k j (in_order k j i kj ji x))))
      (cases_lt j k))
      (cases_lt i k))
      (cases_lt i j)

pub coverless : (n : ℕ) (ps : List FaultPair) → least_cover n ps ≡ None → Coverless n ps
coverless n ps none i j k x y z = ⊎_elim (λ t. absurd (any_order n ps none i j k x y z t)) (λ e. e) (cases_Bool (covers_at n ps i j k))

-- what a list that can be adopted is
pub record Adopted (n : ℕ) (ps : List FaultPair) : Type 0 where
  pub size : size_refusal n ≡ None
  pub some : 0 < length ps
  pub apart : least_cover n ps ≡ None

pub adopted : (n : ℕ) (ps : List FaultPair) → adoptable n ps ≡ true → Adopted n ps
adopted n ps e =
    let p = or_else_none (size_refusal n) _ (unless (list_refusal n ps) e) in
    let q = or_else_none (length_refusal (length ps)) _ p.1 in
    let r = or_else_none (pairs_refusal n 1 ps) _ q.1 in
    let z = or_parts (length ps == 0) _ (when_none _ _ q.0) in
    let ne = eqb-false (length ps) 0 z.0 in
    record { size = p.0; some = omega arith; apart = blamed_none (least_cover n ps) r.1 }

-- and its three laws
pub list_lawful : (n : ℕ) (ps : List FaultPair) → Adopted n ps → Lawful n (listed ps)
list_lawful n ps ok = record { empty = listed_empty ps ok.some; down = listed_down ps; apart = apart }
  where
    apart : (a₁ f₁ a₂ f₂ a₃ f₃ : ℕ) → listed ps a₁ f₁ ≡ true → listed ps a₂ f₂ ≡ true → listed ps a₃ f₃ ≡ true → covers n a₁ f₁ a₂ f₂ a₃ f₃ ≡ false
    apart a₁ f₁ a₂ f₂ a₃ f₃ x y z =
        let p = listed_at ps a₁ f₁ x in
        let q = listed_at ps a₂ f₂ y in
        let r = listed_at ps a₃ f₃ z in
        ⊎_elim
        (λ t. absurd (any_order n ps ok.apart p.0 q.0 r.0 p.1 q.1 r.1 (covers_wider a₁ f₁ a₂ f₂ a₃ f₃ _ _ _ _ _ _ p.2 q.2 r.2 n t)))
        (λ e. e)
        (cases_Bool (covers n a₁ f₁ a₂ f₂ a₃ f₃))
