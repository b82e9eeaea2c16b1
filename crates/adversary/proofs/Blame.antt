-- Refusal 5 names the first three listed pairs that cover the crew.
use Rattle.std.proofs.Common.{◌≡◌, ℕ, suc, ◌-◌, ◌<◌, ◌≤◌, Bool, true, false, not, ◌||◌, ◌==◌, nat_lt, ◌⊎◌, List, [], ◌∷◌, length, is_some, Some, None, Option, sym, refl, ap, ◌∙◌, subst, inl, inr, ⊎_elim, arith}
use Rattle.std.proofs.lemmas.Bool.Decides.{nat_tests}
use Rattle.sets.specs.declared.fault_pair.FaultPair.{FaultPair}
use Rattle.refusal.specs.declared.rule.RuleRefusal.{RuleRefusal}
use Rattle.refusal.specs.declared.rule.RuleRefusal.TheVariants.{Cover, Processes, PairCount, AboveProcesses, InBothSets}
use Rattle.adversary.specs.Refusals.{or_else, when, blamed, cover_refusal, covers_at, third_from, second_from, least_cover, size_refusal, length_refusal, above, overlaps, pair_refusal, pairs_refusal, list_refusal, most_pairs, Before, Blamed, Coverless, Judged}
use Rattle.adversary.specs.ListLaws.{when_none, third_empty, second_empty, adopted, coverless}
use Rattle.adversary.specs.Search.{first_is}

when_some : {X : Type 0} (b : Bool) (x y : X) → when b x ≡ Some y → (b ≡ true) × (x ≡ y)
when_some true x y e = (refl, cc)
when_some false x y e = absurd cc

-- the search finds three indices in order that cover, and none before them
record Found (n : ℕ) (ps : List FaultPair) (i j k : ℕ) : Type 0 where
  first_second : i ≤ j
  second_third : j ≤ k
  inside : k < length ps
  cover : covers_at n ps i j k ≡ true
  least : (i' j' k' : ℕ) → i' ≤ j' → j' ≤ k' → k' < length ps → Before i' j' k' i j k → covers_at n ps i' j' k' ≡ false

found : (n : ℕ) (ps : List FaultPair) (t : ℕ × ℕ × ℕ) → least_cover n ps ≡ Some t → Found n ps t.0 t.1 t.2
found n ps t e =
    let one = first_is (second_from n ps) (length ps) 0 t e in
    let i = one.0 in
    let two = first_is (third_from n ps i) (length ps - i) i t one.3 in
    let j = two.0 in
    let three = first_is (λ k. when (covers_at n ps i j k) (i, j, k)) (length ps - j) j t two.3 in
    let k = three.0 in
    let told = when_some (covers_at n ps i j k) (i, j, k) t three.3 in
    let here : Found n ps i j k = record {
      first_second = two.1;
      second_third = three.1;
      inside = omega (arith, three.2, two.2);
      cover = told.0;
      least = λ i' j' k' p q r b. ⊎_elim
          (λ (x : i' < i). second_empty n ps i' j' k' (one.4 i' (omega arith) x) p q r)
          (λ b. subst (λ (m : ℕ). covers_at n ps m j' k' ≡ false) (sym b.0) (⊎_elim
          (λ (y : j' < j). third_empty n ps i j' k' (two.4 j' (subst (λ (m : ℕ). m ≤ j') b.0 p) y) q r)
          (λ c. subst (λ (m : ℕ). covers_at n ps i m k' ≡ false) (sym c.0) (when_none (covers_at n ps i j k') (i, j, k') (three.4 k' (subst (λ (m : ℕ). m ≤ k') c.0 q) c.1)))
          b.1))
          b;
    } in
    subst (λ (x : ℕ × ℕ × ℕ). Found n ps x.0 x.1 x.2) told.1 here

-- so its indices are those of places in a list
pub places : (n : ℕ) (ps : List FaultPair) (t : ℕ × ℕ × ℕ) → least_cover n ps ≡ Some t → length ps ≤ most_pairs → (t.0 < most_pairs) × (t.1 < most_pairs) × (t.2 < most_pairs)
places n ps t e short =
    let f = found n ps t e in
    (omega (arith, f.first_second, f.second_third, f.inside), omega (arith, f.second_third, f.inside), omega (arith, f.inside))

-- only the search names three pairs
or_else_some : {X : Type 0} (x y : Option X) (z : X) → or_else x y ≡ Some z → (x ≡ Some z) ⊎ (y ≡ Some z)
or_else_some None y z e = inr e
or_else_some (Some x) y z e = inl e

module _ (i j k : ℕ) where
  abbrev Never : Option RuleRefusal → Type 0
  Never o = o ≡ Some (Cover i j k) → ⊥

  never_or : (x y : Option RuleRefusal) → Never x → Never y → Never (or_else x y)
  never_or x y p q e = ⊎_elim p q (or_else_some x y (Cover i j k) e)

  never_when : (b : Bool) (r : RuleRefusal) → (r ≡ Cover i j k → ⊥) → Never (when b r)
  never_when b r p e = p (when_some b r (Cover i j k) e).1

  never_pair : (n m : ℕ) (p : FaultPair) → Never (pair_refusal n m p)
  never_pair n m p =
      never_or (when (above n p) (AboveProcesses m)) (when (overlaps p) (InBothSets m)) (never_when (above n p) (AboveProcesses m) (λ e. cc)) (never_when (overlaps p) (InBothSets m) (λ e. cc))

  never_pairs : (n m : ℕ) (ps : List FaultPair) → Never (pairs_refusal n m ps)
  never_pairs n m [] = λ e. cc
  never_pairs n m (p ∷ ps) = never_or (pair_refusal n m p) (pairs_refusal n (suc m) ps) (never_pair n m p) (never_pairs n (suc m) ps)

  blamed_from : (o : Option (ℕ × ℕ × ℕ)) → blamed o ≡ Some (Cover i j k) → (t : ℕ × ℕ × ℕ) × (o ≡ Some t) × (suc t.0 ≡ i) × (suc t.1 ≡ j) × (suc t.2 ≡ k)
  blamed_from None e = absurd cc
  blamed_from (Some t) e = (t, refl, cc, cc, cc)

  from_search : (n : ℕ) (ps : List FaultPair) → list_refusal n ps ≡ Some (Cover i j k) → blamed (least_cover n ps) ≡ Some (Cover i j k)
  from_search n ps e =
      ⊎_elim (λ x. absurd (never_when _ Processes (λ e. cc) x))
      (λ e. ⊎_elim (λ x. absurd (never_when _ PairCount (λ e. cc) x))
      (λ e. ⊎_elim (λ x. absurd (never_pairs n 1 ps x)) (λ e. e) (or_else_some (pairs_refusal n 1 ps) _ (Cover i j k) e))
      (or_else_some (length_refusal (length ps)) _ (Cover i j k) e))
      (or_else_some (size_refusal n) _ (Cover i j k) e)

pub blame : (n : ℕ) (ps : List FaultPair) (i j k : ℕ) → list_refusal n ps ≡ Some (Cover i j k) → Blamed n ps i j k
blame n ps i j k e =
    let b = blamed_from i j k (least_cover n ps) (from_search i j k n ps e) in
    let t = b.0 in
    let f = found n ps t b.1 in
    let x : t.0 ≡ i - 1 = omega (arith, b.2) in
    let y : t.1 ≡ j - 1 = omega (arith, b.3) in
    let z : t.2 ≡ k - 1 = omega (arith, b.4) in
    record {
      places = record {
        first_place = omega (arith, b.2);
        second_place = omega (arith, b.2, b.3, f.first_second);
        third_place = omega (arith, b.3, b.4, f.second_third);
        last_place = omega (arith, b.4, f.inside);
      };
      cover = sym (λ q. covers_at n ps (x q) (y q) (z q)) ∙ f.cover;
      least = λ i' j' k' p before. f.least (i' - 1) (j' - 1) (k' - 1) (omega (arith, p)) (omega (arith, p)) (omega (arith, p))
          (⊎_elim
          (λ (a : i' < i). inl (omega (arith, p, b.2)))
          (λ c. inr (omega (arith, c.0, b.2), ⊎_elim (λ (a : j' < j). inl (omega (arith, p, b.3))) (λ d. inr (omega (arith, d.0, b.3), omega (arith, p, d.1, b.4))) c.1))
          before);
    }

pub blameless : (n : ℕ) (ps : List FaultPair) → list_refusal n ps ≡ None → Coverless n ps
blameless n ps e = coverless n ps (adopted n ps (ap (λ o. not (is_some o)) e)).apart

-- where the number of processes and that of the pairs are allowed, the tests of the pairs decide
pub judged : (n : ℕ) (ps : List FaultPair) (o : Option RuleRefusal) → size_refusal n ≡ None → 0 < length ps → length ps ≤ most_pairs → or_else (pairs_refusal n 1 ps) (cover_refusal n ps) ≡ o → Judged o n ps
judged n ps o size some few tests =
    let test : (length ps == 0 || nat_lt most_pairs (length ps)) ≡ false = grind (arith, nat_tests) in
    let lengths : length_refusal (length ps) ≡ None = ap (λ b. when b PairCount) test in
    let e : o ≡ list_refusal n ps = rw (size, lengths) (sym tests) in
    record {
      answer = e;
      blame = λ i j k b. blame n ps i j k (sym e ∙ b);
      coverless = λ b. blameless n ps (sym e ∙ b);
    }
