-- Who is caught in a round, and who said what.
use Rattle.std.proofs.Common.{◌≡◌, ℕ, ◌<◌, ◌≤◌, true, false, not, ◌&&◌, ◌||◌, ltb, leb, ◌⊎◌, is_some, Some, None, Option, sym, refl, ap, ◌∙◌, inl, inr, ⊎_elim, arith}
use Rattle.std.proofs.lemmas.Bool.{cases_Bool, cond-true, and_parts, ltb-true, le-leb, not-true}
use Rattle.std.proofs.lemmas.Bool.Decides.{nat_tests}
use Rattle.sets.specs.Sets.{has}
use Rattle.sets.proofs.Masks.{has_or, has_mask}
use Rattle.agreement.specs.Step.{reading, says, caught, saying}

-- a word that counts is read as it is
pub reading_word : (most w : ℕ) → w ≤ most → reading most (Some w) ≡ Some w
reading_word most w h = cond-true (leb w most) _ _ (le-leb w most h)

-- what is read was said, and counts
pub reading_from : (most w : ℕ) (o : Option ℕ) → reading most o ≡ Some w → (o ≡ Some w) × (w ≤ most)
reading_from most w o e = grind (arith, nat_tests)

says_from : (w : ℕ) (o : Option ℕ) → says w o ≡ true → o ≡ Some w
says_from w o e = grind (arith, nat_tests)

-- something is read, or nothing
pub read_or : (o : Option ℕ) → (o ≡ None) ⊎ ((w : ℕ) × (o ≡ Some w))
read_or None = inl refl
read_or (Some w) = inr (w, refl)

module _ (n most : ℕ) (row : ℕ → Option ℕ) (l : ℕ) where
  in_caught : (r : ℕ) → has (caught n most row l) r ≡ (has l r || (ltb r n && not (is_some (reading most (row r)))))
  unfolding caught
  in_caught r = has_or l _ r ∙ ap (λ b. has l r || b) (has_mask n (λ r. not (is_some (reading most (row r)))) r)

  in_saying : (w r : ℕ) → has (saying n most row l w) r ≡ (ltb r n && (says w (reading most (row r)) && not (has (caught n most row l) r)))
  unfolding saying
  in_saying w r = has_mask n (λ r. says w (reading most (row r)) && not (has (caught n most row l) r)) r

  -- who was detected stays so
  pub caught_old : (r : ℕ) → has l r ≡ true → has (caught n most row l) r ≡ true
  caught_old r e = grind (arith, nat_tests, in_caught r)

  -- who says nothing that counts is caught
  pub caught_silent : (r : ℕ) → r < n → reading most (row r) ≡ None → has (caught n most row l) r ≡ true
  caught_silent r known e = grind (arith, nat_tests, in_caught r)

  -- and nobody else
  pub caught_from : (r : ℕ) → has (caught n most row l) r ≡ true → (has l r ≡ true) ⊎ ((r < n) × (reading most (row r) ≡ None))
  caught_from r e = grind (arith, nat_tests, in_caught r)

  pub saying_in : (w r : ℕ) → r < n → reading most (row r) ≡ Some w → has (caught n most row l) r ≡ false → has (saying n most row l w) r ≡ true
  saying_in w r known said free =
      grind (arith, nat_tests, in_saying w r)

  -- who counts as saying w said w, and is not caught
  pub record Said (w r : ℕ) : Type 0 where
    pub known : r < n
    pub said : row r ≡ Some w
    pub counts : w ≤ most
    pub free : has (caught n most row l) r ≡ false

  pub saying_from : (w r : ℕ) → has (saying n most row l w) r ≡ true → Said w r
  saying_from w r e =
      let p = and_parts (ltb r n) _ (sym (in_saying w r) ∙ e) in
      let q = and_parts (says w (reading most (row r))) _ p.1 in
      let s = reading_from most w (row r) (says_from w (reading most (row r)) q.0) in
      record { known = ltb-true r n p.0; said = s.0; counts = s.1; free = not-true _ q.1 }

  -- everybody is caught or says a word that counts
  pub everybody : (r : ℕ) → r < n → (has (caught n most row l) r ≡ true) ⊎ ((w : ℕ) × (w ≤ most) × (has (saying n most row l w) r ≡ true))
  everybody r known =
      ⊎_elim inl
      (λ free. ⊎_elim
      (λ e. inl (caught_silent r known e))
      (λ s. inr (s.0, (reading_from most s.0 (row r) s.1).1, saying_in s.0 r known s.1 free))
      (read_or (reading most (row r))))
      (cases_Bool (has (caught n most row l) r))
