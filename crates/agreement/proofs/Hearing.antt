-- What correct processes hear of each other, and whom they detect.
use Rattle.std.proofs.Common.{◌≡◌, ℕ, zero, suc, ◌<◌, ◌≤◌, Bool, true, false, ◌⊎◌, Some, None, sym, refl, subst, inl, inr, ⊎_elim, arith}
use Rattle.std.proofs.lemmas.Bool.{cases_eq, true≢false}
use Rattle.std.proofs.lemmas.Bool.Decides.{nat_tests}
use Rattle.sets.specs.Sets.{has}
use Rattle.history.specs.Protocols.{History, state}
use Rattle.history.specs.Schedules.{Schedule, correct, Through, Message, Heard, Keeps}
use Rattle.history.proofs.Correct.{honest_by}
use Rattle.adversary.specs.Laws.{Lawful}
use Rattle.agreement.specs.Step.{State, kind_of, step, due_by, protocol}
use Rattle.agreement.proofs.Bounds.{Fine, fine_next}

module _ (n : ℕ) (held : ℕ → ℕ → Bool) (h : History) (c : Schedule) where
  -- the state of p after k rounds, and its parts
  unfoldable pub at : ℕ → ℕ → State
  at p k = state (protocol n held) h p k

  abbrev pub value_at : ℕ → ℕ → ℕ
  value_at p k = (at p k).preferred

  abbrev pub detected_at : ℕ → ℕ → ℕ
  detected_at p k = (at p k).detected

  pub at_next : (p k : ℕ) → at p (suc k) ≡ step n held k (h.row p k) (at p k)
  unfolding at state protocol
  at_next p k = refl

  pub at_start : (p : ℕ) → ((at p 0).preferred ≡ h.start p) × ((at p 0).detected ≡ 0)
  unfolding at state protocol
  at_start p = (refl, refl)

  -- p is correct after k rounds and has shut them
  abbrev pub Done : ℕ → ℕ → Type 0
  Done p k = Through n h c p k

  -- r is not Byzantine
  abbrev pub Honest : ℕ → Type 0
  Honest r = has c.byzantine r ≡ false

  -- r has come to its last round within k rounds
  abbrev pub Failed : ℕ → ℕ → Type 0
  Failed r k = (0 < c.last r) × (c.last r ≤ k)

  -- nobody has its last round in the round after k
  abbrev pub Quiet : ℕ → Type 0
  Quiet k = (r : ℕ) → r < n → Honest r → c.last r ≡ suc k → ⊥

  correct_from : (r k : ℕ) → Honest r → (c.last r ≡ 0) ⊎ (k < c.last r) → correct c r k ≡ true
  correct_from r k e l = grind (arith, nat_tests)

  -- who is correct after more rounds was so after fewer
  pub correct_before : (r k j : ℕ) → j ≤ k → correct c r k ≡ true → correct c r j ≡ true
  correct_before r k j few e = grind (arith, nat_tests)

  pub done_before : (p k j : ℕ) → j ≤ k → Done p k → Done p j
  done_before p k j few d = record { known = d.known; closed = omega (arith, d.closed); right = correct_before p k j few d.right }

  -- who is not Byzantine is correct, or has failed
  pub fate : (r k : ℕ) → Honest r → (correct c r k ≡ true) ⊎ Failed r k
  fate r k e = grind (arith, nat_tests)

  pub not_both : (r k : ℕ) → correct c r k ≡ true → Failed r k → ⊥
  not_both r k e f = grind (arith, nat_tests)

  -- every start bit of a process that is not Byzantine is a bit
  abbrev pub Bits : Type 0
  Bits = (r : ℕ) → r < n → Honest r → h.start r ≤ 1

  module _ (laws : Lawful n held) (kept : Keeps n (protocol n held) h c) (bits : Bits) where
    -- what a process that is not Byzantine may prefer
    pub fine : (r k : ℕ) → r < n → Honest r → Fine (kind_of k) (at r k)
    fine r zero known e = subst (λ (x : ℕ). x ≤ 1) (sym (at_start r).0) (bits r known e)
    fine r (suc k) known e = subst (Fine (kind_of (suc k))) (sym (at_next r k)) (fine_next n held laws k (h.row r k) (at r k) (fine r k known e))

    abbrev pub Due : ℕ → ℕ → Type 0
    Due k r = due_by n held (kind_of k) k r ≡ true

    -- p heard what r prefers, and r had shut as many rounds
    pub record Got (p k r : ℕ) : Type 0 where
      pub word : h.row p k r ≡ Some (value_at r k)
      pub sender : Done r k

    got_from : (p k r : ℕ) → r < n → correct c r k ≡ true → Heard n (protocol n held) h c p k r → Got p k r
    unfolding at protocol
    got_from p k r known e g = record { word = g.got; sender = record { known = known; closed = g.came; right = e } }

    -- what p hears from a process that is not Byzantine: its value, or nothing if it has failed
    pub hears : (p k r : ℕ) → Done p (suc k) → r < n → Due k r → Honest r → Got p k r ⊎ ((h.row p k r ≡ None) × Failed r (suc k))
    unfolding protocol
    hears p k r d known due honest =
        ⊎_elim
        (λ (same : r ≡ p). inl (subst (λ (x : ℕ). Got p k x) (sym same) (got_from p k p d.known (correct_before p (suc k) k (omega arith) d.right) (kept.own p k d.known d.closed d.right (subst (Due k) same due)))))
        (λ (ne : r ≡ p → ⊥).
        let m : Message n (protocol n held) h c p k r = record { receiver = d.known; closed = d.closed; right = d.right; sender = known; other = ne; owed = due } in
        ⊎_elim
        (λ e. inl (⊎_elim (λ g. got_from p k r known (correct_before r (suc k) k (omega arith) e) g) (λ o. absurd (true≢false (sym o.0))) (kept.heard p k r m e)))
        (λ f. ⊎_elim
        (λ (now : c.last r ≡ suc k). ⊎_elim (λ g. inl (got_from p k r known (correct_from r k honest (inr (omega arith))) g)) (λ e. inr (e, f)) (kept.last_word p k r m honest now))
        (λ (ne : c.last r ≡ suc k → ⊥). inr (kept.later p k r m honest f.0 (omega (arith, f.1)), f))
        (cases_eq (c.last r) (suc k)))
        (fate r (suc k) honest))
        (cases_eq r p)

    -- a correct process is heard
    pub hears_correct : (p k r : ℕ) → Done p (suc k) → r < n → Due k r → correct c r (suc k) ≡ true → Got p k r
    hears_correct p k r d known due e = ⊎_elim (λ g. g) (λ f. absurd (not_both r (suc k) e f.1)) (hears p k r d known due (honest_by c r (suc k) e))
