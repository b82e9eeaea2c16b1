-- A round in which everybody speaks: who is detected, and which words cannot all come from faulty processes.
use Rattle.std.proofs.Common.{refl, Option, ◌≡◌, ℕ, zero, suc, ◌<◌, ◌≤◌, Bool, true, false, not, ltb, ◌⊎◌, Some, sym, ap, ◌∙◌, subst, inl, inr, ⊎_elim, arith}
use Rattle.std.proofs.lemmas.Bool.{cases_Bool, and_from, not_from_false, lt-ltb, true≢false}
use Rattle.sets.specs.Meaning.{by_first, by_second, by_third, by_all}
use Rattle.sets.specs.Sets.{has}
use Rattle.sets.proofs.Masks.{has_none, has_mask}
use Rattle.history.specs.Protocols.{History}
use Rattle.history.proofs.Correct.{honest_by}
use Rattle.history.specs.Schedules.{Schedule, correct, failing, Keeps}
use Rattle.adversary.specs.Laws.{Lawful}
use Rattle.agreement.specs.Step.{State, Kind, unify, exchange, king, kind_of, step_by, due_by, protocol, reading, caught, saying, holds_saying}
use Rattle.agreement.proofs.Bounds.{Next, to_exchange, to_king, to_unify, next_kind, Fine, step_is}
use Rattle.agreement.proofs.Hearing.{at, value_at, detected_at, at_next, at_start, Done, Honest, Failed, done_before, fate, not_both, Quiet, Bits, fine, Due, Got, hears, hears_correct}
use Rattle.agreement.proofs.Pairs.{held_within, no_cover}
use Rattle.agreement.proofs.Rows.{reading_word, caught_from, caught_silent, saying_in, saying_from}

module _ (n : ℕ) (held : ℕ → ℕ → Bool) (h : History) (c : Schedule) (laws : Lawful n held) (kept : Keeps n (protocol n held) h c) (bits : Bits n held h c) where
  -- the round after k is one in which everybody speaks, and words up to `most` count
  pub record Open (k most : ℕ) : Type 0 where
    pub due : (r : ℕ) → Due n held h c laws kept bits k r
    pub small : (r : ℕ) → r < n → Honest n held h c r → value_at n held h c r k ≤ most
    pub catches : (p : ℕ) → detected_at n held h c p (suc k) ≡ caught n most (h.row p k) (detected_at n held h c p k)

  abbrev V : ℕ → ℕ → ℕ
  V p k = value_at n held h c p k

  abbrev L : ℕ → ℕ → ℕ
  L p k = detected_at n held h c p k

  -- a round is such a one by its kind
  open_by : (k : ℕ) (q : Kind) (most : ℕ) → kind_of k ≡ q → ((r : ℕ) → due_by n held q k r ≡ true) → ((s : State) → Fine q s → s.preferred ≤ most)
      → ((row : ℕ → Option ℕ) (s : State) → (step_by n held q k row s).detected ≡ caught n most row s.detected) → Open k most
  open_by k q most e owed small catches = record {
    due = λ r. ap (λ (x : Kind). due_by n held x k r) e ∙ owed r;
    small = λ r known honest. small (at n held h c r k) (subst (λ (x : Kind). Fine x (at n held h c r k)) e (fine n held h c laws kept bits r k known honest));
    catches = λ p. ap (λ (s : State). s.detected) (at_next n held h c p k ∙ step_is n held k q (h.row p k) (at n held h c p k) e) ∙ catches (h.row p k) (at n held h c p k);
  }

  pub open_unify : (k : ℕ) → kind_of k ≡ unify → Open k 1
  open_unify k e = open_by k unify 1 e (λ r. refl) (λ s f. f) (λ row s. refl)

  pub open_exchange : (k : ℕ) → kind_of k ≡ exchange → Open k 2
  open_exchange k e = open_by k exchange 2 e (λ r. refl) (λ s f. f) (λ row s. refl)

  -- p has detected none but Byzantine processes and those that have failed
  abbrev Sound : ℕ → ℕ → Type 0
  Sound p k = (r : ℕ) → has (L p k) r ≡ true → (r < n) × ((has c.byzantine r ≡ true) ⊎ Failed n held h c r k)

  sound_open : (p k most : ℕ) → Open k most → Done n held h c p (suc k) → Sound p k → Sound p (suc k)
  sound_open p k most o d before r e =
      ⊎_elim
      (λ old. let b = before r old in (b.0, ⊎_elim inl (λ f. inr (f.0, omega (arith, f.1))) b.1))
      (λ s. (
        s.0,
        ⊎_elim inl
            (λ honest. ⊎_elim
            (λ g. absurd (let w : reading most (h.row p k r) ≡ Some (V r k) = ap (reading most) g.word ∙ reading_word most (V r k) (o.small r s.0 honest) in cc s.1))
            (λ f. inr f.1)
            (hears n held h c laws kept bits p k r d s.0 (o.due r) honest))
            (cases_Bool (has c.byzantine r)),
      ))
      (caught_from n most (h.row p k) (L p k) r (sym (ap (λ m. has m r) (o.catches p)) ∙ e))

  pub sound : (p k : ℕ) → Done n held h c p k → Sound p k
  sound p zero d = λ r e. absurd (true≢false (sym e ∙ ap (λ m. has m r) (at_start n held h c p).1 ∙ has_none r))
  sound p (suc k) d = by (next_kind k) (sound p k (done_before n held h c p (suc k) k (omega arith) d))
    where
      by : Next k → Sound p k → Sound p (suc k)
      by (to_exchange e f) b = sound_open p k 1 (open_unify k e) d b
      by (to_king e f) b = sound_open p k 2 (open_exchange k e) d b
      by (to_unify e f) b = λ r t.
          let same = ap (λ (s : State). s.detected) (at_next n held h c p k ∙ step_is n held k king (h.row p k) (at n held h c p k) e) in
          let q = b r (sym (ap (λ m. has m r) same) ∙ t) in
          (q.0, ⊎_elim inl (λ f. inr (f.0, omega (arith, f.1))) q.1)

  -- who has a last round is in the failing set
  in_failing : (r : ℕ) → r < n → Honest n held h c r → 0 < c.last r → has (failing n c) r ≡ true
  in_failing r known honest some =
      has_mask n _ r ∙ and_from (ltb r n) _ (lt-ltb r n known) (and_from (not (has c.byzantine r)) _ (not_from_false _ honest) (lt-ltb 0 (c.last r) some))

  module _ (covered : held c.byzantine (failing n c) ≡ true) (k most : ℕ) (o : Open k most) where
    -- whether the rule holds those that p heard say w in this round, with those that it has detected
    abbrev pub holds_at : ℕ → ℕ → Bool
    holds_at p w = holds_saying n held most (h.row p k) (L p k) w

    some_word : (p r x : ℕ) → h.row p k r ≡ Some x → Got n held h c laws kept bits p k r → V r k ≡ x
    some_word p r x e g = let w = g.word in cc

    -- a word that no correct process prefers comes from Byzantine processes alone
    pub liars_held : (p x : ℕ) → Done n held h c p (suc k) → ((r : ℕ) → Done n held h c r k → V r k ≡ x → ⊥) → holds_at p x ≡ true
    liars_held p x d none =
        held_within n held laws c.byzantine (failing n c) (saying n most (h.row p k) (L p k) x) (caught n most (h.row p k) (L p k)) covered
        (λ s e.
        let t = saying_from n most (h.row p k) (L p k) x s e in
        ⊎_elim (λ b. b)
        (λ honest. ⊎_elim
        (λ g. absurd (none s g.sender (some_word p s x t.said g)))
        (λ f. absurd (let q = f.0 in cc t.said))
        (hears n held h c laws kept bits p k s d t.known (o.due s) honest))
        (cases_Bool (has c.byzantine s)))
        (λ s e.
        let t = sound p (suc k) d s (ap (λ m. has m s) (o.catches p) ∙ e) in
        ⊎_elim inl (λ honest. inr (in_failing s t.0 honest (⊎_elim (λ b. absurd (true≢false (sym b ∙ honest))) (λ f. f.0) t.1))) (cases_Bool (has c.byzantine s)))

    -- a correct process is not detected
    free : (p r : ℕ) → Done n held h c p (suc k) → correct c r (suc k) ≡ true → has (caught n most (h.row p k) (L p k)) r ≡ false
    free p r d right =
        ⊎_elim
        (λ e. absurd (⊎_elim (λ b. true≢false (sym b ∙ honest_by c r (suc k) right)) (not_both n held h c r (suc k) right) (sound p (suc k) d r (ap (λ m. has m r) (o.catches p) ∙ e)).1))
        (λ e. e)
        (cases_Bool (has (caught n most (h.row p k) (L p k)) r))

    -- and counts as saying what it prefers
    counted : (p r : ℕ) → Done n held h c p (suc k) → r < n → correct c r (suc k) ≡ true → has (saying n most (h.row p k) (L p k) (V r k)) r ≡ true
    counted p r d known right =
        let g = hears_correct n held h c laws kept bits p k r d known (o.due r) right in
        saying_in n most (h.row p k) (L p k) (V r k) r known
        (ap (reading most) g.word ∙ reading_word most (V r k) (o.small r known (honest_by c r (suc k) right)))
        (free p r d right)

    -- who failed before is detected by everyone
    gone : (p r : ℕ) → Done n held h c p (suc k) → r < n → Honest n held h c r → Failed n held h c r k → has (caught n most (h.row p k) (L p k)) r ≡ true
    gone p r d known honest f =
        ⊎_elim
        (λ g. absurd (not_both n held h c r k g.sender.right f))
        (λ e. caught_silent n most (h.row p k) (L p k) r known (ap (reading most) e.0))
        (hears n held h c laws kept bits p k r d known (o.due r) honest)

    -- where every correct process prefers x or y and nobody fails, those that p heard say x and those that q heard say y
    -- cannot both be faulty: with the schedule's own pair they would cover the crew
    pub clash : (p q x y : ℕ) → Done n held h c p (suc k) → Done n held h c q (suc k) → Quiet n held h c k
        → ((r : ℕ) → Done n held h c r k → correct c r (suc k) ≡ true → (V r k ≡ x) ⊎ (V r k ≡ y))
        → holds_at p x ≡ true → holds_at q y ≡ true → ⊥
    clash p q x y dp dq quiet words hp hq =
        no_cover n held laws (saying n most (h.row p k) (L p k) x) (caught n most (h.row p k) (L p k)) (saying n most (h.row q k) (L q k) y) (caught n most (h.row q k) (L q k)) c.byzantine (failing n c) hp hq covered
        (λ s known. ⊎_elim by_third
        (λ honest. ⊎_elim
        (λ right.
        let g = hears_correct n held h c laws kept bits p k s dp known (o.due s) right in
        ⊎_elim
        (λ e. by_first (subst (λ (w : ℕ). has (saying n most (h.row p k) (L p k) w) s ≡ true) e (counted p s dp known right)))
        (λ e. by_second (subst (λ (w : ℕ). has (saying n most (h.row q k) (L q k) w) s ≡ true) e (counted q s dq known right)))
        (words s g.sender right))
        (λ f.
        let before : Failed n held h c s k = (f.0, let ne = quiet s known honest in omega (arith, f.1, ne)) in
        by_all (gone p s dp known honest before) (gone q s dq known honest before) (in_failing s known honest f.0))
        (fate n held h c s (suc k) honest))
        (cases_Bool (has c.byzantine s)))
