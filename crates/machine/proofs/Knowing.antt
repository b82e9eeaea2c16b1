-- What is known of a process after any calls: it never started, or its state and its deeds are tied.
use Rattle.std.proofs.Common.{◌≡◌, ℕ, suc, ◌-◌, ◌≤◌, Bool, false, not, ltb, ◌⊎◌, Some, None, Option, sym, refl, ap, ◌∙◌, subst, inl, inr, ⊎_elim, arith}
use Rattle.std.proofs.lemmas.Bool.{cases_eq, ltb-false, not-false, true≢false}
use Rattle.sets.specs.Sets.{limit}
use Rattle.refusal.specs.declared.process.ProcessRefusal.{ProcessRefusal}
use Rattle.adversary.specs.Refusals.{when}
use Rattle.adversary.specs.Search.{or_else_none}
use Rattle.adversary.specs.ListLaws.{when_none}
use Rattle.agreement.specs.Step.{State}
use Rattle.machine.specs.Deeds.{Deed, started, spoke, heard, shut, deed_of_reply}
use Rattle.machine.specs.Machine.{resting, is_resting, is_due, is_listening, stranger, refused, spoken, answered_by, carried, reply_by, after_by, replied, after}
use Rattle.machine.specs.declared.types.Call.{Call}
use Rattle.machine.specs.declared.types.Call.TheVariants as call
use Rattle.machine.specs.declared.types.ProcessState.{ProcessState}
use Rattle.machine.proofs.Journals.{Journal, put, put_here, put_other_round, put_other, add, folded}
use Rattle.machine.proofs.Ties.{F, Tie, Hearable, hearable, more_before, start_tie, speak_tie, hear_tie, shut_tie}

module _ (n : ℕ) (held : ℕ → ℕ → Bool) (few : n ≤ limit) (p : ℕ) where
  -- what its deeds D, each with the rounds shut before it, tell of a journal
  pub record Facts (j : Journal) (D : ℕ → Deed → Type 0) : Type 0 where
    pub bit_small : j.bit ≤ 1
    pub begun : (m : ℕ) × D 0 (started m j.bit)
    pub one_start : (k m b : ℕ) → D k (started m b) → b ≡ j.bit
    pub not_own : (k r w : ℕ) → D k (heard (suc r) w) → r ≡ p → ⊥
    pub in_row : (k r w : ℕ) → D k (heard (suc r) w) → j.row k r ≡ Some w
    pub from_row : (k r w : ℕ) → j.row k r ≡ Some w → (r ≡ p → ⊥) → D k (heard (suc r) w)
    pub spoken_value : (k w : ℕ) → D k (spoke (Some w)) → (k ≤ j.rounds) × (w ≡ (F n held few p j k).preferred)

  pub data Known (s : ProcessState) (j : Journal) (D : ℕ → Deed → Type 0) : Type 0 where
    asleep : s ≡ resting → j.rounds ≡ 0 → ((k r : ℕ) → j.row k r ≡ None) → ((k : ℕ) (d : Deed) → D k d → ⊥) → Known s j D
    awake : Tie n held few p s j → Facts j D → Known s j D

  -- one entry more
  abbrev pub And : Option Deed → ℕ → (ℕ → Deed → Type 0) → ℕ → Deed → Type 0
  And o i D k d = ((o ≡ Some d) × (i ≡ k)) ⊎ D k d

  -- an entry that is no deed of the process changes nothing
  pub idle : (s : ProcessState) (j : Journal) (D : ℕ → Deed → Type 0) → Known s j D → Known s j (And None j.rounds D)
  idle s j D (asleep a b c none) = asleep a b c (λ k d. ⊎_elim (λ x. let e = x.0 in cc) (none k d))
  idle s j D (awake t f) = awake t record {
    bit_small = f.bit_small;
    begun = (f.begun.0, inr f.begun.1);
    one_start = λ k m' b. ⊎_elim (λ x. let e = x.0 in cc) (f.one_start k m' b);
    not_own = λ k r w. ⊎_elim (λ x. let e = x.0 in cc) (f.not_own k r w);
    in_row = λ k r w. ⊎_elim (λ x. let e = x.0 in cc) (f.in_row k r w);
    from_row = λ k r w e ne. inr (f.from_row k r w e ne);
    spoken_value = λ k w. ⊎_elim (λ x. let e = x.0 in cc) (f.spoken_value k w);
  }

  -- ---- start

  start_facts : (s : ProcessState) (j : Journal) (D : ℕ → Deed → Type 0) (m b : ℕ) → refused n s (call.Start m b) ≡ None → j.rounds ≡ 0 → ((k r : ℕ) → j.row k r ≡ None) → ((k : ℕ) (d : Deed) → D k d → ⊥)
      → Facts (add p (Some (started m b)) j) (And (Some (started m b)) j.rounds D)
  start_facts s j D m b ok zero_rounds empty none =
      let a = or_else_none (when (not (is_resting s.stage)) _) _ ok in
      let c = or_else_none (when (stranger n m) _) _ a.1 in
      record {
        bit_small = ltb-false 1 b (when_none (ltb 1 b) _ c.1);
        begun = (m, inl (refl, zero_rounds));
        one_start = λ k m' b'. ⊎_elim (λ x. let e = x.0 in cc) (λ d. absurd (none _ _ d));
        not_own = λ k r w. ⊎_elim (λ x. let e = x.0 in cc) (λ d. absurd (none _ _ d));
        in_row = λ k r w. ⊎_elim (λ x. let e = x.0 in cc) (λ d. absurd (none _ _ d));
        from_row = λ k r w e ne. let f = empty k r in cc;
        spoken_value = λ k w. ⊎_elim (λ x. let e = x.0 in cc) (λ d. absurd (none _ _ d));
      }

  -- ---- speak

  said_preferred : (s : ProcessState) (w : ℕ) → spoken n s ≡ Some w → w ≡ s.preferred
  said_preferred s w e = grind arith

  speak_facts : (s : ProcessState) (j : Journal) (D : ℕ → Deed → Type 0) → Tie n held few p s j → Facts j D → Facts (add p (Some (spoke (spoken n s))) j) (And (Some (spoke (spoken n s))) j.rounds D)
  speak_facts s j D t f = record {
    bit_small = f.bit_small;
    begun = (f.begun.0, inr f.begun.1);
    one_start = λ k m' b. ⊎_elim (λ x. let e = x.0 in cc) (f.one_start k m' b);
    not_own = λ k r w. ⊎_elim (λ x. let e = x.0 in cc) (f.not_own k r w);
    in_row = λ k r w. ⊎_elim (λ x. let e = x.0 in cc) (λ d. kept k r (f.not_own k r w d) ∙ f.in_row k r w d);
    from_row = λ k r w e ne. inr (f.from_row k r w (sym (kept k r ne) ∙ e) ne);
    spoken_value = λ k w. ⊎_elim
        (λ x.
        let e : spoken n s ≡ Some w = let q = x.0 in cc in
        let same = x.1 in
        (omega arith, said_preferred s w e ∙ ap (λ (y : State). y.preferred) (t.state ∙ sym (more_before n held few p j p (spoken n s) j.rounds (omega arith))) ∙ ap (λ (i : ℕ). (folded n held (put j.row j.rounds p (spoken n s)) j.bit i).preferred) same))
        (λ d. let g = f.spoken_value k w d in (g.0, g.1 ∙ ap (λ (y : State). y.preferred) (sym (more_before n held few p j p (spoken n s) k g.0))));
  }
    where
      kept : (k r : ℕ) → (r ≡ p → ⊥) → put j.row j.rounds p (spoken n s) k r ≡ j.row k r
      kept k r ne =
          ⊎_elim
          (λ (e : j.rounds ≡ k). subst (λ (i : ℕ). put j.row j.rounds p (spoken n s) i r ≡ j.row i r) e (put_other j.row j.rounds p (spoken n s) r (λ x. ne (sym x))))
          (λ d. put_other_round j.row j.rounds p (spoken n s) k r d)
          (cases_eq j.rounds k)

  -- ---- hear

  hear_facts : (s : ProcessState) (j : Journal) (D : ℕ → Deed → Type 0) (m w : ℕ) → Tie n held few p s j → Hearable n held few p s m → Facts j D → Facts (add p (Some (heard m w)) j) (And (Some (heard m w)) j.rounds D)
  hear_facts s j D m w t h f = record {
    bit_small = f.bit_small;
    begun = (f.begun.0, inr f.begun.1);
    one_start = λ k m' b. ⊎_elim (λ x. let e = x.0 in cc) (f.one_start k m' b);
    not_own = λ k r x. ⊎_elim (λ y e. h.other (let q : m ≡ suc r = (let u = y.0 in cc) in omega (arith, t.number))) (f.not_own k r x);
    in_row = λ k r x. ⊎_elim
        (λ y.
        let q : m ≡ suc r = (let u = y.0 in cc) in
        let v : w ≡ x = (let u = y.0 in cc) in
        let place : m - 1 ≡ r = omega arith in
        subst (λ (i : ℕ). row' i r ≡ Some x) y.1 (subst (λ (i : ℕ). row' j.rounds i ≡ Some x) place (put_here j.row j.rounds (m - 1) (Some w) ∙ ap Some v)))
        (λ d. apart k r (λ same here. full (subst (λ (i : ℕ). j.row i r ≡ Some x) (sym same) (f.in_row k r x d)) here) ∙ f.in_row k r x d);
    from_row = λ k r x e ne. ⊎_elim
        (λ (same : j.rounds ≡ k). ⊎_elim
        (λ (here : m - 1 ≡ r).
        let v : Some w ≡ Some x = sym (put_here j.row j.rounds (m - 1) (Some w)) ∙ subst (λ (i : ℕ). row' j.rounds i ≡ Some x) (sym here) (subst (λ (i : ℕ). row' i r ≡ Some x) (sym same) e) in
        let number : m ≡ suc r = omega (arith, h.from_one) in
        let value : w ≡ x = cc in
        inl (ap (λ (i : ℕ). Some (heard i w)) number ∙ ap (λ (i : ℕ). Some (heard (suc r) i)) value, same))
        (λ away. inr (f.from_row k r x (sym (apart k r (λ _. away)) ∙ e) ne))
        (cases_eq (m - 1) r))
        (λ later. inr (f.from_row k r x (sym (apart k r (λ same. absurd (later same))) ∙ e) ne))
        (cases_eq j.rounds k);
    spoken_value = λ k x. ⊎_elim (λ y. let e = y.0 in cc)
        (λ d. let g = f.spoken_value k x d in (g.0, g.1 ∙ ap (λ (y : State). y.preferred) (sym (more_before n held few p j (m - 1) (Some w) k g.0))));
  }
    where
      row' : ℕ → ℕ → Option ℕ
      row' = put j.row j.rounds (m - 1) (Some w)

      -- the slot was free
      full : {r x : ℕ} → j.row j.rounds r ≡ Some x → m - 1 ≡ r → ⊥
      full {r} {x} e here =
          let g : j.row j.rounds r ≡ None = subst (λ (i : ℕ). j.row j.rounds i ≡ None) here (sym (t.slots (m - 1)) ∙ h.free) in
          cc

      apart : (k r : ℕ) → (j.rounds ≡ k → m - 1 ≡ r → ⊥) → put j.row j.rounds (m - 1) (Some w) k r ≡ j.row k r
      apart k r no_clash =
          ⊎_elim
          (λ (same : j.rounds ≡ k). subst (λ (i : ℕ). put j.row j.rounds (m - 1) (Some w) i r ≡ j.row i r) same (put_other j.row j.rounds (m - 1) (Some w) r (no_clash same)))
          (λ d. put_other_round j.row j.rounds (m - 1) (Some w) k r d)
          (cases_eq j.rounds k)

  -- ---- shut

  shut_facts : (j : Journal) (D : ℕ → Deed → Type 0) → Facts j D → Facts (add p (Some shut) j) (And (Some shut) j.rounds D)
  shut_facts j D f = record {
    bit_small = f.bit_small;
    begun = (f.begun.0, inr f.begun.1);
    one_start = λ k m' b. ⊎_elim (λ x. let e = x.0 in cc) (f.one_start k m' b);
    not_own = λ k r w. ⊎_elim (λ x. let e = x.0 in cc) (f.not_own k r w);
    in_row = λ k r w. ⊎_elim (λ x. let e = x.0 in cc) (f.in_row k r w);
    from_row = λ k r w e ne. inr (f.from_row k r w e ne);
    spoken_value = λ k w. ⊎_elim (λ x. let e = x.0 in cc) (λ d. let g = f.spoken_value k w d in (omega (arith, g.0), g.1));
  }

  -- ---- any call

  -- what is known after a call, where o is its refusal, if there is one
  abbrev After : ProcessState → Journal → (ℕ → Deed → Type 0) → Call → Option ProcessRefusal → Type 0
  After s j D a o =
      Known (after_by o s (carried n held s a)) (add p (deed_of_reply a (reply_by o (answered_by n s a))) j) (And (deed_of_reply a (reply_by o (answered_by n s a))) j.rounds D)

  stage_wrong : (s : ProcessState) (b : Bool) (x : ProcessRefusal) → b ≡ false → when (not b) x ≡ None → ⊥
  stage_wrong s b x e ok = true≢false (sym (not-false b (when_none (not b) x ok)) ∙ e)

  pub called : (s : ProcessState) (j : Journal) (D : ℕ → Deed → Type 0) (a : Call) → Known s j D → ((m b : ℕ) → a ≡ call.Start m b → refused n s a ≡ None → m ≡ suc p)
      → Known (after n held s a) (add p (deed_of_reply a (replied n s a)) j) (And (deed_of_reply a (replied n s a)) j.rounds D)
  called s j D (call.Start m b) known own = by (refused n s (call.Start m b)) refl known
    where
      by : (o : Option ProcessRefusal) → refused n s (call.Start m b) ≡ o → Known s j D → After s j D (call.Start m b) o
      by (Some x) e known = idle s j D known
      by None e (asleep r z empty none) = awake (start_tie n held few p s j m b (own m b refl e) e z empty) (start_facts s j D m b e z empty none)
      by None e (awake t f) = absurd (stage_wrong s (is_resting s.stage) _ t.awake (or_else_none (when (not (is_resting s.stage)) _) _ e).0)
  called s j D call.Speak known own = by (refused n s call.Speak) refl known
    where
      by : (o : Option ProcessRefusal) → refused n s call.Speak ≡ o → Known s j D → After s j D call.Speak o
      by (Some x) e known = idle s j D known
      by None e (asleep r z empty none) = absurd (stage_wrong s (is_due s.stage) _ (ap (λ (x : ProcessState). is_due x.stage) r) e)
      by None e (awake t f) = awake (speak_tie n held few p s j t e) (speak_facts s j D t f)
  called s j D (call.Hear m i w) known own = by (refused n s (call.Hear m i w)) refl known
    where
      by : (o : Option ProcessRefusal) → refused n s (call.Hear m i w) ≡ o → Known s j D → After s j D (call.Hear m i w) o
      by (Some x) e known = idle s j D known
      by None e (asleep r z empty none) = absurd (stage_wrong s (is_listening s.stage) _ (ap (λ (x : ProcessState). is_listening x.stage) r) (or_else_none (when (not (is_listening s.stage)) _) _ e).0)
      by None e (awake t f) = awake (hear_tie n held few p s j m i w t e) (hear_facts s j D m w t (hearable n held few p s m i w e) f)
  called s j D call.Shut known own = by (refused n s call.Shut) refl known
    where
      by : (o : Option ProcessRefusal) → refused n s call.Shut ≡ o → Known s j D → After s j D call.Shut o
      by (Some x) e known = idle s j D known
      by None e (asleep r z empty none) = absurd (stage_wrong s (is_listening s.stage) _ (ap (λ (x : ProcessState). is_listening x.stage) r) e)
      by None e (awake t f) = awake (shut_tie n held few p s j t e) (shut_facts j D f)
  called s j D call.Verdict known own = idle s j D known
  called s j D call.Standing known own = idle s j D known
