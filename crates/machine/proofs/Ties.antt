-- A process' state is tied to what it did, and every call that is carried out keeps the tie.
use Rattle.std.proofs.Common.{◌≡◌, ℕ, suc, ◌-◌, ◌<◌, ◌≤◌, Bool, true, false, not, ◌&&◌, ◌||◌, eqb, leb, ◌⊎◌, List, length, get_or, set, replicate, is_some, Some, None, Option, sym, refl, ap, ◌∙◌, subst, inl, inr, ⊎_elim, arith}
use mathlib.Core.Path.{fun_ext}
use Rattle.std.proofs.lemmas.List.{get_or-set_same, get_or-set_other, get_or-replicate, get_or_past, length-set, length-replicate}
use Rattle.std.proofs.lemmas.Bool.{cases_eq, cases_lt, cond-false, and_parts, or_parts, eqb-true, eqb-false, eq-eqb, leb-true, not-false, not_from_true, true≢false}
use Rattle.std.proofs.lemmas.Bool.Decides.{nat_tests}
use Rattle.sets.specs.Sets.{limit}
use Rattle.adversary.specs.Refusals.{when}
use Rattle.adversary.specs.Search.{or_else_none}
use Rattle.adversary.specs.ListLaws.{when_none}
use Rattle.agreement.specs.Rounds.{rounds_of}
use Rattle.agreement.specs.Step.{State, Kind, unify, exchange, king, kind_of, king_of, step, due_by}
use Rattle.machine.specs.Deeds.{started, spoke, heard, shut}
use Rattle.machine.specs.Machine.{is_resting, is_due, is_listening, is_decided, shut_of, slot, core, stranger, is_king_round, is_king, muted, refused, spoken, carried}
use Rattle.machine.specs.declared.types.Call.TheVariants as call
use Rattle.machine.specs.declared.types.ProcessState.{ProcessState}
use Rattle.machine.specs.declared.types.Stage.{Stage}
use Rattle.machine.proofs.Journals.{Journal, put, put_here, put_other_round, put_other, add, folded, folded_same}

-- an empty inbox
abbrev empty_inbox : List (Option ℕ)
empty_inbox = replicate limit None

none_slot : (r : ℕ) → get_or empty_inbox r None ≡ None
none_slot r = ⊎_elim (λ (l : r < limit). get_or-replicate limit r None None l) (λ (l : limit ≤ r). get_or_past empty_inbox r None (omega (arith, length-replicate limit (get_or empty_inbox 0 None)))) (cases_lt r limit)

module _ (n : ℕ) (held : ℕ → ℕ → Bool) (few : n ≤ limit) (p : ℕ) where
  abbrev pub F : Journal → ℕ → State
  F j k = folded n held j.row j.bit k

  abbrev pub DueFrom : ℕ → Type 0
  DueFrom k = due_by n held (kind_of k) k p ≡ true

  -- a process that has started, at position p
  pub record Tie (s : ProcessState) (j : Journal) : Type 0 where
    pub awake : is_resting s.stage ≡ false
    pub known : p < n
    pub number : s.number ≡ suc p
    pub round : s.round ≡ suc j.rounds
    pub state : core s ≡ F j j.rounds
    pub slots : (r : ℕ) → slot s r ≡ j.row j.rounds r
    pub places : length s.inbox ≡ limit
    -- nothing is heard yet in later rounds
    pub beyond : (k r : ℕ) → j.rounds < k → j.row k r ≡ None
    -- in every round that is shut it said what it preferred, where a word was due from it
    pub said : (k : ℕ) → k < j.rounds → DueFrom k → j.row k p ≡ Some (F j k).preferred
    pub silent : is_due s.stage ≡ true → (r : ℕ) → j.row j.rounds r ≡ None
    pub saying : is_listening s.stage ≡ true → DueFrom j.rounds → j.row j.rounds p ≡ Some (F j j.rounds).preferred
    pub going : is_decided s.stage ≡ false → j.rounds < rounds_of n
    pub done : is_decided s.stage ≡ true → j.rounds ≡ rounds_of n

  -- who is in which stage
  not_due_listening : (t : Stage) → is_listening t ≡ true → is_due t ≡ false
  not_due_listening t e = grind arith

  not_decided : (t : Stage) → (is_due t ≡ true) ⊎ (is_listening t ≡ true) → is_decided t ≡ false
  not_decided t e = grind arith

  -- where a word is due from it, it is not muted
  not_muted : (s : ProcessState) (k : ℕ) → shut_of s ≡ k → s.number ≡ suc p → DueFrom k → muted n s s.number ≡ false
  not_muted s k e m d = subst (λ (x : ℕ). (is_king_round (kind_of x) && not (is_king n x s.number)) ≡ false) (sym e) (subst (λ (y : ℕ). (is_king_round (kind_of k) && not (is_king n k y)) ≡ false) (sym m) (by (kind_of k) d))
    where
      by : (q : Kind) → due_by n held q k p ≡ true → (is_king_round q && not (is_king n k (suc p))) ≡ false
      by unify d = refl
      by exchange d = refl
      by king d = let e = eqb-true p (king_of n k) d in not_from_true _ (eq-eqb (suc p) (suc (king_of n k)) (omega arith))

  -- ---- start

  pub start_tie : (s : ProcessState) (j : Journal) (m b : ℕ) → m ≡ suc p → refused n s (call.Start m b) ≡ None → j.rounds ≡ 0 → ((k r : ℕ) → j.row k r ≡ None) → Tie (carried n held s (call.Start m b)) (add p (Some (started m b)) j)
  unfolding folded
  start_tie s j m b own ok zero_rounds empty =
      let a = or_else_none (when (not (is_resting s.stage)) _) _ ok in
      let c = or_else_none (when (stranger n m) _) _ a.1 in
      let range = and_parts (leb 1 m) (leb m n) (not-false _ (when_none (stranger n m) _ c.0)) in
      let known : p < n = omega (arith, leb-true m n range.1) in
      stage_of known (eqb (rounds_of n) 0) refl
    where
      stage_of : p < n → (t : Bool) → eqb (rounds_of n) 0 ≡ t → Tie (carried n held s (call.Start m b)) (add p (Some (started m b)) j)
      stage_of known t e = record {
        awake = grind arith;
        known = known;
        number = own;
        round = omega arith;
        state = subst (λ (k : ℕ). record { preferred = b; detected = 0; follows = false } ≡ folded n held j.row b k) (sym zero_rounds) refl;
        slots = λ r. none_slot r ∙ sym (empty j.rounds r);
        places = refl;
        beyond = λ k r l. empty k r;
        said = λ k l. absurd (omega arith);
        silent = λ _ r. empty j.rounds r;
        saying = λ l. absurd (grind arith);
        going = λ g. grind (arith, nat_tests);
        done = λ g. grind (arith, nat_tests);
      }

  -- ---- what a word put into a row leaves as it was

  module _ (j : Journal) (r : ℕ) (w : Option ℕ) where
    abbrev pub more : ℕ → ℕ → Option ℕ
    more = put j.row j.rounds r w

    pub more_before : (k : ℕ) → k ≤ j.rounds → folded n held more j.bit k ≡ F j k
    more_before k l = folded_same n held more j.row j.bit k (λ i x m. put_other_round j.row j.rounds r w i x (omega arith))

    more_beyond : ((k x : ℕ) → j.rounds < k → j.row k x ≡ None) → (k x : ℕ) → j.rounds < k → more k x ≡ None
    more_beyond b k x l = put_other_round j.row j.rounds r w k x (omega arith) ∙ b k x l

    more_said : ((k : ℕ) → k < j.rounds → DueFrom k → j.row k p ≡ Some (F j k).preferred) → (k : ℕ) → k < j.rounds → DueFrom k → more k p ≡ Some (folded n held more j.bit k).preferred
    more_said b k l d =
        put_other_round j.row j.rounds r w k p (omega arith) ∙ b k l d ∙ ap (λ (s : State). Some s.preferred) (sym (more_before k (omega arith)))

    more_slots : (inbox : List (Option ℕ)) → ((x : ℕ) → get_or inbox x None ≡ j.row j.rounds x) → r < length inbox → (x : ℕ) → get_or (set inbox r w) x None ≡ more j.rounds x
    more_slots inbox b l x =
        ⊎_elim
        (λ (e : r ≡ x). subst (λ (y : ℕ). get_or (set inbox r w) y None ≡ more j.rounds y) e (get_or-set_same inbox r w None l ∙ sym (put_here j.row j.rounds r w)))
        (λ (ne : r ≡ x → ⊥). get_or-set_other inbox r x w None (λ e. ne (sym e)) ∙ b x ∙ sym (put_other j.row j.rounds r w x ne))
        (cases_eq r x)

  -- ---- speak

  pub speak_tie : (s : ProcessState) (j : Journal) → Tie s j → refused n s call.Speak ≡ None → Tie (carried n held s call.Speak) (add p (Some (spoke (spoken n s))) j)
  speak_tie s j t ok =
      let due = not-false (is_due s.stage) (when_none (not (is_due s.stage)) _ ok) in
      let own : s.number - 1 ≡ p = omega (arith, t.number) in
      let w = spoken n s in
      let now : shut_of s ≡ j.rounds = omega (arith, t.round) in
      record {
        awake = refl;
        known = t.known;
        number = t.number;
        round = t.round;
        state = t.state ∙ sym (more_before j p w j.rounds (omega arith));
        slots = subst (λ (i : ℕ). (x : ℕ) → get_or (set s.inbox i w) x None ≡ put j.row j.rounds p w j.rounds x) (sym own) (more_slots j p w s.inbox t.slots (omega (arith, t.known, t.places)));
        places = length-set s.inbox (s.number - 1) w ∙ t.places;
        beyond = more_beyond j p w t.beyond;
        said = more_said j p w t.said;
        silent = λ e. absurd (true≢false (sym e));
        saying = λ _ d. put_here j.row j.rounds p w ∙ cond-false (muted n s s.number) _ _ (not_muted s j.rounds now t.number d) ∙ ap (λ (x : State). Some x.preferred) (t.state ∙ sym (more_before j p w j.rounds (omega arith)));
        going = λ _. t.going (not_decided s.stage (inl due));
        done = λ e. absurd (true≢false (sym e));
      }

  -- ---- hear

  -- what it takes that a hearing is carried out
  pub record Hearable (s : ProcessState) (m : ℕ) : Type 0 where
    pub listening : is_listening s.stage ≡ true
    pub from_one : 1 ≤ m
    pub to_n : m ≤ n
    pub other : m ≡ s.number → ⊥
    pub free : slot s (m - 1) ≡ None

  no_word : (o : Option ℕ) → is_some o ≡ false → o ≡ None
  no_word o e = grind arith

  pub hearable : (s : ProcessState) (m i w : ℕ) → refused n s (call.Hear m i w) ≡ None → Hearable s m
  hearable s m i w ok =
      let a = or_else_none (when (not (is_listening s.stage)) _) _ ok in
      let b = or_else_none (when (stranger n m || eqb m s.number) _) _ a.1 in
      let c = or_else_none (when (not (eqb i s.round)) _) _ b.1 in
      let d = or_else_none (when (muted n s m) _) _ c.1 in
      let ns = or_parts (stranger n m) (eqb m s.number) (when_none _ _ b.0) in
      let range = and_parts (leb 1 m) (leb m n) (not-false _ ns.0) in
      record {
        listening = not-false _ (when_none _ _ a.0);
        from_one = leb-true 1 m range.0;
        to_n = leb-true m n range.1;
        other = eqb-false m s.number ns.1;
        free = no_word (slot s (m - 1)) (when_none _ _ d.1);
      }

  pub hear_tie : (s : ProcessState) (j : Journal) (m i w : ℕ) → Tie s j → refused n s (call.Hear m i w) ≡ None → Tie (carried n held s (call.Hear m i w)) (add p (Some (heard m w)) j)
  hear_tie s j m i w t ok =
      let h = hearable s m i w ok in
      let word = Some w in
      let ne : m - 1 ≡ p → ⊥ = λ e. h.other (omega (arith, t.number, h.from_one)) in
      record {
        awake = t.awake;
        known = t.known;
        number = t.number;
        round = t.round;
        state = t.state ∙ sym (more_before j (m - 1) word j.rounds (omega arith));
        slots = more_slots j (m - 1) word s.inbox t.slots (omega (arith, t.places, h.to_n, h.from_one));
        places = length-set s.inbox (m - 1) word ∙ t.places;
        beyond = more_beyond j (m - 1) word t.beyond;
        said = more_said j (m - 1) word t.said;
        silent = λ e. absurd (true≢false (sym e ∙ not_due_listening s.stage h.listening));
        saying = λ l d. put_other j.row j.rounds (m - 1) word p ne ∙ t.saying l d ∙ ap (λ (x : State). Some x.preferred) (sym (more_before j (m - 1) word j.rounds (omega arith)));
        going = t.going;
        done = t.done;
      }

  -- ---- shut

  pub shut_tie : (s : ProcessState) (j : Journal) → Tie s j → refused n s call.Shut ≡ None → Tie (carried n held s call.Shut) (add p (Some shut) j)
  unfolding folded
  shut_tie s j t ok =
      let listening = not-false (is_listening s.stage) (when_none (not (is_listening s.stage)) _ ok) in
      let now : shut_of s ≡ j.rounds = omega (arith, t.round) in
      let below = t.going (not_decided s.stage (inr listening)) in
      let rows : slot s ≡ j.row j.rounds = fun_ext t.slots in
      let next : step n held (shut_of s) (slot s) (core s) ≡ F j (suc j.rounds) =
      ap (λ (k : ℕ). step n held k (slot s) (core s)) now ∙ ap (λ (x : ℕ → Option ℕ). step n held j.rounds x (core s)) rows ∙ ap (step n held j.rounds (j.row j.rounds)) t.state in
      record {
        awake = grind arith;
        known = t.known;
        number = t.number;
        round = omega (arith, t.round);
        state = next;
        slots = λ r. none_slot r ∙ sym (t.beyond (suc j.rounds) r (omega arith));
        places = refl;
        beyond = λ k r l. t.beyond k r (omega arith);
        said = λ k l d. ⊎_elim
            (λ (m : k < j.rounds). t.said k m d)
            (λ (m : j.rounds ≤ k). let same : j.rounds ≡ k = omega arith in subst (λ (x : ℕ). (DueFrom x → j.row x p ≡ Some (F j x).preferred)) same (t.saying listening) d)
            (cases_lt k j.rounds);
        silent = λ _ r. t.beyond (suc j.rounds) r (omega arith);
        saying = λ l. absurd (grind arith);
        going = λ g. grind (arith, nat_tests, t.round);
        done = λ g. grind (arith, nat_tests, t.round, below);
      }
