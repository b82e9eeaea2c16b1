-- The promise: from a log of calls to a history that keeps the schedule, and from there by the agreement theorem.
use Rattle.std.proofs.Common.{Ok, ◌≡◌, ℕ, zero, suc, ◌+◌, ◌<◌, ◌≤◌, Bool, true, cond, eqb, List, [], ◌∷◌, Some, None, Option, sym, refl, ap, ◌∙◌, subst, inl, inr, ⊎_elim, arith}
use Rattle.std.proofs.lemmas.Bool.{cases_Bool, cases_eq, cond-true, cond-false, and_parts, not-true, eq-eqb, ne_eqb, true≢false}
use Rattle.sets.specs.Sets.{has, limit}
use Rattle.history.specs.Protocols.{History, state}
use Rattle.history.specs.Schedules as schedules
use Rattle.history.specs.Schedules.{Schedule, standing}
use Rattle.history.proofs.Correct.{honest_by}
use Rattle.agreement.specs.Rounds.{rounds_of}
use Rattle.agreement.specs.Step.{State, protocol}
use Rattle.agreement.specs.Theorems as theorems
use Rattle.agreement.proofs.Agreeing.{agreement, validity}
use Rattle.agreement.proofs.Rows.{read_or}
use Rattle.machine.specs.Deeds.{Deed, started, spoke, deed_of_reply, deed_of, is_shut, shuts, Did}
use Rattle.refusal.specs.declared.process.ProcessRefusal.{ProcessRefusal}
use Rattle.machine.specs.Machine.{resting, reply_by, is_decided, answered_by, replied, after}
use Rattle.machine.specs.Promise.{ran, Faithful, Shows, Honest, Message, Course, Started, PromiseKept}
use Rattle.machine.specs.declared.types.Answer.TheVariants as answer
use Rattle.machine.specs.declared.types.Call.{Call}
use Rattle.machine.specs.declared.types.Entry.{Entry}
use Rattle.machine.specs.declared.types.ProcessState.{ProcessState}
use Rattle.machine.proofs.Journals.{Journal, add, folded}
use Rattle.machine.proofs.Knowing.{Facts, Known, asleep, awake, And, idle, called}
use Rattle.machine.proofs.Ties.{Tie}

-- what p did, by its journal; a process that never started has the bit d
journal : ℕ → ℕ → List Entry → Journal
journal d p [] = record { rounds = 0; bit = d; row = λ k r. None }
journal d p (e ∷ log) = add p (deed_of p e) (journal d p log)

add_rounds : (p : ℕ) (o : Option Deed) (j : Journal) → (add p o j).rounds ≡ is_shut o + j.rounds
add_rounds p o j = grind arith

journal_rounds : (d p : ℕ) (log : List Entry) → (journal d p log).rounds ≡ shuts p log
unfolding journal
journal_rounds d p [] = refl
journal_rounds d p (e ∷ log) = add_rounds p (deed_of p e) (journal d p log) ∙ ap (λ (x : ℕ). is_shut (deed_of p e) + x) (journal_rounds d p log)

module _ (n : ℕ) (held : ℕ → ℕ → Bool) (few : n ≤ limit) (d p : ℕ) where
  abbrev Knows : List Entry → Type 0
  Knows log = Known n held few p (ran n held p log) (journal d p log) (λ k x. Did p k x log)

  -- one entry more, with the deed x of p in it and the state z after it
  entry_more : (e : Entry) (log : List Entry) (z : ProcessState) (x : Option Deed) → ran n held p (e ∷ log) ≡ z → deed_of p e ≡ x
      → Known n held few p z (add p x (journal d p log)) (And n held few p x (journal d p log).rounds (λ k y. Did p k y log)) → Knows (e ∷ log)
  unfolding journal
  entry_more e log z x state_is deed_is known =
      let D : ℕ → Deed → Type 0 = λ k y. Did p k y log in
      let one = subst (λ (i : ℕ). Known n held few p z (add p x (journal d p log)) (And n held few p x i D)) (journal_rounds d p log) known in
      let two = subst (λ (y : Option Deed). Known n held few p z (add p y (journal d p log)) (And n held few p y (shuts p log) D)) (sym deed_is) one in
      subst (λ (y : ProcessState). Known n held few p y (add p (deed_of p e) (journal d p log)) (And n held few p (deed_of p e) (shuts p log) D)) (sym state_is) two

  -- an entry of p, and one of another
  mine : (e : Entry) (log : List Entry) → e.who ≡ p → e.reply ≡ replied n (ran n held p log) e.call
      → ((m b : ℕ) → deed_of p e ≡ Some (started m b) → m ≡ suc p) → Knows log → Knows (e ∷ log)
  mine e log who faithful own known =
      let s = ran n held p log in
      let here = eq-eqb e.who p who in
      let deed_is : deed_of p e ≡ deed_of_reply e.call (replied n s e.call) = cond-true (eqb e.who p) _ _ here ∙ ap (deed_of_reply e.call) faithful in
      entry_more e log (after n held s e.call) (deed_of_reply e.call (replied n s e.call)) (cond-true (eqb e.who p) _ _ here) deed_is
      (called n held few p s (journal d p log) (λ k y. Did p k y log) e.call known
      (λ m b is ok. own m b (deed_is ∙ ap (λ (o : Option ProcessRefusal). deed_of_reply e.call (reply_by o (answered_by n s e.call))) ok ∙ ap (λ (a : Call). deed_of_reply a (Some (Ok (answered_by n s a)))) is)))

  others : (e : Entry) (log : List Entry) → (e.who ≡ p → ⊥) → Knows log → Knows (e ∷ log)
  others e log who known =
      let away = ne_eqb e.who p who in
      entry_more e log (ran n held p log) None (cond-false (eqb e.who p) _ _ away) (cond-false (eqb e.who p) _ _ away)
      (idle n held few p (ran n held p log) (journal d p log) (λ k y. Did p k y log) known)

  -- whatever the log
  knows : (log : List Entry) → Faithful n held p log → ((k m b : ℕ) → Did p k (started m b) log → m ≡ suc p) → Knows log
  unfolding journal
  knows [] faithful own = asleep refl refl (λ k r. refl) (λ k x e. e)
  knows (e ∷ log) faithful own =
      let known = knows log faithful.1 (λ k m b x. own k m b (inr x)) in
      ⊎_elim
      (λ who. mine e log who (faithful.0 who) (λ m b x. own (shuts p log) m b (inl (x, refl))) known)
      (λ who. others e log who known)
      (cases_eq e.who p)

add_bit : (p : ℕ) (o : Option Deed) (j : Journal) → ((m b : ℕ) → o ≡ Some (started m b) → ⊥) → (add p o j).bit ≡ j.bit
add_bit p o j never = grind arith

-- a process that never started has the bit d
journal_bit : (d p : ℕ) (log : List Entry) → ((k m b : ℕ) → Did p k (started m b) log → ⊥) → (journal d p log).bit ≡ d
unfolding journal
journal_bit d p [] never = refl
journal_bit d p (e ∷ log) never = add_bit p (deed_of p e) (journal d p log) (λ m b x. never (shuts p log) m b (inl (x, refl))) ∙ journal_bit d p log (λ k m b x. never k m b (inr x))

module _ (n : ℕ) (held : ℕ → ℕ → Bool) (c : Schedule) (log : List Entry) (course : Course n held c log) (d : ℕ) where
  abbrev J : ℕ → Journal
  J p = journal d p log

  -- the history of the log
  past : History
  past = record { start = λ p. (J p).bit; shut = λ p. shuts p log; row = λ p k r. (J p).row k r }

  state_is : (p k : ℕ) → state (protocol n held) past p k ≡ folded n held (J p).row (J p).bit k
  unfolding state protocol folded past
  state_is p zero = refl
  state_is p (suc k) = ap (λ (s : State). (protocol n held).next k ((J p).row k) s) (state_is p k)

  abbrev Awake : ℕ → Type 0
  Awake p = Tie n held course.few p (ran n held p log) (J p) × Facts n held course.few p (J p) (λ k x. Did p k x log)

  known_of : (p : ℕ) → p < n → Honest n held c log p → Knows n held course.few d p log
  known_of p l honest = knows n held course.few d p log (course.faithful p l honest) (λ k m b x. course.kept.numbered p k m b l honest x)

  -- who cannot be asleep is awake: who has a deed, has shut a round, or is decided
  woken : (p : ℕ) → p < n → Honest n held c log p → (ran n held p log ≡ resting → (J p).rounds ≡ 0 → ((k : ℕ) (x : Deed) → Did p k x log → ⊥) → ⊥) → Awake p
  woken p l honest never = by (known_of p l honest)
    where
      by : Knows n held course.few d p log → Awake p
      by (asleep a b e none) = absurd (never a b none)
      by (awake t f) = (t, f)

  awake_by : (p k : ℕ) (x : Deed) → p < n → Honest n held c log p → Did p k x log → Awake p
  awake_by p k x l honest did = woken p l honest (λ a b none. none k x did)

  awake_shut : (p k : ℕ) → p < n → Honest n held c log p → k < shuts p log → Awake p
  awake_shut p k l honest closed = woken p l honest (λ a b none. omega (arith, journal_rounds d p log, b, closed))

  -- what r said in the round after k, and p has of it, is heard
  heard_by : (p k r w : ℕ) → r < n → Honest n held c log r → Did r k (spoke (Some w)) log → (J p).row k r ≡ Some w → schedules.Heard n (protocol n held) past c p k r
  unfolding past protocol
  heard_by p k r w l honest did got =
      let f = (awake_by r k (spoke (Some w)) l honest did).1 in
      let v = f.spoken_value k w did in
      record {
        came = omega (arith, v.0, journal_rounds d r log);
        running = refl;
        got = got ∙ ap Some (v.1 ∙ ap (λ (s : State). s.preferred) (sym (state_is r k)));
      }

  kept : schedules.Keeps n (protocol n held) past c
  unfolding past protocol
  kept = record {
    own = λ p k l closed right owed.
        let a = awake_shut p k l (honest_by c p (suc k) right) closed in
        record {
          came = omega arith;
          running = refl;
          got = a.0.said k (omega (arith, journal_rounds d p log)) owed ∙ ap (λ (s : State). Some s.preferred) (sym (state_is p k));
        };
    heard = λ p k r m right.
        let msg = message p k r m in
        let x = course.kept.accepted p k r msg right in
        let f = (awake_shut p k m.receiver (honest_by c p (suc k) m.right) m.closed).1 in
        inl (heard_by p k r x.0 m.sender (honest_by c r (suc k) right) x.1 (f.in_row k r x.0 x.2));
    last_word = λ p k r m honest now.
        let f = (awake_shut p k m.receiver (honest_by c p (suc k) m.right) m.closed).1 in
        ⊎_elim inr (λ x. inl (heard_by p k r x.0 m.sender honest (course.kept.last_word p k r x.0 (message p k r m) honest now (f.from_row k r x.0 x.1 m.other)) x.1)) (read_or ((J p).row k r));
    later = λ p k r m honest some few.
        let f = (awake_shut p k m.receiver (honest_by c p (suc k) m.right) m.closed).1 in
        ⊎_elim (λ e. e) (λ x. absurd (course.kept.later p k r x.0 (message p k r m) honest some few (f.from_row k r x.0 x.1 m.other))) (read_or ((J p).row k r));
  }
    where
      message : (p k r : ℕ) → schedules.Message n (protocol n held) past c p k r → Message n held c log p k r
      message p k r m = record { receiver = m.receiver; closed = m.closed; right = m.right; sender = m.sender; other = m.other; owed = m.owed }

  -- the premises of the agreement theorem
  the_course : d ≤ 1 → theorems.Course n held past c
  unfolding past
  the_course small = record {
    lawful = course.lawful;
    kept = kept;
    pair = course.pair;
    bits = λ r l honest. bit_of r (known_of r l honest);
  }
    where
      bit_of : (r : ℕ) → Knows n held course.few d r log → (J r).bit ≤ 1
      bit_of r (asleep a b e none) = subst (λ (x : ℕ). x ≤ 1) (sym (journal_bit d r log (λ k m b' x. none k (started m b') x))) small
      bit_of r (awake t f) = f.bit_small

  -- ---- verdicts

  shown : (p v : ℕ) → Shows n held p log v → (is_decided (ran n held p log).stage ≡ true) × ((ran n held p log).preferred ≡ v)
  shown p v e = grind arith

  awake_decided : (p : ℕ) → p < n → Honest n held c log p → is_decided (ran n held p log).stage ≡ true → Awake p
  awake_decided p l honest decided = woken p l honest (λ a b none. true≢false (sym decided ∙ ap (λ (s : ProcessState). is_decided s.stage) a))

  all_shut : (p : ℕ) → Awake p → is_decided (ran n held p log).stage ≡ true → shuts p log ≡ rounds_of n
  all_shut p a decided = sym (journal_rounds d p log) ∙ a.0.done decided

  -- the verdict is the protocol's value after all rounds
  verdict_is : (p v : ℕ) → p < n → Honest n held c log p → Shows n held p log v → theorems.value_after n held past c p (rounds_of n) ≡ v
  verdict_is p v l honest shows =
      let t = shown p v shows in
      let a = awake_decided p l honest t.0 in
      ap (λ (s : State). s.preferred) (state_is p (rounds_of n)) ∙ ap (λ (k : ℕ). (folded n held (J p).row (J p).bit k).preferred) (sym (a.0.done t.0)) ∙ ap (λ (s : State). s.preferred) (sym a.0.state) ∙ t.1

  standing_honest : (p : ℕ) → standing c p ≡ true → Honest n held c log p
  standing_honest p e = not-true (has c.byzantine p) (and_parts _ _ e).0

  finished : (p v : ℕ) → p < n → standing c p ≡ true → Shows n held p log v → theorems.Finished n held past c p
  unfolding past
  finished p v l stands shows =
      let t = shown p v shows in
      let all = all_shut p (awake_decided p l (standing_honest p stands) t.0) t.0 in
      record { known = l; stands = stands; closed = omega arith }

  one_verdict : d ≤ 1 → (p q v w : ℕ) → p < n → q < n → standing c p ≡ true → standing c q ≡ true → Shows n held p log v → Shows n held q log w → v ≡ w
  one_verdict small p q v w lp lq sp sq showp showq =
      sym (verdict_is p v lp (standing_honest p sp) showp) ∙ agreement n held past c (the_course small) p q (finished p v lp sp showp) (finished q w lq sq showq) ∙ verdict_is q w lq (standing_honest q sq) showq

  shared_bit : d ≤ 1 → ((p k m x : ℕ) → p < n → Honest n held c log p → Did p k (started m x) log → x ≡ d) → (p v : ℕ) → p < n → standing c p ≡ true → Shows n held p log v → v ≡ d
  unfolding past
  shared_bit small all p v l stands shows =
      sym (verdict_is p v l (standing_honest p stands) shows) ∙ validity n held past c (the_course small) d (λ r lr honest. bit_of r lr honest (known_of r lr honest)) p (finished p v l stands shows)
    where
      bit_of : (r : ℕ) → r < n → Honest n held c log r → Knows n held course.few d r log → (J r).bit ≡ d
      bit_of r lr honest (asleep a b e none) = journal_bit d r log (λ k m b' x. none k (started m b') x)
      bit_of r lr honest (awake t f) = all r 0 f.begun.0 (J r).bit lr honest f.begun.1

  in_time : (p v : ℕ) → p < n → Honest n held c log p → Shows n held p log v → Started n held c log p × (shuts p log ≡ rounds_of n)
  in_time p v l honest shows =
      let t = shown p v shows in
      let a = awake_decided p l honest t.0 in
      ((0, a.1.begun.0, (J p).bit, a.1.begun.1), all_shut p a t.0)

  at_last : (p : ℕ) → p < n → Honest n held c log p → Started n held c log p → shuts p log ≡ rounds_of n → (v : ℕ) × Shows n held p log v
  at_last p l honest begun all =
      let a = awake_by p begun.0 (started begun.1 begun.2) l honest begun.3 in
      ((ran n held p log).preferred, ⊎_elim (λ t. ap (λ (b : Bool). answer.Verdict (cond b (Some (ran n held p log).preferred) None)) t) (λ f. absurd (omega (arith, a.0.going f, journal_rounds d p log))) (cases_Bool (is_decided (ran n held p log).stage)))

pub promise_kept : PromiseKept
promise_kept n held c log course = record {
  one_verdict = one_verdict n held c log course 0 (omega arith);
  shared_bit = λ b all p v l stands shows.
      let begun = (in_time n held c log course 0 p v l (standing_honest n held c log course 0 p stands) shows).0 in
      shared_bit n held c log course b (bit_small b all p l stands begun) all p v l stands shows;
  in_time = in_time n held c log course 0;
  at_last = at_last n held c log course 0;
}
  where
    bit_small : (b : ℕ) → ((p k m x : ℕ) → p < n → Honest n held c log p → Did p k (started m x) log → x ≡ b) → (p : ℕ) → p < n → standing c p ≡ true → Started n held c log p → b ≤ 1
    bit_small b all p l stands begun =
        let honest = standing_honest n held c log course 0 p stands in
        let f = (awake_by n held c log course 0 p begun.0 (started begun.1 begun.2) l honest begun.3).1 in
        let e = all p 0 f.begun.0 _ l honest f.begun.1 in
        subst (λ (x : ℕ). x ≤ 1) e f.bit_small
