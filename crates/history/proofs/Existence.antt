-- Every schedule is kept by a history: the rounds are run one after another, and words go as the schedule says.
use Rattle.std.proofs.Common.{◌≡◌, ℕ, zero, suc, ◌<◌, ◌≤◌, Bool, true, false, cond, not, eqb, ◌⊎◌, Some, None, Option, sym, refl, ap, ◌∙◌, subst, inl, inr, ⊎_elim, arith}
use Rattle.std.proofs.lemmas.Bool.{cases_Bool, cases_lt, cond-true, cond-false, and_right, or_from, eq-eqb, ne_eqb, le-ltb}
use Rattle.sets.specs.Sets.{has}
use Rattle.history.specs.Claims.{Runs, RunsExist}
use Rattle.history.specs.Runs as going
use Rattle.history.specs.Protocols.{Protocol, History, state}
use Rattle.history.proofs.Correct.{honest_by}
use Rattle.history.specs.Schedules.{Schedule, correct, Heard, Keeps}

module _ {S : Type 0} (a : Protocol S) (start : ℕ → ℕ) (c : Schedule) (lies : ℕ → ℕ → ℕ → Option ℕ) (lost : ℕ → ℕ → ℕ → Bool) where
  abbrev said : ℕ → S → Option ℕ
  said = going.said a start c lies lost

  abbrev hears : ℕ → ℕ → ℕ → S → Option ℕ
  hears = going.hears a start c lies lost

  abbrev states : ℕ → ℕ → S
  states = going.states a start c lies lost

  abbrev shuts : ℕ → ℕ → ℕ
  shuts = going.shuts a start c lies lost

  abbrev run : ℕ → History
  run = going.run a start c lies lost

  -- the states of the history are those that it was made from
  pub state_is : (rounds p k : ℕ) → state a (run rounds) p k ≡ states k p
  unfolding state going.states going.run
  state_is rounds p zero = refl
  state_is rounds p (suc k) =
      let e = state_is rounds p k in
      ap (λ (s : S). cond (a.over s) s (a.next k (λ r. hears k p r (states k r)) s)) e

  -- a stopped process stays as it is
  stays : (p k : ℕ) → a.over (states k p) ≡ true → states (suc k) p ≡ states k p
  unfolding going.states
  stays p k e = cond-true (a.over (states k p)) _ _ e

  ran_on : (p k : ℕ) → a.over (states (suc k) p) ≡ false → a.over (states k p) ≡ false
  ran_on p k e = grind (arith, stays p k)

  -- who has not stopped by k had not stopped before
  ran : (p k j : ℕ) → a.over (states k p) ≡ false → j ≤ k → a.over (states j p) ≡ false
  ran p zero j e h = let z : 0 ≡ j = omega arith in subst (λ (x : ℕ). a.over (states x p) ≡ false) z e
  ran p (suc k) j e h =
      ⊎_elim
      (λ (l : j < suc k). ran p k j (ran_on p k e) (omega arith))
      (λ (l : suc k ≤ j). let z : suc k ≡ j = omega arith in subst (λ (x : ℕ). a.over (states x p) ≡ false) z e)
      (cases_lt j (suc k))

  shuts_few : (p k : ℕ) → shuts p k ≤ k
  unfolding going.shuts
  shuts_few p zero = omega arith
  shuts_few p (suc k) = grind (arith, shuts_few p k)

  -- a process shuts just the rounds in which it has not stopped
  shut_running : (p k j : ℕ) → j < shuts p k → a.over (states j p) ≡ false
  unfolding going.shuts
  shut_running p zero j h = absurd (omega arith)
  shut_running p (suc k) j h = grind (arith, shut_running p k j, ran p k j)

  running_shut : (p k j : ℕ) → j < k → a.over (states j p) ≡ false → j < shuts p k
  unfolding going.shuts
  running_shut p zero j h e = absurd (omega arith)
  running_shut p (suc k) j h e = grind (arith, running_shut p k j, cases_lt j k)

  -- where it does not shut all, it has stopped
  stopped : (p k : ℕ) → (shuts p k ≡ k) ⊎ (a.over (states (shuts p k) p) ≡ true)
  unfolding going.shuts
  stopped p zero = inl refl
  stopped p (suc k) = grind (arith, stopped p k)

  -- what is heard from a process that is not Byzantine
  module _ (p k r : ℕ) (s : S) (honest : has c.byzantine r ≡ false) where
    hears_honest : hears k p r s ≡ cond (correct c r (suc k)) (said k s) (cond (eqb (c.last r) (suc k)) (cond (lost k r p) None (said k s)) None)
    unfolding going.hears
    hears_honest = cond-false (has c.byzantine r) _ _ honest

    hears_correct : correct c r (suc k) ≡ true → hears k p r s ≡ said k s
    hears_correct e = hears_honest ∙ cond-true (correct c r (suc k)) _ _ e

    -- a process is not correct in its last round, or after it
    not_correct : 0 < c.last r → c.last r ≤ suc k → correct c r (suc k) ≡ false
    not_correct some few = and_right (not (has c.byzantine r)) _ (or_from _ _ (ne_eqb (c.last r) 0 (omega arith)) (le-ltb (suc k) (c.last r) few))

    hears_last : c.last r ≡ suc k → hears k p r s ≡ cond (lost k r p) None (said k s)
    hears_last e =
        hears_honest ∙ cond-false (correct c r (suc k)) _ _ (not_correct (omega arith) (omega arith)) ∙ cond-true (eqb (c.last r) (suc k)) _ _ (eq-eqb (c.last r) (suc k) e)

    hears_later : 0 < c.last r → c.last r ≤ k → hears k p r s ≡ None
    hears_later some few =
        hears_honest ∙ cond-false (correct c r (suc k)) _ _ (not_correct some (omega arith)) ∙ cond-false (eqb (c.last r) (suc k)) _ _ (ne_eqb (c.last r) (suc k) (omega arith))

  byzantine_says : (p k r : ℕ) (s : S) → has c.byzantine r ≡ true → hears k p r s ≡ lies k r p
  unfolding going.hears
  byzantine_says p k r s e = cond-true (has c.byzantine r) _ _ e

  said_running : (k : ℕ) (s : S) → a.over s ≡ false → said k s ≡ Some (a.word k s)
  unfolding going.said
  said_running k s e = cond-false (a.over s) _ _ e

  said_over : (k : ℕ) (s : S) → a.over s ≡ true → said k s ≡ None
  unfolding going.said
  said_over k s e = cond-true (a.over s) _ _ e

  module _ (n rounds : ℕ) where
    -- a process that speaks is heard
    spoken : (p k r : ℕ) → k < shuts p rounds → a.over (states k r) ≡ false → hears k p r (states k r) ≡ said k (states k r) → Heard n a (run rounds) c p k r
    unfolding going.run
    spoken p k r closed running e =
        let same = state_is rounds r k in
        record {
          came = omega (arith, running_shut r rounds k (omega (arith, shuts_few p rounds)) running);
          running = ap a.over same ∙ running;
          got = e ∙ said_running k (states k r) running ∙ ap (λ (s : S). Some (a.word k s)) (sym same);
        }

    -- and one that has stopped is not
    heard_or_over : (p k r : ℕ) → k < shuts p rounds → hears k p r (states k r) ≡ said k (states k r) → Heard n a (run rounds) c p k r ⊎ ((a.over (state a (run rounds) r k) ≡ true) × (hears k p r (states k r) ≡ None))
    heard_or_over p k r closed e =
        ⊎_elim
        (λ t. inr (ap a.over (state_is rounds r k) ∙ t, e ∙ said_over k (states k r) t))
        (λ f. inl (spoken p k r closed f e))
        (cases_Bool (a.over (states k r)))

    keeps : Keeps n a (run rounds) c
    unfolding going.run
    keeps = record {
      own = λ p k known closed right owed.
          spoken p k p closed (shut_running p rounds k closed) (hears_correct p k p (states k p) (honest_by c p (suc k) right) right);
      heard = λ p k r m right. heard_or_over p k r m.closed (hears_correct p k r (states k r) (honest_by c r (suc k) right) right);
      last_word = λ p k r m honest e. grind (arith, hears_last p k r (states k r) honest e, heard_or_over p k r m.closed);
      later = λ p k r m honest some few. hears_later p k r (states k r) honest some few;
    }

    pub runs_so : Runs n a rounds start c lies lost (run rounds)
    unfolding going.run
    runs_so = record {
      begins = λ p. refl;
      kept = keeps;
      ends = λ p. ⊎_elim inl (λ t. inr (shuts_few p rounds, ap a.over (state_is rounds p (shuts p rounds)) ∙ t)) (stopped p rounds);
      lied = λ p k r e. byzantine_says p k r (states k r) e;
      dropped = λ p k r honest e l. hears_last p k r (states k r) honest e ∙ cond-true (lost k r p) _ _ l;
    }

pub runs_exist : (S : Type 0) → RunsExist S
runs_exist S n a rounds start c lies lost = (run a start c lies lost rounds, runs_so a start c lies lost n rounds)
