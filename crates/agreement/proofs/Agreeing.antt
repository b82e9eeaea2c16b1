-- The theorems: counting phases that are not good, and from there to agreement.
use Rattle.std.proofs.Common.{◌≡◌, ℕ, zero, suc, ◌+◌, ◌-◌, ◌*◌, ◌/◌, ◌%◌, ◌^◌, ◌<◌, ◌≤◌, Bool, true, false, cond, not, eqb, ltb, sym, ap, ◌∙◌, subst, ⊎_elim, mod-lt, pow-suc, arith}
use Rattle.std.proofs.lemmas.Bool.{cases_Bool, cases_eq, cases_lt, and_parts, and_from, or_left, true≢false}
use Rattle.sets.specs.Sets.{has}
use Rattle.history.specs.Protocols.{History, state}
use Rattle.history.proofs.Correct.{honest_by}
use Rattle.history.specs.Schedules.{Schedule, correct, Through}
use Rattle.history.proofs.Existence.{runs_exist}
use Rattle.agreement.specs.Rounds.{clog, rounds_of}
use Rattle.agreement.specs.Step.{State, Kind, unify, exchange, king, kind_at, kind_of, king_of, protocol}
use Rattle.agreement.specs.Theorems.{count, value_after, Course, Finished, Unanimous, Good, correct_count, Agreement, Validity, Persistence, GoodPhaseAgrees, FaultsHalve, PhaseEndsInABit, CoursesExist}
use Rattle.agreement.proofs.Bounds.{Fine}
use Rattle.agreement.proofs.Counts.{count_mono, count_same, count_most, count_two, count_round}
use Rattle.agreement.proofs.Hearing.{at, at_start, correct_before, fate, not_both, fine}
use Rattle.agreement.proofs.Logs.{clog_is}
use Rattle.agreement.proofs.Phases as phases

-- the kinds of the rounds of phase i
kind_one : (i : ℕ) → kind_of (3 * i) ≡ unify
kind_one i = let e : 3 * i % 3 ≡ 0 = omega arith in ap kind_at e

kind_two : (i : ℕ) → kind_of (suc (3 * i)) ≡ exchange
kind_two i = let e : suc (3 * i) % 3 ≡ 1 = omega arith in ap kind_at e

kind_three : (i : ℕ) → kind_of (suc (suc (3 * i))) ≡ king
kind_three i = let e : suc (suc (3 * i)) % 3 ≡ 2 = omega arith in ap kind_at e

three_more : (i : ℕ) → suc (suc (suc (3 * i))) ≡ 3 * i + 3
three_more i = omega arith

king_is : (n i : ℕ) → king_of n (suc (suc (3 * i))) ≡ i % n
king_is n i = let e : suc (suc (3 * i)) / 3 ≡ i = omega arith in ap (λ (x : ℕ). x % n) e

module _ (n : ℕ) (held : ℕ → ℕ → Bool) (h : History) (c : Schedule) (course : Course n held h c) where
  abbrev V : ℕ → ℕ → ℕ
  V p k = value_after n held h c p k

  bit_at_end : (i p : ℕ) → p < n → has c.byzantine p ≡ false → V p (3 * i) ≤ 1
  unfolding at
  bit_at_end i p known honest = subst (λ (q : Kind). Fine q (state (protocol n held) h p (3 * i))) (kind_one i) (fine n held h c course.lawful course.kept course.bits p (3 * i) known honest)

  persists : (i v : ℕ) → v ≤ 1 → Unanimous n held h c (3 * i) v → Unanimous n held h c (3 * i + 3) v
  unfolding at
  persists i v l u =
      subst (λ (k : ℕ). Unanimous n held h c k v) (three_more i)
      (phases.persistence n held h c course.lawful course.kept course.bits course.pair (3 * i) (kind_one i) (kind_two i) (kind_three i) v l u)

  -- through any number of phases
  persists_on : (d i v : ℕ) → v ≤ 1 → Unanimous n held h c (3 * i) v → Unanimous n held h c (3 * (d + i)) v
  persists_on zero i v l u = let e : i ≡ 0 + i = omega arith in subst (λ (x : ℕ). Unanimous n held h c (3 * x) v) e u
  persists_on (suc d) i v l u =
      let e : 3 * (d + i) + 3 ≡ 3 * (suc d + i) = omega arith in
      subst (λ (k : ℕ). Unanimous n held h c k v) e (persists (d + i) v l (persists_on d i v l u))

  good_agrees : (i : ℕ) → Good n held h c i → (p q : ℕ) → Through n h c p (3 * i + 3) → Through n h c q (3 * i + 3) → V p (3 * i + 3) ≡ V q (3 * i + 3)
  unfolding at
  good_agrees i g p q dp dq =
      let e = three_more i in
      let lead = king_is n i in
      let positive : 0 < n = omega (arith, dp.known) in
      subst (λ (k : ℕ). (Through n h c p k → Through n h c q k → V p k ≡ V q k)) e
      (λ x y. phases.good_phase n held h c course.lawful course.kept course.bits course.pair (3 * i) (kind_one i) (kind_two i) (kind_three i)
      (subst (λ (k : ℕ). k < n) (sym lead) (mod-lt i positive))
      (subst (λ (k : ℕ). correct c (king_of n (suc (suc (3 * i)))) k ≡ true) (sym e) (subst (λ (r : ℕ). correct c r (3 * i + 3) ≡ true) (sym lead) g.king_right))
      (λ r known honest last. (g.quiet r known honest).0 (omega arith))
      (λ r known honest last. (g.quiet r known honest).1 (omega arith))
      p q x y)
      dp dq

  -- ---- counting

  abbrev N : ℕ → ℕ
  N i = correct_count n held h c i

  fewer : (i j : ℕ) → i ≤ j → N j ≤ N i
  fewer i j l = count_mono n (λ r. correct c r (3 * j)) (λ r. correct c r (3 * i)) (λ x m e. correct_before n held h c x (3 * j) (3 * i) (omega arith) e)

  -- a phase whose king is correct at its end, and in which nobody is lost, is good
  good_if : (i : ℕ) → correct c (i % n) (3 * suc i) ≡ true → N i ≤ N (suc i) → Good n held h c i
  good_if i right same =
      record {
        king_right = let e : 3 * suc i ≡ 3 * i + 3 = omega arith in subst (λ (k : ℕ). correct c (i % n) k ≡ true) e right;
        quiet = λ r known honest. (λ last. lost r known honest (omega arith) (omega arith), λ last. lost r known honest (omega arith) (omega arith));
      }
    where
      lost : (r : ℕ) → r < n → has c.byzantine r ≡ false → 3 * i < c.last r → c.last r ≤ 3 * i + 2 → ⊥
      lost r known honest low high =
          let before : correct c r (3 * i) ≡ true = ⊎_elim (λ e. e) (λ f. absurd (omega (arith, f.1))) (fate n held h c r (3 * i) honest) in
          let after = count_same n (λ r. correct c r (3 * suc i)) (λ r. correct c r (3 * i)) (λ x m e. correct_before n held h c x (3 * suc i) (3 * i) (omega arith) e) same r known before in
          still r honest after low high
        where
          still : (r : ℕ) → has c.byzantine r ≡ false → correct c r (3 * suc i) ≡ true → 3 * i < c.last r → c.last r ≤ 3 * i + 2 → ⊥
          still r honest e low high = not_both n held h c r (3 * suc i) e (omega arith, omega arith)

  -- n phases from s on, none of them good
  module _ (positive : 0 < n) (s : ℕ) (none : (i : ℕ) → s ≤ i → i < s + n → Good n held h c i → ⊥) where
    -- whether the king of phase s + j is correct at its end
    king_stands : ℕ → Bool
    king_stands j = correct c ((s + j) % n) (3 * suc (s + j))

    -- each phase has a king that is not correct at its end, or loses a correct process
    one_phase : (j : ℕ) → j < n → cond (king_stands j) 1 0 + N (suc (s + j)) ≤ N (s + j)
    unfolding king_stands
    one_phase j l =
        ⊎_elim
        (λ t. let lost : N (suc (s + j)) < N (s + j) = ⊎_elim (λ x. x) (λ (x : N (s + j) ≤ N (suc (s + j))). absurd (none (s + j) (omega arith) (omega arith) (good_if (s + j) t x))) (cases_lt (N (suc (s + j))) (N (s + j))) in
        let w = ap (λ (b : Bool). cond b 1 0) t in let w' : ◌≡◌ {A = ℕ} (cond (correct c ((s + j) % n) (3 * suc (s + j))) 1 0) 1 = w in omega arith)
        (λ f. let w : ◌≡◌ {A = ℕ} (cond (correct c ((s + j) % n) (3 * suc (s + j))) 1 0) 0 = ap (λ (b : Bool). cond b 1 0) f in omega (arith, fewer (s + j) (suc (s + j)) (omega arith)))
        (cases_Bool (correct c ((s + j) % n) (3 * suc (s + j))))

    phases_cost : (j : ℕ) → j ≤ n → count j king_stands + N (s + j) ≤ N s
    unfolding count
    phases_cost zero l = let e : s + 0 ≡ s = omega arith in let t = ap N e in omega arith
    phases_cost (suc j) l =
        let e : s + suc j ≡ suc (s + j) = omega arith in
        let t = ap N e in
        omega (arith, one_phase j (omega arith), phases_cost j (omega arith))

    -- whoever is correct at the end was a king once
    kings_enough : N (s + n) ≤ count n king_stands
    unfolding king_stands
    kings_enough =
        let P : ℕ → Bool = λ x. correct c x (3 * (s + n)) in
        let round = count_round n positive P s in
        let more = count_mono n (λ j. P ((s + j) % n)) (λ j. correct c ((s + j) % n) (3 * suc (s + j))) (λ j l e. correct_before n held h c ((s + j) % n) (3 * (s + n)) (3 * suc (s + j)) (omega arith) e) in
        omega arith

    halved : 2 * N (s + n) ≤ N s
    halved = omega (arith, phases_cost n (omega arith), kings_enough)

  -- ---- the end

  -- without a good phase, l rounds of n phases leave few correct processes
  few_left : (l d : ℕ) → 0 < n → d + l ≡ clog n → ((i : ℕ) → i < l * n → Good n held h c i → ⊥) → N (l * n) ≤ 2 ^ d
  few_left zero d some e none =
      let same : d ≡ clog n = omega arith in
      subst (λ (x : ℕ). N (0 * n) ≤ 2 ^ x) (sym same) (omega (arith, count_most n (λ r. correct c r (3 * (0 * n))), (clog_is n).enough))
  few_left (suc l) d some e none =
      let step : l * n + n ≡ suc l * n = omega arith in
      let half = halved some (l * n) (λ i low high. none i (omega arith)) in
      let rest = few_left l (suc d) some (omega arith) (λ i m. none i (omega arith)) in
      let t = ap N step in
      omega (arith, pow-suc 2 d)

  through_end : (p k : ℕ) → Finished n held h c p → k ≤ rounds_of n → Through n h c p k
  through_end p k f l =
      let q = and_parts (not (has c.byzantine p)) _ f.stands in
      record { known = f.known; closed = omega (arith, f.closed); right = and_from (not (has c.byzantine p)) _ q.0 (or_left (eqb (c.last p) 0) (ltb k (c.last p)) q.1) }

  all_rounds : 3 * (clog n * n) ≡ rounds_of n
  all_rounds = omega arith

  -- after a good phase the value is one, to the end
  good_settles : (p q i : ℕ) → Finished n held h c p → Finished n held h c q → i < clog n * n → Good n held h c i → V p (rounds_of n) ≡ V q (rounds_of n)
  good_settles p q i fp fq l g =
      let k = clog n * n in
      let d = k - suc i in
      let e : 3 * suc i ≡ 3 * i + 3 = omega arith in
      let end : d + suc i ≡ k = omega arith in
      let honest = honest_by c p 0 (through_end p 0 fp (omega arith)).right in
      let u : Unanimous n held h c (3 * suc i) (V p (3 * suc i)) =
      λ r t. subst (λ (x : ℕ). (Through n h c r x → Through n h c p x → V r x ≡ V p x)) (sym e) (good_agrees i g r p) t (through_end p (3 * suc i) fp (omega (arith, all_rounds))) in
      let late : Unanimous n held h c (rounds_of n) (V p (3 * suc i)) =
      subst (λ (x : ℕ). Unanimous n held h c x (V p (3 * suc i))) (ap (λ (x : ℕ). 3 * x) end ∙ all_rounds) (persists_on d (suc i) (V p (3 * suc i)) (bit_at_end (suc i) p fp.known honest) u) in
      late p (through_end p (rounds_of n) fp (omega arith)) ∙ sym (late q (through_end q (rounds_of n) fq (omega arith)))

  agrees : (p q : ℕ) → Finished n held h c p → Finished n held h c q → V p (rounds_of n) ≡ V q (rounds_of n)
  agrees p q fp fq =
      ⊎_elim (λ e. e)
      (λ ne. absurd
      (let different : p ≡ q → ⊥ = λ e. ne (ap (λ (x : ℕ). V x (rounds_of n)) e) in
      let few = few_left (clog n) 0 (omega (arith, fp.known)) (omega arith) (λ i l g. ne (good_settles p q i fp fq l g)) in
      let end = all_rounds in
      let right : (r : ℕ) → Finished n held h c r → correct c r (3 * (clog n * n)) ≡ true = λ r f. (through_end r (3 * (clog n * n)) f (omega arith)).right in
      omega (arith, few, count_two n (λ r. correct c r (3 * (clog n * n))) p q different fp.known fq.known (right p fp) (right q fq))))
      (cases_eq (V p (rounds_of n)) (V q (rounds_of n)))

  keeps_bit : (b : ℕ) → ((r : ℕ) → r < n → has c.byzantine r ≡ false → h.start r ≡ b) → (p : ℕ) → Finished n held h c p → V p (rounds_of n) ≡ b
  unfolding at
  keeps_bit b shared p f =
      let honest = honest_by c p 0 (through_end p 0 f (omega arith)).right in
      let few : b ≤ 1 = subst (λ (x : ℕ). x ≤ 1) (shared p f.known honest) (course.bits p f.known honest) in
      let u : Unanimous n held h c (3 * 0) b = λ r t. (at_start n held h c r).0 ∙ shared r t.known (honest_by c r 0 t.right) in
      let end : clog n * n + 0 ≡ clog n * n = omega arith in
      let late : Unanimous n held h c (rounds_of n) b = subst (λ (x : ℕ). Unanimous n held h c x b) (ap (λ (x : ℕ). 3 * x) end ∙ all_rounds) (persists_on (clog n * n) 0 b few u) in
      late p (through_end p (rounds_of n) f (omega arith))

pub agreement : Agreement
agreement n held h c course p q fp fq = agrees n held h c course p q fp fq

pub validity : Validity
validity n held h c course b shared p f = keeps_bit n held h c course b shared p f

pub persistence : Persistence
persistence n held h c course i v l u = persists n held h c course i v l u

pub good_phase_agrees : GoodPhaseAgrees
good_phase_agrees n held h c course i g p q dp dq = good_agrees n held h c course i g p q dp dq

pub faults_halve : FaultsHalve
faults_halve n held h c course s some none = halved n held h c course some s none

pub phase_ends_in_a_bit : PhaseEndsInABit
phase_ends_in_a_bit n held h c course i p known honest = bit_at_end n held h c course i p known honest

pub courses_exist : CoursesExist
unfolding protocol
courses_exist n held start c lies lost lawful pair bits =
    let r = runs_exist State n (protocol n held) (rounds_of n) start c lies lost in
    let h = r.0 in
    (h, record { lawful = lawful; kept = r.1.kept; pair = pair; bits = λ q known honest. subst (λ (x : ℕ). x ≤ 1) (sym (r.1.begins q)) (bits q known honest) }, r.1, λ p. ⊎_elim (λ e. e) (λ t. absurd (true≢false (sym t.1))) (r.1.ends p))
