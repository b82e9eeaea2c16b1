-- One phase of three rounds: a value that all correct processes prefer stays, and a good phase makes them prefer one.
use Rattle.std.proofs.Common.{◌≡◌, ℕ, zero, suc, ◌<◌, ◌≤◌, min, Bool, true, false, cond, not, ◌⊎◌, Option, sym, refl, ap, ◌∙◌, subst, inl, inr, ⊎_elim, arith}
use Rattle.std.proofs.lemmas.Bool.{false_from_ne_true, cases_Bool, cases_eq, cond-true, cond-false, eq-eqb, not_from_true, not-false, true≢false}
use Rattle.history.specs.Protocols.{History}
use Rattle.history.proofs.Correct.{honest_by}
use Rattle.history.specs.Schedules.{Schedule, correct, failing, Keeps}
use Rattle.adversary.specs.Laws.{Lawful}
use Rattle.agreement.specs.Step.{State, Kind, unify, exchange, king, kind_of, step_by, due_by, protocol, reading, or_zero, holds_saying, king_of}
use Rattle.agreement.proofs.Bounds.{Fine, fine_most, step_is}
use Rattle.agreement.proofs.Hearing.{at, value_at, detected_at, at_next, Done, done_before, Quiet, Bits, fine, Got, hears_correct}
use Rattle.agreement.proofs.Pairs.{up_to_two, some_not_held}
use Rattle.agreement.proofs.Rows.{reading_word}
use Rattle.agreement.proofs.Voting.{Open, open_unify, open_exchange, liars_held, clash}

module _ (n : ℕ) (held : ℕ → ℕ → Bool) (h : History) (c : Schedule) (laws : Lawful n held) (kept : Keeps n (protocol n held) h c) (bits : Bits n held h c) (covered : held c.byzantine (failing n c) ≡ true) where
  abbrev V : ℕ → ℕ → ℕ
  V p k = value_at n held h c p k

  abbrev L : ℕ → ℕ → ℕ
  L p k = detected_at n held h c p k

  abbrev D : ℕ → ℕ → Type 0
  D p k = Done n held h c p k

  -- all correct processes prefer v after k rounds
  abbrev pub Unanimous : ℕ → ℕ → Type 0
  Unanimous k v = (r : ℕ) → D r k → V r k ≡ v

  module _ (k : ℕ) (one : kind_of k ≡ unify) (two : kind_of (suc k) ≡ exchange) (three : kind_of (suc (suc k)) ≡ king) where
    open_one : Open n held h c laws kept bits k 1
    open_one = open_unify n held h c laws kept bits k one

    open_two : Open n held h c laws kept bits (suc k) 2
    open_two = open_exchange n held h c laws kept bits (suc k) two

    -- whether p holds those that said w in the first round, and in the second
    abbrev C : ℕ → ℕ → Bool
    C p w = holds_saying n held 1 (h.row p k) (L p k) w

    abbrev E : ℕ → ℕ → Bool
    E p w = holds_saying n held 2 (h.row p (suc k)) (L p (suc k)) w

    after_one : (p : ℕ) → V p (suc k) ≡ cond (C p 1) 0 (cond (C p 0) 1 2)
    after_one p = ap (λ (s : State). s.preferred) (at_next n held h c p k ∙ step_is n held k unify (h.row p k) (at n held h c p k) one)

    after_two : (p : ℕ) → at n held h c p (suc (suc k)) ≡ step_by n held exchange (suc k) (h.row p (suc k)) (at n held h c p (suc k))
    after_two p = at_next n held h c p (suc k) ∙ step_is n held (suc k) exchange (h.row p (suc k)) (at n held h c p (suc k)) two

    value_two : (p : ℕ) → V p (suc (suc k)) ≡ cond (E p 0) (cond (E p 1) 2 1) 0
    value_two p = ap (λ (s : State). s.preferred) (after_two p)

    follows_two : (p : ℕ) → (at n held h c p (suc (suc k))).follows ≡ not (E p 2)
    follows_two p = ap (λ (s : State). s.follows) (after_two p)

    after_three : (p : ℕ) → V p (suc (suc (suc k))) ≡ cond (at n held h c p (suc (suc k))).follows (min 1 (or_zero (reading 2 (h.row p (suc (suc k)) (king_of n (suc (suc k))))))) (V p (suc (suc k)))
    after_three p = ap (λ (s : State). s.preferred) (at_next n held h c p (suc (suc k)) ∙ step_is n held (suc (suc k)) king (h.row p (suc (suc k))) (at n held h c p (suc (suc k))) three)

    -- not everybody's words can be held
    not_both_held : (p : ℕ) → C p 0 ≡ true → C p 1 ≡ true → ⊥
    not_both_held p x y = some_not_held n held laws 1 (h.row p k) (L p k) 0 1 1 (λ w l. ⊎_elim inl (⊎_elim (λ e. inr (inl e)) (λ e. absurd (omega arith))) (up_to_two w (omega arith))) x y y

    not_all_held : (p : ℕ) → E p 0 ≡ true → E p 1 ≡ true → E p 2 ≡ true → ⊥
    not_all_held p x y z = some_not_held n held laws 2 (h.row p (suc k)) (L p (suc k)) 0 1 2 up_to_two x y z

    -- a word that no correct process says is held, in the first and in the second round
    unsaid_one : (p x : ℕ) → D p (suc k) → ((r : ℕ) → D r k → V r k ≡ x → ⊥) → C p x ≡ true
    unsaid_one p x d none = liars_held n held h c laws kept bits covered k 1 open_one p x d none

    unsaid_two : (p x : ℕ) → D p (suc (suc k)) → ((r : ℕ) → D r (suc k) → V r (suc k) ≡ x → ⊥) → E p x ≡ true
    unsaid_two p x d none = liars_held n held h c laws kept bits covered (suc k) 2 open_two p x d none

    -- ---- persistence

    stays_one : (v : ℕ) → v ≤ 1 → Unanimous k v → Unanimous (suc k) v
    stays_one v l u p d =
        let other : (x : ℕ) → (x ≡ v → ⊥) → C p x ≡ true = λ x ne. unsaid_one p x d (λ r e f. omega (arith, u r e)) in
        grind (arith, after_one p, other 0, other 1, not_both_held p)

    -- in the second round the value stays, and the king is not followed
    stays_two : (v : ℕ) → v ≤ 1 → Unanimous (suc k) v → (p : ℕ) → D p (suc (suc k)) → (V p (suc (suc k)) ≡ v) × ((at n held h c p (suc (suc k))).follows ≡ false)
    stays_two v l u p d =
        let other : (x : ℕ) → (x ≡ v → ⊥) → E p x ≡ true = λ x ne. unsaid_two p x d (λ r e f. omega (arith, u r e)) in
        (grind (arith, value_two p, other 0, other 1, other 2, not_all_held p), follows_two p ∙ not_from_true (E p 2) (other 2 (omega arith)))

    before : (p j : ℕ) → D p (suc j) → D p j
    before p j d = done_before n held h c p (suc j) j (omega arith) d

    pub persistence : (v : ℕ) → v ≤ 1 → Unanimous k v → Unanimous (suc (suc (suc k))) v
    persistence v l u p d =
        let t = stays_two v l (stays_one v l u) p (before p (suc (suc k)) d) in
        after_three p ∙ cond-false (at n held h c p (suc (suc k))).follows _ _ t.1 ∙ t.0

    -- ---- a good phase

    abbrev leader : ℕ
    leader = king_of n (suc (suc k))

    module _ (king_known : leader < n) (king_right : correct c leader (suc (suc (suc k))) ≡ true) (quiet_one : Quiet n held h c k) (quiet_two : Quiet n held h c (suc k)) where
      bit_said : (r : ℕ) → D r k → (V r k ≡ 1) ⊎ (V r k ≡ 0)
      bit_said r d =
          let few = open_one.small r d.known (honest_by c r k d.right) in
          ⊎_elim inr (⊎_elim inl (λ e. absurd (omega arith))) (up_to_two (V r k) (omega arith))

      -- after the first round no two correct processes prefer different bits
      no_split : (p q : ℕ) → D p (suc k) → D q (suc k) → V p (suc k) ≡ 0 → V q (suc k) ≡ 1 → ⊥
      no_split p q dp dq zero_p one_q =
          clash n held h c laws kept bits covered k 1 open_one p q 1 0 dp dq quiet_one (λ r d right. bit_said r d) (zero_from (C p 1) (C p 0) (sym (after_one p) ∙ zero_p)) (one_from (C q 1) (C q 0) (sym (after_one q) ∙ one_q))
        where
          zero_from : (x y : Bool) → ◌≡◌ {A = ℕ} (cond x 0 (cond y 1 2)) 0 → x ≡ true
          zero_from x y e = grind arith

          one_from : (x y : Bool) → ◌≡◌ {A = ℕ} (cond x 0 (cond y 1 2)) 1 → y ≡ true
          one_from x y e = grind arith

      -- where one prefers v, no other prefers the other bit
      one_bit : (v w p q : ℕ) → v ≤ 1 → w ≤ 1 → (v ≡ w → ⊥) → D p (suc k) → D q (suc k) → V p (suc k) ≡ v → V q (suc k) ≡ w → ⊥
      one_bit v w p q a b ne dp dq e f = grind (arith, no_split p q dp dq, no_split q p dq dp)

      -- a bit that p prefers after the second round was said, so nobody said the other
      module _ (p v w : ℕ) (v_bit : v ≤ 1) (w_bit : w ≤ 1) (apart : v ≡ w → ⊥) (d : D p (suc (suc k))) (not_held : E p v ≡ false) where
        other_unsaid : (r : ℕ) → D r (suc k) → V r (suc k) ≡ w → ⊥
        other_unsaid r dr e =
            true≢false (sym (unsaid_two p v d (λ s ds f. one_bit v w s r v_bit w_bit apart ds dr f e)) ∙ not_held)

        said_v_or_2 : (r : ℕ) → D r (suc k) → correct c r (suc (suc k)) ≡ true → (V r (suc k) ≡ 2) ⊎ (V r (suc k) ≡ v)
        said_v_or_2 r dr right =
            ⊎_elim inr (λ ne. inl (let big = fine_most (at n held h c r (suc k)) (kind_of (suc k)) (fine n held h c laws kept bits r (suc k) dr.known (honest_by c r (suc k) dr.right)) in let no_w : V r (suc k) ≡ w → ⊥ = other_unsaid r dr in last_one (V r (suc k)) big ne no_w)) (cases_eq (V r (suc k)) v)
          where
            last_one : (x : ℕ) → x ≤ 2 → (x ≡ v → ⊥) → (x ≡ w → ⊥) → x ≡ 2
            last_one x l a b = omega arith

        -- everyone then prefers v
        all_prefer : E p 2 ≡ true → (q : ℕ) → D q (suc (suc k)) → V q (suc (suc k)) ≡ v
        all_prefer two_held q dq =
            prefers v w v_bit w_bit apart (value_two q)
            (unsaid_two q w dq other_unsaid)
            (false_from_ne_true (E q v) (λ t. clash n held h c laws kept bits covered (suc k) 2 open_two p q 2 v d dq quiet_two said_v_or_2 two_held t))
          where
            prefers : (v w : ℕ) → v ≤ 1 → w ≤ 1 → (v ≡ w → ⊥) → V q (suc (suc k)) ≡ cond (E q 0) (cond (E q 1) 2 1) 0 → E q w ≡ true → E q v ≡ false → V q (suc (suc k)) ≡ v
            prefers v w a b ne e x y = grind arith

      -- a process that does not follow the king has a bit, and everyone prefers it
      settled : (p : ℕ) → D p (suc (suc k)) → (at n held h c p (suc (suc k))).follows ≡ false → (V p (suc (suc k)) ≤ 1) × ((q : ℕ) → D q (suc (suc k)) → V q (suc (suc k)) ≡ V p (suc (suc k)))
      settled p d e =
          let honest = honest_by c p (suc (suc k)) d.right in
          let few = (subst (λ (q : Kind). Fine q (at n held h c p (suc (suc k)))) three (fine n held h c laws kept bits p (suc (suc k)) d.known honest)).1 e in
          let two_held = not-false (E p 2) (sym (follows_two p) ∙ e) in
          (few, by (V p (suc (suc k))) refl few two_held)
        where
          by : (v : ℕ) → V p (suc (suc k)) ≡ v → V p (suc (suc k)) ≤ 1 → E p 2 ≡ true → (q : ℕ) → D q (suc (suc k)) → V q (suc (suc k)) ≡ V p (suc (suc k))
          by zero z l t q dq = all_prefer p 0 1 (omega arith) (omega arith) (omega arith) d (first_zero (E p 0) (E p 1) (sym (value_two p) ∙ z)) t q dq ∙ sym z
            where
              first_zero : (x y : Bool) → ◌≡◌ {A = ℕ} (cond x (cond y 2 1) 0) 0 → x ≡ false
              first_zero x y e = grind arith
          by (suc zero) z l t q dq = all_prefer p 1 0 (omega arith) (omega arith) (omega arith) d (first_one (E p 0) (E p 1) (sym (value_two p) ∙ z)) t q dq ∙ sym z
            where
              first_one : (x y : Bool) → ◌≡◌ {A = ℕ} (cond x (cond y 2 1) 0) 1 → y ≡ false
              first_one x y e = grind arith
          by (suc (suc v)) z l t q dq = absurd (omega arith)

      -- the king is heard by everyone
      king_heard : (p : ℕ) → D p (suc (suc (suc k))) → Got n held h c laws kept bits p (suc (suc k)) leader
      king_heard p d =
          hears_correct n held h c laws kept bits p (suc (suc k)) leader d king_known (ap (λ (q : Kind). due_by n held q (suc (suc k)) leader) three ∙ eq-eqb leader leader refl) king_right

      king_value : (p : ℕ) → D p (suc (suc (suc k))) → (at n held h c p (suc (suc k))).follows ≡ true → V p (suc (suc (suc k))) ≡ min 1 (V leader (suc (suc k)))
      king_value p d e =
          let g = king_heard p d in
          let honest = honest_by c leader (suc (suc (suc k))) king_right in
          let small = fine_most (at n held h c leader (suc (suc k))) (kind_of (suc (suc k))) (fine n held h c laws kept bits leader (suc (suc k)) king_known honest) in
          after_three p ∙ cond-true (at n held h c p (suc (suc k))).follows _ _ e ∙ ap (λ (o : Option ℕ). min 1 (or_zero o)) (ap (reading 2) g.word ∙ reading_word 2 (V leader (suc (suc k))) small)

      own_value : (p : ℕ) → (at n held h c p (suc (suc k))).follows ≡ false → V p (suc (suc (suc k))) ≡ V p (suc (suc k))
      own_value p e = after_three p ∙ cond-false (at n held h c p (suc (suc k))).follows _ _ e

      -- one that does not follow, and any other
      beside : (p q : ℕ) → D p (suc (suc (suc k))) → D q (suc (suc (suc k))) → (at n held h c p (suc (suc k))).follows ≡ false → V p (suc (suc (suc k))) ≡ V q (suc (suc (suc k)))
      beside p q dp dq e =
          let s = settled p (before p (suc (suc k)) dp) e in
          ⊎_elim
          (λ f. let w = s.1 leader (king_heard q dq).sender in
          let m : min 1 (V leader (suc (suc k))) ≡ V p (suc (suc k)) = omega (arith, s.0) in
          own_value p e ∙ sym m ∙ sym (king_value q dq f))
          (λ f. own_value p e ∙ sym (s.1 q (before q (suc (suc k)) dq)) ∙ sym (own_value q f))
          (cases_Bool (at n held h c q (suc (suc k))).follows)

      pub good_phase : (p q : ℕ) → D p (suc (suc (suc k))) → D q (suc (suc (suc k))) → V p (suc (suc (suc k))) ≡ V q (suc (suc (suc k)))
      good_phase p q dp dq =
          ⊎_elim
          (λ e. ⊎_elim (λ f. king_value p dp e ∙ sym (king_value q dq f)) (λ f. sym (beside q p dq dp f)) (cases_Bool (at n held h c q (suc (suc k))).follows))
          (λ e. beside p q dp dq e)
          (cases_Bool (at n held h c p (suc (suc k))).follows)
