-- Which values a process may prefer after each kind of round: the step alone keeps them small.
use Rattle.std.proofs.Common.{◌≡◌, ℕ, zero, suc, ◌%◌, ◌≤◌, Bool, true, false, cond, not, Option, sym, refl, ap, subst, arith}
use Rattle.std.proofs.lemmas.Bool.{not-false}
use Rattle.adversary.specs.Laws.{Lawful}
use Rattle.agreement.specs.Step.{State, Kind, unify, exchange, king, kind_at, kind_of, step_by, step, holds_saying}
use Rattle.agreement.proofs.Pairs.{up_to_two, some_not_held}

-- the kind of a round and of the next
pub data Next (k : ℕ) : Type 0 where
  to_exchange : kind_of k ≡ unify → kind_of (suc k) ≡ exchange → Next k
  to_king : kind_of k ≡ exchange → kind_of (suc k) ≡ king → Next k
  to_unify : kind_of k ≡ king → kind_of (suc k) ≡ unify → Next k

pub next_kind : (k : ℕ) → Next k
next_kind k = by (k % 3) refl
  where
    by : (m : ℕ) → k % 3 ≡ m → Next k
    by zero e = let f : suc k % 3 ≡ 1 = omega arith in to_exchange (ap kind_at e) (ap kind_at f)
    by (suc zero) e = let f : suc k % 3 ≡ 2 = omega arith in to_king (ap kind_at e) (ap kind_at f)
    by (suc (suc zero)) e = let f : suc k % 3 ≡ 0 = omega arith in to_unify (ap kind_at e) (ap kind_at f)
    by (suc (suc (suc m))) e = absurd (omega arith)

-- what holds of a state before a round of this kind
abbrev pub Fine : Kind → State → Type 0
Fine unify s = s.preferred ≤ 1
Fine exchange s = s.preferred ≤ 2
Fine king s = (s.preferred ≤ 2) × (s.follows ≡ false → s.preferred ≤ 1)

-- the most that a process says in a round of this kind
pub fine_most : (s : State) (q : Kind) → Fine q s → s.preferred ≤ 2
fine_most s unify f = omega arith
fine_most s exchange f = f
fine_most s king f = f.0

module _ (n : ℕ) (held : ℕ → ℕ → Bool) where
  pub step_is : (k : ℕ) (q : Kind) (row : ℕ → Option ℕ) (s : State) → kind_of k ≡ q → step n held k row s ≡ step_by n held q k row s
  unfolding step
  step_is k q row s e = ap (λ (x : Kind). step_by n held x k row s) e

  module _ (laws : Lawful n held) where
    unify_fine : (k : ℕ) (row : ℕ → Option ℕ) (s : State) → (step_by n held unify k row s).preferred ≤ 2
    unify_fine k row s = grind arith

    -- a process without a value after the second round follows the king, or else three pairs would cover the crew
    exchange_fine : (k : ℕ) (row : ℕ → Option ℕ) (s : State) → Fine king (step_by n held exchange k row s)
    exchange_fine k row s = (most (h 0) (h 1), λ e. few (h 0) refl (h 1) refl e)
      where
        h : ℕ → Bool
        h w = holds_saying n held 2 row s.detected w

        most : (b d : Bool) → cond b (cond d 2 1) 0 ≤ 2
        most b d = grind arith

        few : (b : Bool) → h 0 ≡ b → (d : Bool) → h 1 ≡ d → not (h 2) ≡ false → cond b (cond d 2 1) 0 ≤ 1
        few true p true q e =
            absurd (some_not_held n held laws 2 row s.detected 0 1 2 up_to_two p q (not-false (h 2) e))
        few true p false q e = omega arith
        few false p d q e = omega arith

    told_fine : (k : ℕ) (row : ℕ → Option ℕ) (s : State) → Fine king s → (step_by n held king k row s).preferred ≤ 1
    told_fine k row s f = grind arith

    -- one round keeps it
    pub fine_next : (k : ℕ) (row : ℕ → Option ℕ) (s : State) → Fine (kind_of k) s → Fine (kind_of (suc k)) (step n held k row s)
    fine_next k row s f = by (next_kind k)
      where
        by : Next k → Fine (kind_of (suc k)) (step n held k row s)
        by (to_exchange p q) = subst (λ (x : Kind). Fine x (step n held k row s)) (sym q) (subst (λ (t : State). t.preferred ≤ 2) (sym (step_is k unify row s p)) (unify_fine k row s))
        by (to_king p q) = subst (λ (x : Kind). Fine x (step n held k row s)) (sym q) (subst (Fine king) (sym (step_is k exchange row s p)) (exchange_fine k row s))
        by (to_unify p q) = subst (λ (x : Kind). Fine x (step n held k row s)) (sym q) (subst (λ (t : State). t.preferred ≤ 1) (sym (step_is k king row s p)) (told_fine k row s (subst (λ (x : Kind). Fine x s) p f)))
