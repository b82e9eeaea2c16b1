-- How refusals go through the steps of reading.
use Rattle.std.specs.Prelude.{◌≡◌, ℕ, List, Ok, Err, codes, MatchResult, Result}
use Rattle.refusal.specs.declared.script.Refusal.{Refusal}
use Rattle.refusal.specs.Texts.{refusal_words}
use Rattle.script.specs.declared.fault.Fault.{Fault}
use Rattle.script.specs.declared.fault.Fault.TheVariants.{Refused, Memory}

-- what a fault tells where it is not for want of memory
abbrev pub Refuses : Fault → (Refusal → Type 0) → Type 0
Refuses (Refused e) P = P e
Refuses Memory P = Unit {0}

-- a result is the answer that is wanted, as `seen` shows it, where memory suffices
abbrev pub Answers : {T A : Type 0} → Result T Fault → (T → A) → Result A Refusal → Type 0
Answers r seen wanted = MatchResult r (λ x. wanted ≡ Ok (seen x)) (λ f. Refuses f (λ e. wanted ≡ Err e))

-- how a fault is printed
abbrev pub fault_text : Fault → List ℕ
fault_text (Refused e) = refusal_words e
fault_text Memory = codes "out of memory"

-- one step after another, up to the first refusal
abbrev pub and_then : {A B : Type 0} → Result A Refusal → (A → Result B Refusal) → Result B Refusal
and_then (Ok x) f = f x
and_then (Err e) f = Err e
