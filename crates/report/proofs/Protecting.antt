-- An accepted script gives a lawful rule.
use Rattle.std.proofs.Common.{◌≡◌, ℕ, Bool, true, false, cond, not, List, [], ◌∷◌, is_some, Some, None, Ok, Err, Option, Result, refl, ap, subst}
use Rattle.sets.specs.declared.fault_pair.FaultPair.{FaultPair}
use Rattle.refusal.specs.declared.rule.RuleRefusal.{RuleRefusal}
use Rattle.refusal.specs.declared.script.Refusal.{Refusal}
use Rattle.adversary.specs.Laws.{Sized, Lawful}
use Rattle.adversary.specs.Refusals.{list_refusal, threshold_refusal}
use Rattle.adversary.specs.Rules.{listed, within}
use Rattle.std.proofs.lemmas.Bool.{true≢false}
use Rattle.adversary.specs.ListLaws.{sized, adopted, list_lawful}
use Rattle.adversary.specs.Search.{or_else_none}
use Rattle.adversary.specs.ThresholdLaws.{accepted, threshold_lawful, both_lawful}
use Rattle.script.specs.declared.line.Counts.{Counts}
use Rattle.script.specs.declared.located.Located.{Located}
use Rattle.script.specs.Refusals.{and_then}
use Rattle.script.specs.Sheets.{Sheet, pairs_of, counts_of, script_read}
use Rattle.report.specs.Protection.{holding, Protected}
use Rattle.report.specs.Verdicts.{ruleless, pairs_part, count_part, settled, judged_with, judged, judgement}

-- n processes, and the laws of what they hold
abbrev Good : ℕ → List FaultPair → Option Counts → Type 0
Good n ps c = Sized n × Lawful n (holding n ps c)

listed_good : (n : ℕ) (ps : List FaultPair) → list_refusal n ps ≡ None → Sized n × Lawful n (λ a f. listed ps a f)
listed_good n ps e =
    let a = adopted n ps (ap (λ o. not (is_some o)) e) in
    (sized n a.size, list_lawful n ps a)

counted_good : (n t b : ℕ) → threshold_refusal n t b ≡ None → Sized n × Lawful n (within n t b)
counted_good n t b e =
    let a = accepted n t b (ap (λ o. not (is_some o)) e) in
    (sized n a.size, threshold_lawful n t b a.few)

-- the two parts, where neither is refused and not both are missing
parts_good : (n : ℕ) (ps : List FaultPair) (c : Option Counts) → ruleless ps c ≡ false → pairs_part n ps ≡ None → count_part n c ≡ None → Good n ps c
parts_good n [] None r p q = absurd (true≢false r)
parts_good n [] (Some c) r p q = counted_good n c.total c.byzantine q
parts_good n (x ∷ ps) None r p q = listed_good n (x ∷ ps) p
parts_good n (x ∷ ps) (Some c) r p q =
    let l = listed_good n (x ∷ ps) p in
    let t = counted_good n c.total c.byzantine q in
    (l.0, both_lawful n n (listed (x ∷ ps)) (within n c.total c.byzantine) l.1 t.1)

settled_ok : (s : Sheet) (q : Located ℕ) (o : Option RuleRefusal) (n : ℕ) → settled s q o ≡ Ok n → (o ≡ None) × (q.value ≡ n)
settled_ok s q None n e = (refl, cc)
settled_ok s q (Some r) n e = absurd cc

cond_ok : (b : Bool) (e : Refusal) (r : Result ℕ Refusal) (n : ℕ) → cond b (Err e) r ≡ Ok n → (b ≡ false) × (r ≡ Ok n)
cond_ok true e r n h = absurd cc
cond_ok false e r n h = (refl, h)

judged_good : (s : Sheet) (o : Option (Located ℕ)) (n : ℕ) → judged_with s o ≡ Ok n → Good n (pairs_of s) (counts_of s)
judged_good s None n e = absurd cc
judged_good s (Some q) n e =
    let a = cond_ok (ruleless (pairs_of s) (counts_of s)) _ _ n e in
    let b = settled_ok s q _ n a.1 in
    let c = or_else_none (pairs_part q.value (pairs_of s)) (count_part q.value (counts_of s)) b.0 in
    subst (λ m. Good m (pairs_of s) (counts_of s)) b.1 (parts_good q.value (pairs_of s) (counts_of s) a.0 c.0 c.1)

read_good : (bs : List ℕ) (r : Result Sheet Refusal) (n : ℕ) → script_read bs ≡ r → and_then r judged ≡ Ok n → Protected bs n
read_good bs (Ok s) n e h =
    let g = judged_good s s.seats n h in
    record { size = g.0; laws = λ s' e'. let same : s ≡ s' = cc in subst (λ (x : Sheet). Lawful n (holding n (pairs_of x) (counts_of x))) same g.1 }
read_good bs (Err x) n e h = absurd cc

pub protecting : (bs : List ℕ) (n : ℕ) → judgement bs ≡ Ok n → Protected bs n
protecting bs n e = read_good bs (script_read bs) n refl e
