-- A rule that is asked about one pair more than a list has answers as if it were asked about them all.
use Rattle.std.proofs.Common.{◌≡◌, ℕ, suc, ◌==◌, ◌<◌, ◌≤◌, List, length, take, Some, None, ap, sym, ◌∙◌, ⊎_elim, arith}
use Rattle.std.proofs.lemmas.Bool.{cases_lt, lt-ltb, or_right}
use Rattle.std.proofs.lemmas.List.{take_all, length-take-le}
use Rattle.sets.specs.declared.fault_pair.FaultPair.{FaultPair}
use Rattle.refusal.specs.declared.rule.RuleRefusal.TheVariants.{PairCount}
use Rattle.adversary.specs.Refusals.{or_else, most_pairs, size_refusal, length_refusal, pairs_refusal, cover_refusal, list_refusal}
use Rattle.adversary.specs.Search.{or_else_none}

-- of too many pairs nothing is looked at
crowded : (n : ℕ) (ps : List FaultPair) → most_pairs < length ps → list_refusal n ps ≡ or_else (size_refusal n) (Some PairCount)
crowded n ps many =
    let told : length_refusal (length ps) ≡ Some PairCount = rw (or_right (length ps == 0) _ (lt-ltb most_pairs (length ps) many)) in
    ap (λ o. or_else (size_refusal n) (or_else o (or_else (pairs_refusal n 1 ps) (cover_refusal n ps)))) told

pub few_refusal : (n : ℕ) (ps : List FaultPair) → list_refusal n (take (suc most_pairs) ps) ≡ list_refusal n ps
few_refusal n ps =
    ⊎_elim
    (λ (many : most_pairs < length ps).
    let one_more = length-take-le (suc most_pairs) ps (omega arith) in
    crowded n (take (suc most_pairs) ps) (omega arith) ∙ sym (crowded n ps many))
    (λ (few : length ps ≤ most_pairs). ap (list_refusal n) (take_all (suc most_pairs) ps (omega arith)))
    (cases_lt most_pairs (length ps))

-- and where it is not refused, those were all
pub few_all : (n : ℕ) (ps : List FaultPair) → list_refusal n ps ≡ None → take (suc most_pairs) ps ≡ ps
few_all n ps none =
    ⊎_elim
    (λ (many : most_pairs < length ps).
    let told = or_else_none (size_refusal n) (Some PairCount) (sym (crowded n ps many) ∙ none) in
    let no = told.1 in absurd cc)
    (λ (few : length ps ≤ most_pairs). take_all (suc most_pairs) ps (omega arith))
    (cases_lt most_pairs (length ps))
