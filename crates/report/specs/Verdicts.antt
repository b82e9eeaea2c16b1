-- Whether the rule of a script is accepted.
use Rattle.std.specs.Prelude.{ℕ, ◌-◌, Bool, true, false, cond, List, [], ◌∷◌, Some, None, Ok, Err, Option, Result, option_map, slice_get}
use Rattle.sets.specs.declared.fault_pair.FaultPair.{FaultPair}
use Rattle.adversary.specs.Refusals.{or_else, list_refusal, threshold_refusal}
use Rattle.refusal.specs.declared.rule.RuleRefusal.{RuleRefusal}
use Rattle.refusal.specs.declared.rule.RuleRefusal.TheVariants.{Processes, PairCount, AboveProcesses, InBothSets, Cover, ByzantineAboveTotal, TotalTooHigh}
use Rattle.script.specs.declared.line.Counts.{Counts}
use Rattle.script.specs.declared.located.Located.{Located}
use Rattle.refusal.specs.declared.script.Cause.TheVariants.{Misplaced, Rule}
use Rattle.refusal.specs.declared.script.Refusal.{Refusal}
use Rattle.refusal.specs.Numbers.{at_line}
use Rattle.script.specs.Refusals.{and_then}
use Rattle.script.specs.Sheets.{Sheet, pairs_of, counts_of, script_read}

-- the line of the pair at place i, and that of the counts
abbrev pub pair_line : Sheet → ℕ → Option ℕ
pair_line s i = option_map (λ p. p.line) (slice_get s.pairs (i - 1))

abbrev pub count_line : Sheet → Option ℕ
count_line s = option_map (λ c. c.line) s.count

-- the line that a rule's refusal gets: that of the number, of the pair or of the counts, else none
abbrev pub rule_line : Sheet → ℕ → RuleRefusal → Option ℕ
rule_line s k Processes = Some k
rule_line s k PairCount = None
rule_line s k (AboveProcesses i) = pair_line s i
rule_line s k (InBothSets i) = pair_line s i
rule_line s k (Cover i j l) = None
rule_line s k ByzantineAboveTotal = count_line s
rule_line s k TotalTooHigh = count_line s

-- the pairs, where there are any
abbrev pub pairs_part : ℕ → List FaultPair → Option RuleRefusal
pairs_part n [] = None
pairs_part n (p ∷ ps) = list_refusal n (p ∷ ps)

-- the counts, where there are any
abbrev pub count_part : ℕ → Option Counts → Option RuleRefusal
count_part n None = None
count_part n (Some c) = threshold_refusal n c.total c.byzantine

-- whether there is no rule at all
abbrev pub ruleless : List FaultPair → Option Counts → Bool
ruleless [] None = true
ruleless [] (Some c) = false
ruleless (p ∷ ps) c = false

-- the number of processes, or the rule's refusal with its line
abbrev pub settled : Sheet → Located ℕ → Option RuleRefusal → Result ℕ Refusal
settled s q None = Ok q.value
settled s q (Some e) = Err (at_line (Rule e) (rule_line s q.line e))

-- what is missing comes first: the number, then the rule; then the list, then the counts
abbrev pub judged_with : Sheet → Option (Located ℕ) → Result ℕ Refusal
judged_with s None = Err (at_line Misplaced None)
judged_with s (Some q) =
    cond (ruleless (pairs_of s) (counts_of s)) (Err (at_line Misplaced None))
    (settled s q (or_else (pairs_part q.value (pairs_of s)) (count_part q.value (counts_of s))))

abbrev pub judged : Sheet → Result ℕ Refusal
judged s = judged_with s s.seats

-- the number of processes of an accepted script, or its refusal
abbrev pub judgement : List ℕ → Result ℕ Refusal
judgement bs = and_then (script_read bs) judged
