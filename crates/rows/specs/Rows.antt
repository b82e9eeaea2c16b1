-- Worked examples of the definitions.
use Rattle.std.specs.Prelude.{ℕ, Bool, false, not, ◌&&◌, List, [], ◌∷◌, is_some, Some, None, Option, ◌==◌, slice_index_or}
use Rattle.sets.specs.Pairs.{contained, pair_of}
use Rattle.adversary.specs.Rules.{within}
use Rattle.agreement.specs.Step.{State, step}
use Rattle.adversary.specs.Refusals.{list_refusal, threshold_refusal}
use Rattle.refusal.specs.Numbers.{rule_number, rule_place}
use Rattle.refusal.specs.declared.place.Place.{Place}
use Rattle.refusal.specs.declared.place.Place.TheVariants.{Nowhere, At, Three}
use Rattle.refusal.specs.declared.rule.RuleRefusal.{RuleRefusal}

-- whether a refusal comes with this number at these three places
abbrev at_three : Place → ℕ → ℕ → ℕ → Bool
at_three Nowhere i j k = false
at_three (At p) i j k = false
at_three (Three p q r) i j k = p == i && (q == j && r == k)

abbrev covered_at : Option RuleRefusal → ℕ → ℕ → ℕ → Bool
covered_at None i j k = false
covered_at (Some e) i j k = rule_number e == 5 && at_three (rule_place e) i j k

-- whether a refusal comes with this number
abbrev refused_with : Option RuleRefusal → ℕ → Bool
refused_with None n = false
refused_with (Some e) n = rule_number e == n

-- the sets {1}, {2}, {3}, {1, 2} and {2, 3} as masks
abbrev one : ℕ
one = 1

abbrev two : ℕ
two = 2

abbrev three : ℕ
three = 4

abbrev one_two : ℕ
one_two = 3

abbrev two_three : ℕ
two_three = 6

-- ({1}, {2, 3}) contains (∅, {1, 2}), and not ({2}, ∅)
abbrev containment : Bool
containment = contained 0 one_two one two_three && not (contained two 0 one two_three)

-- three liars of three cover the crew: 5 at 1, 2, 3
abbrev three_liars : Bool
three_liars = covered_at (list_refusal 3 (pair_of one 0 ∷ pair_of two 0 ∷ pair_of three 0 ∷ [])) 1 2 3

-- two that may fail together cover a crew of two: 5 at 1, 1, 1
abbrev both_fail : Bool
both_fail = covered_at (list_refusal 2 (pair_of 0 one_two ∷ [])) 1 1 1

-- two of which either may fail are adopted
abbrev either_fails : Bool
either_fails = not (is_some (list_refusal 2 (pair_of 0 one ∷ pair_of 0 two ∷ [])))

-- eight processes, three faulty, two of them Byzantine: accepted; four faulty: 7
abbrev counts : Bool
counts = not (is_some (threshold_refusal 8 3 2)) && refused_with (threshold_refusal 8 4 2) 7

-- four processes, of which one may be faulty in whatever way
abbrev one_of_four : ℕ → ℕ → Bool
one_of_four = within 4 1 1

-- a row of words heard, or nothing, from the first process on
abbrev heard : List (Option ℕ) → ℕ → Option ℕ
heard ws r = slice_index_or ws r None

-- a process that prefers 0 and has detected nobody
abbrev fresh : State
fresh = record { preferred = 0; detected = 0; follows = false }

-- first round, words 0, 0, 1 and none: process 4 is detected, and there is no value
abbrev divided : Bool
divided =
    let s : State = step 4 one_of_four 0 (heard (Some 0 ∷ Some 0 ∷ Some 1 ∷ None ∷ [])) fresh in
    (s.detected == 8) && s.preferred == 2

-- first round, words 0, 0, 0 and 1: the value is 0
abbrev nearly : Bool
nearly = (step 4 one_of_four 0 (heard (Some 0 ∷ Some 0 ∷ Some 0 ∷ Some 1 ∷ [])) fresh).preferred == 0

-- second round, words 0, 2, 2 and 2: there is no value, and the king, who then says 2, is followed: 1
abbrev by_the_king : Bool
by_the_king =
    let s : State = step 4 one_of_four 1 (heard (Some 0 ∷ Some 2 ∷ Some 2 ∷ Some 2 ∷ [])) fresh in
    (s.preferred == 2) && (s.follows && (step 4 one_of_four 2 (heard (Some 2 ∷ None ∷ None ∷ None ∷ [])) s).preferred == 1)

-- all of the above
unfoldable pub rows : Bool
rows = containment && (three_liars && (both_fail && (either_fails && (counts && (divided && (nearly && by_the_king))))))
