-- What is printed.
use Rattle.std.specs.Prelude.{ℕ, List, [], ◌∷◌, ◌++◌, Ok, Err, codes, decimal, Result}
use Rattle.agreement.specs.Rounds.{rounds_of}
use Rattle.refusal.specs.declared.script.Refusal.{Refusal}
use Rattle.refusal.specs.Texts.{refusal_words}
use Rattle.report.specs.Verdicts.{judgement}

-- `seats N rounds T`
abbrev pub crew_words : ℕ → List ℕ
crew_words n = codes "seats " ++ (decimal n ++ (codes " rounds " ++ decimal (rounds_of n)))

-- one line, with its line feed
abbrev pub crew_text : ℕ → List ℕ
crew_text n = crew_words n ++ 10 ∷ []

abbrev pub refusal_text : Refusal → List ℕ
refusal_text r = refusal_words r ++ 10 ∷ []

abbrev pub verdict_text : Result ℕ Refusal → List ℕ
verdict_text (Ok n) = crew_text n
verdict_text (Err r) = refusal_text r

-- the whole output for these bytes
abbrev pub report_of : List ℕ → List ℕ
report_of bs = verdict_text (judgement bs)
