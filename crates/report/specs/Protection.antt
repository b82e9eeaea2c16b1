-- What it means that a script's rule is accepted: the pairs that it holds keep the laws of a fault rule.
use Rattle.std.specs.Prelude.{◌≡◌, ℕ, Bool, true, List, [], ◌∷◌, Some, None, Ok, Option}
use Rattle.sets.specs.declared.fault_pair.FaultPair.{FaultPair}
use Rattle.adversary.specs.Laws.{Sized, Lawful}
use Rattle.adversary.specs.Rules.{listed, within, both}
use Rattle.script.specs.declared.line.Counts.{Counts}
use Rattle.script.specs.Sheets.{Sheet, pairs_of, counts_of, script_read}

-- the pairs that n processes with these listed pairs and these counts hold: what each part that is there holds
abbrev pub holding : ℕ → List FaultPair → Option Counts → ℕ → ℕ → Bool
holding n [] None = λ a f. true
holding n [] (Some c) = within n c.total c.byzantine
holding n (p ∷ ps) None = listed (p ∷ ps)
holding n (p ∷ ps) (Some c) = both (listed (p ∷ ps)) (within n c.total c.byzantine)

-- n processes are protected under the rule of these bytes: whatever they give, it is a lawful rule for n
pub record Protected (bs : List ℕ) (n : ℕ) : Type 0 where
  pub size : Sized n
  pub laws : (s : Sheet) → script_read bs ≡ Ok s → Lawful n (holding n (pairs_of s) (counts_of s))
