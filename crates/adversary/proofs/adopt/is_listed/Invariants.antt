use Rattle.std.proofs.Common.{◌≡◌, drop}
use Rattle.sets.specs.Pairs.{byz, fail}
use Rattle.adversary.specs.Rules.{listed}
use Rattle.adversary.proofs.adopt.is_listed.Given as goal

-- what is left to look at decides the answer
abbrev pub invariant-loop-greater : goal.invariant-loop-greater
invariant-loop-greater l = listed (drop l.greater-index l.pairs) (byz l.pair) (fail l.pair) ≡ listed l.pairs (byz l.pair) (fail l.pair)
