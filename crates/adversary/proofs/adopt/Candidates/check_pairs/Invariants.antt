use Rattle.std.proofs.Common.{◌≡◌, suc, drop}
use Rattle.adversary.specs.Refusals.{pairs_refusal}
use Rattle.adversary.proofs.adopt.Candidates.check_pairs.Given as goal

-- what is left to check decides the answer
abbrev pub invariant-loop-index : goal.invariant-loop-index
invariant-loop-index l = pairs_refusal l.self.processes (suc l.index) (drop l.index l.self.pairs.now) ≡ pairs_refusal l.self.processes 1 l.self.pairs.now
