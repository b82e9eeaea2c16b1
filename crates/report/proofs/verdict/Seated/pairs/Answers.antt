use Rattle.std.proofs.Common.{rules, add-one, append_assoc}
use Rattle.report.proofs.verdict.Seated.pairs.Goals as goal

pub loop-pair-preserved : goal.loop-pair-preserved
loop-pair-preserved c =
    let step = c.in-Some.ensures.steps in
    let left = rw (← step.1, step.0, add-one) at c.loop-pair.invariant.left in
    record { can = tt; finite = tt; room = search rules; left = rw (c.push.ensures.items, append_assoc) left }
