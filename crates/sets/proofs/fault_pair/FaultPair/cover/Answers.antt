use Rattle.std.proofs.Common.{sym, ap, ◌∙◌, arith}
use Rattle.std.proofs.lemmas.Bool.{lt-leb}
use Rattle.sets.specs.Sets.{subset, full}
use Rattle.sets.proofs.Counting.{full_too_long}
use Rattle.sets.proofs.fault_pair.FaultPair.cover.Goals as goal

-- no set of 16 bits has all of more processes
pub returns-else-count-le-MAX_PROCESSES : goal.returns-else-count-le-MAX_PROCESSES
returns-else-count-le-MAX_PROCESSES c =
    let n = c.args.count in
    let long = c.if-count-le-MAX_PROCESSES.false in
    let m = c.covered-covered.result.bits in
    lt-leb n 16 long ∙ sym (full_too_long 16 n m (omega arith) long) ∙ ap (subset (full n)) c.covered-covered.ensures
