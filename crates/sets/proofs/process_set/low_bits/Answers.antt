use Rattle.std.proofs.Common.{◌-◌, ◌<◌, ap, arith}
use Rattle.std.proofs.lemmas.Nat.{one_shl}
use Rattle.sets.specs.Sets.{full}
use Rattle.sets.proofs.process_set.low_bits.Goals as goal

pub returns : goal.returns
unfolding full
returns c =
    let small : c.args.count < 32 = omega arith in
    ap (λ x. x - 1) (one_shl c.args.count 32 small)
