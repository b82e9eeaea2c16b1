use Rattle.std.proofs.Common.{refl}
use Rattle.sets.specs.Sets.{full}
use Rattle.adversary.proofs.pair_list.PairList.new.Goals as goal

pub invariant_of-result : goal.invariant_of-result
unfolding full
invariant_of-result c = record { lawful = rw (c.push.ensures.items, c.new-pairs.ensures) refl }
