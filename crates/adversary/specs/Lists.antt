-- What a pair list has.
use Rattle.std.specs.Prelude.{◌≡◌, ℕ, List}
use Rattle.sets.specs.declared.fault_pair.FaultPair.{FaultPair}
use Rattle.adversary.specs.declared.pair_list.PairList.{PairList}

-- the listed pairs, in their order
abbrev pub pairs_of : PairList → List FaultPair
pairs_of l = l.pairs.items

-- the list l is for n processes and has these pairs
pub record Has (l : PairList) (n : ℕ) (ps : List FaultPair) : Type 0 where
  pub size : l.processes ≡ n
  pub pairs : pairs_of l ≡ ps
