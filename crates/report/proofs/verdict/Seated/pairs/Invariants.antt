use Rattle.std.proofs.Common.{◌≡◌, suc, ◌+◌, ◌++◌, length, map, take}
use Rattle.std.specs.Iterator.Adapters.{take_count, take_source}
use Rattle.std.specs.Slice.Iter.{iter_rest}
use Rattle.adversary.specs.Refusals.{most_pairs}
use Rattle.script.specs.Sheets.{sheet_of, pairs_of}
use Rattle.report.proofs.verdict.Seated.pairs.Given as goal

-- what is left to take fits, and makes up the answer
abbrev pub invariant-loop-pair : goal.invariant-loop-pair
invariant-loop-pair l =
    let left = take (take_count l.pair-iterator) (map (λ p. p.value) (iter_rest (take_source l.pair-iterator))) in
    record {
      can : (goal.iterator-loop-pair).can_next l.pair-iterator;
      finite : (goal.iterator-loop-pair).is_finite l.pair-iterator;
      room : length l.pairs.items + take_count l.pair-iterator ≡ suc most_pairs;
      left : l.pairs.items ++ left ≡ take (suc most_pairs) (pairs_of (sheet_of l.self.draft.now));
    }
