use Rattle.sets.proofs.Counting.{ones_full, ones_or_and, ones_subset}
use Rattle.sets.proofs.Covering.{contained_members, members_contained, covers_each, each_covers}
use Rattle.sets.proofs.Masks.{has_or, has_and, has_full, has_mask, same_sets, subset_decides}
use Rattle.sets.proofs.process_set.masks_are_sets.Goals as goal

pub returns : goal.returns
returns c = record {
  union = has_or;
  intersection = has_and;
  first = has_full;
  passing = has_mask;
  same = same_sets;
  inside = subset_decides;
  containment = λ a' f' a f. (contained_members a' f' a f, members_contained a' f' a f);
  cover = λ n a₁ f₁ a₂ f₂ a₃ f₃. (covers_each a₁ f₁ a₂ f₂ a₃ f₃ n, each_covers a₁ f₁ a₂ f₂ a₃ f₃ n);
  count_first = ones_full;
  count_union = ones_or_and;
  count_inside = ones_subset;
}
