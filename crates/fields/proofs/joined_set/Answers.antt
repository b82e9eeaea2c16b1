use Rattle.std.proofs.Common.{rules, tests, refl, eqb, bit_or, Some}
use Rattle.std.proofs.lemmas.Iterator.Splits.{YieldsList-from_slice_split}
use Rattle.sets.specs.Sets.{set_of}
use Rattle.sets.specs.declared.process_set.ProcessSet.{ProcessSet}
use Rattle.fields.specs.Fields.{comma, member_in, union_in, then}
use Rattle.fields.proofs.Joining.{then_some, try_fold_from_yields_List}
use Rattle.fields.proofs.joined_set.Goals as goal

pub returns : goal.returns
returns c =
    try_fold_from_yields_List _ _ _ _ _ (λ (m : ProcessSet) p. then (member_in p) (λ (x : ProcessSet). Some (set_of (bit_or m.bits x.bits)))) union_in (λ a. refl) (λ a y ys. then_some (member_in y) (λ x. set_of (bit_or a.bits x.bits)) (λ b. union_in b ys)) (λ a x o q k. search (rules, tests)) _ c.try_fold.result c.try_fold.new.self c.try_fold.ensures.ran
    (YieldsList-from_slice_split _ (λ b. eqb b comma) c.args.field.now c.split.ensures.rest c.split.ensures.done c.split.ensures.closure (λ x b q k. search (rules, tests)))
