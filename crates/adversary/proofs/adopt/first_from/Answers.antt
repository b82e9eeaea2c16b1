use Rattle.std.proofs.Common.{Some, None, sym, ◌∙◌}
use Rattle.adversary.specs.Search.{first_found, first_on}
use Rattle.adversary.proofs.adopt.first_from.Goals as goal

pub returns-in-Some : goal.returns-in-Some
returns-in-Some g c = λ f same.
    sym (first_found f c.loop-k.k c.args.end c.in-Some.found c.loop-k-test.true (sym (same c.loop-k.k (Some c.in-Some.found) c.loop-k-test.true c.in-Some.ensures))) ∙ c.loop-k.invariant f same

pub loop-k-preserved : goal.loop-k-preserved
loop-k-preserved g c = λ f same.
    sym (first_on f c.loop-k.k c.args.end c.loop-k-test.true (sym (same c.loop-k.k None c.loop-k-test.true c.in_default.ensures))) ∙ c.loop-k.invariant f same
