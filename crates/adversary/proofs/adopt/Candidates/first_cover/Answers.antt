use Rattle.std.proofs.Common.{rules, ◌≡◌, ◌-◌, length, ap, ◌∙◌, arith}
use Rattle.adversary.specs.Refusals.{first, second_from}
use Rattle.adversary.proofs.adopt.Candidates.first_cover.Goals as goal

pub returns : goal.returns
returns c =
    let n = c.args.self.now.processes in
    let ps = c.args.self.now.pairs.now in
    let all : length ps - 0 ≡ length ps = omega arith in
    c.first_from.ensures (second_from n ps) (λ k o below p. search rules) ∙ ap (first (second_from n ps) 0) all
