use Rattle.std.proofs.Common.{rules, ◌≡◌, ◌<◌, ◌≤◌, length, Some, None, Err, ap, ◌∙◌}
use Rattle.std.proofs.lemmas.Result.{err_from_is_err_and}
use Rattle.std.specs.Result.{result_err}
use Rattle.adversary.specs.Refusals.{most_pairs}
use Rattle.adversary.proofs.Blame.{judged}
use Rattle.adversary.proofs.Refusing.{answered_ok, answered_err}
use Rattle.adversary.proofs.adopt.list_of.Goals as goal

pub returns-in_err-check-clause-answer : goal.returns-in_err-check-clause-answer
returns-in_err-check-clause-answer c =
    let n = c.args.processes in
    let ps = c.args.pairs.now in
    let some : 0 < length ps = search rules in
    let few : length ps ≤ most_pairs = search rules in
    let size = answered_ok n c.in_ok-processes.processes _ c.in_ok-processes.ensures in
    let p = err_from_is_err_and c.from_residual-in_err-check.result c.from_residual-in_err-check.ensures.1 in
    let e = c.in_err-check.field-0.0 in
    let told : result_err c.from_residual-in_err-check.result ≡ Some e = ap result_err (p.1 ∙ ap Err p.2) in
    rw told (judged n ps (Some e) size.0 some few (rw (← size.1) (answered_err tt e _ c.in_err-check.ensures)))

pub returns-clause-answer : goal.returns-clause-answer
returns-clause-answer c =
    let n = c.args.processes in
    let ps = c.args.pairs.now in
    let some : 0 < length ps = search rules in
    let few : length ps ≤ most_pairs = search rules in
    let size = answered_ok n c.in_ok-processes.processes _ c.in_ok-processes.ensures in
    judged n ps None size.0 some few (rw (← size.1) (answered_ok tt tt _ c.in_ok-check.ensures).0)
