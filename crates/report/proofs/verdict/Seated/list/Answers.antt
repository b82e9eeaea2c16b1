use Rattle.std.proofs.Common.{◌≡◌, suc, take, None, rules}
use Rattle.adversary.specs.Lists.{Has}
use Rattle.adversary.specs.Refusals.{most_pairs, list_refusal}
use Rattle.script.specs.Sheets.{sheet_of, pairs_of}
use Rattle.report.proofs.Few.{few_refusal, few_all}
use Rattle.report.proofs.verdict.Seated.list.Goals as goal

pub returns-in_err-lined : goal.returns-in_err-lined
returns-in_err-lined c = search (rules, few_refusal)

pub returns : goal.returns
returns c =
    let n = c.args.self.seats.value in
    let ps = pairs_of (sheet_of c.args.self.draft.now) in
    let none : list_refusal n (take (suc most_pairs) ps) ≡ None = search rules in
    let has : Has c.adopt.new.self n (take (suc most_pairs) ps) = search rules in
    let all : list_refusal n ps ≡ None = rw (← few_refusal n ps) none in
    (all, rw (few_all n ps all) at has)
