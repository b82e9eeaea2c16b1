use Rattle.std.proofs.Common.{◌≡◌, Ok, Result, ap, ◌∙◌}
use Rattle.script.specs.Refusals.{and_then}
use Rattle.script.specs.Sheets.{Sheet, sheet_of, script_read}
use Rattle.report.specs.Verdicts.{judged}
use Rattle.report.proofs.Protecting.{protecting}
use Rattle.report.proofs.output.judge.Goals as goal

pub returns-clause-protected : goal.returns-clause-protected
returns-clause-protected c =
    let read : script_read c.args.script.now ≡ Ok (sheet_of c.in_ok-draft.draft) = c.in_ok-draft.ensures in
    protecting _ _ (ap (λ (x : Result Sheet _). and_then x judged) read ∙ c.in_ok-judge_draft.ensures)
