use Rattle.std.proofs.Common.{◌≡◌, ◌-◌, [], ◌∷◌, eqb, rules, tests, arith, sym, ap, ◌∙◌}
use Rattle.std.specs.Iterator.Adapters.{zip_first, zip_second}
use Rattle.std.specs.Slice.Iter.{split_inclusive_rest}
use Rattle.std.proofs.lemmas.Bool.Decides.{Decides-eqb}
use Rattle.std.proofs.lemmas.Fn.{always_returns_same}
use Rattle.std.proofs.lemmas.Slice.Eq.{strip_suffix_is}
use Rattle.fields.specs.Fields.{split, line_feed}
use Rattle.script.specs.declared.fault.Fault.TheVariants.{Refused}
use Rattle.script.specs.Sheets.{sheet_of, lines_read}
use Rattle.script.proofs.Reading.{handed, refuses_map, ReadsOn, reads_on}
use Rattle.script.proofs.draft.Draft.read_lines.Goals.{After-ok_or}
use Rattle.script.proofs.draft.Draft.read_lines.Goals as goal

-- what reading one piece more gives
read : (c : After-ok_or) → ReadsOn (sheet_of c.loop-line.self) ((zip_second c.loop-line.line-iterator).start - 1) c.in-Some.number (split_inclusive_rest (zip_first c.loop-line.line-iterator)) (split_inclusive_rest (zip_first c.next.new.self)) c.ok_or.result
read c =
    let step = c.in-Some.ensures.steps in
    let first = step.0.1.2 (λ b. eqb b line_feed) (always_returns_same _ _ _ (λ a r q k. search (rules, tests))) in
    rw c.ok_or.ensures.value
    (reads_on _ _ _ (omega (arith, c.loop-line.invariant.begun, step.1.0)) _ c.in-Some.line.now _ step.0.1.0 step.0.0 step.0.2 step.0.1.1 first.1 c.strip_suffix.result c.malformed.result
    (strip_suffix_is Decides-eqb c.in-Some.line.now (line_feed ∷ []) c.strip_suffix.result c.strip_suffix.ensures.cases)
    c.malformed.ensures)

pub returns-in_err-text : goal.returns-in_err-text
returns-in_err-text c =
    handed c.from_residual.result (Refused c.in_err-text.field-0.0) _ _ c.from_residual.ensures.1 (sym c.loop-line.invariant.left ∙ rw c.in_err-text.was at (read (goal.at.returns-in_err-text c).After-ok_or))

pub loop-line-preserved : goal.loop-line-preserved
loop-line-preserved c =
    let told = rw c.in_ok-text.was at (read (goal.at.loop-line-preserved c).After-ok_or) in
    let step = c.in-Some.ensures.steps in
    let s' = sheet_of c.read_line.new.self in
    let rest = split line_feed (split_inclusive_rest (zip_first c.next.new.self)) in
    let line : (zip_second c.next.new.self).start - 1 ≡ c.in-Some.number = omega (arith, step.1.0, step.1.1) in
    record {
      can = search rules;
      finite = search rules;
      begun = omega (arith, step.1.1);
      room = omega (arith, step.1.0, step.1.1, told.0, c.loop-line.invariant.room);
      left = ap (λ m. lines_read s' m rest) line ∙ sym (rw c.in_ok-read_line.ensures at told.1) ∙ c.loop-line.invariant.left;
    }

pub returns-in_err-read_line : goal.returns-in_err-read_line
returns-in_err-read_line c =
    let told = rw c.in_ok-text.was at (read (goal.at.returns-in_err-read_line c).After-ok_or) in
    handed c.from_residual-in_err-read_line.result c.in_err-read_line.field-0.0 _ _ c.from_residual-in_err-read_line.ensures.1
    (refuses_map c.in_err-read_line.field-0.0 _ _ (λ e h. sym c.loop-line.invariant.left ∙ rw h at told.1) c.in_err-read_line.ensures)
