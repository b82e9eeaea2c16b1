use Rattle.std.proofs.Common.{codes, refl, ap, ◌∙◌, arith, rules, tests}
use borrow.Author.Tests.{ltb-true, ltb-false}
use Rattle.fields.specs.Fields.{split, blank}
use Rattle.script.specs.Lines.{entry_of}
use Rattle.script.proofs.Words.{other_word, with_word}
use Rattle.script.proofs.line.Line.of.Goals as goal

-- the check finds this answer and the next alone, but only near the limit of its search
pub returns-in_ok-count-in-seats : goal.returns-in_ok-count-in-seats
returns-in_ok-count-in-seats c =
    (with_word c.in_ok-word.word.now (codes "seats") _ _ _ c.in_ok-word.ensures.pieces c.in_ok-count-in-seats.ensures (omega (arith, ltb-true, ltb-false)) (search rules), refl)

pub returns-in_ok-total-in-count : goal.returns-in_ok-total-in-count
returns-in_ok-total-in-count c =
    (with_word c.in_ok-word.word.now (codes "count") _ _ _ c.in_ok-word.ensures.pieces c.in_ok-total-in-count.ensures (omega (arith, ltb-true, ltb-false)) (search rules), refl)

pub returns-in_default : goal.returns-in_default
returns-in_default c =
    let word = c.in_ok-word.word.now in
    let fields = split blank c.in_ok-word.fields.now in
    ap entry_of c.in_ok-word.ensures.pieces ∙ other_word word fields (λ l a b d e f. grind (arith, tests)) (λ l a b d e. grind (arith, tests)) (λ l a b d e f. grind (arith, tests))
