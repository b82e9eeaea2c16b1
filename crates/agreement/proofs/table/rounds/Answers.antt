use Rattle.std.proofs.Common.{ℕ, ◌≡◌, ◌*◌, ◌<◌, ◌≤◌, List, [], ◌∷◌, get_or, sym, refl, ap, ◌∙◌, ⊎_elim, rules, arith}
use Rattle.std.proofs.lemmas.Bool.{cases_lt, cond-true, cond-false, le-leb, lt-leb}
use Rattle.std.proofs.lemmas.List.{get_or_past}
use Rattle.sets.specs.Sets.{limit}
use Rattle.agreement.specs.Rounds.{clog, rounds_of}
use Rattle.agreement.proofs.Logs.{clog_is, one_log}
use Rattle.agreement.proofs.Tables.{entry}
use Rattle.agreement.proofs.table.rounds.Goals as goal

table : List ℕ
table = 0 ∷ 0 ∷ 6 ∷ 18 ∷ 24 ∷ 45 ∷ 54 ∷ 63 ∷ 72 ∷ 108 ∷ 120 ∷ 132 ∷ 144 ∷ 156 ∷ 168 ∷ 180 ∷ 192 ∷ []

-- the table's rule is computed once, over the whole table
pub returns : goal.returns
unfolding table
returns c =
    let n = c.args.processes in
    let read : c.unwrap_or.result ≡ get_or table n 0 = search rules in
    let inside = λ (l : n ≤ limit). read ∙ entry rounds_of table refl n (omega arith) in
    record {
      value = ⊎_elim
          (λ (l : n < 17). inside (omega arith) ∙ sym (cond-true _ _ _ (le-leb n limit (omega arith))))
          (λ (l : 17 ≤ n). read ∙ get_or_past table n 0 l ∙ sym (cond-false _ _ _ (lt-leb n limit (omega arith))))
          (cases_lt n 17);
      rule = λ m h log. inside h ∙ ap (λ x. 3 * n * x) (one_log n (clog n) m (clog_is n) log);
    }
