use Rattle.std.proofs.Common.{◌≡◌, ◌+◌, ◌-◌, ◌≤◌, length}
use Rattle.std.specs.Iterator.Adapters.{zip_first, zip_second}
use Rattle.std.specs.Slice.Iter.{split_inclusive_rest}
use Rattle.fields.specs.Fields.{split, line_feed}
use Rattle.script.specs.Sheets.{sheet_of, lines_read, most_bytes}
use Rattle.script.proofs.draft.Draft.read_lines.Given as goal

-- what is left to read decides the answer, and each line has taken a byte
abbrev pub invariant-loop-line : goal.invariant-loop-line
invariant-loop-line l =
    let rest = split_inclusive_rest (zip_first l.line-iterator) in
    let next = (zip_second l.line-iterator).start in
    record {
      can : (goal.iterator-loop-line).can_next l.line-iterator;
      finite : (goal.iterator-loop-line).is_finite l.line-iterator;
      begun : 1 ≤ next;
      room : next + length rest ≤ most_bytes + 1;
      left : lines_read (sheet_of l.self) (next - 1) (split line_feed rest) ≡ lines_read (sheet_of l.fn.self) 0 (split line_feed l.script);
    }
