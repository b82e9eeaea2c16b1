-- What a script gives, line after line, and what comes of it.
use Rattle.std.specs.Prelude.{ℕ, suc, Bool, cond, not, ◌||◌, List, [], ◌∷◌, ◌++◌, length, map, is_some, Some, None, Ok, Err, vec_items, Option, Result, nat_lt}
use Rattle.std.specs.Option.{option_map}
use Rattle.sets.specs.declared.fault_pair.FaultPair.{FaultPair}
use Rattle.script.specs.declared.draft.Draft.{Draft}
use Rattle.script.specs.declared.line.Counts.{Counts}
use Rattle.script.specs.declared.line.Entry.{Entry}
use Rattle.script.specs.declared.line.Entry.TheVariants as entry
use Rattle.script.specs.declared.located.Located.{Located}
use Rattle.refusal.specs.declared.script.Cause.TheVariants.{Malformed, Misplaced, TooLong}
use Rattle.refusal.specs.declared.script.Refusal.{Refusal}
use Rattle.fields.specs.Fields.{split, blank, line_feed}
use Rattle.script.specs.Lines.{entry_of}
use Rattle.refusal.specs.Numbers.{at_line}
use Rattle.script.specs.Refusals.{and_then}

-- what the lines so far have given, each with its line: the number of processes, the pairs, the counts
pub record Sheet : Type 0 where
  pub seats : Option (Located ℕ)
  pub pairs : List (Located FaultPair)
  pub count : Option (Located Counts)

abbrev pub empty_sheet : Sheet
empty_sheet = record { seats = None; pairs = []; count = None }

-- the sheet that a draft of the code holds
abbrev pub sheet_of : Draft → Sheet
sheet_of d = record { seats = d.seats; pairs = vec_items d.pairs; count = d.count }

-- the pairs and the counts alone
abbrev pub pairs_of : Sheet → List FaultPair
pairs_of s = map (λ p. p.value) s.pairs

abbrev pub counts_of : Sheet → Option Counts
counts_of s = option_map (λ c. c.value) s.count

-- whether an entry may not stand here: `seats` comes first and once, `count` comes once
abbrev pub misplaced : Sheet → Entry → Bool
misplaced s (entry.Seats n) = is_some s.seats
misplaced s (entry.Pair p) = not (is_some s.seats)
misplaced s (entry.Count c) = not (is_some s.seats) || is_some s.count

-- the sheet with the entry of line k
abbrev pub put : Sheet → ℕ → Entry → Sheet
put s k (entry.Seats n) = record s { seats = Some record { value = n; line = k } }
put s k (entry.Pair p) = record s { pairs = s.pairs ++ record { value = p; line = k } ∷ [] }
put s k (entry.Count c) = record s { count = Some record { value = c; line = k } }

-- 19 where an entry may not stand
abbrev pub entered : Sheet → ℕ → Entry → Result Sheet Refusal
entered s k e = cond (misplaced s e) (Err (at_line Misplaced (Some k))) (Ok (put s k e))

-- 18 where a line has not the form of any
abbrev pub formed : ℕ → Option Entry → Result Entry Refusal
formed k None = Err (at_line Malformed (Some k))
formed k (Some e) = Ok e

-- line k: 18 before 19
abbrev pub fields_read : Sheet → ℕ → List (List ℕ) → Result Sheet Refusal
fields_read s k fs = and_then (formed k (entry_of fs)) (entered s k)

abbrev pub line_read : Sheet → ℕ → List ℕ → Result Sheet Refusal
line_read s k text = fields_read s k (split blank text)

-- line by line, k lines being read. What follows the last line feed is a line without an end: 18, unless there is nothing
abbrev pub lines_read : Sheet → ℕ → List (List ℕ) → Result Sheet Refusal
lines_read s k [] = Ok s
lines_read s k (t ∷ []) = cond (nat_lt 0 (length t)) (Err (at_line Malformed (Some (suc k)))) (Ok s)
lines_read s k (t ∷ u ∷ ts) = and_then (line_read s (suc k) t) (λ s'. lines_read s' (suc k) (u ∷ ts))

-- the most bytes of a script
abbrev pub most_bytes : ℕ
most_bytes = 8192

-- the whole script: 20 before all else
abbrev pub script_read : List ℕ → Result Sheet Refusal
script_read bs = cond (nat_lt most_bytes (length bs)) (Err (at_line TooLong None)) (lines_read empty_sheet 0 (split line_feed bs))
