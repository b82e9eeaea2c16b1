-- The lines of a script: which fields each has, and what they mean.
use Rattle.std.specs.Prelude.{ℕ, cond, List, [], ◌∷◌, Some, None, codes, Option}
use Rattle.std.specs.Str.{bytes_eq}
use Rattle.script.specs.declared.line.Entry.{Entry}
use Rattle.script.specs.declared.line.Entry.TheVariants as entry
use Rattle.script.specs.declared.line.Line.{Line}
use Rattle.script.specs.declared.line.Line.TheVariants as line
use Rattle.fields.specs.Fields.{then, number_in, set_in}

-- the fields of a line, its word first
abbrev pub fields_of : Line → List (List ℕ)
fields_of (line.Seats n k) = codes "seats" ∷ n.now ∷ []
fields_of (line.Pair a f k) = codes "pair" ∷ a.now ∷ f.now ∷ []
fields_of (line.Count t b k) = codes "count" ∷ t.now ∷ b.now ∷ []

-- its number in the script, from 1
abbrev pub line_of : Line → ℕ
line_of (line.Seats n k) = k
line_of (line.Pair a f k) = k
line_of (line.Count t b k) = k

-- `seats N`: one number
abbrev pub seats_entry : List (List ℕ) → Option Entry
seats_entry [] = None
seats_entry (n ∷ []) = then (number_in n) (λ x. Some (entry.Seats x))
seats_entry (n ∷ m ∷ fs) = None

-- `pair A F`: two sets
abbrev pub pair_entry : List (List ℕ) → Option Entry
pair_entry [] = None
pair_entry (a ∷ []) = None
pair_entry (a ∷ f ∷ []) = then (set_in a) (λ x. then (set_in f) (λ y. Some (entry.Pair record { byzantine = x; failing = y })))
pair_entry (a ∷ f ∷ g ∷ fs) = None

-- `count T B`: two numbers
abbrev pub count_entry : List (List ℕ) → Option Entry
count_entry [] = None
count_entry (t ∷ []) = None
count_entry (t ∷ b ∷ []) = then (number_in t) (λ x. then (number_in b) (λ y. Some (entry.Count record { total = x; byzantine = y })))
count_entry (t ∷ b ∷ c ∷ fs) = None

-- what a line with these fields says; nothing where it has not the form of any
abbrev pub entry_of : List (List ℕ) → Option Entry
entry_of [] = None
entry_of (w ∷ fs) =
    cond (bytes_eq w (codes "seats")) (seats_entry fs)
    (cond (bytes_eq w (codes "pair")) (pair_entry fs)
    (cond (bytes_eq w (codes "count")) (count_entry fs) None))
