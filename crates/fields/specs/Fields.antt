-- How a text is parted, and what a field means.
use Rattle.std.specs.Prelude.{◌≡◌, ℕ, ◌+◌, ◌-◌, ◌*◌, ◌<◌, cond, ◌&&◌, List, [], ◌∷◌, length, Some, None, codes, Option, ◌==◌, bit_or, nat_le}
use Rattle.std.specs.List.{slice_split}
use Rattle.std.specs.Str.{bytes_eq}
use Rattle.sets.specs.Sets.{single, set_of}
use Rattle.sets.specs.declared.process_set.ProcessSet.{ProcessSet}

-- the pieces of a text between the bytes that are `stop`: always one piece more than there are such bytes
abbrev pub split : ℕ → List ℕ → List (List ℕ)
split stop bs = slice_split (λ b. b == stop) bs

-- a text is cut at its first `stop` into a front and a rest
pub record Cut (stop : ℕ) (bs front rest : List ℕ) : Type 0 where
  pub pieces : split stop bs ≡ front ∷ split stop rest
  pub more : 1 < length (split stop bs)
  pub shorter : length rest < length bs

-- the three bytes that part a text
abbrev pub line_feed : ℕ
line_feed = 10

abbrev pub blank : ℕ
blank = 32

abbrev pub comma : ℕ
comma = 44

-- the number that goes on after n with these digits; nothing where one is no digit
abbrev pub digits_from : ℕ → List ℕ → Option ℕ
digits_from n [] = Some n
digits_from n (b ∷ bs) = cond (nat_le 48 b && nat_le b 57) (digits_from (10 * n + (b - 48)) bs) None

-- a number has one to three digits
abbrev pub number_in : List ℕ → Option ℕ
number_in bs = cond (nat_le 1 (length bs) && nat_le (length bs) 3) (digits_from 0 bs) None

-- going on where there is a value
abbrev pub then : {A B : Type 0} → Option A → (A → Option B) → Option B
then None f = None
then (Some x) f = f x

-- one process of a set: a number from 1 to the limit
abbrev pub member_in : List ℕ → Option ProcessSet
member_in bs = then (number_in bs) single

-- the set m and the processes of these fields
abbrev pub union_in : ProcessSet → List (List ℕ) → Option ProcessSet
union_in m [] = Some m
union_in m (p ∷ ps) = then (member_in p) (λ x. union_in (set_of (bit_or m.bits x.bits)) ps)

-- a set is process numbers joined by commas, or a dash for none
abbrev pub set_in : List ℕ → Option ProcessSet
set_in bs = cond (bytes_eq bs (codes "-")) (Some (set_of 0)) (union_in (set_of 0) (split comma bs))
