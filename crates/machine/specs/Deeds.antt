-- What a process did, read off the calls that were carried out.
-- A log is a list of calls with what came of each, the latest first.
use Rattle.std.specs.Prelude.{◌≡◌, ℕ, ◌+◌, cond, ◌⊎◌, List, [], ◌∷◌, Some, None, Option, Ok, Err, ◌==◌}
use Rattle.machine.specs.declared.types.Answer.{Answer}
use Rattle.machine.specs.declared.types.Answer.TheVariants as answer
use Rattle.machine.specs.declared.types.Call.{Call}
use Rattle.machine.specs.declared.types.Call.TheVariants as call
use Rattle.machine.specs.declared.types.Entry.{Entry}
use Rattle.machine.specs.Replies.{Reply}

-- a deed is a call that was carried out and changes something
pub data Deed : Type 0 where
  -- it started under this number with this bit
  started : ℕ → ℕ → Deed
  -- it spoke a word, or no word
  spoke : Option ℕ → Deed
  -- it accepted a word under a number
  heard : ℕ → ℕ → Deed
  -- it shut a round
  shut : Deed

abbrev pub deed_of_answer : Call → Answer → Option Deed
deed_of_answer (call.Start r b) a = Some (started r b)
deed_of_answer call.Speak answer.Started = None
deed_of_answer call.Speak (answer.Spoke w) = Some (spoke w)
deed_of_answer call.Speak answer.Heard = None
deed_of_answer call.Speak answer.Shut = None
deed_of_answer call.Speak (answer.Verdict v) = None
deed_of_answer call.Speak (answer.Standing t) = None
deed_of_answer (call.Hear r j w) a = Some (heard r w)
deed_of_answer call.Shut a = Some shut
deed_of_answer call.Verdict a = None
deed_of_answer call.Standing a = None

abbrev pub deed_of_reply : Call → Reply → Option Deed
deed_of_reply c None = None
deed_of_reply c (Some (Err e)) = None
deed_of_reply c (Some (Ok a)) = deed_of_answer c a

-- the deed of process p in this entry, if it is one
abbrev pub deed_of : ℕ → Entry → Option Deed
deed_of p e = cond (e.who == p) (deed_of_reply e.call e.reply) None

abbrev pub is_shut : Option Deed → ℕ
is_shut None = 0
is_shut (Some (started r b)) = 0
is_shut (Some (spoke w)) = 0
is_shut (Some (heard r w)) = 0
is_shut (Some shut) = 1

-- how many rounds p has shut
abbrev pub shuts : ℕ → List Entry → ℕ
shuts p [] = 0
shuts p (e ∷ log) = is_shut (deed_of p e) + shuts p log

-- p did d with k rounds shut before
abbrev pub Did : ℕ → ℕ → Deed → List Entry → Type 0
Did p k d [] = ⊥
Did p k d (e ∷ log) = ((deed_of p e ≡ Some d) × (shuts p log ≡ k)) ⊎ Did p k d log
