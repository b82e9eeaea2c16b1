-- The six calls on one process: when each is refused, what it answers, and the process after it.
-- The process runs under a rule for n processes that holds the pairs `held`.
use Rattle.std.specs.Prelude.{ℕ, suc, ◌+◌, ◌-◌, Bool, true, false, cond, not, ◌&&◌, ◌||◌, replicate, is_some, Some, None, Option, Ok, Err, ◌==◌, nat_le, nat_lt, slice_index_or, slice_set}
use Rattle.sets.specs.Sets.{limit, set_of}
use Rattle.adversary.specs.Refusals.{or_else, when}
use Rattle.agreement.specs.Rounds.{rounds_of}
use Rattle.agreement.specs.Step.{State, Kind, unify, exchange, king, kind_of, king_of, step, due_by}
use Rattle.agreement.specs.Theorems.{count}
use Rattle.refusal.specs.declared.process.ProcessRefusal.{ProcessRefusal}
use Rattle.refusal.specs.declared.process.ProcessRefusal.TheVariants as refusal
use Rattle.machine.specs.declared.types.Answer.{Answer}
use Rattle.machine.specs.declared.types.Answer.TheVariants as answer
use Rattle.machine.specs.declared.types.Call.{Call}
use Rattle.machine.specs.declared.types.Call.TheVariants as call
use Rattle.machine.specs.declared.types.ProcessState.{ProcessState}
use Rattle.machine.specs.declared.types.Stage.{Stage}
use Rattle.machine.specs.declared.types.Stage.TheVariants.{Resting, Due, Listening, Decided}
use Rattle.machine.specs.Replies.{Reply}

-- a process that has not started
abbrev pub resting : ProcessState
resting = record {
  stage = Resting;
  number = 0;
  preferred = 0;
  detected = set_of 0;
  omissions = 0;
  round = 0;
  follows = false;
  inbox = replicate limit None;
}

abbrev pub is_resting : Stage → Bool
is_resting Resting = true
is_resting Due = false
is_resting Listening = false
is_resting Decided = false

abbrev pub is_due : Stage → Bool
is_due Resting = false
is_due Due = true
is_due Listening = false
is_due Decided = false

abbrev pub is_listening : Stage → Bool
is_listening Resting = false
is_listening Due = false
is_listening Listening = true
is_listening Decided = false

abbrev pub is_decided : Stage → Bool
is_decided Resting = false
is_decided Due = false
is_decided Listening = false
is_decided Decided = true

-- how many rounds a started process has shut
abbrev pub shut_of : ProcessState → ℕ
shut_of s = s.round - 1

-- what is in the slot of the process at position r
abbrev pub slot : ProcessState → ℕ → Option ℕ
slot s r = slice_index_or s.inbox r None

-- what the protocol knows of a process
abbrev pub core : ProcessState → State
core s = record { preferred = s.preferred; detected = s.detected.bits; follows = s.follows }

-- whether r is not the number of one of n processes
abbrev pub stranger : ℕ → ℕ → Bool
stranger n r = not (nat_le 1 r && nat_le r n)

abbrev pub is_king_round : Kind → Bool
is_king_round unify = false
is_king_round exchange = false
is_king_round king = true

-- whether r is the number of the king of the round after k
abbrev pub is_king : ℕ → ℕ → ℕ → Bool
is_king n k r = r == suc (king_of n k)

-- whether process r may not speak in the current round: in a third round all but the king
abbrev pub muted : ℕ → ProcessState → ℕ → Bool
muted n s r = is_king_round (kind_of (shut_of s)) && not (is_king n (shut_of s) r)

-- when a call is refused, in this order
abbrev pub refused : ℕ → ProcessState → Call → Option ProcessRefusal
refused n s (call.Start r b) =
    or_else (when (not (is_resting s.stage)) refusal.Stage)
    (or_else (when (stranger n r) (refusal.Number r)) (when (nat_lt 1 b) (refusal.Bit r)))
refused n s call.Speak = when (not (is_due s.stage)) refusal.Stage
refused n s (call.Hear r j w) =
    or_else (when (not (is_listening s.stage)) refusal.Stage)
    (or_else (when (stranger n r || r == s.number) (refusal.Number r))
    (or_else (when (not (j == s.round)) (refusal.Round r))
    (or_else (when (muted n s r) (refusal.King r)) (when (is_some (slot s (r - 1))) (refusal.Twice r)))))
refused n s call.Shut = when (not (is_listening s.stage)) refusal.Stage
refused n s call.Verdict = None
refused n s call.Standing = None

-- what a process says in its round: its preferred value, or no word in a third round of which it is not king
abbrev pub spoken : ℕ → ProcessState → Option ℕ
spoken n s = cond (muted n s s.number) None (Some s.preferred)

-- how many words were due in this round and not heard
abbrev pub missing : ℕ → (ℕ → ℕ → Bool) → ProcessState → ℕ
missing n held s = count n (λ r. due_by n held (kind_of (shut_of s)) (shut_of s) r && not (is_some (slot s r)))

-- what a call answers that is carried out
abbrev pub answered_by : ℕ → ProcessState → Call → Answer
answered_by n s (call.Start r b) = answer.Started
answered_by n s call.Speak = answer.Spoke (spoken n s)
answered_by n s (call.Hear r j w) = answer.Heard
answered_by n s call.Shut = answer.Shut
answered_by n s call.Verdict = answer.Verdict (cond (is_decided s.stage) (Some s.preferred) None)
answered_by n s call.Standing = answer.Standing (cond (is_resting s.stage) None (Some record { preferred = s.preferred; shut = shut_of s; detected = s.detected; omissions = s.omissions }))

-- the process after a call that is carried out
abbrev pub carried : ℕ → (ℕ → ℕ → Bool) → ProcessState → Call → ProcessState
carried n held s (call.Start r b) = record {
  stage = cond (rounds_of n == 0) Decided Due;
  number = r;
  preferred = b;
  detected = set_of 0;
  omissions = 0;
  round = 1;
  follows = false;
  inbox = replicate limit None;
}
carried n held s call.Speak = record {
  stage = Listening;
  number = s.number;
  preferred = s.preferred;
  detected = s.detected;
  omissions = s.omissions;
  round = s.round;
  follows = s.follows;
  inbox = slice_set s.inbox (s.number - 1) (spoken n s);
}
carried n held s (call.Hear r j w) = record {
  stage = s.stage;
  number = s.number;
  preferred = s.preferred;
  detected = s.detected;
  omissions = s.omissions;
  round = s.round;
  follows = s.follows;
  inbox = slice_set s.inbox (r - 1) (Some w);
}
carried n held s call.Shut = record {
  stage = cond (nat_le (rounds_of n) s.round) Decided Due;
  number = s.number;
  preferred = (step n held (shut_of s) (slot s) (core s)).preferred;
  detected = set_of (step n held (shut_of s) (slot s) (core s)).detected;
  omissions = s.omissions + missing n held s;
  round = s.round + 1;
  follows = (step n held (shut_of s) (slot s) (core s)).follows;
  inbox = replicate limit None;
}
carried n held s call.Verdict = s
carried n held s call.Standing = s

-- what comes of a call, and the process after it: a refusal changes nothing
abbrev pub reply_by : Option ProcessRefusal → Answer → Reply
reply_by None a = Some (Ok a)
reply_by (Some e) a = Some (Err e)

abbrev pub after_by : Option ProcessRefusal → ProcessState → ProcessState → ProcessState
after_by None s s' = s'
after_by (Some e) s s' = s

abbrev pub replied : ℕ → ProcessState → Call → Reply
replied n s a = reply_by (refused n s a) (answered_by n s a)

abbrev pub after : ℕ → (ℕ → ℕ → Bool) → ProcessState → Call → ProcessState
after n held s a = after_by (refused n s a) s (carried n held s a)
