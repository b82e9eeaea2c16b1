-- What comes of a call in a list of calls.
use Rattle.std.specs.Prelude.{Option, Result}
use Rattle.refusal.specs.declared.process.ProcessRefusal.{ProcessRefusal}
use Rattle.machine.specs.declared.types.Answer.{Answer}

-- an answer or a refusal; nothing where there is no such process
abbrev pub Reply : Type 0
Reply = Option (Result Answer ProcessRefusal)
