-- The printed numbers, layers and places of all refusals.
use Rattle.std.specs.Prelude.{ℕ, List, codes, Option}
use Rattle.refusal.specs.declared.place.Layer.{Layer}
use Rattle.refusal.specs.declared.place.Layer.TheVariants as layer
use Rattle.refusal.specs.declared.place.Place.{Place}
use Rattle.refusal.specs.declared.place.Place.TheVariants.{Nowhere, At, Three}
use Rattle.refusal.specs.declared.process.ProcessRefusal.{ProcessRefusal}
use Rattle.refusal.specs.declared.process.ProcessRefusal.TheVariants.{Stage, Number, Bit, Round, King, Twice}
use Rattle.refusal.specs.declared.rule.RuleRefusal.{RuleRefusal}
use Rattle.refusal.specs.declared.rule.RuleRefusal.TheVariants.{Processes, PairCount, AboveProcesses, InBothSets, Cover, ByzantineAboveTotal, TotalTooHigh}
use Rattle.refusal.specs.declared.script.Cause.{Cause}
use Rattle.refusal.specs.declared.script.Cause.TheVariants as cause
use Rattle.refusal.specs.declared.script.Refusal.{Refusal}

-- the printed number of a rule's refusal
abbrev pub rule_number : RuleRefusal → ℕ
rule_number Processes = 1
rule_number PairCount = 2
rule_number (AboveProcesses i) = 3
rule_number (InBothSets i) = 4
rule_number (Cover i j k) = 5
rule_number ByzantineAboveTotal = 6
rule_number TotalTooHigh = 7

-- its place: one listed pair, three of them, or none; listed pairs are counted from 1
abbrev pub rule_place : RuleRefusal → Place
rule_place Processes = Nowhere
rule_place PairCount = Nowhere
rule_place (AboveProcesses i) = At i
rule_place (InBothSets i) = At i
rule_place (Cover i j k) = Three i j k
rule_place ByzantineAboveTotal = Nowhere
rule_place TotalTooHigh = Nowhere

-- the printed number of a process' refusal
abbrev pub process_number : ProcessRefusal → ℕ
process_number Stage = 8
process_number (Number p) = 9
process_number (Bit p) = 10
process_number (Round p) = 11
process_number (King p) = 12
process_number (Twice p) = 13

-- its place: the process number that was given
abbrev pub process_place : ProcessRefusal → Place
process_place Stage = Nowhere
process_place (Number p) = At p
process_place (Bit p) = At p
process_place (Round p) = At p
process_place (King p) = At p
process_place (Twice p) = At p

-- the printed number of a script's refusal: its own, or that of the layer below
abbrev pub number_of : Cause → ℕ
number_of cause.Malformed = 18
number_of cause.Misplaced = 19
number_of cause.TooLong = 20
number_of (cause.Rule r) = rule_number r

-- the layer that refuses
abbrev pub layer_of : Cause → Layer
layer_of cause.Malformed = layer.Script
layer_of cause.Misplaced = layer.Script
layer_of cause.TooLong = layer.Script
layer_of (cause.Rule r) = layer.Rule

-- the place within a list
abbrev pub place_of : Cause → Place
place_of cause.Malformed = Nowhere
place_of cause.Misplaced = Nowhere
place_of cause.TooLong = Nowhere
place_of (cause.Rule r) = rule_place r

-- the printed name of a layer
abbrev pub name_of : Layer → List ℕ
name_of layer.Rule = codes "rule"
name_of layer.Script = codes "script"

-- a cause with the line where it stands, if it has one
abbrev pub at_line : Cause → Option ℕ → Refusal
at_line c k = record { cause = c; line = k }
