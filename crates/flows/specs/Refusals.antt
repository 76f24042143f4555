-- The number of each cause, and the flow that it names. RULES, refusals.
use Rattle.std.specs.Prelude.{ℕ, Bool, cond, List, ◌++◌, codes, Result, Ok, Err, is_ok}
use Rattle.std.specs.Fmt.{decimal}
use Rattle.flows.specs.declared.Refusal.{Refusal}
use Rattle.flows.specs.declared.Cause.{Cause}
use Rattle.flows.specs.declared.Cause.TheVariants.{Delays, NumberZero, OutOfRange, NodeTwice, Present, Full, Crossing, NoBusyLength, Unsettled, PastDeadline, Absent, Malformed, ShortBuffer}

abbrev pub number_of : Cause → ℕ
number_of Delays = 1
number_of NumberZero = 2
number_of OutOfRange = 3
number_of NodeTwice = 4
number_of Present = 5
number_of Full = 6
number_of (Crossing flow) = 7
number_of (NoBusyLength flow) = 8
number_of Unsettled = 9
number_of (PastDeadline flow) = 10
number_of Absent = 11
number_of Malformed = 12
number_of ShortBuffer = 13

-- 0 where none is named
abbrev pub flow_named : Cause → ℕ
flow_named Delays = 0
flow_named NumberZero = 0
flow_named OutOfRange = 0
flow_named NodeTwice = 0
flow_named Present = 0
flow_named Full = 0
flow_named (Crossing flow) = flow
flow_named (NoBusyLength flow) = flow
flow_named Unsettled = 0
flow_named (PastDeadline flow) = flow
flow_named Absent = 0
flow_named Malformed = 0
flow_named ShortBuffer = 0

-- accepted, or refused for a cause
abbrev pub Ruling : Type 0
Ruling = Result (Unit {0}) Cause

abbrev pub accepted : Ruling
accepted = Ok tt

abbrev pub accepted_by : Ruling → Bool
accepted_by r = is_ok r

-- the first of two causes that applies
abbrev pub first_cause : Ruling → Ruling → Ruling
first_cause r next = cond (accepted_by r) next r

-- a ruling, with the place of a refusal; the cause and the place that stand in such an outcome
abbrev pub at_place : Ruling → ℕ → Result (Unit {0}) Refusal
at_place (Ok x) place = Ok tt
at_place (Err cause) place = Err (record { cause = cause; place = place })

abbrev pub cause_in : Result (Unit {0}) Refusal → Ruling
cause_in (Ok x) = accepted
cause_in (Err r) = Err r.cause

abbrev pub place_in : Result (Unit {0}) Refusal → ℕ
place_in (Ok x) = 0
place_in (Err r) = r.place

-- a refusal as it is printed. RULES, programs
abbrev pub refusal_words : Refusal → List ℕ
refusal_words r = codes "refused " ++ decimal (number_of r.cause) ++ codes " flow " ++ decimal (flow_named r.cause) ++ codes " at " ++ decimal r.place
