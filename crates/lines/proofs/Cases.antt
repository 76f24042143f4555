-- Reports tried by hand: the refusal that each gets, number and place, as one list under one statement; number 0 is none. RULES, the report.
use Prim.Native.Nat.{ℕ}
use mathlib.Core.Path.{◌≡◌, refl}
use mathlib.Core.Bool.{Bool, true, ◌&&◌}
use mathlib.Core.List.{List, [], ◌∷◌, ◌++◌}
use lib.Dec.{eqb}
use Rattle.std.specs.Prelude.{Result, Ok, Err}
use Rattle.flows.specs.declared.Refusal.{Refusal}
use Rattle.flows.specs.Refusals.{number_of, place_in}
use Rattle.flows.specs.Tests.{every}
use Rattle.reader.specs.Places.{kind_named, kind_of, kind_at, if_kind}
use Rattle.lines.specs.Reports.{report_of}
use Rattle.lines.specs.Reading.{last_number, figures_fit, line_cause, unless, read_close, read_lines, read_records, read_report}

-- a line of one-byte numbers
line : ℕ → ℕ → ℕ → ℕ → List ℕ
line number bound jitter busy = 17 ∷ number ∷ 0 ∷ bound ∷ 0 ∷ jitter ∷ 0 ∷ busy ∷ []

record Case : Type 0 where
  bytes : List ℕ
  number : ℕ
  place : ℕ

case : List ℕ → ℕ → ℕ → Case
case bytes number place = record { bytes = bytes; number = number; place = place }

cases : List Case
cases =
    case (16 ∷ 0 ∷ 31 ∷ []) 0 0 ∷ case (16 ∷ 2 ∷ line 1 0 0 5 ++ (255 ∷ [])) 3 2 ∷ case (16 ∷ 1 ∷ 31 ∷ []) 12 2 ∷ case (16 ∷ 17 ∷ []) 12 0 ∷
    case (16 ∷ 17 ∷ 31 ∷ []) 12 0 ∷ case (16 ∷ 1 ∷ line 1 7 4 3 ++ (31 ∷ [])) 0 0 ∷ case (16 ∷ 1 ∷ line 1 7 4 3 ++ (31 ∷ 0 ∷ [])) 12 11 ∷
    -- nothing; a plan; a number of 0; one that does not rise, with a figure of 0; a busy length of 0; a jitter that is the bound
    case [] 12 0 ∷ case (1 ∷ 0 ∷ 0 ∷ 0 ∷ 0 ∷ 127 ∷ []) 12 0 ∷ case (16 ∷ 1 ∷ line 0 7 4 3 ++ (31 ∷ [])) 12 2 ∷
    case (16 ∷ 2 ∷ line 1 7 4 3 ++ line 1 0 0 0 ++ (31 ∷ [])) 12 10 ∷ case (16 ∷ 1 ∷ line 1 7 4 0 ++ (31 ∷ [])) 3 2 ∷
    case (16 ∷ 1 ∷ line 1 7 7 3 ++ (31 ∷ [])) 3 2 ∷
    -- one line more than the count; the end missing; a line cut short; a kind of a later time
    case (16 ∷ 1 ∷ line 1 7 4 3 ++ line 2 8 3 8 ++ (31 ∷ [])) 12 10 ∷ case (16 ∷ 1 ∷ line 1 7 4 3) 12 10 ∷ case (16 ∷ 1 ∷ 17 ∷ 1 ∷ 0 ∷ 7 ∷ []) 12 2 ∷
    case (16 ∷ 2 ∷ line 1 7 4 3 ++ (18 ∷ 0 ∷ [])) 12 10 ∷ []

number_in : Result (Unit {0}) Refusal → ℕ
number_in (Ok x) = 0
number_in (Err r) = number_of r.cause

right : Case → Bool
right c = eqb (number_in (read_report c.bytes).outcome) c.number && eqb (place_in (read_report c.bytes).outcome) c.place

all_right : every right cases ≡ true
unfolding cases case right number_in line every read_records if_kind kind_at kind_of kind_named read_lines read_close line_cause unless last_number figures_fit report_of
all_right = refl
