-- Plans tried by hand: the refusal of the records that each gets, number and place, as one list under one statement.
use Prim.Native.Nat.{ℕ, zero, suc}
use mathlib.Core.Path.{◌≡◌, refl}
use mathlib.Core.Bool.{Bool, true, ◌&&◌}
use mathlib.Core.List.{List, [], ◌∷◌, ◌++◌}
use lib.ListN.{take, replicate}
use lib.Dec.{eqb}
use Rattle.std.specs.Prelude.{Result, Ok, Err}
use Rattle.flows.specs.declared.Flow.{Flow}
use Rattle.flows.specs.declared.Refusal.{Refusal}
use Rattle.flows.specs.Lists.{row_of}
use Rattle.flows.specs.Tests.{delay_cause, every, hop_fits, hop_zero, ranges_fit, distinct, flow_cause}
use Rattle.row.specs.Rows.{last_number}
use Rattle.records.specs.Bodies.{words_written, flow_written}
use Rattle.records.specs.Rows.{row_bytes}
use Rattle.reader.specs.Places.{kind_named, kind_of, kind_at, if_kind}
use Rattle.flows.specs.Refusals.{number_of, place_in}
use Rattle.plan.specs.Reading.{unless, falls_to, record_cause, read_end, read_flows, read_records, read_plan}
use Rattle.plan.specs.Writing.{links_bytes, flow_bytes, plan_bytes}

-- one node of that number and that cost; T 20, D 60
flow : ℕ → ℕ → ℕ → Flow
flow number node cost = record {
  number = number;
  priority = 0;
  period = 20;
  jitter = 0;
  deadline = 60;
  length = 1;
  nodes = node ∷ replicate 7 0;
  costs = cost ∷ replicate 7 0;
}

-- nodes 3 and 3
twice : Flow
twice = record {
  number = 1;
  priority = 0;
  period = 20;
  jitter = 0;
  deadline = 60;
  length = 2;
  nodes = 3 ∷ 3 ∷ replicate 6 0;
  costs = 4 ∷ 4 ∷ replicate 6 0;
}

-- n flows, numbers rising from the one after k
many : ℕ → ℕ → List Flow
many k zero = []
many k (suc n) = flow (suc k) 1 4 ∷ many (suc k) n

record Case : Type 0 where
  bytes : List ℕ
  number : ℕ
  place : ℕ

listing : List Flow → List ℕ
listing fs = plan_bytes 1 1 fs

cases : List Case
cases =
    -- read: no flows; one; sixteen
    record { bytes = listing []; number = 0; place = 0 } ∷
    record { bytes = listing (flow 7 1 4 ∷ []); number = 0; place = 0 } ∷
    record { bytes = listing (many 0 16); number = 0; place = 0 } ∷
    -- 12: no byte; none where a kind byte is due; no such kind; a body cut short, twice; a second 01; a byte after the end
    record { bytes = []; number = 12; place = 0 } ∷
    record { bytes = links_bytes 1 1; number = 12; place = 5 } ∷
    record { bytes = 3 ∷ []; number = 12; place = 0 } ∷
    record { bytes = take 4 (links_bytes 1 1); number = 12; place = 0 } ∷
    record { bytes = links_bytes 1 1 ++ take 33 (flow_bytes (flow 1 1 4)); number = 12; place = 5 } ∷
    record { bytes = links_bytes 1 1 ++ links_bytes 1 1; number = 12; place = 5 } ∷
    record { bytes = listing [] ++ (0 ∷ []); number = 12; place = 6 } ∷
    -- 12: a number that does not rise, before its fields are looked at
    record { bytes = listing (flow 2 1 4 ∷ flow 2 1 4 ∷ []); number = 12; place = 39 } ∷
    record { bytes = listing (flow 2 1 4 ∷ flow 1 0 0 ∷ []); number = 12; place = 39 } ∷
    -- 1
    record { bytes = plan_bytes 2 1 []; number = 1; place = 0 } ∷
    record { bytes = plan_bytes 1 4096 []; number = 1; place = 0 } ∷
    -- 2, also after a flow
    record { bytes = listing (flow 0 1 4 ∷ []); number = 2; place = 5 } ∷
    record { bytes = listing (flow 2 1 4 ∷ flow 0 1 4 ∷ []); number = 2; place = 39 } ∷
    -- 3, 4
    record { bytes = listing (flow 1 1 4096 ∷ []); number = 3; place = 5 } ∷
    record { bytes = listing (flow 1 0 4 ∷ []); number = 3; place = 5 } ∷
    record { bytes = listing (twice ∷ []); number = 4; place = 5 } ∷
    -- 6, and 3 before it
    record { bytes = listing (many 0 17); number = 6; place = 549 } ∷
    record { bytes = listing (many 0 16 ++ (flow 17 1 0 ∷ [])); number = 3; place = 549 } ∷ []

-- 0 for none
number_in : Result (Unit {0}) Refusal → ℕ
number_in (Ok x) = 0
number_in (Err r) = number_of r.cause

right : Case → Bool
right c = eqb (number_in (read_plan c.bytes).outcome) c.number && eqb (place_in (read_plan c.bytes).outcome) c.place

all_right : every right cases ≡ true
unfolding cases right number_in listing flow twice many every plan_bytes row_bytes flow_written words_written read_records kind_at kind_named kind_of unless delay_cause read_flows if_kind read_end record_cause falls_to last_number flow_cause ranges_fit hop_fits hop_zero distinct row_of
all_right = refl
