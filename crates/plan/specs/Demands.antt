-- What reading and writing a set promise: RULES, reading and writing, in words. The equations that callers use stand in Reading and Writing.
use Rattle.flows.specs.declared.Refusal.{Refusal}
use Rattle.std.specs.Prelude.{Result, Ok, Err, ℕ, ◌+◌, ◌*◌, ◌≤◌, ◌<◌, ◌≡◌, List, ◌∷◌, ◌++◌, ◌⊎◌, length, take, drop}
use Rattle.flows.specs.declared.Flow.{Flow}
use Rattle.flows.specs.declared.Cause.{Cause}
use Rattle.flows.specs.declared.Cause.TheVariants.{ShortBuffer, Delays, Full, Malformed}
use Rattle.flows.specs.Refusals.{number_of, flow_named}
use Rattle.flows.specs.Lists.{held, row_of}
use Rattle.flows.specs.WellFormed.{Exactly, DelaysFit, WellFormed, OfFlow, Typed}
use Rattle.row.specs.Rows.{last_number}
use Rattle.row.specs.Sets.{Readable}
use Rattle.records.specs.Kinds.{end_kind}
use Rattle.records.specs.Bodies.{Bytes}
use Rattle.plan.specs.declared.FlowSet.{FlowSet}
use Rattle.plan.specs.declared.Reading.{Reading}
use Rattle.plan.specs.Reading.{empty_set, read_plan}
use Rattle.plan.specs.Writing.{links_bytes, flow_bytes, flows_bytes, plan_bytes, written_into, buffer_after}

-- how many bytes the plan of a set has
abbrev pub size : FlowSet → ℕ
size s = 6 + 34 * length (held s.row)

-- a set that reading gave, of whatever bytes
pub record WasRead (s : FlowSet) : Type 0 where
  pub bytes : List ℕ
  pub fit : Bytes bytes
  pub given : (read_plan bytes).set ≡ s

-- ---- reading: what is read
-- the plan of link delays that fit and of well-formed flows, at most sixteen and their numbers rising
pub record InForm (b : List ℕ) : Type 0 where
  pub lmin : ℕ
  pub lmax : ℕ
  pub flows : List Flow
  pub readable : Readable lmin lmax flows
  pub bytes : b ≡ plan_bytes lmin lmax flows

-- whoever writes the set has these bytes at the start of the buffer, and the rest as it was
pub record WritesBack (b : List ℕ) (s : FlowSet) (old : List ℕ) : Type 0 where
  pub answer : written_into (length old) (length (held s.row)) ≡ Ok (length b)
  pub buffer : buffer_after s.lmin s.lmax (held s.row) old ≡ b ++ drop (length b) old

-- ---- reading: what is refused
-- bytes that begin with a whole 01, with a whole 02, with 7F
pub record StartsLinks (b : List ℕ) (lmin lmax : ℕ) : Type 0 where
  pub rest : List ℕ
  pub least : lmin < 65536
  pub most : lmax < 65536
  pub bytes : b ≡ links_bytes lmin lmax ++ rest

pub record StartsFlow (b : List ℕ) (f : Flow) : Type 0 where
  pub rest : List ℕ
  pub typed : Typed f
  pub bytes : b ≡ flow_bytes f ++ rest

pub record StartsEnd (b : List ℕ) : Type 0 where
  pub rest : List ℕ
  pub bytes : b ≡ end_kind ∷ rest

-- the records of some link delays and of these flows, none of which is refused; after them, at that place, these bytes
pub record After (b : List ℕ) (fs : List Flow) (place : ℕ) (rest : List ℕ) : Type 0 where
  pub lmin : ℕ
  pub lmax : ℕ
  pub readable : Readable lmin lmax fs
  pub bytes : b ≡ (links_bytes lmin lmax ++ flows_bytes fs) ++ rest
  pub place_is : place ≡ length (links_bytes lmin lmax ++ flows_bytes fs)

-- a flow's record after those of fs: 12 for a number that does not rise, then 2, 3, 4, then 6; number 0 is no matter of order
pub data OfRecord (fs : List Flow) (f : Flow) : Cause → Type 0 where
  not-rising : (f.number ≡ 0 → ⊥) → f.number ≤ last_number fs → OfRecord fs f Malformed
  by_itself : (c : Cause) → (f.number ≡ 0) ⊎ (last_number fs < f.number) → OfFlow f (Err c) → OfRecord fs f c
  no_room : last_number fs < f.number → WellFormed f → 16 ≤ length fs → OfRecord fs f Full

-- the first record that is refused, and where; a byte after the end is refused at its own place
pub data Unread (b : List ℕ) : Cause → ℕ → Type 0 where
  no-links : ((lmin lmax : ℕ) → StartsLinks b lmin lmax → ⊥) → Unread b Malformed 0
  unfit-links : (lmin lmax : ℕ) → StartsLinks b lmin lmax → (DelaysFit lmin lmax → ⊥) → Unread b Delays 0
  no_record : (fs : List Flow) (place : ℕ) (rest : List ℕ) → After b fs place rest → ((f : Flow) → StartsFlow rest f → ⊥) → (StartsEnd rest → ⊥) → Unread b Malformed place
  of-flow : (fs : List Flow) (place : ℕ) (rest : List ℕ) (f : Flow) (c : Cause) → After b fs place rest → StartsFlow rest f → OfRecord fs f c → Unread b c place
  after-end : (fs : List Flow) (place x : ℕ) (rest : List ℕ) → After b fs place (end_kind ∷ x ∷ rest) → Unread b Malformed (place + 1)

pub record SetRead (b : List ℕ) (r : Reading) : Type 0 where
  pub exactly : Exactly (r.outcome ≡ Ok tt) (InForm b)
  pub lists : (i : InForm b) → r.set ≡ record { lmin = i.lmin; lmax = i.lmax; row = row_of i.flows }
  pub back : r.outcome ≡ Ok tt → (old : List ℕ) → length b ≤ length old → WritesBack b r.set old
  pub refused : (cause : Cause) (place : ℕ) → Exactly (r.outcome ≡ Err (record { cause = cause; place = place })) (Unread b cause place)
  -- none of a refused plan is given
  pub empty : (r.outcome ≡ Ok tt → ⊥) → r.set ≡ empty_set

-- ---- writing
-- 13 and a buffer as it was, if it is short; otherwise the length, a buffer that keeps its rest, and whose beginning is read as that set and
-- is any plan from which the set was read
pub record SetWritten (s : FlowSet) (old : List ℕ) (r : Result ℕ Refusal) (new : List ℕ) : Type 0 where
  pub short : length old < size s → (r ≡ Err (record { cause = ShortBuffer; place = 0 })) × (new ≡ old)
  pub short_is_13 : (number_of ShortBuffer ≡ 13) × (flow_named ShortBuffer ≡ 0)
  pub long : size s ≤ length old → (r ≡ Ok (size s)) × (length new ≡ length old) × (drop (size s) new ≡ drop (size s) old)
  pub read : size s ≤ length old → read_plan (take (size s) new) ≡ record { outcome = Ok tt; set = s }
  pub plan : size s ≤ length old → (b : List ℕ) → Bytes b → read_plan b ≡ record { outcome = Ok tt; set = s } → take (size s) new ≡ b
