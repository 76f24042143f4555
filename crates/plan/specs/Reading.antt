-- Reading a plan: records judged in order, each by its kind.
use Rattle.std.specs.Prelude.{Result, Ok, Err, ℕ, zero, suc, ◌+◌, Bool, cond, not, ◌&&◌, List, [], ◌∷◌, ◌++◌, length, leb, ltb, eqb}
use Rattle.flows.specs.declared.Flow.{Flow}
use Rattle.flows.specs.declared.Row.{Row}
use Rattle.flows.specs.declared.Refusal.{Refusal}
use Rattle.flows.specs.declared.Cause.{Cause}
use Rattle.flows.specs.declared.Cause.TheVariants.{Full, Malformed}
use Rattle.flows.specs.Refusals.{Ruling, accepted, first_cause}
use Rattle.flows.specs.Lists.{most_flows, row_of}
use Rattle.flows.specs.Tests.{delay_cause, flow_cause}
use Rattle.row.specs.Rows.{last_number}
use Rattle.records.specs.declared.Links.{Links}
use Rattle.records.specs.Kinds.{links_body, links_record, flow_body, flow_record}
use Rattle.records.specs.Bodies.{links_read, flow_read}
use Rattle.reader.specs.declared.Kind.TheVariants as kind
use Rattle.reader.specs.Places.{kind_at, body_at, if_kind}
use Rattle.plan.specs.declared.FlowSet.{FlowSet}
use Rattle.plan.specs.declared.Reading.{Reading}

abbrev pub flow_at : List ℕ → ℕ → Flow
flow_at b at = flow_read (body_at b at flow_body)

abbrev pub links_at : List ℕ → ℕ → Links
links_at b at = links_read (body_at b at links_body)

-- no flows and both link delays 0
abbrev pub empty_set : FlowSet
empty_set = record { lmin = 0; lmax = 0; row = row_of [] }

-- the set that records list, or the first of them that is refused
abbrev pub Listing : Type 0
Listing = Result FlowSet Refusal

abbrev pub refused : Cause → ℕ → Listing
refused cause place = Err (record { cause = cause; place = place })

abbrev pub listed : ℕ → ℕ → Row → Listing
listed lmin lmax row = Ok (record { lmin = lmin; lmax = lmax; row = row })

-- none of a refused plan is given
abbrev pub reading_of : Listing → Reading
reading_of (Ok set) = record { outcome = Ok tt; set = set }
reading_of (Err r) = record { outcome = Err r; set = empty_set }

-- reading goes on where a record has no cause against it
unfoldable pub unless : Ruling → ℕ → Listing → Listing
unless (Ok x) place next = next
unless (Err cause) place next = refused cause place

-- a number that does not rise; 0 is refused with 2, not 12
unfoldable pub falls_to : ℕ → ℕ → Bool
falls_to number last = not (eqb number 0) && leb number last

-- a flow's record after those flows: 12 for its order, then 2, 3, 4, then 6
unfoldable pub record_cause : List Flow → Flow → Ruling
record_cause fs f =
    cond (falls_to f.number (last_number fs)) (Err Malformed)
    (first_cause (flow_cause f) (cond (leb most_flows (length fs)) (Err Full) accepted))

-- 7F, then nothing; a further byte is refused at its place, any other record at its own
unfoldable pub read_end : ℕ → ℕ → Row → List ℕ → ℕ → Listing
read_end lmin lmax row b at =
    if_kind (kind_at b at) kind.End (cond (ltb (at + 1) (length b)) (refused Malformed (at + 1)) (listed lmin lmax row)) (refused Malformed at)

-- a flow's record, or any other
abbrev read_record : ℕ → ℕ → List Flow → List ℕ → ℕ → Listing → Listing
read_record lmin lmax fs b at next =
    if_kind (kind_at b at) kind.Flow (unless (record_cause fs (flow_at b at)) at next) (read_end lmin lmax (row_of fs) b at)

-- the records from a place on, after the flows fs, with room for so many more; where there is none, record_cause accepts no flow
unfoldable pub read_flows : ℕ → ℕ → ℕ → List Flow → List ℕ → ℕ → Listing
read_flows zero lmin lmax fs b at = read_record lmin lmax fs b at (refused Full at)
read_flows (suc room) lmin lmax fs b at =
    read_record lmin lmax fs b at (read_flows room lmin lmax (fs ++ (flow_at b at ∷ [])) b (at + flow_record))

abbrev pub read_after_links : ℕ → ℕ → List ℕ → Listing
read_after_links lmin lmax b = read_flows most_flows lmin lmax [] b links_record

-- the first record is 01; read_flows has the order of the others. RULES, reading
unfoldable pub read_records : List ℕ → Listing
read_records b =
    if_kind (kind_at b 0) kind.Links
    (unless (delay_cause (links_at b 0).lmin (links_at b 0).lmax) 0 (read_after_links (links_at b 0).lmin (links_at b 0).lmax b))
    (refused Malformed 0)

abbrev pub read_plan : List ℕ → Reading
read_plan b = reading_of (read_records b)
