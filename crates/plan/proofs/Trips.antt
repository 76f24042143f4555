-- What stands at a place of a plan, as its bytes and as what is read there; what is written and then read is the set that was written.
use Prim.Native.Nat.{ℕ, suc, ◌+◌, ◌-◌, ◌*◌, ◌≤◌, ◌<◌}
use mathlib.Core.Path.{◌≡◌, refl, sym, ap, ◌∙◌}
use mathlib.Core.List.{List, [], ◌∷◌, ◌++◌, append-nil, append_assoc}
use native.Mathlib.Nat.{add-zero}
use native.Mathlib.Omega.{arith}
use lib.ListN.{length, drop, length-append}
use lib.Seq.{drop_at, append_snoc}
use borrow.Author.Tests.{le-ltb, lt-leb}
use Rattle.std.specs.Prelude.{Some}
use Rattle.flows.specs.declared.Flow.{Flow}
use Rattle.flows.specs.Refusals.{Ruling, accepted}
use Rattle.flows.specs.Lists.{most_flows, no_flow, row_of}
use Rattle.flows.specs.Tests.{delay_cause}
use Rattle.flows.specs.WellFormed.{WellFormed, Each, each_none, each_more, Typed}
use Rattle.row.specs.Rows.{last_number, Rising, rising-more}
use Rattle.records.specs.declared.Links.{Links}
use Rattle.records.specs.Kinds.{links_kind, links_body, links_record, flow_kind, flow_body, flow_record, end_kind}
use Rattle.records.specs.Bodies.{Bytes, flow_read, links_written, flow_written}
use Rattle.reader.specs.declared.Kind.TheVariants as kind
use Rattle.reader.specs.Places.{kind_at, body_at}
use Rattle.plan.specs.Reading.{flow_at, links_at, listed, reading_of, unless, record_cause, read_flows, read_after_links, read_records, read_plan}
use Rattle.plan.specs.Writing.{links_bytes, flow_bytes, flows_bytes, plan_bytes, plan_length}
use Rattle.plan.specs.Demands.{InForm, StartsLinks, StartsFlow, StartsEnd, After}
use Rattle.row.specs.Sets.{Readable}
use Rattle.flows.proofs.Passed.{delays_passes, formed_passes}
use Rattle.row.proofs.Arrays.{length_snoc}
use Rattle.row.proofs.Longer.{last_snoc}
use Rattle.records.proofs.Writing.{length-flow}
use Rattle.records.specs.Rows.{row_bytes}
use Rattle.records.proofs.Rows.{row_long}
use Rattle.records.proofs.RoundTrip.{read-typed, flow_back, links_back, flow_again, links_again}
use Rattle.reader.proofs.Places.{whole}
use Rattle.reader.proofs.Records.{body_long, body_bytes, record_split, first_byte, record_here, record_body, record_next}
use Rattle.plan.proofs.Steps.{next_after, falls_not, flows_at_end, flows_at_flow, records_at_links}

-- ---- a record at a place
-- the rest of a plan from a place on begins with a record exactly if there is one of that kind at the place
module _ (b : List ℕ) (at : ℕ) {rest : List ℕ} (e : drop at b ≡ rest) where
  pub end_here : StartsEnd rest → kind_at b at ≡ Some kind.End
  end_here s = record_here b at e kind.End [] s.rest refl s.bytes

  pub end_starts : kind_at b at ≡ Some kind.End → StartsEnd rest
  end_starts h = record { rest = drop (at + 1) b; bytes = sym e ∙ record_split b at kind.End (whole b at kind.End h) }

  module _ {f : Flow} (s : StartsFlow rest f) where
    long : length (flow_written f) ≡ flow_body
    long = length-flow f s.typed.nodes s.typed.costs

    flow_next : drop (at + flow_record) b ≡ s.rest
    flow_next = record_next b at e kind.Flow (flow_written f) s.rest long s.bytes

    pub flow_here_lem : kind_at b at ≡ Some kind.Flow
    flow_here_lem = record_here b at e kind.Flow (flow_written f) s.rest long s.bytes

    pub flow_same : flow_at b at ≡ f
    flow_same = ap flow_read (record_body b at e kind.Flow (flow_written f) s.rest long s.bytes) ∙ flow_again f s.typed

  pub flow_starts : Bytes b → kind_at b at ≡ Some kind.Flow → StartsFlow rest (flow_at b at)
  flow_starts u h =
      let w = whole b at kind.Flow h in
      let part = body_bytes b at kind.Flow w u in
      let y : flow_written (flow_at b at) ≡ body_at b at flow_body = flow_back _ (body_long b at kind.Flow w) part in
      record {
        rest = drop (at + flow_record) b;
        typed = read-typed (body_at b at flow_body) part;
        bytes = sym e ∙ record_split b at kind.Flow w ∙ ap (λ (l : List ℕ). flow_kind ∷ (l ++ drop (at + flow_record) b)) (sym y);
      }

module _ (b : List ℕ) where
  pub links_starts : Bytes b → kind_at b 0 ≡ Some kind.Links → StartsLinks b (links_at b 0).lmin (links_at b 0).lmax
  links_starts u h =
      let w = whole b 0 kind.Links h in
      let part = body_bytes b 0 kind.Links w u in
      let y = links_back (body_at b 0 links_body) (body_long b 0 kind.Links w) part in
      record {
        rest = drop links_record b;
        least = omega (arith, part 0, part 1);
        most = omega (arith, part 2, part 3);
        bytes = record_split b 0 kind.Links w ∙ ap (λ (l : List ℕ). links_kind ∷ (l ++ drop links_record b)) (sym y);
      }

  module _ (lmin lmax : ℕ) (s : StartsLinks b lmin lmax) where
    pub links_here : kind_at b 0 ≡ Some kind.Links
    links_here = record_here b 0 refl kind.Links (links_written lmin lmax) s.rest refl s.bytes

    links-same : links_at b 0 ≡ record { lmin = lmin; lmax = lmax }
    links-same = rw s.bytes (links_again lmin lmax s.least s.most)

    pub records_start : read_records b ≡ unless (delay_cause lmin lmax) 0 (read_after_links lmin lmax b)
    records_start =
        records_at_links b links_here ∙
        ap (λ (x : Links). unless (delay_cause x.lmin x.lmax) 0 (read_after_links x.lmin x.lmax b)) links-same

-- ---- written, then read
pub number_last : (fs : List Flow) (f : Flow) → last_number (fs ++ (f ∷ [])) ≡ f.number
unfolding last_number
number_last fs f = ap (λ (g : Flow). g.number) (last_snoc fs f no_flow)

accepted_record : (fs : List Flow) (f : Flow) → last_number fs < f.number → length fs < most_flows → Typed f → WellFormed f → record_cause fs f ≡ accepted
unfolding record_cause
accepted_record fs f h g t w = rw (← falls_not f.number (last_number fs) h, formed_passes f t w, lt-leb most_flows (length fs) g)

-- a flow's record that is accepted
goes_on : (room next lmin lmax : ℕ) (fs : List Flow) (b : List ℕ) (at : ℕ) (f : Flow) → kind_at b at ≡ Some kind.Flow → flow_at b at ≡ f →
    record_cause fs f ≡ accepted → room ≡ suc next →
    read_flows room lmin lmax fs b at ≡ read_flows next lmin lmax (fs ++ (f ∷ [])) b (at + flow_record)
unfolding unless next_after
goes_on room next lmin lmax fs b at f here same good more = flows_at_flow room lmin lmax fs b at here ∙ rw (more, same, good)

-- after flows that are not refused, reading goes on behind their records
read_flows_lem : (gs fs : List Flow) (b post : List ℕ) (at lmin lmax : ℕ) → drop at b ≡ flows_bytes gs ++ post →
    Rising (last_number fs) gs → length fs + length gs ≤ most_flows → Each WellFormed gs → Each Typed gs →
    read_flows (most_flows - length fs) lmin lmax fs b at ≡
    read_flows (most_flows - length (fs ++ gs)) lmin lmax (fs ++ gs) b (at + length (flows_bytes gs))
unfolding row_bytes
read_flows_lem [] fs b post at lmin lmax s r h c t = rw (append-nil fs, add-zero)
read_flows_lem (g ∷ gs) fs b post at lmin lmax s (rising-more j r) h (each_more e c) (each_more u t) =
    let z : StartsFlow ((flow_bytes g ++ flows_bytes gs) ++ post) g =
    record { rest = flows_bytes gs ++ post; typed = u; bytes = append_assoc (flow_bytes g) (flows_bytes gs) post } in
    let more : most_flows - length fs ≡ suc (most_flows - length (fs ++ (g ∷ []))) = omega (arith, length_snoc fs g) in
    let p : at + flow_record + length (flows_bytes gs) ≡ at + length (flow_bytes g ++ flows_bytes gs) =
    omega (arith, length-append (flow_bytes g) (flows_bytes gs), length-flow g u.nodes u.costs) in
    let l : length (fs ++ (g ∷ [])) + length gs ≤ most_flows = omega (arith, length_snoc fs g) in
    let v : Rising (last_number (fs ++ (g ∷ []))) gs = rw (number_last fs g) r in
    let ih = read_flows_lem gs (fs ++ (g ∷ [])) b post (at + flow_record) lmin lmax (flow_next b at s z) v l c t in
    goes_on _ _ lmin lmax fs b at g (flow_here_lem b at s z) (flow_same b at s z) (accepted_record fs g j (omega arith) u e) more ∙
    rw (append_snoc fs g gs, p) at ih

module _ {b : List ℕ} {fs : List Flow} {place : ℕ} {rest : List ℕ} (a : After b fs place rest) where
  pub after_rest : drop place b ≡ rest
  after_rest = ap (drop place) a.bytes ∙ drop_at (links_bytes a.lmin a.lmax ++ flows_bytes fs) rest place (sym a.place_is)

  -- the records that are not refused are read, whatever follows them
  pub read_after : read_records b ≡ read_flows (most_flows - length fs) a.lmin a.lmax fs b place
  unfolding unless last_number
  read_after =
      let r = a.readable in
      let d = r.delays in
      let x : List ℕ = links_bytes a.lmin a.lmax in
      let e : b ≡ x ++ (flows_bytes fs ++ rest) = a.bytes ∙ append_assoc x (flows_bytes fs) rest in
      let s : StartsLinks b a.lmin a.lmax =
      record { rest = flows_bytes fs ++ rest; least = omega (arith, d); most = omega (arith, d); bytes = e } in
      let p : links_record + length (flows_bytes fs) ≡ place = omega (arith, a.place_is, length-append x (flows_bytes fs)) in
      records_start b a.lmin a.lmax s ∙ ap (λ (c : Ruling). unless c 0 (read_after_links a.lmin a.lmax b)) (delays_passes a.lmin a.lmax d) ∙
      rw p at (read_flows_lem fs [] b rest links_record a.lmin a.lmax (ap (drop links_record) e) r.rising (omega (arith, r.count)) r.flows r.typed)

form-listed : (b : List ℕ) (i : InForm b) → read_records b ≡ listed i.lmin i.lmax (row_of i.flows)
unfolding plan_bytes
form-listed b i =
    let p : List ℕ = links_bytes i.lmin i.lmax ++ flows_bytes i.flows in
    let a : After b i.flows (length p) (end_kind ∷ []) =
    record { lmin = i.lmin; lmax = i.lmax; readable = i.readable; bytes = i.bytes; place_is = refl } in
    let n : length b ≤ length p + 1 = omega (arith, (first_byte b (length p) (after_rest a) end_kind [] refl).1) in
    let s : StartsEnd (end_kind ∷ []) = record { rest = []; bytes = refl } in
    read_after a ∙
    flows_at_end (most_flows - length i.flows) i.lmin i.lmax i.flows b (length p) (end_here b (length p) (after_rest a) s) ∙
    rw (le-ltb (length p + 1) (length b) n)

-- What is in form is read, as the set that it lists
pub form_read : (b : List ℕ) (i : InForm b) → read_plan b ≡ reading_of (listed i.lmin i.lmax (row_of i.flows))
form_read b i = ap reading_of (form-listed b i)

-- What is written and then read is the set that was written
pub write_read : (lmin lmax : ℕ) (fs : List Flow) → Readable lmin lmax fs → read_plan (plan_bytes lmin lmax fs) ≡ reading_of (listed lmin lmax (row_of fs))
write_read lmin lmax fs s = form_read (plan_bytes lmin lmax fs) (record { lmin = lmin; lmax = lmax; flows = fs; readable = s; bytes = refl })

-- ---- the length of a plan
long_each : (fs : List Flow) → Each Typed fs → Each (λ f. length (flow_bytes f) ≡ flow_record) fs
long_each [] e = each_none
long_each (f ∷ fs) (each_more t e) = each_more (ap suc (length-flow f t.nodes t.costs)) (long_each fs e)

pub flows_long : (fs : List Flow) → Each Typed fs → length (flows_bytes fs) ≡ flow_record * length fs
flows_long fs e = row_long flow_bytes links_record flow_record fs (long_each fs e)

-- the length that RULES, writing, says
pub plan_long : (lmin lmax : ℕ) (fs : List Flow) → Each Typed fs → length (plan_bytes lmin lmax fs) ≡ 6 + 34 * length fs
unfolding plan_bytes
plan_long lmin lmax fs e =
    omega (arith, length-append (links_bytes lmin lmax ++ flows_bytes fs) (end_kind ∷ []), length-append (links_bytes lmin lmax) (flows_bytes fs), flows_long fs e)

pub plan-length : (n : ℕ) → plan_length n ≡ 6 + 34 * n
plan-length n = omega arith
