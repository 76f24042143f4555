-- What the loops find is the rules' judgement. Assumes nothing.
use mathlib.Core.Path.{◌≡◌, refl, sym, ap, ap₂, ◌∙◌, subst}
use mathlib.Core.Bool.{Bool, true, false}
use mathlib.Core.Logic.{inl, inr}
use Rattle.ascent.proofs.Steps.{member_place}
use mathlib.Core.List.{List, [], ◌∷◌, ◌++◌, map}
use Prim.Native.Nat.{ℕ, zero, suc, ◌+◌, ◌-◌, ◌*◌, ◌≤◌, ◌<◌}
use native.Mathlib.Omega.{arith}
use lib.Dec.{ltb}
use lib.ListN.{length, get_or, replicate, length-map, length-append, length-replicate, get_or-map}
use lib.Seq.{ext_get_or}
use borrow.Author.Tests.{ltb-false}
use Rattle.least.specs.Fold.{sum_of}
use Rattle.least.specs.Lists.{values}
use Rattle.least.proofs.Count.{le_or-lt}
use Rattle.rules.specs.Net as rules
use Rattle.rules.specs.Net.{Net, Judgement, Refused, Given}
use Rattle.rules.specs.Formula.{horizon, least, last_node, jitter_of, Arrivals}
use Rattle.rules.specs.Meaning.{Here, unsettled}
use Rattle.rules.specs.Valid.{Valid}
use Rattle.rules.specs.Judge.{busy_length, response, figures, misplaced, first_or, settled_judged, load_judged, judged}
use Rattle.rules.specs.Ready.{Ready}
use Rattle.rules.proofs.Valid.{sound}
use Rattle.rules.proofs.Judge.{settles_by, settles_is, settles_unique, judged_is, judged_unique}
use Rattle.std.specs.Prelude.{Option, Some, None, Result, Ok, Err}
use Rattle.flows.specs.declared.Figures.{Figures}
use Rattle.flows.specs.declared.Row.{Row}
use Rattle.flows.specs.declared.Cause.TheVariants.{Crossing, NoBusyLength, Unsettled, PastDeadline}
use Rattle.flows.specs.Lists.{most_flows, most_nodes, flow_of, held, net_of}
use Rattle.row.specs.Rows.{placed}
use Rattle.nets.specs.Nets.{count_in, room_in, flow_in, net_in, no_hop, no_flow, flow_at}
use Rattle.nets.proofs.Reading.{flows_length, flow_at_lem}
use Rattle.nets.proofs.Places.{member_at}
use Rattle.drawing.proofs.Drawing.{at_place}
use Rattle.starts.specs.declared.PastHorizon.{PastHorizon}
use Rattle.ascent.specs.Good.{arrivals_in, Rests}
use Rattle.engine.specs.Verdicts.{Verdict, no_figures, as_figures, cause_of, listed, verdict_from, verdict_of, Meant}
use Rattle.engine.specs.Firsts.{FiguresUpTo, deadline_at, bound_at, verdict_late, DeadlinesIs}
use Rattle.findings.specs.Findings.{FirstIs, crossed, overloaded, Clear, FirstAt, Heavy, Outcome}

-- what is said of the first flow at fault, by place
abbrev said_of : (ℕ → Judgement) → Judgement → List rules.Flow → Option ℕ → Judgement
said_of f other l None = other
said_of f other l (Some k) = f (get_or l k no_flow).number

first_or_lem : (p : rules.Flow → Bool) (f : ℕ → Judgement) (other : Judgement) (l : List rules.Flow) (q : ℕ → Bool) (r : Option ℕ) →
    ((k : ℕ) → k < length l → q k ≡ p (get_or l k no_flow)) → FirstIs q (length l) r → first_or p f l other ≡ said_of f other l r
unfolding first_or
first_or_lem p f other [] q None same i = refl
first_or_lem p f other [] q (Some k) same i = absurd (omega (arith, i.within))
first_or_lem p f other (x ∷ l) q None same i =
    ap (λ b. elim b [ true ↦ f x.number | false ↦ first_or p f l other ]) (sym (same 0 (omega arith)) ∙ i 0 (omega arith))
    ∙ first_or_lem p f other l (λ k. q (suc k)) None (λ k h. same (suc k) (omega arith)) (λ k h. i (suc k) (omega arith))
first_or_lem p f other (x ∷ l) q (Some zero) same i =
    ap (λ b. elim b [ true ↦ f x.number | false ↦ first_or p f l other ]) (sym (same 0 (omega arith)) ∙ i.fails)
first_or_lem p f other (x ∷ l) q (Some (suc r)) same i =
    ap (λ b. elim b [ true ↦ f x.number | false ↦ first_or p f l other ]) (sym (same 0 (omega arith)) ∙ i.before 0 (omega arith))
    ∙ first_or_lem p f other l (λ k. q (suc k)) (Some r) (λ k h. same (suc k) (omega arith))
    (record { within = omega (arith, i.within); before = λ k h. i.before (suc k) (omega arith); fails = i.fails })

-- a list padded to its size
padded_in : {A B : Type 0} (f : A → B) (l : List A) (m : ℕ) (z : B) (d : A) (k : ℕ) → k < length l → get_or (map f l ++ replicate m z) k z ≡ f (get_or l k d)
padded_in f [] m z d k h = absurd (omega arith)
padded_in f (x ∷ l) m z d zero h = refl
padded_in f (x ∷ l) m z d (suc k) h = padded_in f l m z d k (omega arith)

padded_out : {A B : Type 0} (f : A → B) (l : List A) (m : ℕ) (z : B) (k : ℕ) → length l ≤ k → get_or (map f l ++ replicate m z) k z ≡ z
padded_out f [] zero z k h = refl
padded_out f [] (suc m) z zero h = refl
padded_out f [] (suc m) z (suc k) h = padded_out f [] m z k (omega arith)
padded_out f (x ∷ l) m z zero h = absurd (omega arith)
padded_out f (x ∷ l) m z (suc k) h = padded_out f l m z k (omega arith)

last_at : (l : List rules.Hop) → 0 < length l → (get_or l (length l - 1) no_hop).node ≡ last_node l
unfolding last_node
last_at [] h = absurd (omega arith)
last_at (x ∷ []) h = refl
last_at (x ∷ (y ∷ l)) h = ap (λ k. (get_or (x ∷ (y ∷ l)) k no_hop).node) (back (length l)) ∙ ap (λ k. (get_or (y ∷ l) k no_hop).node) (sym (front (length l))) ∙ last_at (y ∷ l) (omega arith)
  where
    back : (n : ℕ) → suc (suc n) - 1 ≡ suc n
    back n = omega arith

    front : (n : ℕ) → suc n - 1 ≡ n
    front n = omega arith

-- a set as numbers
module _ (net : List ℕ) where
  abbrev N : Net
  N = net_in net

  count : length N.flows ≡ count_in net
  count = flows_length net

  -- what a search by place finds
  module _ (p : rules.Flow → Bool) (f : ℕ → Judgement) (other : Judgement) (q : ℕ → Bool) (same : (k : ℕ) → k < count_in net → q k ≡ p (flow_in net k)) where
    tested : (k : ℕ) → k < length N.flows → q k ≡ p (flow_at N k)
    tested k h = let b : k < count_in net = omega (arith, count) in same k b ∙ ap p (sym (flow_at_lem net k b))

    searched : (r : Option ℕ) → FirstIs q (count_in net) r → first_or p f N.flows other ≡ said_of f other N.flows r
    searched r i = first_or_lem p f other N.flows q r tested (subst (λ n. FirstIs q n r) (sym count) i)

  -- 7
  crossing-judged : (k : ℕ) → FirstAt (crossed net) (count_in net) k → judged N ≡ Refused 7 (flow_at N k).number
  unfolding judged
  crossing-judged k i = searched (misplaced N) (Refused 7) (load_judged N) (crossed net) (λ k h. refl) (Some k) i

  placed-judged : Clear (crossed net) (count_in net) → judged N ≡ load_judged N
  unfolding judged
  placed-judged i = searched (misplaced N) (Refused 7) (load_judged N) (crossed net) (λ k h. refl) None i

  module _ (val : Valid N) (busies : List ℕ) where
    -- 8
    overload-judged : (k : ℕ) → Heavy net busies k → load_judged N ≡ Refused 8 (flow_at N k).number
    unfolding load_judged horizon
    overload-judged k o =
        searched (λ j. ltb horizon (busy_length N j)) (Refused 8) (settled_judged N) (overloaded busies) (λ a h. ap (ltb horizon) (o.busies_are val a h)) (Some k) o.heavy

    module _ (given : Result (Unit {0}) PastHorizon) (replies : List ℕ) (o : Outcome net busies given replies) where
      busy_is : (a : ℕ) → a < count_in net → values busies a ≡ busy_length N (flow_at N a)
      busy_is a h = o.busies_are val a h ∙ ap (busy_length N) (sym (flow_at_lem net a h))

      light-judged : load_judged N ≡ settled_judged N
      unfolding load_judged horizon
      light-judged = searched (λ j. ltb horizon (busy_length N j)) (Refused 8) (settled_judged N) (overloaded busies) (λ a h. ap (ltb horizon) (o.busies_are val a h)) None o.light

      ready : (j : rules.Flow) → Here N j → Ready N j
      unfolding horizon
      ready j m =
          let f = member_place no_flow m in
          let h : f.0 < count_in net = omega (arith, f.1, count) in
          record {
            sound = sound N val j m;
            busy = subst (λ q. busy_length N q ≤ 65535) f.2 (omega (arith, busy_is f.0 h, ltb-false 65535 (values busies f.0) (o.light f.0 h)));
          }

    -- 9
    unsettled-judged : (replies : List ℕ) → Outcome net busies (Err (record {})) replies → load_judged N ≡ Refused 9 0
    unsettled-judged replies o =
        let r = ready (Err (record {})) replies o in
        light-judged (Err (record {})) replies o
        ∙ settles_unique N val (settled_judged N) (Refused 9 0) (settles_is N val r) (unsettled (o.settled.outcome val r (o.busies_are val)))

    module _ (replies : List ℕ) (o : Outcome net busies (Ok tt) replies) where
      rests : Rests N (room_in net) replies
      rests = o.settled.outcome val (ready (Ok tt) replies o) (o.busies_are val)

      abbrev S : Arrivals
      S = arrivals_in N (room_in net) replies

      settled-judged : load_judged N ≡ first_or (λ j. ltb j.deadline (figures N S j).bound) (Refused 10) N.flows (Given (map (figures N S) N.flows))
      settled-judged =
          let r = ready (Ok tt) replies o in
          light-judged (Ok tt) replies o ∙ settles_unique N val _ _ (settles_is N val r) (settles_by N S val r rests.least)

      -- the response bound at the last node
      bound-at : (k : ℕ) → k < count_in net →
          values replies (k * room_in net + (length (flow_at N k).path - 1)) ≡ response N (flow_at N k) S (last_node (flow_at N k).path)
      bound-at k h =
          let on : k < length N.flows = omega (arith, count) in
          let nodes = (val.flows (flow_at N k) (member_at N.flows k no_flow on)).nodes in
          rests.responses k (length (flow_at N k).path - 1) on (omega (arith, nodes)) ∙ ap (response N (flow_at N k) S) (last_at (flow_at N k).path nodes)

-- the verdict is that of the judgement which is meant, and no other is
pub judge_meant : (lmin lmax : ℕ) (row : Row) (v : Verdict) → (Valid (net_of lmin lmax row) → v ≡ verdict_of lmin lmax row) →
    (Valid (net_of lmin lmax row) → v ≡ verdict_of lmin lmax row) × (Valid (net_of lmin lmax row) → Meant (net_of lmin lmax row) v)
unfolding verdict_of
judge_meant lmin lmax row v e =
    let N = net_of lmin lmax row in
    (e, λ val. record { judgement = judged N; meant = judged_is N val; said = e val; only = λ w j. judged_unique N val w (judged N) j (judged_is N val) })

-- a row as numbers
module _ (lmin lmax : ℕ) (row : Row) (val : Valid (net_of lmin lmax row)) (net : List ℕ) (is : net_in net ≡ net_of lmin lmax row) where
  valid : Valid (net_in net)
  valid = subst Valid (sym is) val

  flow-of : (k : ℕ) → flow_at (net_in net) k ≡ flow_of (placed row k)
  flow-of k = ap (λ N. flow_at N k) is ∙ at_place lmin lmax row k

  module _ (v : Verdict) where
    judged_as : (j : Judgement) → judged (net_in net) ≡ j → v ≡ verdict_from j → v ≡ verdict_of lmin lmax row
    unfolding verdict_of
    judged_as j e q = q ∙ ap verdict_from (sym e) ∙ ap (λ N. verdict_from (judged N)) is

    pub crossing_said : (k : ℕ) → FirstAt (crossed net) (count_in net) k → v ≡ Err (Crossing (placed row k).number) → v ≡ verdict_of lmin lmax row
    unfolding verdict_from cause_of
    crossing_said k i e =
        judged_as (Refused 7 (flow_at (net_in net) k).number) (crossing-judged net k i) (e ∙ ap (λ f. let w : Verdict = Err (Crossing f.number) in w) (sym (flow-of k)))

    module _ (clear : Clear (crossed net) (count_in net)) (busies : List ℕ) where
      pub overload_said : (k : ℕ) → Heavy net busies k → v ≡ Err (NoBusyLength (placed row k).number) → v ≡ verdict_of lmin lmax row
      unfolding verdict_from cause_of
      overload_said k o e =
          judged_as (Refused 8 (flow_at (net_in net) k).number) (placed-judged net clear ∙ overload-judged net valid busies k o)
          (e ∙ ap (λ f. let w : Verdict = Err (NoBusyLength f.number) in w) (sym (flow-of k)))

      pub unsettled_said : (replies : List ℕ) → Outcome net busies (Err (record {})) replies → v ≡ Err Unsettled → v ≡ verdict_of lmin lmax row
      unfolding verdict_from cause_of
      unsettled_said replies o e = judged_as (Refused 9 0) (placed-judged net clear ∙ unsettled-judged net valid busies replies o) e

  module _ (busies replies : List ℕ) (o : Outcome net busies (Ok tt) replies) (few : count_in net ≤ most_flows) (room : room_in net ≡ most_nodes)
      (table : List Figures) (tally : FiguresUpTo row lmin replies busies (length (held row)) table) where
    abbrev M : Net
    M = net_in net

    abbrev R : Arrivals
    R = arrivals_in (net_in net) (room_in net) replies

    in_row : length M.flows ≡ length (held row)
    in_row = ap (λ N. length N.flows) is ∙ length-map (held row) flow_of

    -- the figures of the flow at place k
    figures-at : (k : ℕ) → k < length M.flows → get_or table k no_figures ≡ as_figures (figures M R (flow_at M k))
    unfolding figures jitter_of
    figures-at k h =
        tally.given k (omega (arith, in_row))
        ∙ ap (λ f. by most_nodes lmin f) (sym (flow-of k))
        ∙ ap₂ (λ w l. by w l (flow_at M k)) (sym room) (sym (ap (λ N. N.lmin) is))
        ∙ ap₂ (λ b c. let g : Figures = record { bound = b; jitter = b - (sum_of least (flow_at M k).path + (length (flow_at M k).path - 1) * M.lmin); busy = c } in g)
        (bound-at net valid busies replies o k here) (busy_is net valid busies (Ok tt) replies o k here)
      where
        here : k < count_in net
        here = omega (arith, flows_length net)

        by : ℕ → ℕ → rules.Flow → Figures
        by w l f = record {
          bound = values replies (k * w + (length f.path - 1));
          jitter = values replies (k * w + (length f.path - 1)) - (sum_of least f.path + (length f.path - 1) * l);
          busy = values busies k;
        }

    given_list : List rules.Figures
    given_list = map (figures M R) M.flows

    all-figures : table ≡ map as_figures given_list ++ replicate (most_flows - length given_list) no_figures
    unfolding given_list
    all-figures = ext_get_or no_figures table (map as_figures given_list ++ replicate (most_flows - length given_list) no_figures) long each
      where
        same : length given_list ≡ length M.flows
        same = length-map M.flows (figures M R)

        long : length table ≡ length (map as_figures given_list ++ replicate (most_flows - length given_list) no_figures)
        long = omega (
          arith,
          tally.long,
          length-append (map as_figures given_list) (replicate (most_flows - length given_list) no_figures),
          length-map given_list as_figures,
          length-replicate {A = Figures} (most_flows - length given_list) no_figures,
          same,
          flows_length net,
        )

        each : (k : ℕ) → k < length table → get_or table k no_figures ≡ get_or (map as_figures given_list ++ replicate (most_flows - length given_list) no_figures) k no_figures
        each k h = elim (le_or-lt (length M.flows) k) [
          | inl q ↦ tally.rest k (omega (arith, in_row)) ∙ sym (padded_out as_figures given_list (most_flows - length given_list) no_figures k (omega (arith, same)))
          | inr q ↦ figures-at k q
              ∙ sym (ap as_figures (get_or-map (figures M R) M.flows k no_flow))
              ∙ sym (padded_in as_figures given_list (most_flows - length given_list) no_figures (figures M R no_flow) k (omega (arith, same)))
        ]

    -- 10, or accepted
    pub figures_said : Clear (crossed net) (count_in net) → (v : Verdict) → DeadlinesIs row table v → v ≡ verdict_of lmin lmax row
    unfolding verdict_from cause_of listed given_list
    figures_said clear v d =
        judged_as v (said_of (Refused 10) (Given (map (figures M R) M.flows)) M.flows d.late)
        (placed-judged net clear
        ∙ settled-judged net valid busies replies o
        ∙ first_or_lem (λ j. ltb j.deadline (figures M R j).bound) (Refused 10) (Given (map (figures M R) M.flows)) M.flows (λ k. ltb (deadline_at row k) (bound_at table k)) d.late
        (λ k h. ap₂ (λ a b. ltb a b) (ap (λ f. f.deadline) (sym (flow-of k))) (ap (λ g. g.bound) (figures-at k h)))
        (subst (λ m. FirstIs (λ k. ltb (deadline_at row k) (bound_at table k)) m d.late) (sym in_row) d.first))
        (d.said ∙ said d.late)
      where
        said : (late : Option ℕ) → verdict_late row table late ≡ verdict_from (said_of (Refused 10) (Given (map (figures M R) M.flows)) M.flows late)
        said None = ap (λ t. let w : Verdict = Ok t in w) all-figures
        said (Some k) = ap (λ f. let w : Verdict = Err (PastDeadline f.number) in w) (sym (flow-of k))
