-- A flow as numbers, and a row as the numbers of its network. Assumes nothing.
use mathlib.Core.Path.{◌≡◌, refl, sym, ap, ◌∙◌}
use mathlib.Core.List.{List, [], ◌∷◌, map}
use Prim.Native.Nat.{ℕ, zero, suc, ◌+◌, ◌*◌, ◌≤◌, ◌<◌}
use native.Mathlib.Omega.{arith}
use lib.ListN.{length, get_or, set, length-take, length-map, length-set, get_or-map}
use lib.Seq.{get_or-set_same, get_or-set_other, ext_get_or}
use Rattle.least.specs.Lists.{values}
use Rattle.flows.specs.declared.Flow.{Flow}
use Rattle.flows.specs.declared.Row.{Row}
use Rattle.flows.specs.Lists.{most_flows, most_nodes, no_flow, hops_of, path_of, flow_of, held, net_of}
use Rattle.flows.proofs.Arrays.{length_hops, path_at}
use Rattle.row.specs.Rows.{placed}
use Rattle.nets.specs.Nets as nets
use Rattle.nets.specs.Nets.{Whole, count_in, room_in, field_in, length_in, path_in, flow_in, flows_in, net_in, flow_at}
use Rattle.nets.proofs.Reading as reading
use Rattle.drawing.specs.Drawing.{DrawnAt}

-- the flow at a place, as the rules' network has it
pub at_place : (lmin lmax : ℕ) (row : Row) (k : ℕ) → flow_at (net_of lmin lmax row) k ≡ flow_of (placed row k)
at_place lmin lmax row k = get_or-map flow_of (held row) k no_flow

-- a store keeps what is before it
keeps : (l : List ℕ) (i k x : ℕ) → k < i → values (set l i x) k ≡ values l k
keeps l i k x h = get_or-set_other l i k x 0 (λ e. omega arith)

-- numbers stored one behind the other, from at + k on
abbrev stored : List ℕ → ℕ → ℕ → List ℕ → List ℕ
stored [] at k l = l
stored (x ∷ xs) at k l = stored xs at (suc k) (set l (at + k) x)

stored_long : (xs : List ℕ) (at k : ℕ) (l : List ℕ) → length (stored xs at k l) ≡ length l
stored_long [] at k l = refl
stored_long (x ∷ xs) at k l = stored_long xs at (suc k) (set l (at + k) x) ∙ length-set l (at + k) x

stored-before : (xs : List ℕ) (at k : ℕ) (l : List ℕ) (j : ℕ) → j < at + k → values (stored xs at k l) j ≡ values l j
stored-before [] at k l j h = refl
stored-before (x ∷ xs) at k l j h = stored-before xs at (suc k) (set l (at + k) x) j (omega arith) ∙ keeps l (at + k) j x h

stored_at : (xs : List ℕ) (at k : ℕ) (l : List ℕ) (j p : ℕ) → p ≡ at + (k + j) → j < length xs → at + (k + length xs) ≤ length l → values (stored xs at k l) p ≡ values xs j
stored_at [] at k l j p e h fit = absurd (omega arith)
stored_at (x ∷ xs) at k l zero p e h fit =
    let s : p ≡ at + k = omega arith in
    stored-before xs at (suc k) (set l (at + k) x) p (omega arith) ∙ ap (values (set l (at + k) x)) s ∙ get_or-set_same l (at + k) x 0 (omega arith)
stored_at (x ∷ xs) at k l (suc j) p e h fit =
    stored_at xs at (suc k) (set l (at + k) x) j p (omega arith) (omega arith) (omega (arith, length-set l (at + k) x))

-- nodes and costs of the places below k, behind the fields of the flow, which are kept
pub record PathTo (f : Flow) (at : ℕ) (net net' : List ℕ) (k : ℕ) : Type 0 where
  pub kept : (j : ℕ) → j < at + 6 → values net' j ≡ values net j
  pub node : (j : ℕ) → j < k → values net' (at + (6 + 2 * j)) ≡ get_or f.nodes j 0
  pub cost : (j : ℕ) → j < k → values net' (at + (7 + 2 * j)) ≡ get_or f.costs j 0
  pub long : length net' ≡ length net

-- a flow as it stands at a place
pub record Stands (f : Flow) (at : ℕ) (net : List ℕ) : Type 0 where
  pub drawn : DrawnAt f at net net
  pub nodes : length f.nodes ≡ most_nodes
  pub costs : length f.costs ≡ most_nodes

-- what is as it was from there to its end has the flow
still_drawn : (f : Flow) (at : ℕ) (old net net' : List ℕ) → DrawnAt f at old net → ((k : ℕ) → at ≤ k → k < at + 22 → values net' k ≡ values net k) →
    DrawnAt f at net' net'
still_drawn f at old net net' d same = record {
  number = same at (omega arith) (omega arith) ∙ d.number;
  priority = same (at + 1) (omega arith) (omega arith) ∙ d.priority;
  period = same (at + 2) (omega arith) (omega arith) ∙ d.period;
  jitter = same (at + 3) (omega arith) (omega arith) ∙ d.jitter;
  deadline = same (at + 4) (omega arith) (omega arith) ∙ d.deadline;
  path = same (at + 5) (omega arith) (omega arith) ∙ d.path;
  node = λ k h. same (at + (6 + 2 * k)) (omega arith) (omega arith) ∙ d.node k h;
  cost = λ k h. same (at + (7 + 2 * k)) (omega arith) (omega arith) ∙ d.cost k h;
  before = λ k h. refl;
  long = refl;
}

still_stands : (f : Flow) (at : ℕ) (net net' : List ℕ) → Stands f at net → ((k : ℕ) → at ≤ k → k < at + 22 → values net' k ≡ values net k) → Stands f at net'
still_stands f at net net' s same = record { drawn = still_drawn f at net net net' s.drawn same; nodes = s.nodes; costs = s.costs }

-- it is read back
module _ (f : Flow) (net : List ℕ) (a : ℕ) (room : room_in net ≡ most_nodes) (s : Stands f (4 + a * 22) net) where
  field : (k : ℕ) → field_in net a k ≡ values net (4 + a * 22 + k)
  unfolding field_in
  field k = ap (λ r. values net (4 + a * (6 + 2 * r) + k)) room

  path-read : path_in net a ≡ path_of f
  path-read = ext_get_or nets.no_hop (path_in net a) (path_of f) long each
    where
      end : length_in net a ≡ length (path_of f)
      end = omega (
        arith,
        room,
        field 5,
        s.drawn.path,
        length-take f.length (hops_of f.nodes f.costs),
        length_hops f.nodes f.costs most_nodes s.nodes s.costs,
      )

      long : length (path_in net a) ≡ length (path_of f)
      long = reading.path_length net a ∙ end

      each : (k : ℕ) → k < length (path_in net a) → get_or (path_in net a) k nets.no_hop ≡ get_or (path_of f) k nets.no_hop
      each k h =
          let u : k < most_nodes = omega (arith, room, reading.path_length net a) in
          reading.path_at net a k (omega (arith, reading.path_length net a))
          ∙ (λ x. record { node = (field (6 + 2 * k) ∙ s.drawn.node k u) x; cost = (field (7 + 2 * k) ∙ s.drawn.cost k u) x })
          ∙ sym (path_at f s.nodes s.costs k (omega (arith, long)))

  flow-read : flow_in net a ≡ flow_of f
  flow-read =
      let place : 4 + a * 22 + 0 ≡ 4 + a * 22 = omega arith in
      λ x. record {
        number = (field 0 ∙ ap (values net) place ∙ s.drawn.number) x;
        priority = (field 1 ∙ s.drawn.priority) x;
        period = (field 2 ∙ s.drawn.period) x;
        jitter = (field 3 ∙ s.drawn.jitter) x;
        deadline = (field 4 ∙ s.drawn.deadline) x;
        path = path-read x;
      }

-- a row of which the flows below a are drawn
pub record Pictured (row : Row) (a : ℕ) (net : List ℕ) : Type 0 where
  pub flows : (b : ℕ) → b < a → Stands (placed row b) (4 + b * 22) net
  pub long : length net ≡ 356

-- the head, written last
abbrev headed : ℕ → ℕ → ℕ → List ℕ → List ℕ
headed n lmin lmax net = set (set (set (set net 0 n) 1 most_nodes) 2 lmin) 3 lmax

module _ (n lmin lmax : ℕ) (net : List ℕ) where
  headed-behind : (k : ℕ) → 4 ≤ k → values (headed n lmin lmax net) k ≡ values net k
  headed-behind k h =
      get_or-set_other (set (set (set net 0 n) 1 most_nodes) 2 lmin) 3 k lmax 0 (λ e. omega arith)
      ∙ get_or-set_other (set (set net 0 n) 1 most_nodes) 2 k lmin 0 (λ e. omega arith)
      ∙ get_or-set_other (set net 0 n) 1 k most_nodes 0 (λ e. omega arith)
      ∙ get_or-set_other net 0 k n 0 (λ e. omega arith)

  headed-at : (k : ℕ) → k < 4 → 4 ≤ length net → values (headed n lmin lmax net) k ≡ values (n ∷ most_nodes ∷ lmin ∷ lmax ∷ []) k
  headed-at k h fit = stored_at (n ∷ most_nodes ∷ lmin ∷ lmax ∷ []) 0 0 net k k (omega arith) h fit

module _ (row : Row) where
  module _ (lmin lmax a n : ℕ) (net : List ℕ) (i : Pictured row a net) (size : n ≡ length (held row)) (few : n ≤ most_flows) where
    picture-count : count_in (headed n lmin lmax net) ≡ length (held row)
    picture-count = omega (arith, headed-at n lmin lmax net 0 (omega arith) (omega (arith, i.long)))

    picture-room : room_in (headed n lmin lmax net) ≡ most_nodes
    picture-room = omega (arith, headed-at n lmin lmax net 1 (omega arith) (omega (arith, i.long)))

    pub picture_end : n ≤ a → net_in (headed n lmin lmax net) ≡ net_of lmin lmax row
    picture_end all = λ x. record {
      lmin = headed-at n lmin lmax net 2 (omega arith) (omega (arith, i.long)) x;
      lmax = headed-at n lmin lmax net 3 (omega arith) (omega (arith, i.long)) x;
      flows = flows x;
    }
      where
        full : List ℕ
        full = headed n lmin lmax net

        stands : (k : ℕ) → k < a → Stands (placed row k) (4 + k * 22) full
        stands k h = still_stands (placed row k) (4 + k * 22) net full (i.flows k h) (λ j l m. headed-behind n lmin lmax net j (omega arith))

        each : (k : ℕ) → k < length (flows_in full) → get_or (flows_in full) k nets.no_flow ≡ get_or (map flow_of (held row)) k nets.no_flow
        each k h =
            let u : k < count_in full = omega (arith, reading.flows_length full) in
            reading.flow_at_lem full k u
            ∙ flow-read (placed row k) full k picture-room (stands k (omega (arith, picture-count)))
            ∙ sym (at_place lmin lmax row k)

        flows : flows_in full ≡ map flow_of (held row)
        flows =
            ext_get_or nets.no_flow (flows_in full) (map flow_of (held row)) (reading.flows_length full ∙ picture-count ∙ sym (length-map (held row) flow_of)) each
