-- A whole sheet: its sums, starting times and response bounds are the rules'. Assumes nothing.
use mathlib.Core.Path.{◌≡◌, sym, ap, ◌∙◌, subst}
use mathlib.Core.Bool.{true}
use mathlib.Core.List.{List}
use Prim.Native.Nat.{ℕ, ◌+◌, ◌-◌, ◌*◌, ◌≤◌, ◌<◌}
use native.Mathlib.Omega.{arith}
use native.Mathlib.Nat.{le_refl}
use lib.ListN.{length, get_or}
use Rattle.least.specs.Fold.{sum_to, sum_of}
use Rattle.least.specs.Fixed.{Least}
use Rattle.least.specs.Instants.{best_to}
use Rattle.least.proofs.Count.{count_after}
use Rattle.least.proofs.Fold.{sum_to_ext, sum_to_list}
use Rattle.least.proofs.Fixed.{least_ext}
use Rattle.least.proofs.Instants.{best_ext}
use Rattle.rules.specs.Net.{Flow, Net}
use Rattle.rules.specs.Formula.{horizon, visits, prefix, before, cost_at, slowest, own_weight, Arrivals, term3, term4, term5, term6, sum, arrivals}
use Rattle.rules.specs.Valid.{Valid}
use Rattle.rules.specs.Judge.{busy_length, start, response}
use Rattle.rules.specs.Ready.{Ready}
use Rattle.rules.proofs.Path.{before-visits}
use Rattle.rules.proofs.Start.{sum_rising, meant_starts, start_unique, start_is, response_is}
use Rattle.rules.proofs.Exact.{cost-slowest}
use Rattle.nets.specs.Nets.{flow_at, node_at, position_of}
use Rattle.nets.proofs.Places.{visits_at, position_node, prefix_at}
use Rattle.nets.proofs.Sets.{flow_here_lem}
use Rattle.terms.specs.Terms.{base_of}
use Rattle.blocks.specs.Sheet.{entries_in, entry_at, term_of, sheet_sum, seen, sums}
use Rattle.starts.specs.Runs.{StartsOf, reply_at, PastAt}
use Rattle.frames.specs.Frames.{Entry, no_entry, EntryIs, Listed}
use Rattle.entries.specs.Fields.{up_to, term_by, entries_to, added_of, responses_in}
use Rattle.sheets.specs.Sheets.{SheetIs}
use Rattle.entries.proofs.Link.{entries_sum}

-- the entries of a block add up to those listed
module _ (e : List ℕ) (v : ℕ → ℕ) where
  term_is : (k : ℕ) (x : Entry) → EntryIs e k x → term_of e v k ≡ term_by v x
  unfolding term_of term_by
  term_is k x at = rw (at.look, at.plus, at.less, at.period, at.weight)

  listed-sum : (p : ℕ) (l : List Entry) → Listed e p l → sum_to (entries_in e p) (λ q. term_of e v (entry_at e p q)) ≡ sum_of (term_by v) l
  listed-sum p l is =
      ap (λ n. sum_to n (λ q. term_of e v (entry_at e p q))) is.count
      ∙ sum_to_ext (length l) _ _ (λ q on. term_is (entry_at e p q) (get_or l q no_entry) (is.each q on)) ∙ sum_to_list (term_by v) l no_entry

module _ (N : Net) (val : Valid N) (w : ℕ) (r : ℕ → ℕ) (a : ℕ) (here : a < length N.flows) (e : List ℕ) (sheet : SheetIs N w r a e) where
  abbrev i : Flow
  i = flow_at N a

  abbrev S : Arrivals
  S = arrivals N (responses_in N w r)

  abbrev m : ℕ
  m = length i.path

  module _ (p : ℕ) (on : p < m) where
    abbrev h : ℕ
    h = node_at i p

    visited : visits i.path h ≡ true
    visited = visits_at i.path p on

    prefix-is : prefix h i.path ≡ up_to i p
    prefix-is = prefix_at i.path (val.flows i (flow_here_lem N a here)).distinct p on

    abbrev entries : List Entry
    entries = entries_to N w r a (prefix h i.path) h (length N.flows)

    listed : Listed e p entries
    listed = subst (λ P. Listed e p (entries_to N w r a P h (length N.flows))) (sym prefix-is) (sheet.entries p on)

    -- the sum at node p
    pub sums_are : (u : ℕ) (x : ℕ → ℕ) (s : ℕ) → sums e u p x s ≡ sum N i S u h (λ l. x (position_of l i.path)) s
    unfolding sheet_sum sum term3 base_of own_weight
    sums_are u x s = omega (
      arith,
      sheet.base p on,
      ap (λ P. term4 N i P + term5 N i P + term6 N P + slowest P i.path - cost_at i.path h) prefix-is,
      listed-sum e (seen x s u) p entries listed,
      entries_sum N val w r a here h x s u,
      ap (λ c. c * slowest (prefix h i.path) i.path) (count_after u i.period (val.flows i (flow_here_lem N a here)).period),
      cost-slowest h i.path visited,
    )

    -- the starting time at node p
    module _ (ready : Ready N i) (u : ℕ) where
      by_place : ℕ → ℕ
      by_place l = start N i S u (node_at i (position_of l i.path))

      same_start : (l : ℕ) → visits (before h i.path) l ≡ true → by_place l ≡ start N i S u l
      unfolding by_place
      same_start l q = ap (start N i S u) (position_node i.path l (before-visits h l i.path q))

      same_sum : (s : ℕ) → sum N i S u h (start N i S u) s ≡ sum N i S u h by_place s
      same_sum s = omega (
        arith,
        sum_rising N i ready.sound S S (λ k. le_refl _) u u (le_refl u) h visited (start N i S u) by_place (λ l q. omega (arith, same_start l q)) s s (omega arith),
        sum_rising N i ready.sound S S (λ k. le_refl _) u u (le_refl u) h visited by_place (start N i S u) (λ l q. omega (arith, same_start l q)) s s (omega arith),
      )

      start_at_p : Least (sums e u p (λ q. start N i S u (node_at i q))) (start N i S u h)
      unfolding by_place
      start_at_p =
          least_ext (λ s. same_sum s ∙ sym (sums_are u (λ q. start N i S u (node_at i q)) s))
          (meant_starts N i ready.sound S (start N i S) (start_is N i ready S) u h visited)

  -- the rules' starting times, by place
  abbrev pub times : ℕ → ℕ → ℕ
  times u p = start N i S u (node_at i p)

  module _ (ready : Ready N i) where
    pub starts : StartsOf e m times
    starts u p on = start_at_p p on ready u

    module _ (p : ℕ) (on : p < m) where
      -- W + C − t is at most the response bound of the rules, whatever the instant
      pub replies_below : (t : ℕ) → reply_at e times p t ≤ response N i S (node_at i p) + t
      unfolding added_of
      replies_below t =
          let g = response_is N i ready S (node_at i p) (visited p on) in
          omega (
            arith,
            sheet.added p on,
            g.greatest.above t,
            start_unique N i ready.sound S g.W (start N i S) g.start (start_is N i ready S) t (node_at i p) (visited p on),
          )

      -- and its maximum over a busy length is that
      pub replies_best : best_to (reply_at e times p) (busy_length N i) ≡ response N i S (node_at i p)
      unfolding response added_of
      replies_best = best_ext _ _ (λ u. omega (arith, sheet.added p on)) (busy_length N i)

    pub replies_past : (u : ℕ) → PastAt e m times u → (p : ℕ) × (p < m) × (horizon < response N i S (node_at i p))
    unfolding horizon
    replies_past u q = (q.node, q.on, omega (arith, q.past, replies_below q.node q.on u))
