-- The costs of a path, and the figures of each flow, one after the other. Assumes nothing.
use mathlib.Core.Path.{◌≡◌, refl, sym, ap, ◌∙◌, subst}
use mathlib.Core.List.{List}
use Prim.Native.Nat.{ℕ, zero, suc, ◌+◌, ◌-◌, ◌*◌, ◌≤◌, ◌<◌}
use native.Mathlib.Omega.{arith}
use lib.ListN.{length, get_or, set, drop, replicate, length-take, length-set, length-replicate}
use lib.Seq.{get_or-set_same, get_or-set_other}
use borrow.Author.Count.{below_more}
use Rattle.least.specs.Fold.{sum_of}
use Rattle.least.proofs.Lists.{drop_next, drop_past}
use Rattle.rules.specs.Net.{Hop}
use Rattle.rules.specs.Formula.{least}
use Rattle.flows.specs.declared.Flow.{Flow}
use Rattle.flows.specs.declared.Figures.{Figures}
use Rattle.flows.specs.declared.Row.{Row}
use Rattle.flows.specs.Lists.{most_nodes, hops_of, path_of}
use Rattle.row.specs.Rows.{placed}
use Rattle.flows.proofs.Arrays.{nowhere, length_hops, path_at}
use Rattle.least.specs.Lists.{values}
use Rattle.engine.specs.Verdicts.{no_figures}
use Rattle.engine.specs.Firsts.{hop_at, figure_of, figure_at, FiguresUpTo}

-- the cost at a place
module _ (f : Flow) (nodes : length f.nodes ≡ most_nodes) (costs : length f.costs ≡ most_nodes) (k : ℕ) (h : k < length (path_of f)) where
  pub place_fits : k < most_nodes
  place_fits = omega (arith, length-take f.length (hops_of f.nodes f.costs), length_hops f.nodes f.costs most_nodes nodes costs)

  pub cost_read : get_or f.costs k 0 ≡ least (hop_at f k)
  cost_read = sym (ap (λ (q : Hop). q.cost) (path_at f nodes costs k h))

-- the sum of the costs: what is left from place k, with what was gathered, is e
module _ (f : Flow) (n k : ℕ) (len : n ≡ length (path_of f)) (e acc : ℕ) (inv : acc + sum_of least (drop k (path_of f)) ≡ e) where
  pub sum_more : (x : ℕ) → k < n → x ≡ least (hop_at f k) → acc + x + sum_of least (drop (k + 1) (path_of f)) ≡ e
  unfolding sum_of
  sum_more x h q = omega (arith, ap (sum_of least) (drop_next (path_of f) k nowhere (omega arith)))

  pub sum_end : n ≤ k → acc ≡ e
  unfolding sum_of
  sum_end h = omega (arith, ap (sum_of least) (drop_past (path_of f) k (omega arith)))

none_at : (n k : ℕ) → get_or (replicate n no_figures) k no_figures ≡ no_figures
none_at zero k = refl
none_at (suc n) zero = refl
none_at (suc n) (suc k) = none_at n k

module _ (row : Row) (lmin : ℕ) (replies busies : List ℕ) where
  pub tally_none : (none : Figures) → none ≡ no_figures → FiguresUpTo row lmin replies busies 0 (replicate 16 none)
  tally_none none e = subst (λ f. FiguresUpTo row lmin replies busies 0 (replicate 16 f)) (sym e) (record {
    long = length-replicate {A = Figures} 16 no_figures;
    given = λ k h. absurd (omega arith);
    rest = λ k h. none_at 16 k;
  })

  pub tally_more : (figures : List Figures) (k : ℕ) → FiguresUpTo row lmin replies busies k figures → k < 16 → (f : Flow) (at : ℕ) (g : Figures) →
      f ≡ placed row k → at ≡ length (path_of f) - 1 → g ≡ figure_of f lmin (values replies (k * most_nodes + at)) (values busies k) →
      FiguresUpTo row lmin replies busies (k + 1) (set figures k g)
  tally_more figures k t h f at g p q e = record {
    long = simp length-set t.long;
    given = below_more (λ j. get_or (set figures k g) j no_figures ≡ figure_at row lmin replies busies j) k
        (λ j r. get_or-set_other figures k j g no_figures (λ z. omega arith) ∙ t.given j r)
        (get_or-set_same figures k g no_figures (omega (arith, t.long)) ∙ is);
    rest = λ j r. get_or-set_other figures k j g no_figures (λ z. omega arith) ∙ t.rest j (omega arith);
  }
    where
      is : g ≡ figure_at row lmin replies busies k
      is = e
          ∙ ap (λ x. figure_of f lmin (values replies (k * most_nodes + x)) (values busies k)) q
          ∙ ap (λ i. figure_of i lmin (values replies (k * most_nodes + (length (path_of i) - 1))) (values busies k)) p

  pub tally_end : (figures : List Figures) (k n : ℕ) → FiguresUpTo row lmin replies busies k figures → k ≤ n → n ≤ k → FiguresUpTo row lmin replies busies n figures
  tally_end figures k n t a b = let e : k ≡ n = omega arith in subst (λ m. FiguresUpTo row lmin replies busies m figures) e t
