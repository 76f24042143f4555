-- Two sets compared, however they differ: where each flow's sums are at most those of a partner at the same instant t, so are its
-- starting times, its response bounds and the arrival bounds that follow. Assumes nothing.
use mathlib.Core.Path.{◌≡◌, refl, ap, ap₂, subst}
use mathlib.Core.Bool.{true}
use mathlib.Core.List.{List, [], ◌∷◌, Memᴰ}
use Prim.Native.Nat.{ℕ, ◌+◌, ◌≤◌}
use native.Mathlib.Omega.{arith}
use native.Mathlib.Nat.{le_refl, le_trans, le_of_eq}
use lib.Dec.{eqb}
use Rattle.least.specs.Count.{pick}
use Rattle.least.specs.Fold.{max_of}
use Rattle.least.specs.Vector.{◌⊑◌}
use Rattle.least.specs.Starts.{Within}
use Rattle.least.proofs.Count.{pick-le}
use Rattle.least.proofs.Fold.{max_at, max_under, mem_sublist}
use Rattle.least.proofs.Instants.{greatest-le}
use Rattle.least.proofs.Starts.{starts_within}
use Rattle.rules.specs.Net.{Hop, Flow, Net}
use Rattle.rules.specs.Formula.{visits, cost_at, Key, Arrivals, sum, load, arriving, arrivals}
use Rattle.rules.specs.Meaning.{On, Here, IsStart, IsResponse}
use Rattle.rules.specs.Judge.{busy_length, response}
use Rattle.rules.specs.Ready.{Sound, Ready, next}
use Rattle.rules.proofs.Path.{order, visits_member}
use Rattle.rules.proofs.Grow.{Part, load_part, sum_grows}
use Rattle.rules.proofs.Busy.{load_zero, busy_lowest, busy_fixed, busy_positive}
use Rattle.rules.proofs.Start.{meant_starts, response_is}

-- i in N lies below i' in N'. Instants are compared at the same t: u = t + J of i against u + later = t + J of i'.
pub record Beneath (N N' : Net) (i i' : Flow) : Type 0 where
  pub number : i.number ≡ i'.number
  pub path : i.path ≡ i'.path
  pub later : ℕ
  pub jitter : i.jitter + later ≡ i'.jitter
  pub loads : (b : ℕ) → load N i b ≤ load N' i' b
  pub sums : (S S' : Arrivals) → S ⊑ S' → (u : ℕ) → Within (order i) 0 (sum N i S u) (sum N' i' S' (u + later))

-- each flow of N lies below its partner in N'
pub record Below (N N' : Net) : Type 0 where
  pub lmax : N.lmax ≤ N'.lmax
  pub partner : Flow → Flow
  pub here : (i : Flow) → Here N i → Here N' (partner i)
  pub beneath : (i : Flow) → Here N i → Beneath N N' i (partner i)

module _ (N N' : Net) (i i' : Flow) (b : Beneath N N' i i') where
  pub on_partner : (h : ℕ) → On i h → On i' h
  on_partner h o = subst (λ p. visits p h ≡ true) b.path o

  -- a busy length there is one here, no longer
  pub busy_below : Sound N i → Ready N' i' → busy_length N i ≤ busy_length N' i'
  busy_below s r' =
      busy_lowest N i s (busy_length N' i') (busy_positive N' i' r') (omega (arith, b.loads (busy_length N' i'), busy_fixed N' i' r')) r'.busy

  pub ready_below : Sound N i → Ready N' i' → Ready N i
  ready_below s r' = record { sound = s; busy = le_trans (busy_below s r') r'.busy }

  pub start_below : Sound N i → Sound N' i' → (S S' : Arrivals) → S ⊑ S' → (W W' : ℕ → ℕ → ℕ) → IsStart N i S W → IsStart N' i' S' W' →
      (u h : ℕ) → On i h → W u h ≤ W' (u + b.later) h
  start_below s s' S S' hS W W' p p' u h o = omega (
    arith,
    starts_within (order i) 0 (sum N i S u) (sum N' i' S' (u + b.later)) (W u) (W' (u + b.later)) (b.sums S S' hS u)
        (meant_starts N i s S W p u) (λ k q. meant_starts N' i' s' S' W' p' (u + b.later) k (on_partner k q)) h o,
  )

  pub response_below : Sound N i → Sound N' i' → (S S' : Arrivals) → S ⊑ S' → (h r r' : ℕ) → On i h →
      IsResponse N i S h r → IsResponse N' i' S' h r' → r ≤ r'
  response_below s s' S S' hS h r r' o p q =
      greatest-le b.later
      (λ u. omega (
        arith,
        start_below s s' S S' hS p.W q.W p.start q.start u h o,
        ap (λ l. cost_at l h) b.path,
        b.jitter,
      ))
      p.greatest q.greatest

-- arrival bounds follow the response bounds
pub arriving-le : {m m' : ℕ} → m ≤ m' → (R R' : ℕ → ℕ) (l : List Hop) → ((k : Hop) → Memᴰ k l → R k.node ≤ R' k.node) →
    (a a' : ℕ) → a ≤ a' → (h : ℕ) → arriving m R a l h ≤ arriving m' R' a' l h
unfolding arriving
arriving-le hm R R' [] q a a' ha h = le_refl _
arriving-le {m} {m'} hm R R' (k ∷ ks) q a a' ha h =
    pick-le (eqb k.node h) ha
    (arriving-le hm R R' ks (λ n r. q n (Memᴰ.tail r)) (R k.node + m) (R' k.node + m') (omega (arith, q k (Memᴰ.head refl))) h)

-- what one flow brings to an entry
abbrev entry : Net → (Flow → ℕ → ℕ) → Key → Flow → ℕ
entry N R k i = pick (eqb i.number k.0) (arriving N.lmax (R i) 0 i.path k.1) 0

pub arrivals-le : (N N' : Net) → N.lmax ≤ N'.lmax → (f : Flow → Flow) (R R' : Flow → ℕ → ℕ) →
    ((i : Flow) → Here N i → Here N' (f i)) → ((i : Flow) → Here N i → i.number ≡ (f i).number) → ((i : Flow) → Here N i → i.path ≡ (f i).path) →
    ((i : Flow) → Here N i → (h : ℕ) → On i h → R i h ≤ R' (f i) h) → arrivals N R ⊑ arrivals N' R'
unfolding arrivals
arrivals-le N N' hm f R R' here number path le k = max_under (entry N R k) N.flows (max_of (entry N' R' k) N'.flows) each
  where
    same : (i : Flow) → Here N i → pick (eqb i.number k.0) (arriving N'.lmax (R' (f i)) 0 i.path k.1) 0 ≡ entry N' R' k (f i)
    same i m = ap₂ (λ n p. pick (eqb n k.0) (arriving N'.lmax (R' (f i)) 0 p k.1) 0) (number i m) (path i m)

    each : (i : Flow) → Here N i → entry N R k i ≤ max_of (entry N' R' k) N'.flows
    each i m =
        le_trans
        (pick-le (eqb i.number k.0)
        (arriving-le hm (R i) (R' (f i)) i.path (λ q r. le i m q.node (visits_member r)) 0 0 (le_refl 0) k.1) (le_refl 0))
        (le_trans (le_of_eq (same i m)) (max_at (entry N' R' k) (here i m)))

pub next_below : (N N' : Net) (below : Below N N') → ((i : Flow) → Here N i → Ready N i) → ((i : Flow) → Here N' i → Ready N' i) →
    (S S' : Arrivals) → S ⊑ S' → next N S ⊑ next N' S'
next_below N N' below ready ready' S S' hS =
    arrivals-le N N' below.lmax below.partner (λ i. response N i S) (λ i. response N' i S') below.here
    (λ i m. (below.beneath i m).number) (λ i m. (below.beneath i m).path)
    (λ i m h o. at i m h o)
  where
    at : (i : Flow) → Here N i → (h : ℕ) → On i h → response N i S h ≤ response N' (below.partner i) S' h
    at i m h o =
        let i' = below.partner i in
        let b = below.beneath i m in
        let r' = ready' i' (below.here i m) in
        response_below N N' i i' b (ready i m).sound r'.sound S S' hS h (response N i S h) (response N' i' S' h) o
        (response_is N i (ready i m) S h o) (response_is N' i' r' S' h (on_partner N N' i i' b h o))

-- a part lies below the whole
unfoldable pub part_below : (N N' : Net) → Part N N' → ((i : Flow) → Here N i → Sound N i) → Below N N'
part_below N N' part sound = record {
  lmax = part.lmax;
  partner = λ i. i;
  here = λ i m. mem_sublist part.flows m;
  beneath = λ i m. record {
    number = refl;
    path = refl;
    later = 0;
    jitter = omega arith;
    loads = load_part N N' i part (sound i m).periods;
    sums = λ S S' hS u h o x x' hx w w' hw.
        omega (
          arith,
          sum_grows N N' i part (sound i m).periods S S' hS 0 h u (u + 0) (omega arith) x x' hx w w' hw (sound i m).period,
          load_zero N i (sound i m),
        );
  };
}
