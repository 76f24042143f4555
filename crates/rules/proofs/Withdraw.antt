-- A set below another keeps busy lengths and settled arrival bounds, none larger; a part of a set lies below it. Assumes nothing.
use mathlib.Core.Path.{◌≡◌, sym, subst}
use mathlib.Core.List.{Sublistᴰ}
use Prim.Native.Nat.{ℕ, ◌≤◌}
use native.Mathlib.Omega.{arith}
use native.Mathlib.Nat.{le_refl, le_trans, le_of_eq}
use Rattle.least.specs.Vector.{◌⊑◌}
use Rattle.least.proofs.Fold.{mem_sublist}
use Rattle.rules.specs.Net.{Flow, Net}
use Rattle.rules.specs.Formula.{horizon, last_node, Arrivals}
use Rattle.rules.specs.Meaning.{On, Here, IsBusy, IsBound, IsResponse, Settled, LeastSettled, Permitted}
use Rattle.rules.specs.Valid.{Valid}
use Rattle.rules.specs.Judge.{busy_length, response}
use Rattle.rules.specs.Ready.{Ready, next}
use Rattle.rules.proofs.Path.{last_visited}
use Rattle.rules.proofs.Busy.{busy_is, busy_found}
use Rattle.rules.proofs.Start.{response_is}
use Rattle.rules.proofs.Below.{Below, next_below, ready_below, busy_below, response_below, on_partner, part_below}
use Rattle.rules.proofs.Settle.{settled_fixed, settled_within, least_below}
use Rattle.rules.proofs.Valid.{sound, valid_part}

-- a flow with a busy length is ready
pub ready : (N : Net) → Valid N → (i : Flow) → Here N i → (B : ℕ) → IsBusy N i B → Ready N i
ready N v i m B p = record { sound = sound N v i m; busy = omega (arith, busy_found N i (sound N v i m) B p, p.within) }

module _ (N N' : Net) (below : Below N N') (v : Valid N) (v' : Valid N') where
  pub below_busy : (i : Flow) (m : Here N i) (B' : ℕ) → IsBusy N' (below.partner i) B' → (B : ℕ) × IsBusy N i B × (B ≤ B')
  below_busy i m B' p =
      let i' = below.partner i in
      let r' = ready N' v' i' (below.here i m) B' p in
      let b = below.beneath i m in
      let s = sound N v i m in (
        busy_length N i,
        busy_is N i s (ready_below N N' i i' b s r').busy,
        omega (arith, busy_below N N' i i' b s r', busy_found N' i' r'.sound B' p),
      )

  module _ (busy' : (i : Flow) → Here N' i → (B : ℕ) × IsBusy N' i B) where
    ready' : (i : Flow) → Here N' i → Ready N' i
    ready' i m = ready N' v' i m (busy' i m).0 (busy' i m).1

    ready₀ : (i : Flow) → Here N i → Ready N i
    ready₀ i m = ready_below N N' i (below.partner i) (below.beneath i m) (sound N v i m) (ready' (below.partner i) (below.here i m))

    -- settled arrival bounds there are settled ones here, the least at most those
    pub below_settled : (U : Arrivals) → Settled N' U → (S : Arrivals) × LeastSettled N S × (S ⊑ U)
    below_settled U s =
        let r = least_below N ready₀ U down within in
        (r.0, r.2, r.1.lowest U down)
      where
        down : next N U ⊑ U
        down k = le_trans (next_below N N' below ready₀ ready' U U (λ k. le_refl _) k) (le_of_eq (settled_fixed N' ready' U s k))

        within : (i : Flow) → Here N i → (h : ℕ) → On i h → response N i U h ≤ horizon
        within i m h o =
            let i' = below.partner i in
            let m' = below.here i m in
            let b = below.beneath i m in
            let o' = on_partner N N' i i' b h o in
            le_trans
            (response_below N N' i i' b (ready₀ i m).sound (ready' i' m').sound U U (λ k. le_refl _) h (response N i U h) (response N' i' U h) o
            (response_is N i (ready₀ i m) U h o) (response_is N' i' (ready' i' m') U h o'))
            (settled_within N' ready' U s i' m' h o')

  pub below_bound : (S U : Arrivals) → S ⊑ U → (i : Flow) (m : Here N i) (b b' : ℕ) → IsBound N i S b → IsBound N' (below.partner i) U b' → b ≤ b'
  below_bound S U hS i m b b' p p' =
      let i' = below.partner i in
      let q = below.beneath i m in
      response_below N N' i i' q (sound N v i m) (sound N' v' i' (below.here i m)) S U hS (last_node i.path) b b'
      (last_visited i.path (v.flows i m).nodes) p
      (subst (λ l. IsResponse N' i' U (last_node l) b') (sym q.path) p')

-- withdrawal: N has some of the flows of N', in the same network
module _ (N N' : Net) (lmin : N.lmin ≡ N'.lmin) (lmax : N.lmax ≡ N'.lmax) (some : Sublistᴰ N.flows N'.flows) (v' : Valid N') where
  pub withdraw_valid : Valid N
  withdraw_valid = valid_part N N' (omega (arith, v'.links)) some v'

  abbrev fewer : Below N N'
  fewer = part_below N N' (record { lmin = le_of_eq (sym lmin); lmax = le_of_eq lmax; flows = some }) (sound N withdraw_valid)

  pub withdraw_permitted : (i : Flow) → Permitted N' i → Permitted N i
  withdraw_permitted i p j m = p j (mem_sublist some m)

  pub withdraw_busy : (i : Flow) → Here N i → (B' : ℕ) → IsBusy N' i B' → (B : ℕ) × IsBusy N i B × (B ≤ B')
  unfolding part_below
  withdraw_busy = below_busy N N' fewer withdraw_valid v'

  pub withdraw_settled : ((i : Flow) → Here N' i → (B : ℕ) × IsBusy N' i B) → (U : Arrivals) → Settled N' U → (S : Arrivals) × LeastSettled N S × (S ⊑ U)
  withdraw_settled = below_settled N N' fewer withdraw_valid v'

  pub withdraw_bound : (S U : Arrivals) → S ⊑ U → (i : Flow) → Here N i → (b b' : ℕ) → IsBound N i S b → IsBound N' i U b' → b ≤ b'
  unfolding part_below
  withdraw_bound = below_bound N N' fewer withdraw_valid v'
