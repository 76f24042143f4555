-- The judgement that computes is the one that Meaning says, and there is only one. Assumes nothing.
use mathlib.Core.Path.{◌≡◌, refl, ◌∙◌, sym, ap, ap₂, subst}
use mathlib.Core.Bool.{Bool, true, false}
use mathlib.Core.Logic.{◌⊎◌, inl, inr}
use mathlib.Core.List.Memᴰ
use mathlib.Core.List.{List, [], ◌∷◌, map, Memᴰ}
use Prim.Native.Nat.{ℕ, ◌≤◌}
use native.Mathlib.Omega.{arith}
use native.Mathlib.Nat.{le_of_eq}
use lib.Dec.{ltb}
use borrow.Author.Tests.{ltb-true, ltb-false}
use Rattle.least.proofs.Fold.{false_true}
use Rattle.rules.specs.Net.{Flow, Net, Figures, Judgement, Refused, Given}
use Rattle.rules.specs.Formula.{horizon, last_node, Arrivals, jitter_of}
use Rattle.rules.specs.Meaning.{On, Here, LeastSettled, IsFigures, Lowest, applies, passes, Settles, unsettled, settled, Judged}
use Rattle.rules.specs.Valid.{RisingNumbers, Valid}
use Rattle.rules.specs.Judge.{busy_length, arrivals_by, past_horizon, settle, figures, misplaced, first_or, settled_judged, load_judged, judged}
use Rattle.rules.specs.Ready.{Sound, Ready}
use Rattle.rules.proofs.Path.{last_visited}
use Rattle.rules.proofs.Busy.{busy_is, busy_none, busy_unique}
use Rattle.rules.proofs.Start.{response_is, response_rises}
use Rattle.rules.proofs.Settle.{least_settled_unique}
use Rattle.rules.proofs.Crossing.{placed_permitted, misplaced_broken}
use Rattle.rules.proofs.Valid.{sound}
use Rattle.rules.proofs.Rounds.{settle_past, settle_least}

-- the first flow that fails a test has the least number, where numbers rise
pub record First (p : Flow → Bool) (l : List Flow) : Type 0 where
  pub flow : Flow
  pub here : Memᴰ flow l
  pub fails : p flow ≡ true
  pub lowest : (j : Flow) → Memᴰ j l → p j ≡ true → flow.number ≤ j.number
  pub given : (f : ℕ → Judgement) (other : Judgement) → first_or p f l other ≡ f flow.number

pub record NoneFails (p : Flow → Bool) (l : List Flow) : Type 0 where
  pub each : (j : Flow) → Memᴰ j l → p j ≡ false
  pub given : (f : ℕ → Judgement) (other : Judgement) → first_or p f l other ≡ other

first_or_none : (p : Flow → Bool) (l : List Flow) → RisingNumbers l → First p l ⊎ NoneFails p l
unfolding first_or
first_or_none p [] r = inr (record { each = λ j m. absurd (Memᴰ.not-nil m); given = λ f other. refl })
first_or_none p (i ∷ l) r = go (p i) refl (first_or_none p l r.1)
  where
    least : (j : Flow) → Memᴰ j (i ∷ l) → i.number ≤ j.number
    least j (Memᴰ.head e) = le_of_eq (ap (λ q. q.number) (sym e))
    least j (Memᴰ.tail m) = omega (arith, r.0 j m)

    later : p i ≡ false → (f : First p l) → (j : Flow) → Memᴰ j (i ∷ l) → p j ≡ true → f.flow.number ≤ j.number
    later e f j (Memᴰ.head q) h = false_true (sym e ∙ ap p (sym q) ∙ h)
    later e f j (Memᴰ.tail m) h = f.lowest j m h

    none : p i ≡ false → NoneFails p l → (j : Flow) → Memᴰ j (i ∷ l) → p j ≡ false
    none e n j (Memᴰ.head q) = ap p q ∙ e
    none e n j (Memᴰ.tail m) = n.each j m

    step : (b : Bool) → p i ≡ b → (f : ℕ → Judgement) (other : Judgement) →
        first_or p f (i ∷ l) other ≡ elim b [ true ↦ f i.number | false ↦ first_or p f l other ]
    step b e f other = ap (λ q. elim q [ true ↦ f i.number | false ↦ first_or p f l other ]) e

    go : (b : Bool) → p i ≡ b → First p l ⊎ NoneFails p l → First p (i ∷ l) ⊎ NoneFails p (i ∷ l)
    go true e t = inl (record { flow = i; here = Memᴰ.head refl; fails = e; lowest = λ j m h. least j m; given = step true e })
    go false e (inl f) = inl (record {
      flow = f.flow;
      here = Memᴰ.tail f.here;
      fails = f.fails;
      lowest = later e f;
      given = λ g other. step false e g other ∙ f.given g other;
    })
    go false e (inr n) = inr (record { each = none e n; given = λ g other. step false e g other ∙ n.given g other })

module _ (N : Net) where
  -- a test that tells the flows at fault decides the lowest refusal
  pub lowest_first : (k : ℕ) (AtFault : Flow → Type 0) (Next : Judgement → Type 0) (p : Flow → Bool) → RisingNumbers N.flows →
      ((i : Flow) → Here N i → p i ≡ true → AtFault i) → ((i : Flow) → Here N i → p i ≡ false → AtFault i → ⊥) →
      (other : Judgement) → (((i : Flow) → Here N i → p i ≡ false) → Next other) → Lowest N k AtFault Next (first_or p (Refused k) N.flows other)
  lowest_first k AtFault Next p r fault clear other next = elim (first_or_none p N.flows r) [
    | inl f ↦ subst (Lowest N k AtFault Next) (sym (f.given (Refused k) other)) (applies f.flow.number (record {
      flow = f.flow;
      here = f.here;
      number = refl;
      fault = fault f.flow f.here f.fails;
      lowest = λ j m bad. f.lowest j m (at_fault j m bad);
    }))
    | inr n ↦ subst (Lowest N k AtFault Next) (sym (n.given (Refused k) other)) (passes other (λ i m bad. clear i m (n.each i m) bad) (next n.each))
  ]
    where
      at_fault : (j : Flow) → Here N j → AtFault j → p j ≡ true
      at_fault j m bad = go (p j) refl
        where
          go : (b : Bool) → p j ≡ b → p j ≡ true
          go true e = e
          go false e = absurd (clear j m e bad)

  pub figures_are : (S : Arrivals) → Valid N → (i : Flow) → Here N i → Ready N i → IsFigures N S i (figures N S i)
  unfolding figures
  figures_are S v i m r = record {
    bound = response_is N i r S (last_node i.path) (last_visited i.path (v.flows i m).nodes);
    jitter = refl;
    busy = busy_is N i r.sound r.busy;
  }

  -- what least settled arrival bounds give
  pub settles_by : (S : Arrivals) → Valid N → ((i : Flow) → Here N i → Ready N i) → LeastSettled N S →
      Settles N (first_or (λ i. ltb i.deadline (figures N S i).bound) (Refused 10) N.flows (Given (map (figures N S) N.flows)))
  settles_by S v ready least =
      settled _ S (figures N S) least (λ i m. figures_are S v i m (ready i m))
      (lowest_first 10 _ _ (λ i. ltb i.deadline (figures N S i).bound) v.rising
      (λ i m e. ltb-true i.deadline (figures N S i).bound e)
      (λ i m e late. omega (arith, ltb-false i.deadline (figures N S i).bound e)) _
      (λ all. refl))

  -- the judgement that computes is one that is meant
  pub settles_is : Valid N → ((i : Flow) → Here N i → Ready N i) → Settles N (settled_judged N)
  unfolding settled_judged
  settles_is v ready = go (past_horizon (settle N)) refl
    where
      go : (b : Bool) → past_horizon (settle N) ≡ b → Settles N (elim b [
        | true ↦ Refused 9 0
        | false ↦ (
            let f = figures N (arrivals_by N (settle N)) in
            first_or (λ i. ltb i.deadline (f i).bound) (Refused 10) N.flows (Given (map f N.flows)))
      ])
      go true e = unsettled (settle_past N ready e)
      go false e = settles_by (arrivals_by N (settle N)) v ready (settle_least N ready e)

  pub judged_is : Valid N → Judged N (judged N)
  unfolding judged load_judged
  judged_is v =
      lowest_first 7 _ _ (misplaced N) v.rising (λ i m e. misplaced_broken N i e) (λ i m e bad. bad (placed_permitted N i e)) _
      (λ placed.
      lowest_first 8 _ _ (λ i. ltb horizon (busy_length N i)) v.rising
      (λ i m e. busy_none N i (sound N v i m) (ltb-true horizon (busy_length N i) e))
      (λ i m e none. none (busy_length N i) (busy_is N i (sound N v i m) (ltb-false horizon (busy_length N i) e))) _
      (λ light.
      settles_is v (λ i m. record { sound = sound N v i m; busy = ltb-false horizon (busy_length N i) (light i m) })))

  -- two that are meant are equal
  lowest_unique : (k : ℕ) (AtFault : Flow → Type 0) (Next : Judgement → Type 0) →
      (((i : Flow) → Here N i → AtFault i → ⊥) → (v w : Judgement) → Next v → Next w → v ≡ w) →
      (v w : Judgement) → Lowest N k AtFault Next v → Lowest N k AtFault Next w → v ≡ w
  lowest_unique k AtFault Next u v w (applies n a) (applies m b) =
      ap (Refused k) (omega (
        arith,
        a.number,
        b.number,
        a.lowest b.flow b.here b.fault,
        b.lowest a.flow a.here a.fault,
      ))
  lowest_unique k AtFault Next u v w (applies n a) (passes x c q) = absurd (c a.flow a.here a.fault)
  lowest_unique k AtFault Next u v w (passes x c q) (applies n a) = absurd (c a.flow a.here a.fault)
  lowest_unique k AtFault Next u v w (passes x c q) (passes y d r) = u c v w q r

  -- the same faults and what comes next under other names
  lowest_as : (k : ℕ) (AtFault AtFault' : Flow → Type 0) (Next Next' : Judgement → Type 0) →
      ((i : Flow) → Here N i → AtFault i → AtFault' i) → ((i : Flow) → Here N i → AtFault' i → AtFault i) → ((v : Judgement) → Next v → Next' v) →
      (v : Judgement) → Lowest N k AtFault Next v → Lowest N k AtFault' Next' v
  lowest_as k AtFault AtFault' Next Next' to from next v (applies n a) = applies n (record {
    flow = a.flow;
    here = a.here;
    number = a.number;
    fault = to a.flow a.here a.fault;
    lowest = λ j m bad. a.lowest j m (from j m bad);
  })
  lowest_as k AtFault AtFault' Next Next' to from next v (passes x c q) = passes x (λ i m bad. c i m (from i m bad)) (next x q)

  same-figures : (S S' : Arrivals) → ((k : ℕ × ℕ) → S k ≡ S' k) → (i : Flow) → Sound N i → On i (last_node i.path) →
      (f f' : Figures) → IsFigures N S i f → IsFigures N S' i f' → f ≡ f'
  same-figures S S' e i s o f f' p p' = λ x. record {
    bound = bound x;
    jitter = (p.jitter ∙ ap (jitter_of N i) bound ∙ sym p'.jitter) x;
    busy = busy_unique N i f.busy f'.busy p.busy p'.busy x;
  }
    where
      bound : f.bound ≡ f'.bound
      bound = omega (
        arith,
        response_rises N i s S S' (λ k. le_of_eq (e k)) (last_node i.path) f.bound f'.bound o p.bound p'.bound,
        response_rises N i s S' S (λ k. le_of_eq (sym (e k))) (last_node i.path) f'.bound f.bound o p'.bound p.bound,
      )

  pub settles_unique : Valid N → (v w : Judgement) → Settles N v → Settles N w → v ≡ w
  settles_unique val v w (unsettled a) (unsettled b) = refl
  settles_unique val v w (unsettled a) (settled x S f l p q) = absurd (a S l.settled)
  settles_unique val v w (settled x S f l p q) (unsettled a) = absurd (a S l.settled)
  settles_unique val v w (settled x S f l p q) (settled y S' f' l' p' q') =
      lowest_unique 10 _ _ (λ c a b r s. r ∙ sym s) v w q
      (lowest_as 10 _ _ _ _ (λ i m h. omega (arith, ap (λ g. g.bound) (same i m))) (λ i m h. omega (arith, ap (λ g. g.bound) (same i m)))
      (λ a r. r ∙ ap Given (all N.flows (λ i m. sym (same i m)))) w q')
    where
      same : (i : Flow) → Here N i → f i ≡ f' i
      same i m =
          same-figures S S' (least_settled_unique N S S' l l') i (sound N val i m) (last_visited i.path (val.flows i m).nodes) (f i) (f' i) (p i m) (p' i m)

      all : (l : List Flow) → ((i : Flow) → Memᴰ i l → f' i ≡ f i) → map f' l ≡ map f l
      all [] e = refl
      all (i ∷ l) e = ap₂ (λ a b. a ∷ b) (e i (Memᴰ.head refl)) (all l (λ j m. e j (Memᴰ.tail m)))

  pub judged_unique : Valid N → (v w : Judgement) → Judged N v → Judged N w → v ≡ w
  judged_unique val = lowest_unique 7 _ _ (λ c. lowest_unique 8 _ _ (λ d. settles_unique val))
