-- What an entry and a node add with the ceilings, tick by tick. Assumes nothing.
use mathlib.Core.Path.{◌≡◌, refl, sym, ap, ◌∙◌}
use mathlib.Core.Bool.{Bool, true, false}
use mathlib.Core.List.{List}
use Prim.Native.Nat.{ℕ, zero, suc, ◌+◌, ◌-◌, ◌*◌, ◌≤◌, ◌<◌}
use native.Mathlib.Omega.{arith}
use native.Mathlib.Nat.{le_refl}
use native.Mathlib.Numerals.{add-one}
use lib.Dec.{eqb}
use borrow.Author.Tests.{eqb-false}
use Rattle.least.specs.Count.{pick, count}
use Rattle.least.specs.Fold.{sum_to}
use Rattle.least.specs.Lists.{values}
use Rattle.least.proofs.Fold.{sum_to-bound}
use Rattle.least.proofs.Ranges.{sum_to_more}
use Rattle.blocks.specs.Sheet.{here_slot, instant_slot, node_slot, block_at, added, entries_in, entry_at, term_of, sheet_sum, Small, Shaped}
use Rattle.blocks.proofs.Terms.{count_few}
use Rattle.tallies.specs.Ceilings.{ceiling, ceilings, ceiling_sum}
use Rattle.tallies.specs.Tallies.{Scant, Laid, Tallied}
use Rattle.tallies.proofs.Lays.{weigh-small}

-- the bounds up to node p are small; and none has its ceiling below 0 at u
abbrev pub Held : List ℕ → ℕ → Type 0
Held best p = (q : ℕ) → q ≤ p → values best q < 16777216

abbrev pub Fits : List ℕ → List ℕ → ℕ → ℕ → Type 0
Fits e best p u = (q : ℕ) → q ≤ p → added e q ≤ values best q + u

module _ (e best : List ℕ) (p u s : ℕ) where
  module _ (slot : s < node_slot p) where
    -- each goes on with the instant
    pub ceilings_on : Fits e best p u → (i : ℕ) → ceilings e best p (u + i) s ≡ ceilings e best p u s + i
    ceilings_on fits i = go (eqb s here_slot) refl (eqb s instant_slot) refl
      where
        go : (a : Bool) → eqb s here_slot ≡ a → (b : Bool) → eqb s instant_slot ≡ b →
            pick a (ceiling e best (u + i) p) (pick b (u + i) (ceiling e best (u + i) (s - 2))) ≡ pick a (ceiling e best u p) (pick b u (ceiling e best u (s - 2))) + i
        go true d b f = omega (arith, fits p (le_refl p))
        go false d true f = refl
        go false d false f =
            let y = eqb-false s here_slot d in
            let z = eqb-false s instant_slot f in
            omega (arith, fits (s - 2) (omega (arith, y, z)))

    pub ceilings_small : Held best p → ceilings e best p u s ≤ 16777215 + u
    ceilings_small held = go (eqb s here_slot) refl (eqb s instant_slot) refl
      where
        go : (a : Bool) → eqb s here_slot ≡ a → (b : Bool) → eqb s instant_slot ≡ b →
            pick a (ceiling e best u p) (pick b u (ceiling e best u (s - 2))) ≤ 16777215 + u
        go true d b f = omega (arith, held p (le_refl p))
        go false d true f = omega arith
        go false d false f =
            let y = eqb-false s here_slot d in
            let z = eqb-false s instant_slot f in
            omega (arith, held (s - 2) (omega (arith, y, z)))

module _ (e best : List ℕ) (p u k : ℕ) (slot : values e k < node_slot p) where
  -- an entry is a count with its weight, by what it looks at first
  module _ (a t : ℕ) (is : a ≡ ceilings e best p u (values e k) + values e (k + 1)) (few : a < 67108864)
      (same : (x y : ℕ) → x < 134217728 → count x y t ≡ count x y (values e (k + 3))) where
    pub entry_first : count a (values e (k + 2)) t * values e (k + 4) ≡ term_of e (ceilings e best p u) k
    unfolding term_of
    entry_first = ap (λ c. c * values e (k + 4)) (same a (values e (k + 2)) (omega arith) ∙ ap (λ x. count x (values e (k + 2)) (values e (k + 3))) is)

    entry_term : Fits e best p u → (i : ℕ) → i ≤ 16777216 → count (i + a) (values e (k + 2)) t * values e (k + 4) ≡ term_of e (ceilings e best p (u + i)) k
    unfolding term_of
    entry_term fits i h = ap (λ c. c * values e (k + 4)) (
        same (i + a) (values e (k + 2)) (omega arith)
        ∙ ap (λ x. count x (values e (k + 2)) (values e (k + 3))) (omega (arith, is, ceilings_on e best p u (values e k) slot fits i))
        )

    pub entry_laid : Fits e best p u → (n : ℕ) → n ≤ 16777216 → (tally tally' : List ℕ) → Laid (λ i. count (i + a) (values e (k + 2)) t * values e (k + 4)) n tally tally' →
        Laid (λ i. term_of e (ceilings e best p (u + i)) k) n tally tally'
    entry_laid fits n short tally tally' l = record {
      first = l.first;
      each = λ i h. omega (arith, l.each i h, entry_term fits i (omega arith), entry_term fits (i + 1) (omega arith));
      long = l.long;
    }

  pub term_few : Small e → Held best p → u ≤ 20000000 → term_of e (ceilings e best p u) k ≤ 2251799813685247
  unfolding term_of
  term_few small held h = omega (
    arith,
    weigh-small (count (ceilings e best p u (values e k) + values e (k + 1)) (values e (k + 2)) (values e (k + 3))) (values e (k + 4))
        (omega (
          arith,
          count_few (ceilings e best p u (values e k) + values e (k + 1)) (values e (k + 2)) (values e (k + 3)),
          ceilings_small e best p u (values e k) slot held,
          small (k + 1),
        ))
        (small (k + 4)),
  )

-- the first q entries of node p together
abbrev pub part_sum : List ℕ → List ℕ → ℕ → ℕ → ℕ → ℕ
part_sum e best p q u = sum_to q (λ j. term_of e (ceilings e best p u) (entry_at e p j))

module _ (e best : List ℕ) (p u n : ℕ) where
  pub tallied_none : (tally : List ℕ) → 0 < n → ((i : ℕ) → i < n → values tally i ≡ 0) → Tallied (λ i. part_sum e best p 0 (u + i)) n tally
  unfolding sum_to
  tallied_none tally some z = record { first = z 0 some; each = λ i h. omega (arith, z (i + 1) h) }

  pub tallied_more : (q k : ℕ) (tally tally' : List ℕ) → k ≡ entry_at e p q → Tallied (λ i. part_sum e best p q (u + i)) n tally →
      Laid (λ i. term_of e (ceilings e best p (u + i)) k) n tally tally' → Tallied (λ i. part_sum e best p (q + 1) (u + i)) n tally'
  tallied_more q k tally tally' is t l = record {
    first = l.first ∙ t.first;
    each = λ i h. omega (arith, more i, more (i + 1), t.each i h, l.each i h);
  }
    where
      more : (i : ℕ) → part_sum e best p (q + 1) (u + i) ≡ part_sum e best p q (u + i) + term_of e (ceilings e best p (u + i)) k
      more i = sum_to_more (λ j. term_of e (ceilings e best p (u + i)) (entry_at e p j)) q ∙ ap (λ x. part_sum e best p q (u + i) + term_of e (ceilings e best p (u + i)) x) (sym is)

  pub part_more : (q k s r : ℕ) → k ≡ entry_at e p q → s ≡ values e (block_at e p) + part_sum e best p q u → r ≡ term_of e (ceilings e best p u) k →
      s + r ≡ values e (block_at e p) + part_sum e best p (q + 1) u
  part_more q k s r is h g = omega (arith, sum_to_more (λ j. term_of e (ceilings e best p u) (entry_at e p j)) q, ap (term_of e (ceilings e best p u)) is)

  pub part_none : values e (block_at e p) ≡ values e (block_at e p) + part_sum e best p 0 u
  unfolding sum_to
  part_none = omega arith

  pub part_all : (q s : ℕ) → q ≡ entries_in e p → s ≡ values e (block_at e p) + part_sum e best p q u → s ≡ ceiling_sum e best p u
  unfolding ceiling_sum sheet_sum
  part_all q s is h = h ∙ ap (λ x. values e (block_at e p) + part_sum e best p x u) is

  pub tallied_all : (q : ℕ) (tally : List ℕ) → q ≡ entries_in e p → Tallied (λ i. part_sum e best p q (u + i)) n tally → Tallied (λ i. ceiling_sum e best p (u + i)) n tally
  unfolding ceiling_sum sheet_sum
  tallied_all q tally is t = record {
    first = t.first;
    each = λ i h. omega (arith, t.each i h, ap (λ x. part_sum e best p x (u + i)) is, ap (λ x. part_sum e best p x (u + (i + 1))) is);
  }

  -- nothing is cut
  module _ (shaped : Shaped e (p + 1)) (held : Held best p) (early : u ≤ 262143) (short : n ≤ 16777216) where
    part-few : (q : ℕ) → q ≤ entries_in e p → (i : ℕ) → i < n → part_sum e best p q (u + i) ≤ q * 2251799813685247
    part-few q h i on = sum_to-bound q (λ j. term_of e (ceilings e best p (u + i)) (entry_at e p j)) 2251799813685247
        (λ j l. term_few e best p (u + i) (entry_at e p j) (shaped.looks p j (omega arith) (omega arith)) shaped.small held (omega arith))

    pub tallied_scant : (q : ℕ) (tally : List ℕ) → q < entries_in e p → Tallied (λ i. part_sum e best p q (u + i)) n tally → Scant n tally
    tallied_scant q tally h t i on = go i on
      where
        go : (i : ℕ) → i < n → values tally i < 2305843009213693952
        go zero on = omega (arith, t.first)
        go (suc i) on = rw (sym (add-one i)) (omega (arith, t.each i (omega arith), part-few q (omega arith) (i + 1) (omega arith), shaped.few p (omega arith)))

    pub ceiling_few : (i : ℕ) → i < n → ceiling_sum e best p (u + i) < 4611686018427387904
    unfolding ceiling_sum sheet_sum
    ceiling_few i on = omega (arith, part-few (entries_in e p) (le_refl _) i on, shaped.few p (omega arith), shaped.small (block_at e p))
