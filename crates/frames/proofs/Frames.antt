-- Blocks of a sheet: what stores in one leave of the others, and one entry more in each. Assumes nothing.
use mathlib.Core.Path.{◌≡◌, refl, sym, ap, ◌∙◌, subst}
use mathlib.Core.Logic.{inl, inr}
use mathlib.Core.List.{List, [], ◌∷◌, ◌++◌, append-nil}
use Prim.Native.Nat.{ℕ, ◌+◌, ◌-◌, ◌*◌, ◌≤◌, ◌<◌}
use native.Mathlib.Nat.{mul-le-mul_right}
use native.Mathlib.Omega.{arith}
use lib.ListN.{length, get_or, set, length-append, length-set, get_or-append}
use lib.Seq.{get_or-set_same, get_or-set_other, get_or_at}
use Rattle.least.specs.Lists.{values}
use Rattle.least.proofs.Count.{le_or-lt}
use Rattle.least.proofs.Stores.{set_cases}
use Rattle.nets.specs.Nets.{few}
use Rattle.blocks.specs.Sheet.{node_slot, block_at, entries_in, entry_at, Small, Fit}
use Rattle.frames.specs.Frames.{Entry, no_entry, EntryIs, Listed, block_size, begin_of, Frame, Appended, entry_from, GrownAt, Grown, Roomy}

-- no number stands in two blocks
apart : (s k p i j : ℕ) → (k ≡ p → ⊥) → i < s → j < s → 1 + k * s + i ≡ 1 + p * s + j → ⊥
apart s k p i j d h g e = elim (le_or-lt p k) [
  | inl q ↦ omega (arith, mul-le-mul_right {m = p + 1} {n = k} s (omega arith))
  | inr q ↦ omega (arith, mul-le-mul_right {m = k + 1} {n = p} s (omega arith))
]

pub long_less : (n m p l : ℕ) → p < m → 1 + m * block_size n ≤ l → 1 + (p + 1) * block_size n ≤ l
long_less n m p l h g = omega (arith, mul-le-mul_right {m = p + 1} {n = m} (block_size n) (omega arith))

pub frame_less : {n m : ℕ} {e : List ℕ} (p : ℕ) → p < m → Frame n m e → Frame n (p + 1) e
frame_less {n} {m} {e} p h f = record {
  size = f.size;
  long = long_less n m p (length e) h f.long;
  small = f.small;
  looks = λ k q i g. f.looks k q (omega arith) g;
}

pub small-set : (l : List ℕ) (i x : ℕ) → i < length l → x < 16777216 → Small l → Small (set l i x)
small-set l i x h q s = set_cases (λ k v. v < 16777216) l i x h q (λ k d. s k)

-- at most the numbers of block p are others
abbrev pub Within : ℕ → ℕ → List ℕ → List ℕ → Type 0
Within n p e e' = (j : ℕ) → (begin_of n p ≤ j → j < begin_of n p + block_size n → ⊥) → values e' j ≡ values e j

-- where the entries of block p look
abbrev LooksAt : List ℕ → ℕ → Type 0
LooksAt e p = (q : ℕ) → q < entries_in e p → values e (entry_at e p q) < node_slot p

-- the numbers of block k are the same
abbrev pub Kept : ℕ → ℕ → List ℕ → List ℕ → Type 0
Kept n k e e' = (i : ℕ) → i < block_size n → values e' (block_at e' k + i) ≡ values e (block_at e k + i)

module _ (n p : ℕ) (e e' : List ℕ) (w : Within n p e e') where
  pub within_size : values e' 0 ≡ values e 0
  within_size = w 0 (λ g h. omega arith)

  pub within_kept : values e 0 ≡ block_size n → (k : ℕ) → (k ≡ p → ⊥) → Kept n k e e'
  within_kept z k d i h =
      ap (λ s. values e' (1 + k * s + i)) (within_size ∙ z)
      ∙ w (begin_of n k + i) (λ g q. apart (block_size n) k p i (begin_of n k + i - begin_of n p) d h (omega arith) (omega arith))
      ∙ ap (λ s. values e (1 + k * s + i)) (sym z)

-- what is kept of a block
module _ (n k : ℕ) (e e' : List ℕ) (same : Kept n k e e') where
  kept_at : (i x y : ℕ) → x ≡ block_at e' k + i → y ≡ block_at e k + i → i < block_size n → values e' x ≡ values e y
  kept_at i x y p q h = ap (values e') p ∙ same i h ∙ sym (ap (values e) q)

  pub kept_count : entries_in e' k ≡ entries_in e k
  kept_count = same 2 (omega arith)

  kept-looks : entries_in e k ≤ n → LooksAt e k → LooksAt e' k
  kept-looks h L q g =
      omega (arith, kept_at (3 + q * 5) (entry_at e' k q) (entry_at e k q) (omega arith) (omega arith) (omega (arith, kept_count)), L q (omega (arith, kept_count)))

  pub kept_entry : (q : ℕ) (x : Entry) → q < n → EntryIs e (entry_at e k q) x → EntryIs e' (entry_at e' k q) x
  kept_entry q x h E = record {
    look = kept_at (3 + q * 5) (entry_at e' k q) (entry_at e k q) (omega arith) (omega arith) (omega arith) ∙ E.look;
    plus = kept_at (4 + q * 5) (entry_at e' k q + 1) (entry_at e k q + 1) (omega arith) (omega arith) (omega arith) ∙ E.plus;
    less = kept_at (5 + q * 5) (entry_at e' k q + 2) (entry_at e k q + 2) (omega arith) (omega arith) (omega arith) ∙ E.less;
    period = kept_at (6 + q * 5) (entry_at e' k q + 3) (entry_at e k q + 3) (omega arith) (omega arith) (omega arith) ∙ E.period;
    weight = kept_at (7 + q * 5) (entry_at e' k q + 4) (entry_at e k q + 4) (omega arith) (omega arith) (omega arith) ∙ E.weight;
  }

  pub kept_listed : (l : List Entry) → entries_in e k ≤ n → Listed e k l → Listed e' k l
  kept_listed l h L = record {
    count = kept_count ∙ L.count;
    each = λ q g. kept_entry q (get_or l q no_entry) (omega (arith, L.count)) (L.each q g);
  }

  pub kept_grown : {Q : Type 0} → entries_in e k ≤ n → GrownAt Q k [] e e'
  kept_grown h = record {
    few = omega (arith, kept_count);
    base = kept_at 0 (block_at e' k) (block_at e k) (omega arith) (omega arith) (omega arith);
    added = same 1 (omega arith);
    entries = λ u l L. subst (Listed e' k) (sym (append-nil l)) (kept_listed l h L);
  }

-- kept before or after it grew
module _ (n k : ℕ) (e e₁ e₂ : List ℕ) {Q : Type 0} {x : List Entry} where
  pub grown_kept : entries_in e₁ k ≤ n → GrownAt Q k x e e₁ → Kept n k e₁ e₂ → GrownAt Q k x e e₂
  grown_kept h g same = record {
    few = omega (arith, g.few, kept_count n k e₁ e₂ same);
    base = (kept_grown n k e₁ e₂ same {Q = Q} h).base ∙ g.base;
    added = same 1 (omega arith) ∙ g.added;
    entries = λ u l L. kept_listed n k e₁ e₂ same (l ++ x) h (g.entries u l L);
  }

  pub kept_then : entries_in e k ≤ n → Kept n k e e₁ → GrownAt Q k x e₁ e₂ → GrownAt Q k x e e₂
  kept_then h same g = record {
    few = omega (arith, g.few, kept_count n k e e₁ same);
    base = g.base ∙ (kept_grown n k e e₁ same {Q = Q} h).base;
    added = g.added ∙ same 1 (omega arith);
    entries = λ u l L. g.entries u l (kept_listed n k e e₁ same l h L);
  }

-- one entry more
module _ (n p : ℕ) (x : Entry) (e e' : List ℕ) (A : Appended n p x e e') (size : values e 0 ≡ block_size n) (room : entries_in e p < n) where
  count_begin : values e (begin_of n p + 2) ≡ entries_in e p
  count_begin = ap (λ s. values e (1 + p * s + 2)) (sym size)

  pub appended_within : Within n p e e'
  appended_within j h = A.kept j (λ q. h (omega arith) (omega arith)) (λ g q. h (omega arith) (omega (arith, count_begin)))

  begins : block_at e' p ≡ begin_of n p
  begins = ap (λ s. 1 + p * s) (within_size n p e e' appended_within ∙ size)

  began : block_at e p ≡ begin_of n p
  began = ap (λ s. 1 + p * s) size

  still : (i : ℕ) → (i ≡ 2 → ⊥) → i < 3 + entries_in e p * 5 → values e' (block_at e' p + i) ≡ values e (block_at e p + i)
  still i d h =
      ap (λ s. values e' (s + i)) begins
      ∙ A.kept (begin_of n p + i) (λ q. d (omega arith)) (λ g q. omega (arith, count_begin))
      ∙ ap (λ s. values e (s + i)) (sym began)

  at-still : (i s t : ℕ) → s ≡ block_at e' p + i → t ≡ block_at e p + i → (i ≡ 2 → ⊥) → i < 3 + entries_in e p * 5 → values e' s ≡ values e t
  at-still i s t u v d h = ap (values e') u ∙ still i d h ∙ sym (ap (values e) v)

  counted : entries_in e' p ≡ entries_in e p + 1
  counted = ap (λ s. values e' (s + 2)) begins ∙ A.count ∙ ap (λ c. c + 1) count_begin

  earlier : (q : ℕ) (y : Entry) → q < entries_in e p → EntryIs e (entry_at e p q) y → EntryIs e' (entry_at e' p q) y
  earlier q y h E = record {
    look = at-still (3 + q * 5) (entry_at e' p q) (entry_at e p q) (omega arith) (omega arith) (λ z. omega arith) (omega arith) ∙ E.look;
    plus = at-still (4 + q * 5) (entry_at e' p q + 1) (entry_at e p q + 1) (omega arith) (omega arith) (λ z. omega arith) (omega arith) ∙ E.plus;
    less = at-still (5 + q * 5) (entry_at e' p q + 2) (entry_at e p q + 2) (omega arith) (omega arith) (λ z. omega arith) (omega arith) ∙ E.less;
    period = at-still (6 + q * 5) (entry_at e' p q + 3) (entry_at e p q + 3) (omega arith) (omega arith) (λ z. omega arith) (omega arith) ∙ E.period;
    weight = at-still (7 + q * 5) (entry_at e' p q + 4) (entry_at e p q + 4) (omega arith) (omega arith) (λ z. omega arith) (omega arith) ∙ E.weight;
  }

  newest : (q : ℕ) → q ≡ entries_in e p → EntryIs e' (entry_at e' p q) x
  newest q h =
      let z : begin_of n p + 3 + 5 * values e (begin_of n p + 2) ≡ entry_at e' p q = omega (arith, begins, count_begin) in
      subst (λ k. EntryIs e' k x) z A.entry

  appended-looks : x.look < node_slot p → LooksAt e p → LooksAt e' p
  appended-looks h L q g = elim (le_or-lt (entries_in e p) q) [
    | inl i ↦ omega (arith, (newest q (omega (arith, counted))).look)
    | inr i ↦ omega (arith, at-still (3 + q * 5) (entry_at e' p q) (entry_at e p q) (omega arith) (omega arith) (λ z. omega arith) (omega arith), L q i)
  ]

  more : (l : List Entry) → Listed e p l → Listed e' p (l ++ (x ∷ []))
  more l L = record {
    count = omega (arith, counted, L.count, length-append l (x ∷ []));
    each = λ q h. elim (le_or-lt (length l) q) [
      | inl g ↦
          let z : q ≡ entries_in e p = omega (arith, L.count, length-append l (x ∷ [])) in
          subst (EntryIs e' (entry_at e' p q)) (sym (get_or_at l x [] no_entry q (omega (arith, L.count)))) (newest q z)
      | inr g ↦
          subst (EntryIs e' (entry_at e' p q)) (sym (get_or-append l (x ∷ []) no_entry q g))
          (earlier q (get_or l q no_entry) (omega (arith, L.count)) (L.each q g))
    ];
  }

  pub appended_grown : {Q : Type 0} (y : Entry) → (Q → x ≡ y) → GrownAt Q p (y ∷ []) e e'
  appended_grown y f = record {
    few = omega (arith, counted);
    base = at-still 0 (block_at e' p) (block_at e p) (omega arith) (omega arith) (λ z. omega arith) (omega arith);
    added = still 1 (λ z. omega arith) (omega arith);
    entries = λ u l L. subst (λ z. Listed e' p (l ++ (z ∷ []))) (f u) (more l L);
  }

-- its stores
abbrev pub stored : List ℕ → ℕ → ℕ → ℕ → ℕ → ℕ → ℕ → List ℕ
stored e at look plus less period weight =
    let k = at + 3 + 5 * values e (at + 2) in
    set (set (set (set (set (set e k look) (k + 1) plus) (k + 2) less) (k + 3) period) (k + 4) weight) (at + 2) (values e (at + 2) + 1)

pub stored-appended : (n p : ℕ) (e : List ℕ) → Frame n (p + 1) e → entries_in e p < n → (at : ℕ) → at ≡ begin_of n p → (look plus less period weight : ℕ) →
    n ≤ 63 → look < 16777216 → plus < 16777216 → less < 16777216 → period < 16777216 → weight < 16777216 →
    Appended n p (entry_from look plus less period weight) e (stored e at look plus less period weight)
stored-appended n p e f room at begins look plus less period weight few s₁ s₂ s₃ s₄ s₅ =
    subst (λ z. Appended n p (entry_from look plus less period weight) e (stored e z look plus less period weight)) (sym begins) (record {
      count = get_or-set_same l₅ (d + 2) (c + 1) 0 (simp length-set (omega (arith, fits)));
      entry = record {
        look =
            get_or-set_other l₅ (d + 2) k (c + 1) 0 (λ z. omega arith) ∙ get_or-set_other l₄ (k + 4) k weight 0 (λ z. omega arith)
            ∙ get_or-set_other l₃ (k + 3) k period 0 (λ z. omega arith) ∙ get_or-set_other l₂ (k + 2) k less 0 (λ z. omega arith)
            ∙ get_or-set_other l₁ (k + 1) k plus 0 (λ z. omega arith) ∙ get_or-set_same e k look 0 (omega (arith, fits));
        plus =
            get_or-set_other l₅ (d + 2) (k + 1) (c + 1) 0 (λ z. omega arith) ∙ get_or-set_other l₄ (k + 4) (k + 1) weight 0 (λ z. omega arith)
            ∙ get_or-set_other l₃ (k + 3) (k + 1) period 0 (λ z. omega arith) ∙ get_or-set_other l₂ (k + 2) (k + 1) less 0 (λ z. omega arith)
            ∙ get_or-set_same l₁ (k + 1) plus 0 (simp length-set (omega (arith, fits)));
        less =
            get_or-set_other l₅ (d + 2) (k + 2) (c + 1) 0 (λ z. omega arith) ∙ get_or-set_other l₄ (k + 4) (k + 2) weight 0 (λ z. omega arith)
            ∙ get_or-set_other l₃ (k + 3) (k + 2) period 0 (λ z. omega arith) ∙ get_or-set_same l₂ (k + 2) less 0 (simp length-set (omega (arith, fits)));
        period =
            get_or-set_other l₅ (d + 2) (k + 3) (c + 1) 0 (λ z. omega arith) ∙ get_or-set_other l₄ (k + 4) (k + 3) weight 0 (λ z. omega arith)
            ∙ get_or-set_same l₃ (k + 3) period 0 (simp length-set (omega (arith, fits)));
        weight = get_or-set_other l₅ (d + 2) (k + 4) (c + 1) 0 (λ z. omega arith) ∙ get_or-set_same l₄ (k + 4) weight 0 (simp length-set (omega (arith, fits)));
      };
      kept = λ j a b.
          get_or-set_other l₅ (d + 2) j (c + 1) 0 a ∙ get_or-set_other l₄ (k + 4) j weight 0 (λ z. b (omega arith) (omega arith))
          ∙ get_or-set_other l₃ (k + 3) j period 0 (λ z. b (omega arith) (omega arith)) ∙ get_or-set_other l₂ (k + 2) j less 0 (λ z. b (omega arith) (omega arith))
          ∙ get_or-set_other l₁ (k + 1) j plus 0 (λ z. b (omega arith) (omega arith)) ∙ get_or-set_other e k j look 0 (λ z. b (omega arith) (omega arith));
      small =
          small-set l₅ (d + 2) (c + 1) (simp length-set (omega (arith, fits))) (omega (arith, count-is))
          (small-set l₄ (k + 4) weight (simp length-set (omega (arith, fits))) s₅
          (small-set l₃ (k + 3) period (simp length-set (omega (arith, fits))) s₄
          (small-set l₂ (k + 2) less (simp length-set (omega (arith, fits))) s₃
          (small-set l₁ (k + 1) plus (simp length-set (omega (arith, fits))) s₂ (small-set e k look (omega (arith, fits)) s₁ f.small)))));
    })
  where
    d : ℕ
    d = begin_of n p

    c : ℕ
    c = values e (d + 2)

    k : ℕ
    k = d + 3 + 5 * c

    l₁ : List ℕ
    l₁ = set e k look

    l₂ : List ℕ
    l₂ = set l₁ (k + 1) plus

    l₃ : List ℕ
    l₃ = set l₂ (k + 2) less

    l₄ : List ℕ
    l₄ = set l₃ (k + 3) period

    l₅ : List ℕ
    l₅ = set l₄ (k + 4) weight

    count-is : c ≡ entries_in e p
    count-is = ap (λ s. values e (1 + p * s + 2)) (sym f.size)

    fits : k + 5 ≤ length e
    fits = omega (arith, f.long, count-is)

-- the blocks before p have grown, the others are as they were
pub record Going (Q : Type 0) (n m : ℕ) (x : ℕ → List Entry) (e₀ e : List ℕ) (p : ℕ) : Type 0 where
  pub frame : Frame n m e
  pub done : (k : ℕ) → k < p → k < m → GrownAt Q k (x k) e₀ e
  pub rest : (k : ℕ) → p ≤ k → k < m → Kept n k e₀ e

module _ {Q : Type 0} {n m : ℕ} {x : ℕ → List Entry} {e₀ : List ℕ} where
  pub going_end : {e : List ℕ} {p : ℕ} → m ≤ p → Going Q n m x e₀ e p → Grown Q n m x e₀ e
  going_end h G = record { frame = G.frame; blocks = λ k i. G.done k (omega arith) i }

  module _ (roomy : Roomy n m e₀) where
    pub going_from : (f : ℕ) → ((k : ℕ) → k < f → x k ≡ []) → Going Q n m x e₀ e₀ f
    going_from f none = record {
      frame = roomy.frame;
      done = λ k h i. subst (λ z. GrownAt Q k z e₀ e₀) (sym (none k h)) (kept_grown n k e₀ e₀ (λ j g. refl) (omega (arith, roomy.room k i)));
      rest = λ k h i j g. refl;
    }

    module _ {e : List ℕ} {p : ℕ} (on : p < m) (G : Going Q n m x e₀ e p) where
      pub going_room : entries_in e p < n
      going_room = omega (arith, kept_count n p e₀ e (G.rest p (omega arith) on), roomy.room p on)

      going-few : (k : ℕ) → k < m → entries_in e k ≤ n
      going-few k i = elim (le_or-lt p k) [
        | inl g ↦ omega (arith, kept_count n k e₀ e (G.rest k g i), roomy.room k i)
        | inr g ↦ omega (arith, (G.done k g i).few, roomy.room k i)
      ]

      pub going_more : {e' : List ℕ} {y z : Entry} → x p ≡ z ∷ [] → Appended n p y e e' → length e' ≡ length e → y.look < node_slot p → (Q → y ≡ z) →
          Going Q n m x e₀ e' (p + 1)
      going_more {e'} {y} {z} one A len back eq = record {
        frame = record {
          size = within_size n p e e' within ∙ G.frame.size;
          long = omega (arith, G.frame.long);
          small = A.small;
          looks = looks;
        };
        done = λ k h i. elim (le_or-lt p k) [
          | inl g ↦
              let s : p ≡ k = omega arith in
              subst (λ k. GrownAt Q k (x k) e₀ e') s (subst (λ l. GrownAt Q p l e₀ e') (sym one) here)
          | inr g ↦
              grown_kept n k e₀ e e' (going-few k i) (G.done k g i) (other k (λ s. omega arith))
        ];
        rest = λ k h i j g. other k (λ s. omega arith) j g ∙ G.rest k (omega arith) i j g;
      }
        where
          within : Within n p e e'
          within = appended_within n p y e e' A G.frame.size going_room

          other : (k : ℕ) → (k ≡ p → ⊥) → Kept n k e e'
          other = within_kept n p e e' within G.frame.size

          away : (k : ℕ) → (k ≡ p → ⊥) → k < m → LooksAt e' k
          away k d i = kept-looks n k e e' (other k d) (going-few k i) (λ q. G.frame.looks k q i)

          looks : Fit e' m
          looks k q i h = elim (le_or-lt p k) [
            | inl g ↦ elim (le_or-lt k p) [
              | inl f ↦
                  let s : p ≡ k = omega arith in
                  subst (LooksAt e') s (appended-looks n p y e e' A G.frame.size going_room back (λ j. G.frame.looks p j on)) q h
              | inr f ↦ away k (λ s. omega arith) i q h
            ]
            | inr g ↦ away k (λ s. omega arith) i q h
          ]

          here : GrownAt Q p (z ∷ []) e₀ e'
          here =
              kept_then n p e₀ e e' (omega (arith, roomy.room p on)) (G.rest p (omega arith) on)
              (appended_grown n p y e e' A G.frame.size going_room z eq)

-- a block with no entry yet
pub record Head (Q : Type 0) (x y : ℕ) (e : List ℕ) (p : ℕ) : Type 0 where
  pub none : entries_in e p ≡ 0
  pub base : Q → values e (block_at e p) ≡ x
  pub added : Q → values e (block_at e p + 1) ≡ y

-- of m blocks those before p; the others hold what stood there
pub record Heads (Q : Type 0) (n m : ℕ) (base add : ℕ → ℕ) (e : List ℕ) (p : ℕ) : Type 0 where
  pub size : values e 0 ≡ block_size n
  pub long : 1 + m * block_size n ≤ length e
  pub small : Small e
  pub heads : (k : ℕ) → k < p → k < m → Head Q (base k) (add k) e k

module _ {Q : Type 0} {n m : ℕ} {base add : ℕ → ℕ} where
  pub heads_frame : {e : List ℕ} {p : ℕ} → m ≤ p → Heads Q n m base add e p → Frame n m e
  heads_frame h H = record {
    size = H.size;
    long = H.long;
    small = H.small;
    looks = λ k q i g. absurd (omega (arith, (H.heads k (omega arith) i).none));
  }

  pub heads_more : {e : List ℕ} {p : ℕ} (at x y : ℕ) → Heads Q n m base add e p → p < m → at ≡ begin_of n p → x < 16777216 → y < 16777216 →
      (Q → x ≡ base p) → (Q → y ≡ add p) →
      Heads Q n m base add (set (set (set e at x) (at + 1) y) (at + 2) 0) (p + 1)
  heads_more {e} {p} at x y H on begins sx sy bx ay = record {
    size = within_size n p e e' within ∙ H.size;
    long = simp length-set H.long;
    small = small;
    heads = λ k h i. elim (le_or-lt p k) [
      | inl g ↦ let s : p ≡ k = omega arith in subst (λ k. Head Q (base k) (add k) e' k) s here
      | inr g ↦
          let s = within_kept n p e e' within H.size k (λ s. omega arith) in
          record {
            none = kept_count n k e e' s ∙ (H.heads k g i).none;
            base = λ u. kept_at n k e e' s 0 (block_at e' k) (block_at e k) (omega arith) (omega arith) (omega arith) ∙ (H.heads k g i).base u;
            added = λ u. s 1 (omega arith) ∙ (H.heads k g i).added u;
          }
    ];
  }
    where
      e₁ : List ℕ
      e₁ = set e at x

      e₂ : List ℕ
      e₂ = set e₁ (at + 1) y

      e' : List ℕ
      e' = set e₂ (at + 2) 0

      fits : at + 3 ≤ length e
      fits = omega (arith, long_less n m p (length e) on H.long)

      within : Within n p e e'
      within j h =
          get_or-set_other e₂ (at + 2) j 0 0 (λ z. h (omega arith) (omega arith)) ∙ get_or-set_other e₁ (at + 1) j y 0 (λ z. h (omega arith) (omega arith))
          ∙ get_or-set_other e at j x 0 (λ z. h (omega arith) (omega arith))

      small : Small e'
      small =
          small-set e₂ (at + 2) 0 (simp length-set (omega (arith, fits))) (omega arith)
          (small-set e₁ (at + 1) y (simp length-set (omega (arith, fits))) sy (small-set e at x (omega (arith, fits)) sx H.small))

      begun : block_at e' p ≡ at
      begun = ap (λ s. 1 + p * s) (within_size n p e e' within ∙ H.size) ∙ sym begins

      here : Head Q (base p) (add p) e' p
      here = record {
        none = ap (λ s. values e' (s + 2)) begun ∙ get_or-set_same e₂ (at + 2) 0 0 (simp length-set (omega (arith, fits)));
        base = λ u.
            ap (values e') begun ∙ get_or-set_other e₂ (at + 2) at 0 0 (λ z. omega arith) ∙ get_or-set_other e₁ (at + 1) at y 0 (λ z. omega arith)
            ∙ get_or-set_same e at x 0 (omega (arith, fits)) ∙ bx u;
        added = λ u.
            ap (λ s. values e' (s + 1)) begun ∙ get_or-set_other e₂ (at + 2) (at + 1) 0 0 (λ z. omega arith)
            ∙ get_or-set_same e₁ (at + 1) y 0 (simp length-set (omega (arith, fits))) ∙ ay u;
      }
