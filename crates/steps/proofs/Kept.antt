-- What the walk keeps of a node: a law for the start, a turn and the end, of its entries. Assumes nothing.
use mathlib.Core.Path.{◌≡◌, sym, ◌∙◌, subst}
use mathlib.Core.List.{List}
use Prim.Native.Nat.{ℕ, ◌+◌, ◌≤◌, ◌<◌, min}
use native.Mathlib.Omega.{arith}
use lib.ListN.{length, set, length-set}
use lib.Seq.{get_or-set_same, get_or-set_other}
use borrow.Author.Count.{below_more}
use Rattle.least.specs.Lists.{values, Inside}
use Rattle.least.proofs.Stores.{inside-none, inside-set, inside_then}
use Rattle.least.proofs.Steps.{step-on}
use Rattle.blocks.specs.Sheet.{entries_in, entry_at, instant_sum, Looking}
use Rattle.steps.specs.Steps.{EntryStep, NodeStep}
use Rattle.steps.specs.Kept.{kept_size, KeptAt}
use Rattle.steps.proofs.Steps.{EntriesStep, entries_none, entries_more, entries_all}

-- the sum and the node's next step written
abbrev pub headed : List ℕ → ℕ → ℕ → ℕ → List ℕ
headed steps at sum next = set (set steps at sum) (at + 1) next

inside-headed : (steps : List ℕ) (at sum next : ℕ) → Inside at (at + 2) steps (headed steps at sum next)
inside-headed steps at sum next =
    inside_then at (at + 2) (omega arith) (omega arith) (omega arith) (omega arith) (inside-set steps at sum) (inside-set (set steps at sum) (at + 1) next)

-- where the node does not step nothing of it does
pub kept_later : {e : List ℕ} {end u v p at : ℕ} {steps : List ℕ} → KeptAt e end u steps p at → u ≤ v → v < values steps (at + 1) → KeptAt e end v steps p at
kept_later {v} kept h on = record {
  sum = kept.sum ∙ sym (kept.next.still v h on);
  next = step-on kept.next h on;
  looks = kept.looks;
  each = λ q l. step-on (kept.each q l) h (omega (arith, kept.after q l));
  after = kept.after;
}

-- the first q entries of node p, of which is kept at a place
pub record Entered (e : List ℕ) (end u p at : ℕ) (steps₀ steps : List ℕ) (next q : ℕ) : Type 0 where
  pub each : (i : ℕ) → i < q → EntryStep e (entry_at e p i) u end (values steps (at + kept_size + i))
  pub after : (i : ℕ) → i < q → next ≤ values steps (at + kept_size + i)
  pub inside : Inside (at + kept_size) (at + kept_size + q) steps₀ steps
  pub step : EntriesStep e p q u end next

module _ (e : List ℕ) (end u p at : ℕ) where
  pub entered_none : (steps : List ℕ) → u < end → Entered e end u p at steps steps end 0
  entered_none steps on = record {
    each = λ i h. absurd (omega arith);
    after = λ i h. absurd (omega arith);
    inside = inside-none;
    step = entries_none e u end p on;
  }

  module _ (steps₀ steps : List ℕ) (next q : ℕ) (entered : Entered e end u p at steps₀ steps next q) where
    pub entered_more : (steps' : List ℕ) (s next' k : ℕ) → k ≡ entry_at e p q → Inside (at + kept_size + q) (at + kept_size + q + 1) steps steps' → values steps' (at + kept_size + q) ≡ s →
        EntryStep e k u end s → next' ≡ min next s → Entered e end u p at steps₀ steps' next' (q + 1)
    entered_more steps' s next' k place i is step least = record {
      each = below_more (λ i. EntryStep e (entry_at e p i) u end (values steps' (at + kept_size + i))) q
          (λ j h. subst (EntryStep e (entry_at e p j) u end) (sym (i.before (at + kept_size + j) (omega arith))) (entered.each j h))
          (subst (EntryStep e (entry_at e p q) u end) (sym is) here);
      after = below_more (λ i. next' ≤ values steps' (at + kept_size + i)) q
          (λ j h. omega (arith, i.before (at + kept_size + j) (omega arith), entered.after j h))
          (omega arith);
      inside = inside_then (at + kept_size) (at + kept_size + (q + 1)) (omega arith) (omega arith) (omega arith) (omega arith) entered.inside i;
      step = subst (EntriesStep e p (q + 1) u end) (sym least) (entries_more e u end p q next s entered.step here);
    }
      where
        here : EntryStep e (entry_at e p q) u end s
        here = subst (λ k. EntryStep e k u end s) place step

    -- the sum and the first step written, they look as they did
    pub entered_looks : (sum : ℕ) → Looking e p (values steps₀ (at + 2)) → Looking e p (values (headed steps at sum next) (at + 2))
    entered_looks sum =
        subst (Looking e p) (sym ((inside-headed steps at sum next).behind (at + 2) (omega arith) ∙ entered.inside.before (at + 2) (omega arith)))

    -- all of them, then the sum and the first step, then perhaps how they look
    pub entered_all : (sum : ℕ) (steps' : List ℕ) → Inside (at + 2) (at + 2 + 1) (headed steps at sum next) steps' →
        q ≡ entries_in e p → sum ≡ instant_sum e p u → Looking e p (values steps' (at + 2)) → at + kept_size ≤ length steps₀ →
        (KeptAt e end u steps' p at × NodeStep e p u end next) × Inside at (at + kept_size + entries_in e p) steps₀ steps'
    entered_all sum steps' i all is looks room = ((kept, node), inside)
      where
        node : NodeStep e p u end next
        node = entries_all e u end p q next entered.step all

        head : Inside at (at + kept_size) steps steps'
        head = inside_then at (at + kept_size) (omega arith) (omega arith) (omega arith) (omega arith) (inside-headed steps at sum next) i

        first : values steps' (at + 1) ≡ next
        first =
            i.before (at + 1) (omega arith)
            ∙ get_or-set_same (set steps at sum) (at + 1) next 0 (omega (arith, length-set steps at sum, entered.inside.long))

        kept : KeptAt e end u steps' p at
        kept = record {
          sum = i.before at (omega arith)
              ∙ get_or-set_other (set steps at sum) (at + 1) at next 0 (λ z. omega arith)
              ∙ get_or-set_same steps at sum 0 (omega (arith, entered.inside.long)) ∙ is;
          next = subst (NodeStep e p u end) (sym first) node;
          looks = looks;
          each = λ j h. subst (EntryStep e (entry_at e p j) u end) (sym (head.behind (at + kept_size + j) (omega arith))) (entered.each j (omega arith));
          after = λ j h. omega (arith, first, head.behind (at + kept_size + j) (omega arith), entered.after j (omega arith));
        }

        inside : Inside at (at + kept_size + entries_in e p) steps₀ steps'
        inside = inside_then at (at + kept_size + entries_in e p) (omega arith) (omega arith) (omega arith) (omega arith) entered.inside head
