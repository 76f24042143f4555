-- Find, insert, remove, refusals 2 to 6 as tests, rising numbers: said of the list of flows that a row holds. Append is said of its array.
use Rattle.std.specs.Prelude.{ℕ, suc, ◌+◌, ◌-◌, ◌<◌, Bool, cond, List, [], ◌∷◌, length, get_or, set, leb, ltb, eqb, Option, Some, None, Err}
use Rattle.flows.specs.declared.Flow.{Flow}
use Rattle.flows.specs.declared.Row.{Row}
use Rattle.flows.specs.declared.Cause.TheVariants.{Present, Full}
use Rattle.flows.specs.Refusals.{Ruling, accepted, first_cause}
use Rattle.flows.specs.Lists.{most_flows, no_flow, held, row_of}
use Rattle.flows.specs.Tests.{flow_cause}

-- the flow at a place
abbrev pub placed : Row → ℕ → Flow
placed row k = get_or (held row) k no_flow

-- how many elements stand before the first that passes a test
unfoldable pub first_of : {A : Type 0} → (A → Bool) → List A → ℕ
first_of p [] = 0
first_of p (x ∷ xs) = cond (p x) 0 (suc (first_of p xs))

abbrev pub place_of : ℕ → List Flow → ℕ
place_of number fs = first_of (λ f. eqb f.number number) fs

abbrev pub rank_of : ℕ → List Flow → ℕ
rank_of number fs = first_of (λ f. ltb number f.number) fs

unfoldable pub found_in : List Flow → ℕ → Option ℕ
found_in fs number = cond (ltb (place_of number fs) (length fs)) (Some (place_of number fs)) None

-- a flow put before the first of a greater number
unfoldable pub insert_sorted : Flow → List Flow → List Flow
insert_sorted f [] = f ∷ []
insert_sorted f (g ∷ gs) = cond (ltb f.number g.number) (f ∷ g ∷ gs) (g ∷ insert_sorted f gs)

-- the first flow of that number left out
unfoldable pub without : ℕ → List Flow → List Flow
without number [] = []
without number (f ∷ fs) = cond (eqb f.number number) fs (f ∷ without number fs)

unfoldable pub inserted : Row → Flow → Row
inserted row f = cond (leb most_flows (length (held row))) row (row_of (insert_sorted f (held row)))

-- a store at the count
unfoldable pub appended : Row → Flow → Row
appended row f = cond (leb most_flows row.count) row (record { flows = set row.flows row.count f; count = row.count + 1 })

unfoldable pub last_number : List Flow → ℕ
last_number fs = (get_or fs (length fs - 1) no_flow).number

-- 2 to 4 of the flow alone; 5: its number is taken; 6: no place is left. RULES, refusals
unfoldable pub entry_cause : List Flow → Flow → Ruling
entry_cause fs f =
    first_cause (flow_cause f)
    (cond (ltb (place_of f.number fs) (length fs)) (Err Present)
    (cond (leb most_flows (length fs)) (Err Full) accepted))

-- numbers above n, each above the one before
pub data RisingBy {A : Type 0} (number : A → ℕ) : ℕ → List A → Type 0 where
  rising_none : {n : ℕ} → RisingBy number n []
  rising-more : {n : ℕ} {x : A} {xs : List A} → n < number x → RisingBy number (number x) xs → RisingBy number n (x ∷ xs)

abbrev pub Rising : ℕ → List Flow → Type 0
Rising n fs = RisingBy (λ f. f.number) n fs
