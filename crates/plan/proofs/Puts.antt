-- Writing: what each record leaves in the buffer, and a law for each way out.
use Prim.Native.Nat.{ℕ, ◌+◌, ◌*◌, ◌≤◌, ◌<◌}
use mathlib.Core.Path.{◌≡◌, refl, ap, ◌∙◌, subst}
use mathlib.Core.List.{List, ◌++◌}
use lib.ListN.{length, get_or, take, drop, set}
use Rattle.std.specs.Prelude.{Ok, Err}
use Rattle.flows.specs.declared.Flow.{Flow}
use Rattle.flows.specs.declared.Row.{Row}
use Rattle.flows.specs.declared.Refusal.{Refusal}
use Rattle.flows.specs.declared.Cause.TheVariants.{ShortBuffer}
use Rattle.flows.specs.Lists.{held}
use Rattle.records.specs.Kinds.{links_record, flow_record, end_kind}
use Rattle.plan.specs.Writing.{links_bytes, flow_bytes, flows_bytes, plan_bytes, plan_length, written_into, buffer_after}
use Rattle.row.proofs.Arrays.{held_all}
use Rattle.records.proofs.Rows as rows
use Rattle.records.proofs.Rows.{Holds, holds_none, holds_next, buffer_kept, buffer_filled}

-- ---- the records of the flows
abbrev pub Flows : List ℕ → List Flow → List ℕ → Type 0
Flows old fs buf = Holds flow_bytes links_record flow_record old fs buf

pub puts_none : (old : List ℕ) (fs : List Flow) → Flows old (take 0 fs) old
puts_none old fs = holds_none flow_bytes links_record flow_record old

pub puts_more : (old buf new : List ℕ) (fs : List Flow) (k : ℕ) (d : Flow) → k < length fs → links_record ≤ length old → Flows old (take k fs) buf →
    length (flow_bytes (get_or fs k d)) ≡ flow_record →
    new ≡ take (links_record + flow_record * k) buf ++ (flow_bytes (get_or fs k d) ++ drop (links_record + flow_record * k + flow_record) buf) →
    Flows old (take (k + 1) fs) new
puts_more = holds_next flow_bytes links_record flow_record

pub puts_end : (row : Row) (old buf : List ℕ) (n k : ℕ) → n ≡ length (held row) → k ≡ n → Flows old (take k row.flows) buf → Flows old (held row) buf
puts_end row old buf n k e z h = subst (λ (fs : List Flow). Flows old fs buf) (held_all row k (z ∙ e)) h

-- ---- the whole plan, with n flows of which the code knows the number as m
module _ (space n m : ℕ) (e : m ≡ n) where
  pub wrote_short : (r : Refusal) → space < plan_length m → r ≡ record { cause = ShortBuffer; place = 0 } → Err r ≡ written_into space n
  wrote_short r h g = rows.wrote_short space (plan_length n) r (rw e at h) g

  pub wrote_all : plan_length m ≤ space → Ok (plan_length m) ≡ written_into space n
  wrote_all h = rows.wrote_all space (plan_length m) h ∙ ap (written_into space) e

module _ (lmin lmax : ℕ) (fs : List Flow) (old : List ℕ) (m : ℕ) (e : m ≡ length fs) where
  pub kept : length old < plan_length m → old ≡ buffer_after lmin lmax fs old
  kept h = buffer_kept (plan_bytes lmin lmax fs) (plan_length (length fs)) old (rw e at h)

  pub filled : (one two : List ℕ) → plan_length m ≤ length old → length (flows_bytes fs) ≡ flow_record * length fs →
      one ≡ links_bytes lmin lmax ++ drop links_record old →
      two ≡ (take links_record one ++ flows_bytes fs) ++ drop (links_record + flow_record * length fs) one →
      set two (links_record + flow_record * m) end_kind ≡ buffer_after lmin lmax fs old
  unfolding plan_bytes
  filled one two h len e₁ e₂ =
      let i : plan_length (length fs) ≤ length old = rw e at h in
      ap (λ (j : ℕ). set two (links_record + flow_record * j) end_kind) e ∙
      rows.filled flow_bytes links_record flow_record old (links_bytes lmin lmax) one two fs end_kind refl i e₁ (len, e₂) ∙
      buffer_filled (plan_bytes lmin lmax fs) (plan_length (length fs)) old i
