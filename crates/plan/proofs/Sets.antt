-- The sets of the library's calls, and their plans: what is written and then read is the same set, what is read and then written the same bytes.
use Prim.Native.Nat.{ℕ}
use mathlib.Core.Path.{◌≡◌, refl, sym, ap, ◌∙◌, subst}
use mathlib.Core.List.{List, []}
use native.Mathlib.Omega.{arith}
use Rattle.flows.specs.declared.Refusal.{Refusal}
use Rattle.std.specs.Prelude.{Result, Ok, Err}
use Rattle.flows.specs.declared.Flow.{Flow}
use Rattle.flows.specs.declared.Row.{Row}
use Rattle.flows.specs.Lists.{held, row_of}
use Rattle.row.specs.Sets.{Readable}
use Rattle.row.proofs.Arrays.{held-row_of}
use Rattle.row.proofs.Valid.{readable_none}
use Rattle.records.specs.Bodies.{Bytes}
use Rattle.reader.proofs.Places.{impossible}
use Rattle.plan.specs.declared.FlowSet.{FlowSet}
use Rattle.plan.specs.declared.Reading.{Reading}
use Rattle.plan.specs.Reading.{read_plan}
use Rattle.plan.specs.Writing.{plan_bytes, set_bytes}
use Rattle.plan.specs.Demands.{WasRead}
use Rattle.plan.proofs.Trips.{form_read, write_read}
use Rattle.plan.proofs.Unread.{place_inside, plan_form}

-- ---- the sets of the library's calls: every set that was read, and every table's
pub record Proper (s : FlowSet) : Type 0 where
  pub readable : Readable s.lmin s.lmax (held s.row)
  pub row : s.row ≡ row_of (held s.row)

-- a set whose row is that of a list
proper_of : (lmin lmax : ℕ) (fs : List Flow) → Readable lmin lmax fs → Proper (record { lmin = lmin; lmax = lmax; row = row_of fs })
proper_of lmin lmax fs r = record {
  readable = subst (Readable lmin lmax) (sym (held-row_of fs)) r;
  row = ap row_of (sym (held-row_of fs));
}

-- the empty one of a refused reading too
pub read_proper : (s : FlowSet) → WasRead s → Proper s
read_proper s w = subst Proper w.given (go (read_plan w.bytes).outcome refl)
  where
    go : (o : Result (Unit {0}) Refusal) → (read_plan w.bytes).outcome ≡ o → Proper (read_plan w.bytes).set
    go (Ok x) e =
        let i = plan_form w.bytes w.fit e in
        subst (λ (r : Reading). Proper r.set) (sym (form_read w.bytes i)) (proper_of i.lmin i.lmax i.flows i.readable)
    go (Err r) e =
        subst Proper (sym ((place_inside w.bytes w.fit).empty (λ g. impossible (cc)))) (proper_of 0 0 [] (readable_none 0 0 (omega arith, omega arith)))

-- What is read and then written is the bytes that were read
pub read_write : (b : List ℕ) → Bytes b → (s : FlowSet) → read_plan b ≡ record { outcome = Ok tt; set = s } → set_bytes s ≡ b
read_write b u s e =
    let i = plan_form b u (ap (λ (r : Reading). r.outcome) e) in
    ap (λ (r : Reading). set_bytes r.set) (sym e ∙ form_read b i) ∙ ap (plan_bytes i.lmin i.lmax) (held-row_of i.flows) ∙ sym i.bytes

-- What is written and then read is the set that was written
pub write_read-set : (s : FlowSet) → Proper s → read_plan (set_bytes s) ≡ record { outcome = Ok tt; set = s }
write_read-set s p =
    write_read s.lmin s.lmax (held s.row) p.readable ∙
    ap (λ (w : Row). record { outcome = Ok tt; set = record { lmin = s.lmin; lmax = s.lmax; row = w } }) (sym p.row)
