-- What calls keep: a table in rising number whose figures are those that the rules give for its flows. Assumes nothing.
use Prim.Native.Nat.{ℕ, suc, ◌≤◌}
use mathlib.Core.Path.{◌≡◌, refl, sym, ap, ◌∙◌, subst}
use mathlib.Core.Bool.{Bool, true, false, cond}
use mathlib.Core.List.Sublistᴰ
use mathlib.Core.List.{List, [], ◌∷◌, Sublistᴰ}
use native.Mathlib.Omega.{arith}
use lib.ListN.{length}
use lib.Dec.{ltb, eqb}
use borrow.Author.Tests.{lt-leb}
use Rattle.std.specs.Prelude.{Option, Some, None}
use Rattle.least.proofs.Fold.{sublist-map}
use Rattle.rules.specs.Net as net
use Rattle.rules.specs.Judge.{judged}
use Rattle.flows.specs.declared.Flow.{Flow}
use Rattle.flows.specs.declared.Table.{Table}
use Rattle.flows.specs.Refusals.{accepted, accepted_by}
use Rattle.flows.specs.Lists.{most_flows, held, row_of, flow_of, net_from, table_net}
use Rattle.flows.specs.Tests.{delay_cause}
use Rattle.flows.specs.WellFormed.{DelaysFit, Typed}
use Rattle.flows.proofs.Causes.{accepted_only}
use Rattle.flows.proofs.Passed.{delays_formed}
use Rattle.row.specs.Sets.{Readable, Enters}
use Rattle.row.specs.Rows.{found_in, insert_sorted, without, inserted, entry_cause}
use Rattle.row.proofs.Arrays.{held-row_of}
use Rattle.row.proofs.Sets.{insert_rising, without_rising, insert_each, without_each, enters}
use Rattle.row.proofs.Valid.{readable_valid, readable_none}
use Rattle.engine.specs.Verdicts.{figures_in, listed, verdict_from, verdict_of}
use Rattle.table.specs.Calls.{empty_table, answered, unless, fresh_answer, holding, decided, judged_row, admitted, withdrawn_by, withdrawn}
use Rattle.table.specs.Made.{Made, by_fresh, by_admit, by_withdraw}
use Rattle.table.proofs.Nets.{none_accepted, part_accepted}

pub record Right (t : Table) : Type 0 where
  pub set : Readable t.lmin t.lmax (held t.row)
  pub row : t.row ≡ row_of (held t.row)
  pub givens : List net.Figures
  pub accepted : judged (table_net t) ≡ net.Given givens
  pub figures : t.figures ≡ listed givens

right_of : (t : Table) (fs : List Flow) (gs : List net.Figures) → t.row ≡ row_of fs → Readable t.lmin t.lmax fs →
    judged (net_from t.lmin t.lmax fs) ≡ net.Given gs → t.figures ≡ listed gs → Right t
right_of t fs gs e k j g =
    let h : held t.row ≡ fs = ap held e ∙ held-row_of fs in
    record {
      set = subst (Readable t.lmin t.lmax) (sym h) k;
      row = e ∙ ap row_of (sym h);
      givens = gs;
      accepted = ap (λ (l : List Flow). judged (net_from t.lmin t.lmax l)) h ∙ j;
      figures = g;
    }

-- ---- the empty table
pub empty_right : (lmin lmax : ℕ) → DelaysFit lmin lmax → Right (empty_table lmin lmax)
unfolding empty_table listed
empty_right lmin lmax h = right_of (empty_table lmin lmax) [] [] refl (readable_none lmin lmax h) (none_accepted lmin lmax) refl

pub fresh-right : (lmin lmax : ℕ) → Right (fresh_answer lmin lmax).table
unfolding fresh_answer unless answered delay_cause
fresh-right lmin lmax = go (accepted_by (delay_cause lmin lmax)) refl
  where
    go : (b : Bool) → accepted_by (delay_cause lmin lmax) ≡ b →
        Right (cond b (answered accepted (empty_table lmin lmax)) (answered (delay_cause lmin lmax) (empty_table 0 0))).table
    go true e = empty_right lmin lmax (delays_formed lmin lmax (accepted_only (delay_cause lmin lmax) e))
    go false e = empty_right 0 0 (omega arith, omega arith)

-- ---- admission
length_inserted : (f : Flow) (fs : List Flow) → length (insert_sorted f fs) ≡ suc (length fs)
unfolding insert_sorted
length_inserted f [] = refl
length_inserted f (g ∷ gs) = go (ltb f.number g.number) (length_inserted f gs)
  where
    go : (b : Bool) → length (insert_sorted f gs) ≡ suc (length gs) → length (cond b (f ∷ g ∷ gs) (g ∷ insert_sorted f gs)) ≡ suc (suc (length gs))
    go true ih = refl
    go false ih = ap suc ih

-- a flow that refusals 2 to 6 let in
module _ (t : Table) (f : Flow) (n : Enters (held t.row) f) where
  abbrev fs' : List Flow
  fs' = insert_sorted f (held t.row)

  pub admit_row : inserted t.row f ≡ row_of fs'
  unfolding inserted
  admit_row = rw (lt-leb most_flows (length (held t.row)) n.room)

  pub admit_kept : Readable t.lmin t.lmax (held t.row) → Typed f → Readable t.lmin t.lmax fs'
  admit_kept k u =
      record {
        delays = k.delays;
        rising = insert_rising f (held t.row) n.flow.number.0 n.lacks k.rising;
        count = omega (arith, length_inserted f (held t.row), n.room);
        flows = insert_each _ f (held t.row) n.flow k.flows;
        typed = insert_each _ f (held t.row) u k.typed;
      }

  -- the judgement of the enlarged set decides
  pub admit_decided : entry_cause (held t.row) f ≡ accepted →
      admitted t f ≡ decided t (row_of fs') (verdict_from (judged (net_from t.lmin t.lmax fs')))
  unfolding admitted unless verdict_of
  admit_decided e = rw (e, admit_row, held-row_of fs')

module _ (t : Table) (r : Right t) where
  pub admit_right : (f : Flow) → Typed f → Right (admitted t f).table
  unfolding admitted decided unless answered verdict_from holding
  admit_right f u = go (accepted_by (entry_cause (held t.row) f)) refl
    where
      next : (n : Enters (held t.row) f) (v : net.Judgement) → judged (net_from t.lmin t.lmax (insert_sorted f (held t.row))) ≡ v →
          Right (decided t (row_of (insert_sorted f (held t.row))) (verdict_from v)).table
      next n (net.Given gs) j = right_of _ (insert_sorted f (held t.row)) gs refl (admit_kept t f n r.set u) j refl
      next n (net.Refused k m) j = r

      go : (b : Bool) → accepted_by (entry_cause (held t.row) f) ≡ b → Right (admitted t f).table
      go true e =
          let c = accepted_only (entry_cause (held t.row) f) e in
          let n = enters (held t.row) f u c in
          subst (λ a. Right a.table) (sym (admit_decided t f n c)) (next n _ refl)
      go false e = rw e r

-- ---- withdrawal
pub without_part : (number : ℕ) (fs : List Flow) → Sublistᴰ (without number fs) fs
unfolding without
without_part number [] = Sublistᴰ.slnil
without_part number (f ∷ fs) = go (eqb f.number number) (without_part number fs)
  where
    go : (b : Bool) → Sublistᴰ (without number fs) fs → Sublistᴰ (cond b fs (f ∷ without number fs)) (f ∷ fs)
    go true ih = Sublistᴰ.cons (Sublistᴰ.refl fs)
    go false ih = Sublistᴰ.cons-cons refl ih

length_without : (number : ℕ) (fs : List Flow) → length (without number fs) ≤ length fs
unfolding without
length_without number [] = omega arith
length_without number (f ∷ fs) = go (eqb f.number number) (length_without number fs)
  where
    go : (b : Bool) → length (without number fs) ≤ length fs → length (cond b fs (f ∷ without number fs)) ≤ suc (length fs)
    go true ih = omega arith
    go false ih = omega arith

module _ (t : Table) (r : Right t) (number : ℕ) where
  abbrev fewer : List Flow
  fewer = without number (held t.row)

  pub withdraw_kept : Readable t.lmin t.lmax fewer
  withdraw_kept =
      let k = r.set in
      record {
        delays = k.delays;
        rising = without_rising number (held t.row) k.rising;
        count = omega (arith, length_without number (held t.row), k.count);
        flows = without_each _ number (held t.row) k.flows;
        typed = without_each _ number (held t.row) k.typed;
      }

  -- the smaller set is accepted
  pub fewer_given : (gs : List net.Figures) × (judged (net_from t.lmin t.lmax fewer) ≡ net.Given gs)
  fewer_given =
      part_accepted (net_from t.lmin t.lmax fewer) (table_net t) refl refl (sublist-map flow_of (without_part number (held t.row)))
      (readable_valid t.lmin t.lmax (held t.row) r.set) r.givens r.accepted

  pub withdraw_right : Right (withdrawn t number).table
  unfolding withdrawn withdrawn_by answered holding verdict_of verdict_from
  withdraw_right = go (found_in (held t.row) number)
    where
      go : (b : Option ℕ) → Right (withdrawn_by t number b).table
      go None = r
      go (Some place) = right_of _ fewer fewer_given.0 refl withdraw_kept fewer_given.1 shown
        where
          shown : figures_in (judged_row t (row_of fewer)) ≡ listed fewer_given.0
          shown = rw (held-row_of fewer, fewer_given.1)

pub made-right : (t : Table) → Made t → Right t
made-right t (by_fresh lmin lmax) = fresh-right lmin lmax
made-right t (by_admit {t = s} f m u) = admit_right s (made-right s m) f u
made-right t (by_withdraw {t = s} number m) = withdraw_right s (made-right s m) number
