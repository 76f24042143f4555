-- A turn: what it leaves to do, and that it keeps what is good. Assumes nothing.
use mathlib.Core.Path.{◌≡◌, refl, sym, ap, ◌∙◌, subst}
use mathlib.Core.Bool.{Bool, true, false}
use mathlib.Core.Logic.{◌⊎◌, inl, inr}
use mathlib.Core.List.{List}
use Prim.Native.Nat.{ℕ, ◌+◌, ◌-◌, ◌*◌, ◌≤◌, ◌<◌, max}
use native.Mathlib.Omega.{arith}
use native.Mathlib.Nat.{le_refl, le_of_eq, mul-le-mul_right}
use Rattle.std.specs.Prelude.{IsErr}
use Rattle.std.specs.declared.result.Result.{Result}
use Rattle.std.specs.declared.result.Result.TheVariants.{Ok, Err}
use Rattle.starts.specs.declared.PastHorizon.{PastHorizon}
use lib.Dec.{eqb}
use lib.ListN.{length, set}
use lib.Seq.{get_or-set_same, get_or-set_other, ext_get_or}
use borrow.Author.Tests.{eqb-true, eqb-false}
use Rattle.least.specs.Fold.{sum_to}
use Rattle.least.specs.Instants.{best_to}
use Rattle.least.specs.Lists.{values, Inside}
use Rattle.least.proofs.Count.{le_or-lt}
use Rattle.least.proofs.Fold.{false_true, sum_to-lt, sum_to-bound}
use Rattle.rules.specs.Net.{Flow, Net}
use Rattle.rules.specs.Formula.{horizon}
use Rattle.rules.specs.Meaning.{Here}
use Rattle.rules.specs.Valid.{Valid}
use Rattle.rules.specs.Judge.{busy_length}
use Rattle.rules.specs.Ready.{Ready}
use Rattle.nets.specs.Nets.{count_in, room_in, length_in, net_in, flow_at}
use Rattle.nets.proofs.Reading.{path_length, flows_length, flow_at_lem}
use Rattle.nets.proofs.Sets.{flow_here_lem}
use Rattle.starts.specs.Runs.{most_time, StartsOf, reply_at}
use Rattle.sheets.specs.Sheets.{SheetIs}
use Rattle.sheets.proofs.Whole.{times, starts, replies_below, replies_best, replies_past}
use Rattle.rounds.specs.Reading.{reads_flow, Unread}
use Rattle.ascent.specs.Good.{held, due, Good}
use Rattle.rounds.specs.Rounds.{fresh_mark, RaisedIs, MarkedIs}
use Rattle.rounds.specs.Windows.{TurnsLeft}
use Rattle.settle.specs.Turns.{total, Fair, LookIs, BusiesAre, TurnIs}
use Rattle.ascent.proofs.Reading.{unread_is}
use Rattle.ascent.proofs.Steps.{good_past, good_still, good_raised}

pub path_long : (net : List ℕ) (b : ℕ) → b < count_in net → length (flow_at (net_in net) b).path ≡ length_in net b
path_long net b h = ap (λ j. length j.path) (flow_at_lem net b h) ∙ path_length net b

-- what is left falls by a mark; and by a response bound, however many marks there are then of at most n
fewer_marks : (x n s s' : ℕ) → s' < s → x * (n + 1) + s' < x * (n + 1) + s
fewer_marks x n s s' h = omega arith

fewer_below : (x y n s s' : ℕ) → y < x → s' ≤ n → y * (n + 1) + s' < x * (n + 1) + s
fewer_below x y n s s' h most = omega (arith, mul-le-mul_right {m = y + 1} {n = x} (n + 1) (omega arith))

-- places of flows that have room for w nodes each: those of another flow than a, and those behind m nodes, are none of the first m of a
apart : (w m a b k : ℕ) → m ≤ w → k < w → (b ≡ a → m ≤ k) → (b * w + k < a * w) ⊎ (a * w + m ≤ b * w + k)
apart w m a b k short hk behind = elim (le_or-lt a b) [
  | inl h ↦ inr (elim (le_or-lt b a) [
    | inl g ↦ let e : b ≡ a = omega arith in omega (arith, behind e, ap (λ c. c * w) e)
    | inr g ↦ omega (arith, mul-le-mul_right {m = a + 1} {n = b} w (omega arith))
  ])
  | inr h ↦ inl (omega (arith, mul-le-mul_right {m = b + 1} {n = a} w (omega arith)))
]

pub whole : (w m a n : ℕ) → m ≤ w → a < n → a * w + m ≤ n * w
whole w m a n short h = omega (arith, mul-le-mul_right {m = a + 1} {n = n} w (omega arith))

-- raised at m places
module _ (replies best : List ℕ) (at m : ℕ) (replies' : List ℕ) (rose : Bool) (raised : RaisedIs replies best at m replies' rose) where
  by_place : (x : ℕ) → (values replies' x ≡ values replies x) ⊎ ((x - at < m) × (at + (x - at) ≡ x))
  by_place x = elim (le_or-lt at x) [
    | inl h ↦ elim (le_or-lt (at + m) x) [ inl g ↦ inl (raised.others.behind x g) | inr g ↦ inr (omega arith, omega arith) ]
    | inr h ↦ inl (raised.others.before x h)
  ]

  grows : (x : ℕ) → values replies x ≤ values replies' x
  grows x = elim (by_place x) [
    | inl e ↦ le_of_eq (sym e)
    | inr p ↦ subst (λ y. values replies y ≤ values replies' y) p.1 (omega (arith, raised.inside (x - at) p.0))
  ]

  still-same : rose ≡ false → replies' ≡ replies
  still-same z = ext_get_or 0 replies' replies raised.others.long (λ x h. at_place x)
    where
      at_place : (x : ℕ) → values replies' x ≡ values replies x
      at_place x = elim (by_place x) [
        | inl e ↦ e
        | inr p ↦ subst (λ y. values replies' y ≡ values replies y) p.1 (omega (arith, raised.inside (x - at) p.0, raised.still z (x - at) p.0))
      ]

  more : (size : ℕ) → at + m ≤ size → rose ≡ true → total size replies < total size replies'
  more size fits z =
      let r = raised.risen z in
      sum_to-lt size (at + r.0) (values replies) (values replies') (omega (arith, r.1)) (λ j q. grows j) (omega (arith, raised.inside r.0 r.1, r.2))

-- of the flows below n, that at hand has t turns left now, the others as many as before
pub record Turned (n : ℕ) (marks : List ℕ) (a t : ℕ) (marks' : List ℕ) : Type 0 where
  pub own : values marks' a ≡ t
  pub others : (b : ℕ) → b < n → (b ≡ a → ⊥) → values marks' b ≡ values marks b

pub turned_set : {n : ℕ} (marks : List ℕ) (a t : ℕ) → a < length marks → Turned n marks a t (set marks a t)
turned_set marks a t h = record { own = get_or-set_same marks a t 0 h; others = λ b on ne. get_or-set_other marks a b t 0 ne }

-- what stands behind the marks is none of them
pub turned_behind : {n from to : ℕ} {marks marks' marks'' : List ℕ} {a t : ℕ} → n ≤ from → Inside from to marks' marks'' → a < n → Turned n marks a t marks' →
    Turned n marks a t marks''
turned_behind {a} behind i on turned = record {
  own = i.before a (omega arith) ∙ turned.own;
  others = λ b h ne. i.before b (omega arith) ∙ turned.others b h ne;
}

module _ {n : ℕ} {marks marks' : List ℕ} {a t : ℕ} (turned : Turned n marks a t marks') where
  by-flow : (P : ℕ → ℕ → Type 0) → P a t → ((b : ℕ) → b < n → P b (values marks b)) → (b : ℕ) → b < n → P b (values marks' b)
  by-flow P here there b on = go (eqb b a) refl
    where
      go : (z : Bool) → eqb b a ≡ z → P b (values marks' b)
      go true e = subst (λ c. P c (values marks' c)) (sym (eqb-true b a e)) (subst (P a) (sym turned.own) here)
      go false e = subst (P b) (sym (turned.others b on (eqb-false b a e))) (there b on)

  turned-flags : t ≤ fresh_mark → ((b : ℕ) → b < n → values marks b ≤ fresh_mark) → (b : ℕ) → b < n → values marks' b ≤ fresh_mark
  turned-flags few flags = by-flow (λ b v. v ≤ fresh_mark) few flags

  turned_left : a < n → t < values marks a → sum_to n (values marks') < sum_to n (values marks)
  turned_left on h =
      sum_to-lt n a (values marks') (values marks) on (by-flow (λ b v. v ≤ values marks b) (omega arith) (λ b q. le_refl _)) (omega (arith, turned.own))

  turned_clear : (b : ℕ) → b < n → values marks' b ≡ 0 → ((b ≡ a) × (t ≡ 0)) ⊎ (values marks b ≡ 0)
  turned_clear = by-flow (λ b v. v ≡ 0 → ((b ≡ a) × (t ≡ 0)) ⊎ (values marks b ≡ 0)) (λ z. inl (refl, z)) (λ b on z. inr z)

-- a look at the sheet of flow a, from the bounds so far: with its last turn over all of its busy length
pub record Ran (net busies replies marks : List ℕ) (a : ℕ) (sheet : List ℕ) (m far : ℕ) (best₀ : List ℕ) (given : Result (Unit {0}) PastHorizon) (best : List ℕ) : Type 0 where
  pub on : a < count_in net
  pub written : Valid (net_in net) → SheetIs (net_in net) (room_in net) (values replies) a sheet
  pub long : m ≡ length_in net a
  pub held : (k : ℕ) → k < m → values best₀ k ≡ values replies (a * room_in net + k)
  pub look : LookIs sheet m far (values busies a) best₀ given best
  pub last : values marks a ≤ 1 → values busies a ≤ far

module _ {net busies replies marks : List ℕ} {a : ℕ} {sheet : List ℕ} {m far : ℕ} {best₀ : List ℕ} {given : Result (Unit {0}) PastHorizon} {best : List ℕ}
    (ran : Ran net busies replies marks a sheet m far best₀ given best) where
  abbrev N : Net
  N = net_in net

  abbrev w : ℕ
  w = room_in net

  here : (b : ℕ) → b < count_in net → b < length N.flows
  here b h = omega (arith, flows_length net)

  there : (b : ℕ) → b < length N.flows → b < count_in net
  there b h = omega (arith, flows_length net)

  short : (b : ℕ) → length_in net b ≤ w
  short b = omega arith

  module _ (val : Valid N) (ready : (i : Flow) → Here N i → Ready N i) (busy : BusiesAre net busies) where
    its_busy : values busies a ≡ busy_length N (flow_at N a)
    its_busy = busy a ran.on ∙ ap (busy_length N) (sym (flow_at_lem net a ran.on))

    its-look : LookIs sheet (length (flow_at N a).path) far (values busies a) best₀ given best
    its-look = subst (λ c. LookIs sheet c far (values busies a) best₀ given best) (ran.long ∙ sym (path_long net a ran.on)) ran.look

    its-ready : Ready N (flow_at N a)
    its-ready = ready (flow_at N a) (flow_here_lem N a (here a ran.on))

    its_starts : StartsOf sheet (length (flow_at N a).path) (times N val w (values replies) a (here a ran.on) sheet (ran.written val))
    its_starts = starts N val w (values replies) a (here a ran.on) sheet (ran.written val) its-ready

    module _ (good : Good N w replies marks) (clear : given ≡ Ok tt) (k : ℕ) (h : k < length (flow_at N a).path) where
      best-below : values best k ≤ due N w replies a k
      best-below =
          (rw clear at its-look.below) _ its_starts k h (due N w replies a k)
          (replies_below N val w (values replies) a (here a ran.on) sheet (ran.written val) its-ready k h)
          (omega (arith, ran.held k (omega (arith, ran.long, path_long net a ran.on)), good.up a k (here a ran.on) h))

      best-is : values busies a ≤ far → due N w replies a k ≤ values best k
      best-is full = omega (
        arith,
        (rw clear at its-look.all) full _ its_starts k h,
        ap (best_to (reply_at sheet (times N val w (values replies) a (here a ran.on) sheet (ran.written val)) k)) its_busy,
        replies_best N val w (values replies) a (here a ran.on) sheet (ran.written val) its-ready k h,
      )

    past_is : {past : PastHorizon} → given ≡ Err past → (k : ℕ) × (k < length (flow_at N a).path) × (horizon < due N w replies a k)
    past_is e =
        let q = (rw e at its-look.over) _ its_starts in
        replies_past N val w (values replies) a (here a ran.on) sheet (ran.written val) its-ready q.0 q.1

  pub turn_past : {past : PastHorizon} → given ≡ Err past → (given' : Result (Unit {0}) PastHorizon) → IsErr given' → TurnIs net busies replies marks a given' replies marks
  turn_past e (Ok done) q = absurd (false_true q)
  turn_past e (Err past') q = record {
    falls = tt;
    keeps = λ val ready busy good. (let q = past_is val ready busy e in good_past N val ready w replies marks good a q.0 (here a ran.on) q.1 q.2);
  }

  module _ (clear : given ≡ Ok tt) {at : ℕ} (first : at ≡ a * room_in net) {replies' : List ℕ} {rose : Bool} (raised : RaisedIs replies best at m replies' rose)
      {t : ℕ} (lowered : TurnsLeft (values marks a) rose far (values busies a) t) (fair : Fair net replies marks) where
    -- it has none only after a look over all
    none-full : t ≡ 0 → values busies a ≤ far
    none-full z = elim (le_or-lt (values busies a) far) [
      | inl h ↦ h
      | inr h ↦ elim (le_or-lt (values marks a) 1) [ inl g ↦ ran.last g | inr g ↦ some h rose refl g ]
    ]
      where
        some : far < values busies a → (x : Bool) → rose ≡ x → 1 < values marks a → values busies a ≤ far
        some h false e g = absurd (omega (arith, lowered.less h e))
        some h true e g = absurd (omega (arith, lowered.anew h e))

    few_turns : t ≤ fresh_mark
    few_turns = elim (le_or-lt (values busies a) far) [
      | inl h ↦ omega (arith, lowered.none h)
      | inr h ↦ some h rose refl
    ]
      where
        some : far < values busies a → (x : Bool) → rose ≡ x → t ≤ fresh_mark
        some h false e = omega (arith, lowered.less h e, fair.flags a ran.on)
        some h true e = omega (arith, lowered.anew h e)

    module _ {marks₁ : List ℕ} (turned : Turned (count_in net) marks a t marks₁) where
      pub turn_still : rose ≡ false → TurnIs net busies replies marks a (Ok tt) replies' marks₁ × Fair net replies' marks₁
      turn_still z = subst (λ r. TurnIs net busies replies marks a (Ok tt) r marks₁ × Fair net r marks₁) (sym (still-same replies best at m replies' rose raised z)) (
        record {
          falls = λ q. fewer_marks _ (count_in net * fresh_mark) _ _ (turned_left turned ran.on (fewer q));
          keeps = λ val ready busy good.
              good_still N val ready w replies marks good a marks₁ (λ b h q. elim (turned_clear turned b (there b h) q) [
                | inl c ↦ inl (
                  c.0,
                  λ k on. omega (
                    arith,
                    best-is val ready busy good clear k on (none-full c.1),
                    raised.still z k (omega (arith, ran.long, path_long net a ran.on)),
                    ap (λ c. values replies (c + k)) first,
                  ),
                )
                | inr c ↦ inr c
              ]);
        },
        record { low = fair.low; bare = fair.bare; flags = turned-flags turned few_turns fair.flags },
      )
        where
          fewer : (values marks a ≡ 0 → ⊥) → t < values marks a
          fewer q = elim (le_or-lt (values busies a) far) [
            | inl h ↦ omega (arith, lowered.none h, positive (values marks a) q)
            | inr h ↦ omega (arith, lowered.less h z, positive (values marks a) q)
          ]
            where
              positive : (n : ℕ) → (n ≡ 0 → ⊥) → 0 < n
              positive n z = omega arith

      module _ {marks' : List ℕ} (marked : MarkedIs marks₁ net a (count_in net) marks') where
        unraised : (b k : ℕ) → k < w → (b ≡ a → m ≤ k) → values replies' (b * w + k) ≡ values replies (b * w + k)
        unraised b k hk behind = elim (apart w m a b k (omega (arith, ran.long, short a)) hk behind) [
          | inl h ↦ raised.others.before (b * w + k) (omega arith)
          | inr h ↦ raised.others.behind (b * w + k) (omega arith)
        ]

        flags : (b : ℕ) → b < count_in net → values marks' b ≤ fresh_mark
        flags b h = go (reads_flow net b a) refl
          where
            go : (t : Bool) → reads_flow net b a ≡ t → values marks' b ≤ fresh_mark
            go true e = omega (arith, marked.read b h e)
            go false e = omega (arith, marked.unread b h e, turned-flags turned few_turns fair.flags b h)

        pub raised_fair : Fair net replies' marks'
        raised_fair = record {
          low = raised.low;
          bare = λ b k hk q. unraised b k hk (behind b k q) ∙ fair.bare b k hk q;
          flags = flags;
        }
          where
            behind : (b k : ℕ) → (count_in net ≤ b) ⊎ (length_in net b ≤ k) → b ≡ a → m ≤ k
            behind b k (inl h) e = absurd (omega (arith, ran.on))
            behind b k (inr h) e = omega (arith, ran.long, ap (length_in net) e)

        pub turn_raised : rose ≡ true → TurnIs net busies replies marks a (Ok tt) replies' marks'
        turn_raised z = record {
          falls = λ q.
              fewer_below _ _ (count_in net * fresh_mark) _ _ below (sum_to-bound (count_in net) (values marks') fresh_mark flags);
          keeps = λ val ready busy good.
              good_raised N val ready w replies marks good a (here a ran.on) replies'
              (λ k h. omega (arith, raised_at k h, best-below val ready busy good clear k h, good.up a k (here a ran.on) h))
              (λ b k hb hk ne. unraised b k (omega (arith, path_long net b (there b hb), short b)) (λ e. absurd (ne e)))
              marks' (λ b h q. cleared val ready busy good b (there b h) q (reads_flow net b a) refl);
        }
          where
            size : ℕ
            size = count_in net * room_in net

            below : size * most_time - total size replies' < size * most_time - total size replies
            below = omega (
              arith,
              more replies best at m replies' rose raised size (omega (arith, whole w m a (count_in net) (omega (arith, ran.long, short a)) ran.on)) z,
              sum_to-bound size (values replies') most_time (λ j l. raised.low j),
            )

            raised_at : (k : ℕ) → k < length (flow_at N a).path → held w replies' a k ≡ max (held w replies a k) (values best k)
            raised_at k h = omega (
              arith,
              raised.inside k (omega (arith, ran.long, path_long net a ran.on)),
              ap (λ c. values replies (c + k)) first,
              ap (λ c. values replies' (c + k)) first,
            )

            cleared : Valid N → ((i : Flow) → Here N i → Ready N i) → BusiesAre net busies → Good N w replies marks → (b : ℕ) → b < count_in net → values marks' b ≡ 0 →
                (t : Bool) → reads_flow net b a ≡ t →
                (((b ≡ a) × ((k : ℕ) → k < length (flow_at N a).path → due N w replies a k ≤ held w replies' a k)) ⊎ (values marks b ≡ 0)) × Unread N b a
            cleared val ready busy good b h q true e = absurd (omega (arith, marked.read b h e))
            cleared val ready busy good b h q false e = (
              elim (turned_clear turned b h (sym (marked.unread b h e) ∙ q)) [
                | inl c ↦ inl (c.0, λ k on. omega (arith, raised_at k on, best-is val ready busy good clear k on (none-full c.1)))
                | inr c ↦ inr c
              ],
              unread_is net val b a h ran.on e,
            )
