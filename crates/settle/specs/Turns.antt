-- What a turn does to the response bounds and to the marks.
use Rattle.std.specs.Prelude.{◌≡◌, ◌⊎◌, List, ℕ, ◌+◌, ◌-◌, ◌*◌, ◌≤◌, ◌<◌, max, length, OnOk, OnErr, MatchResult}
use Rattle.std.specs.declared.result.Result.{Result}
use Rattle.std.specs.declared.result.Result.TheVariants.{Ok, Err}
use Rattle.least.specs.Fold.{sum_to}
use Rattle.least.specs.Instants.{best_to}
use Rattle.least.specs.Lists.{values}
use Rattle.rules.specs.Net.{Flow, Net}
use Rattle.rules.specs.Formula.{Arrivals}
use Rattle.rules.specs.Meaning.{Here, Settled}
use Rattle.rules.specs.Valid.{Valid}
use Rattle.rules.specs.Judge.{busy_length}
use Rattle.rules.specs.Ready.{Ready}
use Rattle.nets.specs.Nets.{count_in, room_in, length_in, flow_in, net_in}
use Rattle.blocks.specs.Sheet.{Small}
use Rattle.starts.specs.declared.PastHorizon.{PastHorizon}
use Rattle.starts.specs.Runs.{most_time, StartsOf, reply_at, PastAt, Low, LowTo}
use Rattle.rounds.specs.Rounds.{fresh_mark}
use Rattle.ascent.specs.Good.{held, Good, Rests}

-- all response bounds together, at that many places
abbrev pub total : ℕ → List ℕ → ℕ
total size replies = sum_to size (values replies)

-- what is lent has room; behind the marks stand each flow's peaks, as its response bounds do, and in best behind the bounds
pub record Room (net busies replies marks sheet slots steps best : List ℕ) : Type 0 where
  pub busies_long : count_in net ≤ length busies
  pub replies_long : count_in net * room_in net ≤ length replies
  pub marks_long : count_in net + count_in net * room_in net ≤ length marks
  pub sheet_long : 1 + room_in net * (3 + 5 * count_in net) ≤ length sheet
  pub sheet_short : length sheet ≤ 16777216
  pub sheet_small : Small sheet
  pub slots_long : room_in net + 2 ≤ length slots
  pub slots_small : Small slots
  pub steps_long : room_in net * (3 + count_in net) ≤ length steps
  pub steps_short : length steps ≤ 16777216
  pub best_long : room_in net + room_in net ≤ length best

-- zeros in the places that no flow has: behind the end of its path, and of flows from n on
abbrev pub Bare : List ℕ → ℕ → List ℕ → Type 0
Bare net n replies = (b k : ℕ) → k < room_in net → (n ≤ b) ⊎ (length_in net b ≤ k) → held (room_in net) replies b k ≡ 0

-- what holds of any state: response bounds within the horizon, none where no flow has one, no more turns left than there are
pub record Fair (net replies marks : List ℕ) : Type 0 where
  pub low : Low replies
  pub bare : Bare net (count_in net) replies
  pub flags : (b : ℕ) → b < count_in net → values marks b ≤ fresh_mark

-- A look at some instants: no bound is raised above what bounds W + C − t everywhere; one as far as the busy length raises to the maximum below that. Or
-- an instant at which a node passes the horizon.
pub record LookIs (e : List ℕ) (m far busy : ℕ) (best₀ : List ℕ) (given : Result (Unit {0}) PastHorizon) (best : List ℕ) : Type 0 where
  pub below : OnOk given ((W : ℕ → ℕ → ℕ) → StartsOf e m W → (p : ℕ) → p < m → (r : ℕ) → ((t : ℕ) → reply_at e W p t ≤ r + t) → values best₀ p ≤ r → values best p ≤ r)
  pub all : OnOk given (busy ≤ far → (W : ℕ → ℕ → ℕ) → StartsOf e m W → (p : ℕ) → p < m → values best p ≡ max (values best₀ p) (best_to (reply_at e W p) busy))
  pub over : OnErr given ((W : ℕ → ℕ → ℕ) → StartsOf e m W → (u : ℕ) × PastAt e m W u)
  pub low : LowTo m best

-- what is left to do: falls with each turn
abbrev pub left : List ℕ → List ℕ → List ℕ → ℕ
left net replies marks =
    (count_in net * room_in net * most_time - total (count_in net * room_in net) replies) * (count_in net * fresh_mark + 1) + sum_to (count_in net) (values marks)

abbrev pub BusiesAre : List ℕ → List ℕ → Type 0
BusiesAre net busies = (a : ℕ) → a < count_in net → values busies a ≡ busy_length (net_in net) (flow_in net a)

-- Of a valid set with busy lengths: a good state stays good, or there are no settled arrival bounds.
abbrev pub Keeps : Net → ℕ → Result (Unit {0}) PastHorizon → List ℕ → List ℕ → Type 0
Keeps N w (Err past) replies marks = (S : Arrivals) → Settled N S → ⊥
Keeps N w (Ok done) replies marks = Good N w replies marks

pub record TurnIs (net busies replies marks : List ℕ) (a : ℕ) (given : Result (Unit {0}) PastHorizon) (replies' marks' : List ℕ) : Type 0 where
  pub falls : OnOk given ((values marks a ≡ 0 → ⊥) → left net replies' marks' < left net replies marks)
  pub keeps : Valid (net_in net) → ((i : Flow) → Here (net_in net) i → Ready (net_in net) i) → BusiesAre net busies →
      Good (net_in net) (room_in net) replies marks → Keeps (net_in net) (room_in net) given replies' marks'

-- the end: there are no settled arrival bounds; or these are the least
abbrev pub Outcome : Net → ℕ → Result (Unit {0}) PastHorizon → List ℕ → Type 0
Outcome N w (Err past) replies = (S : Arrivals) → Settled N S → ⊥
Outcome N w (Ok done) replies = Rests N w replies

-- of a valid set with busy lengths: the outcome; of any, zeros in the places that no flow has, and past the horizon zeros alone
pub record SettleIs (net busies : List ℕ) (given : Result (Unit {0}) PastHorizon) (replies : List ℕ) : Type 0 where
  pub outcome : Valid (net_in net) → ((i : Flow) → Here (net_in net) i → Ready (net_in net) i) → BusiesAre net busies → Outcome (net_in net) (room_in net) given replies
  pub low : Low replies
  pub bare : MatchResult given (λ done. Bare net (count_in net) replies) (λ past. Bare net 0 replies)
