-- Who reads whose arrival bounds.
use Rattle.std.specs.Prelude.{Bool, true, false, List, ℕ, eqb, ◌≡◌}
use Rattle.least.specs.Count.{pick}
use Rattle.least.specs.Fold.{any_of}
use Rattle.rules.specs.Net.{Flow, Net}
use Rattle.rules.specs.Formula.{Key, Arrivals, Role, Own, Higher, Equal, Lower, both, role, higher_or_equal, crosses}
use Rattle.rules.specs.Ready.{Agree}
use Rattle.nets.specs.Nets.{flow_in, flows_in, flow_at}

abbrev pub equal : Role → Bool
equal Own = false
equal Higher = false
equal Equal = true
equal Lower = false

-- i reads those of j, if it is another flow; j has i read its own
unfoldable pub reads_of : Flow → Flow → Bool
reads_of i j = both (higher_or_equal (role i j)) (crosses i.path j.path)

abbrev pub meets_equal : Flow → Flow → Bool
meets_equal i j = both (equal (role i j)) (crosses i.path j.path)

unfoldable pub reads_own : List ℕ → ℕ → Bool
reads_own net a = any_of (meets_equal (flow_in net a)) (flows_in net)

-- flow b reads flow a
unfoldable pub reads_flow : List ℕ → ℕ → ℕ → Bool
reads_flow net b a = pick (eqb b a) (reads_own net a) (reads_of (flow_in net b) (flow_in net a))

-- flow b does not read the arrival bounds of flow a: they may change and its response bounds stay
abbrev pub Unread : Net → ℕ → ℕ → Type 0
Unread N b a = (S S' : Arrivals) → ((k : Key) → (k.0 ≡ (flow_at N a).number → ⊥) → S k ≡ S' k) → Agree N (flow_at N b) S S'
