-- The entries of a flow b on the sheet of a flow a by place, one place of a's path after the other. Proofs/Running shows that they are the rules'.
use Rattle.std.specs.Prelude.{List, ℕ, zero, suc, ◌+◌, ◌-◌, ◌*◌, ltb, eqb}
use Rattle.least.specs.Count.{pick}
use Rattle.least.specs.Fold.{max_to}
use Rattle.least.specs.Lists.{values}
use Rattle.nets.specs.Nets.{room_in, length_in, field_in, hop_in, flow_in, net_in}
use Rattle.crossings.specs.Pairs.{place_on, cost_on}
use Rattle.terms.specs.Terms.{smin_to, way_to}
use Rattle.blocks.specs.Sheet.{here_slot, instant_slot, node_slot}
use Rattle.frames.specs.Frames.{Entry}

-- S of flow b at place q of its path, with the response bounds r
unfoldable pub arrival_at : List ℕ → (ℕ → ℕ) → ℕ → ℕ → ℕ
arrival_at net r b q = pick (eqb q 0) 0 (values net 3 + r (b * room_in net + q - 1))

module _ (net : List ℕ) (a b : ℕ) where
  -- of the places below p: the last that b passes, the one whose node stands first on b's path, b's slowest cost
  unfoldable pub last_to : ℕ → ℕ
  last_to zero = 0
  last_to (suc p) = pick (ltb (place_on net a b p) (length_in net b)) p (last_to p)

  unfoldable pub near_to : ℕ → ℕ
  near_to zero = 0
  near_to (suc p) = pick (ltb (place_on net a b p) (place_on net a b (near_to p))) p (near_to p)

  abbrev pub weight_to : ℕ → ℕ
  weight_to p = max_to p (cost_on net a b)

  -- the entry at place p of a higher flow, of an equal one, whose first place shared is f, and of a itself
  unfoldable pub higher_at : (ℕ → ℕ) → ℕ → ℕ → Entry
  higher_at r f p = record {
    look = pick (eqb (last_to (suc p)) p) here_slot (node_slot (last_to (suc p)));
    plus = field_in net b 3 + arrival_at net r b (place_on net a b f);
    less = way_to (net_in net) (flow_in net a) f + smin_to (net_in net) (flow_in net b) (place_on net a b (last_to (suc p)));
    period = field_in net b 2;
    weight = weight_to (p + 1);
  }

  unfoldable pub equal_at : (ℕ → ℕ) → ℕ → ℕ → Entry
  equal_at r f p = record {
    look = instant_slot;
    plus = field_in net b 3 + arrival_at net r b (place_on net a b f) + arrival_at net r a (near_to (suc p));
    less = field_in net a 3 + way_to (net_in net) (flow_in net a) f + smin_to (net_in net) (flow_in net b) (place_on net a b (near_to (suc p)));
    period = field_in net b 2;
    weight = weight_to (p + 1);
  }

abbrev pub own_to : List ℕ → ℕ → ℕ → ℕ
own_to net a p = max_to p (λ k. (hop_in net a k).cost)

unfoldable pub own_at : List ℕ → ℕ → ℕ → Entry
own_at net a p = record { look = instant_slot; plus = 0; less = field_in net a 2; period = field_in net a 2; weight = own_to net a (p + 1) }
