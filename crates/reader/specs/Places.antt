-- The table of kinds, and what stands at a place. RULES, the plan, the report.
use Rattle.std.specs.Prelude.{ℕ, Option, Some, None, ◌+◌, ◌-◌, cond, List, length, get_or, take, drop, leb, ltb, eqb}
use Rattle.records.specs.Kinds.{links_kind, links_body, flow_kind, flow_body, end_kind, count_kind, count_body, line_kind, line_body, close_kind}
use Rattle.reader.specs.declared.Kind.{Kind}
use Rattle.reader.specs.declared.Kind.TheVariants.{Links, Flow, End, Count, Line, Close}

-- the byte of a kind
abbrev pub byte_of : Kind → ℕ
byte_of Links = links_kind
byte_of Flow = flow_kind
byte_of End = end_kind
byte_of Count = count_kind
byte_of Line = line_kind
byte_of Close = close_kind

-- how many bytes follow it
abbrev pub body_of : Kind → ℕ
body_of Links = links_body
body_of Flow = flow_body
body_of End = 0
body_of Count = count_body
body_of Line = line_body
body_of Close = 0

-- the kind of a byte
unfoldable pub kind_named : ℕ → Option Kind
kind_named byte =
    cond (eqb byte links_kind) (Some Links)
    (cond (eqb byte flow_kind) (Some Flow)
    (cond (eqb byte end_kind) (Some End)
    (cond (eqb byte count_kind) (Some Count)
    (cond (eqb byte line_kind) (Some Line)
    (cond (eqb byte close_kind) (Some Close) None)))))

-- a kind with so many bytes after it; none for a short body
abbrev pub with_body : Option Kind → ℕ → Option Kind
with_body None left = None
with_body (Some kind) left = cond (ltb left (body_of kind)) None (Some kind)

-- a kind byte with so many bytes after it; none for an unknown kind or a short body
unfoldable pub kind_of : ℕ → ℕ → Option Kind
kind_of byte left = with_body (kind_named byte) left

-- the record at a place; none where no kind byte is left
unfoldable pub kind_at : List ℕ → ℕ → Option Kind
kind_at b at = cond (leb (length b) at) None (kind_of (get_or b at 0) (length b - (at + 1)))

-- the body of the record at a place: the part after its kind byte
abbrev pub body_at : List ℕ → ℕ → ℕ → List ℕ
body_at b at n = take n (drop (at + 1) b)

-- one answer for a record of the kind that is wanted, another for any other and for none
unfoldable pub if_kind : {A : Type 0} → Option Kind → Kind → A → A → A
if_kind None wanted here other = other
if_kind (Some kind) wanted here other = cond (eqb (byte_of kind) (byte_of wanted)) here other
