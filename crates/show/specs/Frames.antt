-- How a plan or a report stands on an input: its length in two bytes, the high one first, and then its bytes. RULES, programs.
use Rattle.std.specs.Prelude.{◌≡◌, ◌<◌, ⊤, ℕ, ◌+◌, ◌*◌, List, [], ◌∷◌, Option, None, Some, length}
use Rattle.std.specs.Io.KnownBytes.{Consumes}

pub record FrameRead (before after : Option (List ℕ)) (frame : List ℕ) : Type 0 where
  pub high : ℕ
  pub low : ℕ
  pub long : length frame ≡ high * 256 + low
  pub consumed : Consumes before after (high ∷ low ∷ frame)

-- no whole frame stands first: less than a length, or fewer bytes behind it than it says
abbrev pub FrameCut : Option (List ℕ) → Type 0
FrameCut None = ⊤
FrameCut (Some []) = ⊤
FrameCut (Some (x ∷ [])) = ⊤
FrameCut (Some (high ∷ low ∷ rest)) = length rest < high * 256 + low
