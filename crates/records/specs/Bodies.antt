-- The layout of each body: what its bytes say, and the bytes that say it. RULES, the plan, the report.
use Rattle.std.specs.Prelude.{ℕ, zero, suc, ◌+◌, ◌*◌, ◌/◌, ◌%◌, ◌<◌, List, [], ◌∷◌, ◌++◌, get_or, codes}
use Rattle.std.specs.Fmt.{decimal}
use Rattle.flows.specs.declared.Flow.{Flow}
use Rattle.records.specs.declared.Links.{Links}
use Rattle.records.specs.declared.Line.{Line}
use Rattle.records.specs.Kinds.{flow_nodes}

-- what the type of a slice of bytes says
abbrev pub Bytes : List ℕ → Type 0
Bytes b = (k : ℕ) → get_or b k 0 < 256

-- a two-byte number has the high byte first
abbrev pub word_at : List ℕ → ℕ → ℕ
word_at b at = get_or b at 0 * 256 + get_or b (at + 1) 0

-- n bytes, and n two-byte numbers, from a place on
abbrev pub bytes_from : ℕ → ℕ → List ℕ → List ℕ
bytes_from at zero b = []
bytes_from at (suc n) b = get_or b at 0 ∷ bytes_from (suc at) n b

abbrev pub words_from : ℕ → ℕ → List ℕ → List ℕ
words_from at zero b = []
words_from at (suc n) b = word_at b at ∷ words_from (suc (suc at)) n b

abbrev pub links_read : List ℕ → Links
links_read b = record { lmin = word_at b 0; lmax = word_at b 2 }

abbrev pub flow_read : List ℕ → Flow
flow_read b = record {
  number = get_or b 0 0;
  priority = get_or b 1 0;
  period = word_at b 2;
  jitter = word_at b 4;
  deadline = word_at b 6;
  length = get_or b 8 0;
  nodes = bytes_from 9 flow_nodes b;
  costs = words_from 17 flow_nodes b;
}

unfoldable pub words_written : List ℕ → List ℕ
words_written [] = []
words_written (x ∷ xs) = x / 256 % 256 ∷ x % 256 ∷ words_written xs

abbrev pub links_written : ℕ → ℕ → List ℕ
links_written lmin lmax = lmin / 256 % 256 ∷ lmin % 256 ∷ lmax / 256 % 256 ∷ lmax % 256 ∷ []

-- number to path length
abbrev pub head_written : Flow → List ℕ
head_written f =
    f.number ∷ f.priority ∷ f.period / 256 % 256 ∷ f.period % 256 ∷ f.jitter / 256 % 256 ∷ f.jitter % 256 ∷
    f.deadline / 256 % 256 ∷ f.deadline % 256 ∷ f.length ∷ []

unfoldable pub flow_written : Flow → List ℕ
flow_written f = head_written f ++ f.nodes ++ words_written f.costs

-- number, then bound, jitter and busy length
abbrev pub line_read : List ℕ → Line
line_read b = record { number = get_or b 0 0; figures = record { bound = word_at b 1; jitter = word_at b 3; busy = word_at b 5 } }

unfoldable pub line_written : Line → List ℕ
line_written l = l.number ∷ words_written (l.figures.bound ∷ l.figures.jitter ∷ l.figures.busy ∷ [])

-- what the types of a line's fields say
pub record TypedLine (l : Line) : Type 0 where
  pub number : l.number < 256
  pub bound : l.figures.bound < 65536
  pub jitter : l.figures.jitter < 65536
  pub busy : l.figures.busy < 65536

-- a line as it is printed: a flow's number and its figures. RULES, programs
abbrev pub line_words : Line → List ℕ
line_words l =
    decimal l.number ++ codes " " ++ decimal l.figures.bound ++ codes " " ++ decimal l.figures.jitter ++ codes " " ++ decimal l.figures.busy
