-- The part of the buffer that is lent.
use Rattle.std.proofs.Common.{◌≡◌, ◌∙◌, ℕ, arith, ap, take, min, OnOk, subst}
use Rattle.std.specs.Prelude.{replicate}
use Rattle.std.specs.Io.KnownBytes.{Appends}
use Rattle.std.proofs.lemmas.List.{take-replicate}
use Rattle.show.specs.Texts.{into_text}
use Rattle.show.proofs.print_lent.Goals as goal

first : (n k most x : ℕ) → k ≡ min n most → take k (replicate most x) ≡ replicate (min n most) x
first n k most x e = take-replicate k most x (omega arith) ∙ ap (λ j. replicate j x) e

pub returns : goal.returns
returns g c = subst (λ bytes. OnOk c.print_into.result (Appends (g.W.Write.contents c.args.out.now) (g.W.Write.contents c.print_into.new.out) (into_text c.args.t bytes))) (first c.args.n c.min.result 900 165 c.min.ensures) c.print_into.ensures
