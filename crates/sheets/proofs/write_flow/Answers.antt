use mathlib.Core.Path.{sym, ap, ◌∙◌}
use Rattle.crossings.specs.Pairs.{role_of}
use Rattle.sheets.proofs.Writing.{filled_own, filled_higher, filled_equal, filled_lower}
use Rattle.sheets.proofs.write_flow.Goals as goal

pub returns-in-Own-clause-filled : goal.returns-in-Own-clause-filled
returns-in-Own-clause-filled c = filled_own c.requires.0.one c.requires.0.other c.requires.1 (sym c.side.ensures ∙ ap role_of c.in-Own.is) c.write_own.ensures.grown

pub returns-in-Higher-clause-filled : goal.returns-in-Higher-clause-filled
returns-in-Higher-clause-filled c = filled_higher c.requires.0.one c.requires.0.other c.requires.1 (sym c.side.ensures ∙ ap role_of c.in-Higher.is) c.write_higher.ensures.joined

pub returns-in-Equal-clause-filled : goal.returns-in-Equal-clause-filled
returns-in-Equal-clause-filled c = filled_equal c.requires.0.one c.requires.0.other c.requires.1 (sym c.side.ensures ∙ ap role_of c.in-Equal.is) c.write_equal.ensures.joined

pub returns-in-Lower-clause-filled : goal.returns-in-Lower-clause-filled
returns-in-Lower-clause-filled c = filled_lower c.requires.0.one c.requires.0.other c.requires.1 (sym c.side.ensures ∙ ap role_of c.in-Lower.is)
