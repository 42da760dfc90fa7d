use Rattle.std.proofs.Common.{ap, sym, ◌∙◌, subst}
use Rattle.level_topology.specs.Rows.{Rows, AreOfLevel, topology_of}
use Rattle.level_tests.proofs.QuarterLemmas.{square-of-level, square-is}
use Rattle.level_tests.proofs.levels.make_square.Goals as goal

pub finish-requires-clause-of_level : goal.finish-requires-clause-of_level
finish-requires-clause-of_level g c = subst (λ (rows : Rows). AreOfLevel rows) (sym c.put_square.ensures) square-of-level

pub returns : goal.returns
returns g c = c.finish.ensures ∙ ap topology_of c.put_square.ensures ∙ sym square-is
