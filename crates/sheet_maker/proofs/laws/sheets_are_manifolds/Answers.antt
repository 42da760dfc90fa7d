use Rattle.sheet_maker.proofs.SheetLaws.{generated-manifold, generated-fine}
use Rattle.sheet_maker.proofs.laws.sheets_are_manifolds.Goals as goal

pub returns-clause-manifold : goal.returns-clause-manifold
returns-clause-manifold c = generated-manifold

pub returns-clause-fine : goal.returns-clause-fine
returns-clause-fine c = generated-fine
