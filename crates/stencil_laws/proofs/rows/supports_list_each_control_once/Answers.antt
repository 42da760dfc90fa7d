use Rattle.stencil_laws.proofs.SupportLemmas.{supports-ascending, supports-distinct, supports-inside}
use Rattle.stencil_laws.proofs.rows.supports_list_each_control_once.Goals as goal

pub returns-clause-ascending : goal.returns-clause-ascending
returns-clause-ascending c = supports-ascending

pub returns-clause-once : goal.returns-clause-once
returns-clause-once c = supports-distinct

pub returns-clause-controls : goal.returns-clause-controls
returns-clause-controls c = supports-inside
