use Rattle.std.proofs.Common.{ap}
use Rattle.subdiv_model.specs.Text.{tags_text}
use Rattle.continued_laws.proofs.MeshLemmas.{levels-on, faces-on, lines-on, texts-on}
use Rattle.continued_laws.proofs.meshes.meshes_go_on.Goals as goal

pub returns-clause-levels : goal.returns-clause-levels
returns-clause-levels c = λ going. levels-on going.scheme going.steps going.first going.second going.is

pub returns-clause-tags : goal.returns-clause-tags
returns-clause-tags c = λ going j. ap tags_text (levels-on going.scheme going.steps going.first going.second going.is j)

pub returns-clause-faces : goal.returns-clause-faces
returns-clause-faces c = λ going. faces-on going.scheme going.steps going.first going.second going.is

pub returns-clause-points : goal.returns-clause-points
returns-clause-points c = λ going. lines-on going.scheme going.steps going.first going.second going.is

pub returns-clause-text : goal.returns-clause-text
returns-clause-text c = λ going. texts-on going.scheme going.steps going.first going.second going.is
