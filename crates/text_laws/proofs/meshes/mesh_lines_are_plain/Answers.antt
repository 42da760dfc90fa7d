use Rattle.text_laws.proofs.PlainLemmas.{mesh-plain, textured_mesh-plain, tags-plain}
use Rattle.text_laws.proofs.meshes.mesh_lines_are_plain.Goals as goal

pub returns-clause-mesh : goal.returns-clause-mesh
returns-clause-mesh c = mesh-plain

pub returns-clause-textured : goal.returns-clause-textured
returns-clause-textured c = λ mesh. textured_mesh-plain mesh.holes mesh.level mesh.points mesh.cut mesh.texture

pub returns-clause-tags : goal.returns-clause-tags
returns-clause-tags c = tags-plain
