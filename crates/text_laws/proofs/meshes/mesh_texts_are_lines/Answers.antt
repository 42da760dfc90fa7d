use Rattle.text_laws.proofs.MeshTextLemmas.{mesh-text, textured_mesh-text, tags-text}
use Rattle.text_laws.proofs.meshes.mesh_texts_are_lines.Goals as goal

pub returns-clause-mesh : goal.returns-clause-mesh
returns-clause-mesh c = mesh-text

pub returns-clause-textured : goal.returns-clause-textured
returns-clause-textured c = λ mesh. textured_mesh-text mesh.holes mesh.level mesh.points mesh.cut mesh.texture

pub returns-clause-tags : goal.returns-clause-tags
returns-clause-tags c = tags-text
