use Rattle.text_laws.proofs.MeshTextLemmas.{mesh-back, textured_mesh-back}
use Rattle.text_laws.proofs.meshes.mesh_texts_are_read_back.Goals as goal

pub returns-clause-mesh : goal.returns-clause-mesh
returns-clause-mesh c = mesh-back

pub returns-clause-textured : goal.returns-clause-textured
returns-clause-textured c = λ mesh. textured_mesh-back mesh.holes mesh.level mesh.points mesh.cut mesh.texture
