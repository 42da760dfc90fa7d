use Rattle.text_laws.proofs.ReadMeshLemmas.{mesh_read-back}
use Rattle.text_laws.proofs.TexturedLemmas.{mesh_read-untextured}
use Rattle.text_laws.proofs.meshes.meshes_are_read_back.Goals as goal

pub returns-clause-mesh : goal.returns-clause-mesh
returns-clause-mesh c = mesh_read-back

pub returns-clause-untextured : goal.returns-clause-untextured
returns-clause-untextured c = mesh_read-untextured
