use Rattle.text_laws.proofs.TexturedLemmas.{textured-back, texture-values-back}
use Rattle.text_laws.proofs.meshes.textured_meshes_are_read_back.Goals as goal

pub returns-clause-mesh : goal.returns-clause-mesh
returns-clause-mesh c = textured-back

pub returns-clause-texture : goal.returns-clause-texture
returns-clause-texture c = texture-values-back
