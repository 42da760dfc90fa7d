use Rattle.text_laws.proofs.NoFaultLemmas.{read-without-fault}
use Rattle.text_laws.proofs.TexturedFaultLemmas.{textured-without-fault}
use Rattle.text_laws.proofs.faults.written_meshes_are_read_without_fault.Goals as goal

pub returns-clause-mesh : goal.returns-clause-mesh
returns-clause-mesh c = read-without-fault

pub returns-clause-textured : goal.returns-clause-textured
returns-clause-textured c = λ given least is. textured-without-fault given least is.mesh is.texture
