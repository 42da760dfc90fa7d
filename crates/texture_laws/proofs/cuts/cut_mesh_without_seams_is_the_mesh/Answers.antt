use Rattle.texture_laws.proofs.SeamlessLemmas.{seamless-number, seamless-once}
use Rattle.texture_laws.proofs.CutLevelLemmas.{seamless-edges, seamless-edge-faces, seamless-edge}
use Rattle.texture_laws.proofs.cuts.cut_mesh_without_seams_is_the_mesh.Goals as goal

pub returns-clause-renamed : goal.returns-clause-renamed
returns-clause-renamed c = seamless-number

pub returns-clause-one_to_one : goal.returns-clause-one_to_one
returns-clause-one_to_one c = λ mesh is p q points. seamless-once mesh is p q points.first points.second

pub returns-clause-edges : goal.returns-clause-edges
returns-clause-edges c = seamless-edges

pub returns-clause-edge_faces : goal.returns-clause-edge_faces
returns-clause-edge_faces c = λ mesh is p q points. seamless-edge-faces mesh is p q points.first points.second

pub returns-clause-edge_sharpness : goal.returns-clause-edge_sharpness
returns-clause-edge_sharpness c = λ mesh is p q points. seamless-edge mesh is p q points.first points.second
