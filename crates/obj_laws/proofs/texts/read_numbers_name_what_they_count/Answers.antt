use Rattle.obj_laws.proofs.ObjMeshLemmas.{faces-over, texture-over, creases-over, corners-over, holes-over}
use Rattle.obj_laws.proofs.texts.read_numbers_name_what_they_count.Goals as goal

pub returns-clause-faces : goal.returns-clause-faces
returns-clause-faces c = faces-over

pub returns-clause-texture : goal.returns-clause-texture
returns-clause-texture c = texture-over

pub returns-clause-creases : goal.returns-clause-creases
returns-clause-creases c = creases-over

pub returns-clause-corners : goal.returns-clause-corners
returns-clause-corners c = corners-over

pub returns-clause-holes : goal.returns-clause-holes
returns-clause-holes c = holes-over
