use Rattle.obj_laws.proofs.ObjSizeLemmas.{corners-bytes}
use Rattle.obj_laws.proofs.texts.corners_take_two_bytes.Goals as goal

pub returns : goal.returns
returns c = corners-bytes
