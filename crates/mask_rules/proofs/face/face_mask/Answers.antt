use Rattle.std.proofs.Common.{ap, length}
use Rattle.mask_rules.proofs.EdgeLemmas.{face-mask}
use Rattle.mask_rules.proofs.face.face_mask.Goals as goal

pub returns-clause-mask : goal.returns-clause-mask
returns-clause-mask c = face-mask c.args.level.now.level c.args.f _ c.facts.ensures.simple c.requires (ap length c.face_vertices.ensures)
