use Rattle.level_topology.proofs.LawLemmas.{own-number}
use Rattle.far_text.proofs.creases.sharpness_at.Goals as goal

pub returns : goal.returns
returns c = rw (own-number c.args.level.now.level.polygons c.args.e c.requires) c.edge_sharpness.ensures
