use Rattle.std.proofs.Common.{◌∙◌, length}
use Rattle.mesh_check.proofs.BoundaryLemmas.{boundary-of}
use Rattle.mesh_check.proofs.boundary.mesh_boundary.Goals as goal

pub returns : goal.returns
returns c = c.in_ok-found.ensures ∙ boundary-of (length c.args.raw.now.points) c.args.raw.now.faces _ c.requires.sound (c.deref.ensures.value ∙ c.requires.sides)
