use Rattle.mesh_laws.proofs.Laws.{all-simple}
use Rattle.mask_laws.proofs.BoundaryRuleLemmas.{interior-away, boundary-now, boundary-next}
use Rattle.mask_laws.proofs.masks.points_are_interior_or_at_the_boundary.Goals as goal

pub returns-clause-interior : goal.returns-clause-interior
returns-clause-interior c level v is away some =
    interior-away level (all-simple level.point_count level.polygons is) is.sides_once v away some

pub returns-clause-boundary : goal.returns-clause-boundary
returns-clause-boundary c = λ point.
    boundary-now point.level (all-simple point.level.point_count point.level.polygons point.manifold) point.manifold.sides_once
    point.sharp_boundary point.v point.at_boundary

pub returns-clause-boundary_next : goal.returns-clause-boundary_next
returns-clause-boundary_next c = λ point.
    boundary-next point.level (all-simple point.level.point_count point.level.polygons point.manifold) point.manifold.sides_once
    point.sharp_boundary point.v point.at_boundary
