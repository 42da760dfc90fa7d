use Rattle.std.proofs.Common.{arith, length}
use Rattle.level_topology.proofs.ChildLemmas.{edges-corners}
use Rattle.child_slots.proofs.FaceWalkLemmas.{walked-few}
use Rattle.uniform_refiner.specs.Uniform.{all_places, whole_part}
use Rattle.uniform_refiner.proofs.PlaceLemmas.{places-count}
use Rattle.uniform_refiner.proofs.level.empty_rows.Goals as goal

pub overflow_add-points-2 : goal.overflow_add-points-2
overflow_add-points-2 c = record { fits = omega (arith, c.points.ensures, c.faces.ensures, c.edges.ensures, c.requires.refinable.short, c.requires.refinable.few, c.requires.faces, c.facts.ensures.small.faces, edges-corners c.args.level.now.level.polygons) }

pub overflow_mul-ends : goal.overflow_mul-ends
overflow_mul-ends c = record { fits = omega (arith, c.len-ends.ensures, walked-few c.args.level.now.level.point_count c.args.level.now.level.polygons (whole_part c.args.level.now.level.polygons) (length (all_places 0 c.args.level.now.level.polygons)) c.args.edges.now c.requires.edges, places-count 0 c.args.level.now.level.polygons, c.requires.faces, c.requires.refinable.few) }
