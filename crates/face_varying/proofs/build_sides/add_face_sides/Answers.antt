use Rattle.std.proofs.Common.{ap, ◌∙◌, List, ℕ, get_or}
use Rattle.std.specs.List.{list_all, list_any}
use Rattle.subdiv_model.specs.Polygons.{Polygon, same_edge, sides_of}
use Rattle.subdiv_model.specs.Edges.{edges_of}
use Rattle.face_varying.specs.Built.{first_sides}
use Rattle.face_varying.proofs.BuiltLemmas.{side-named, side-more, faces-stay}
use Rattle.face_varying.proofs.build_sides.add_face_sides.Goals as goal

pub add_side-requires : goal.add_side-requires
add_side-requires c =
    let corners = c.args.corners.now in
    let stay = faces-stay (first_sides c.args.level.now.level c.args.apart.now corners c.args.edges.now c.loop-c.c) c.args.builder.now c.loop-c.builder c.loop-c.invariant in
    side-named (edges_of c.loop-c.builder.level.polygons) corners c.loop-c.c (get_or c.args.corners.now c.corner_after.result 0) c.loop-c-test.true (ap (λ (k : ℕ). get_or corners k 0) c.corner_after.ensures.after)
    (ap (λ (polygons : List Polygon). list_all (λ side. list_any (same_edge side) (edges_of polygons)) (sides_of corners)) stay ∙ c.requires.sides)

pub loop-c-preserved : goal.loop-c-preserved
loop-c-preserved c =
    side-more c.args.level.now.level c.args.apart.now c.args.corners.now c.args.edges.now c.loop-c.c (get_or c.args.corners.now c.corner_after.result 0) _ c.args.builder.now c.loop-c.builder c.add_side.new.builder (ap (λ (k : ℕ). get_or c.args.corners.now k 0) c.corner_after.ensures.after) c.side_sharpness.ensures c.loop-c.invariant c.add_side.ensures
