use Rattle.std.proofs.Common.{◌+◌, ◌<◌, length, take, arith, ap, ◌∙◌}
use Rattle.std.specs.List.{sum_by}
use Rattle.subdiv_model.specs.Polygons.{Polygon}
use Rattle.flat_arrays.proofs.PartLemmas.{counts-more, counts-room, pieces-more, rest-later}
use Rattle.mesh_arrays.proofs.level_faces.put_corners.Goals as goal

pub loop-f-preserved : goal.loop-f-preserved
loop-f-preserved c =
    let polygons = c.args.level.now.level.polygons in
    let corners = c.face_vertices-corners.result.now in
    let inside : c.loop-f.f < length polygons = omega (arith, c.loop-f-test.true, c.faces-f-end.ensures) in
    let size = ap length c.face_vertices-corners.ensures in
    let enough = counts-room length polygons c.loop-f.f _ c.loop-f.at (length corners) inside c.loop-f.invariant.at size in record {
      at = counts-more length polygons c.loop-f.f _ c.loop-f.at (length corners) inside c.loop-f.invariant.at size;
      written = pieces-more (λ (polygon : Polygon). polygon) polygons c.loop-f.f _ (take c.loop-f.at c.loop-f.out) corners _ inside
          c.loop-f.invariant.written c.face_vertices-corners.ensures c.put_items.ensures.written;
      rest = rest-later (c.loop-f.at + length corners) (sum_by length polygons) c.put_items.new.out c.loop-f.out c.args.out.now enough c.put_items.ensures.rest c.loop-f.invariant.rest;
      len = c.put_items.ensures.len ∙ c.loop-f.invariant.len;
    }
