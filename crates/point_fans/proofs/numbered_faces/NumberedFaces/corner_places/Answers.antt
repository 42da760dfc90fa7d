use Rattle.std.proofs.Common.{◌≡◌, arith, rules, length}
use Rattle.level_topology.proofs.ListPlaceLemmas.{faces-distinct}
use Rattle.point_fans.proofs.PointPlaceLemmas.{corners-inside, corners-few}
use Rattle.point_fans.proofs.numbered_faces.NumberedFaces.corner_places.Goals as goal

pub places_of-requires-clause-distinct : goal.places_of-requires-clause-distinct
places_of-requires-clause-distinct c = faces-distinct c.self.inside.parts.faces.lists c.self.invariant.simple

pub new-requires-clause-inside : goal.new-requires-clause-inside
new-requires-clause-inside c =
    let n : c.len-points.result ≡ length c.self.inside.parts.complete.items = search rules in
    corners-inside c.self.inside.parts.faces.lists c.in_ok-corners.corners.items.items (length c.self.inside.parts.complete.items) c.len-points.result n c.self.invariant.over c.in_ok-corners.ensures.items_are

pub new-requires-clause-short : goal.new-requires-clause-short
new-requires-clause-short c =
    omega (arith, corners-few c.self.inside.parts.faces.lists c.in_ok-corners.corners.items.items c.in_ok-corners.ensures.items_are, c.self.invariant.small.corners)
