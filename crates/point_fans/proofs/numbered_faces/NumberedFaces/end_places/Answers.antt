use Rattle.std.proofs.Common.{◌≡◌, ◌∙◌, ap, arith, rules, length}
use Rattle.level_topology.proofs.NumberingLemmas.{numbered-ends}
use Rattle.level_topology.proofs.ListPlaceLemmas.{ends-distinct}
use Rattle.point_fans.proofs.PointPlaceLemmas.{edges-few, ends-inside, ends-few}
use Rattle.point_fans.specs.Parts.{edges_in}
use Rattle.point_fans.proofs.numbered_faces.NumberedFaces.end_places.Goals as goal

pub places_of_ends-requires-clause-distinct : goal.places_of_ends-requires-clause-distinct
places_of_ends-requires-clause-distinct c =
    ends-distinct c.self.inside.parts.faces.lists c.deref.result.now c.self.invariant.simple (c.deref.ensures.value ∙ numbered-ends c.self.inside.parts.faces.lists (edges_in c.self.inside.parts) c.self.invariant.numbering)

pub places_of_ends-requires-clause-few : goal.places_of_ends-requires-clause-few
places_of_ends-requires-clause-few c =
    omega (arith, ap length c.deref.ensures.value, edges-few c.self.inside.parts.faces.lists (edges_in c.self.inside.parts) c.self.invariant.numbering, c.self.invariant.small.corners)

pub new-requires-clause-inside : goal.new-requires-clause-inside
new-requires-clause-inside c =
    let n : c.len-points.result ≡ length c.self.inside.parts.complete.items = search rules in
    ends-inside c.self.inside.parts.faces.lists c.deref.result.now c.in_ok-ends.ends.items.items (length c.self.inside.parts.complete.items) c.len-points.result n c.self.invariant.over
    (c.deref.ensures.value ∙ numbered-ends c.self.inside.parts.faces.lists (edges_in c.self.inside.parts) c.self.invariant.numbering) c.in_ok-ends.ensures.items_are

pub new-requires-clause-short : goal.new-requires-clause-short
new-requires-clause-short c =
    omega (arith, ends-few c.deref.result.now c.in_ok-ends.ends.items.items c.in_ok-ends.ensures.items_are, ap length c.deref.ensures.value, edges-few c.self.inside.parts.faces.lists (edges_in c.self.inside.parts) c.self.invariant.numbering, c.self.invariant.small.corners)
