use Rattle.std.proofs.Common.{subst, ◌≡◌, true, sym, ◌∙◌, ap, List, ℕ, get_or}
use Rattle.subdiv_model.specs.Polygons.{has_corner, polygon_at}
use Rattle.level_topology.specs.Topology.{corner_of, face_edges_of}
use Rattle.point_fans.specs.Built.{Built}
use Rattle.point_fans.proofs.AcrossLemmas.{after-code, face-there, row-there}
use Rattle.point_fans.proofs.numbered_faces.NumberedFaces.edge_after.Goals as goal

pub bounds-beside-c : goal.bounds-beside-c
bounds-beside-c c =
    after-code c.self.inside.parts.faces.lists c.self.inside.parts.faces.beside c.args.v c.args.f c.args.c c.beside.result.now c.self.invariant.face_edges
    (subst (λ (b : Built). has_corner c.args.v (polygon_at b.level.polygons c.args.f) ≡ true) (sym c.self.view_is) c.requires.there) (subst (λ (b : Built). c.args.c ≡ corner_of b.level.polygons c.args.v c.args.f) (sym c.self.view_is) c.requires.corner) c.beside.ensures

pub beside-requires : goal.beside-requires
beside-requires c =
    let has = subst (λ (b : Built). has_corner c.args.v (polygon_at b.level.polygons c.args.f) ≡ true) (sym c.self.view_is) c.requires.there in
    (row-there c.self.inside.parts.faces.lists c.self.inside.parts.faces.beside c.args.f c.self.invariant.face_edges (face-there c.self.inside.parts.faces.lists c.args.v c.args.f has).0).0

pub returns : goal.returns
returns c =
    let polygons = c.self.inside.parts.faces.lists in
    let has = subst (λ (b : Built). has_corner c.args.v (polygon_at b.level.polygons c.args.f) ≡ true) (sym c.self.view_is) c.requires.there in
    let at = subst (λ (b : Built). c.args.c ≡ corner_of b.level.polygons c.args.v c.args.f) (sym c.self.view_is) c.requires.corner in
    let row = c.beside.ensures ∙ (row-there polygons c.self.inside.parts.faces.beside c.args.f c.self.invariant.face_edges (face-there polygons c.args.v c.args.f has).0).1 in
    rw (← c.self.view_is) (ap (λ (r : List ℕ). get_or r c.args.c 0) row ∙ ap (λ k. get_or (face_edges_of polygons (polygon_at polygons c.args.f)) k 0) at)
