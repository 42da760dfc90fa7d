use Rattle.std.proofs.Common.{subst, ◌≡◌, true, sym, length, refl}
use Rattle.subdiv_model.specs.Polygons.{has_corner, polygon_at}
use Rattle.level_topology.specs.Topology.{corner_of}
use Rattle.point_fans.specs.Built.{Built}
use Rattle.point_fans.proofs.AcrossLemmas.{before-code}
use Rattle.point_fans.proofs.numbered_faces.NumberedFaces.edge_before.Goals as goal

pub corner_before-requires : goal.corner_before-requires
corner_before-requires c = (before-code c.self.inside.parts.faces.lists c.self.inside.parts.faces.beside c.args.v c.args.f c.args.c _ (length c.beside-edges.result.now) c.beside-edges.result.now c.self.invariant.face_edges
    (subst (λ (b : Built). has_corner c.args.v (polygon_at b.level.polygons c.args.f) ≡ true) (sym c.self.view_is) c.requires.there) (subst (λ (b : Built). c.args.c ≡ corner_of b.level.polygons c.args.v c.args.f) (sym c.self.view_is) c.requires.corner) c.beside-edges.ensures refl refl).0

pub bounds-edges-corner_before : goal.bounds-edges-corner_before
bounds-edges-corner_before c = (before-code c.self.inside.parts.faces.lists c.self.inside.parts.faces.beside c.args.v c.args.f c.args.c _ (length c.beside-edges.result.now) c.beside-edges.result.now c.self.invariant.face_edges
    (subst (λ (b : Built). has_corner c.args.v (polygon_at b.level.polygons c.args.f) ≡ true) (sym c.self.view_is) c.requires.there) (subst (λ (b : Built). c.args.c ≡ corner_of b.level.polygons c.args.v c.args.f) (sym c.self.view_is) c.requires.corner) c.beside-edges.ensures refl c.corner_before.ensures.before).1

pub returns : goal.returns
returns c = rw (← c.self.view_is) ((before-code c.self.inside.parts.faces.lists c.self.inside.parts.faces.beside c.args.v c.args.f c.args.c _ (length c.beside-edges.result.now) c.beside-edges.result.now c.self.invariant.face_edges
    (subst (λ (b : Built). has_corner c.args.v (polygon_at b.level.polygons c.args.f) ≡ true) (sym c.self.view_is) c.requires.there) (subst (λ (b : Built). c.args.c ≡ corner_of b.level.polygons c.args.v c.args.f) (sym c.self.view_is) c.requires.corner) c.beside-edges.ensures refl c.corner_before.ensures.before).2)
