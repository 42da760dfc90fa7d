use Rattle.std.proofs.Common.{subst, ◌≡◌, ◌∙◌, ap, sym, refl, List, length, map}
use Rattle.subdiv_model.specs.Sharpness.{Sharpness}
use Rattle.sharpness_rules.specs.View.{sharpness_of, method_of}
use Rattle.point_fans.specs.Built.{Built, built_of}
use Rattle.level_topology.specs.PointRows.{AreRows}
use Rattle.level_topology.specs.Topology.{Topology}
use Rattle.point_fans.proofs.FinishLemmas.{of-level-same}
use Rattle.point_fans.specs.Parts.{edges_in}
use Rattle.point_fans.proofs.numbered_faces.NumberedFaces.joined.Goals as goal

pub of_tables-requires : goal.of_tables-requires
of_tables-requires c =
    let made = c.args.made in
    let edge_sharp : made.edge_sharpness.sharpness ≡ (map sharpness_of c.self.inside.parts.edge_sharpness.items) = c.requires.edges ∙ sym (ap (λ (b : Built). b.level.edge_sharpness) c.self.view_is) in
    let vertex_sharp : made.vertex_sharpness.sharpness ≡ map sharpness_of c.self.inside.parts.vertex_sharpness.items = c.requires.points ∙ sym (ap (λ (b : Built). b.level.vertex_sharpness) c.self.view_is) in
    of-level-same _ c.self.inside.parts.faces.lists c.self.inside.parts.holes.items (edges_in c.self.inside.parts) (map sharpness_of c.self.inside.parts.vertex_sharpness.items) (method_of c.self.inside.parts.method) c.self.inside.parts.complete.items c.self.inside.parts.faces.beside
    made.vertex_faces.lists made.vertex_faces.beside made.vertex_edges.lists made.vertex_edges.beside
    c.self.inside.parts.edge_ends.items c.self.inside.parts.edge_faces.items made.edge_sharpness.sharpness made.vertex_sharpness.sharpness
    c.self.invariant
    (subst (λ (b : Built). AreRows b.level.polygons b.complete b.level.point_count made.vertex_faces.lists made.vertex_faces.beside made.vertex_edges.lists made.vertex_edges.beside) (sym c.self.view_is) c.requires.rows)
    refl refl edge_sharp vertex_sharp

pub returns-clause-level : goal.returns-clause-level
returns-clause-level c =
    let made = c.args.made in
    let edge_sharp : made.edge_sharpness.sharpness ≡ (map sharpness_of c.self.inside.parts.edge_sharpness.items) = c.requires.edges ∙ sym (ap (λ (b : Built). b.level.edge_sharpness) c.self.view_is) in
    let vertex_sharp : made.vertex_sharpness.sharpness ≡ map sharpness_of c.self.inside.parts.vertex_sharpness.items = c.requires.points ∙ sym (ap (λ (b : Built). b.level.vertex_sharpness) c.self.view_is) in
    ap (λ (t : Topology). t.level) c.of_tables.ensures
    ∙ ap (λ (xs : List Sharpness). (built_of (length c.self.inside.parts.complete.items) c.self.inside.parts.faces.lists c.self.inside.parts.holes.items xs made.vertex_sharpness.sharpness (method_of c.self.inside.parts.method) c.self.inside.parts.complete.items).level) edge_sharp
    ∙ ap (λ (xs : List Sharpness). (built_of (length c.self.inside.parts.complete.items) c.self.inside.parts.faces.lists c.self.inside.parts.holes.items (map sharpness_of c.self.inside.parts.edge_sharpness.items) xs (method_of c.self.inside.parts.method) c.self.inside.parts.complete.items).level) vertex_sharp
    ∙ ap (λ (b : Built). b.level) c.self.view_is
