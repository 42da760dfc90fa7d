use Rattle.std.proofs.Common.{subst, ◌≡◌, ◌<◌, sym, arith, rules, length, vec_len}
use Rattle.subdiv_model.specs.Edges.{edges_of}
use Rattle.point_fans.specs.Built.{Built}
use Rattle.point_fans.specs.Parts.{edges_in}
use Rattle.point_fans.proofs.AcrossLemmas.{pair-inside, pair-faces}
use Rattle.point_fans.proofs.numbered_faces.NumberedFaces.face_pair.Goals as goal

pub index-requires : goal.index-requires
index-requires c =
    let n : vec_len c.self.inside.parts.edge_faces ≡ length c.self.inside.parts.edge_faces.items = search rules in
    let inside = pair-inside c.self.inside.parts.faces.lists (edges_in c.self.inside.parts) c.args.e c.self.invariant.numbering
    (subst (λ (b : Built). c.args.e < length (edges_of b.level.polygons)) (sym c.self.view_is) c.requires) in
    omega (arith, n, inside)

pub returns : goal.returns
returns c =
    rw (← c.self.view_is)
    (pair-faces c.self.inside.parts.faces.lists (edges_in c.self.inside.parts) c.args.e c.index.result.now c.self.invariant.numbering
    (subst (λ (b : Built). c.args.e < length (edges_of b.level.polygons)) (sym c.self.view_is) c.requires) c.index.ensures)
