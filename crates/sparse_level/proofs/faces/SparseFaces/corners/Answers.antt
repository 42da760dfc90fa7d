use Rattle.std.proofs.Common.{◌∙◌, arith, ap}
use Rattle.subdiv_model.specs.SparseText.{WrittenFace}
use Rattle.sparse_level.proofs.FaceLemmas.{face-read, face-within}
use Rattle.sparse_level.proofs.faces.SparseFaces.corners.Goals as goal

pub list-requires : goal.list-requires
list-requires c =
    let inside = c.self.inside in
    let within = face-within inside.kinds.items inside.numbers.items inside.corners c.args.self.now c.args.f c.self.view_is c.requires in
    omega (arith, within, c.self.invariant.corners_listed)

pub returns : goal.returns
returns c =
    let inside = c.self.inside in
    let within = face-within inside.kinds.items inside.numbers.items inside.corners c.args.self.now c.args.f c.self.view_is c.requires in
    c.list.ensures ∙ ap (λ (w : WrittenFace). w.corners) (face-read inside.kinds.items inside.numbers.items inside.corners c.args.self.now c.args.f c.self.view_is within)
