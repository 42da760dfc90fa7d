use Rattle.std.proofs.Common.{◌<◌, ◌∙◌, arith, ap, length}
use Rattle.std.proofs.lemmas.List.{get_or_default}
use Rattle.subdiv_model.specs.SparseText.{WrittenFace}
use Rattle.sparse_level.proofs.FaceLemmas.{face-read, face-within}
use Rattle.sparse_level.proofs.faces.SparseFaces.number.Goals as goal

pub index-requires : goal.index-requires
index-requires c =
    let inside = c.self.inside in
    let within = face-within inside.kinds.items inside.numbers.items inside.corners c.args.self.now c.args.f c.self.view_is c.requires in
    omega (arith, within, inside.numbers.ok.0, c.self.invariant.numbers_listed)

pub returns : goal.returns
returns c =
    let inside = c.self.inside in
    let within = face-within inside.kinds.items inside.numbers.items inside.corners c.args.self.now c.args.f c.self.view_is c.requires in
    let there : c.args.f < length inside.numbers.items = omega (arith, within, c.self.invariant.numbers_listed) in
    (c.index.ensures ∙ get_or_default inside.numbers.items c.args.f c.index.result.now 0 there)
    ∙ ap (λ (w : WrittenFace). w.number) (face-read inside.kinds.items inside.numbers.items inside.corners c.args.self.now c.args.f c.self.view_is within)
