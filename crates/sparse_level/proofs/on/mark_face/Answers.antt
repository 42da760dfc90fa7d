use Rattle.std.proofs.Common.{◌∙◌, ◌||◌, ◌&&◌, ap, sym, false, Bool, List, get_or, arith, ℕ}
use Rattle.subdiv_model.specs.Polygons.{has_corner, polygon_at}
use Rattle.level_topology.proofs.FactLemmas.{corners-exist}
use Rattle.sparse_level.proofs.MarkLemmas.{or-false}
use Rattle.sparse_level.proofs.on.mark_face.Goals as goal

pub mark_corners-requires : goal.mark_corners-requires
mark_corners-requires c = record {
  inside = rw c.face_vertices.ensures (λ k d h. omega (arith, corners-exist c.args.level.now c.facts.ensures c.args.f c.requires.known k d h, c.requires.count));
}

pub returns-then-is_selected-clause-count : goal.returns-then-is_selected-clause-count
returns-then-is_selected-clause-count c = c.mark_corners.ensures.count ∙ c.requires.count

pub returns-then-is_selected-clause-marks : goal.returns-then-is_selected-clause-marks
returns-then-is_selected-clause-marks c = λ v h.
    c.mark_corners.ensures.marks v (omega (arith, h, c.requires.count))
    ∙ ap (λ (xs : List ℕ). get_or c.args.on.now.items v false || has_corner v xs) c.face_vertices.ensures
    ∙ ap (λ (b : Bool). get_or c.args.on.now.items v false || (b && has_corner v (polygon_at c.args.level.now.level.polygons c.args.f))) (sym c.if-is_selected.true)

pub returns-else-is_selected-clause-marks : goal.returns-else-is_selected-clause-marks
returns-else-is_selected-clause-marks c = λ v h.
    or-false (get_or c.args.on.now.items v false)
    ∙ ap (λ (b : Bool). get_or c.args.on.now.items v false || (b && has_corner v (polygon_at c.args.level.now.level.polygons c.args.f))) (sym c.if-is_selected.false)
