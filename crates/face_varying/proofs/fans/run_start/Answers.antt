use Rattle.std.proofs.Common.{ℕ, ◌<◌, List, length, arith, ap}
use Rattle.face_varying.proofs.FanPlaceLemmas.{enough-edges}
use Rattle.face_varying.proofs.fans.run_start.Goals as goal

pub bounds-vertex_edges-i : goal.bounds-vertex_edges-i
bounds-vertex_edges-i c =
    omega (arith, c.requires.place, enough-edges c.args.level.now c.facts.ensures c.args.v c.requires.vertex, ap (λ (xs : List ℕ). length xs) c.vertex_edges.ensures)

pub offset_bounds-vertex_edges-i : goal.offset_bounds-vertex_edges-i
offset_bounds-vertex_edges-i c =
    let inside : c.args.i < length c.vertex_edges.result.now = omega (arith, c.requires.place, enough-edges c.args.level.now c.facts.ensures c.args.v c.requires.vertex, ap (λ (xs : List ℕ). length xs) c.vertex_edges.ensures) in
    omega arith
