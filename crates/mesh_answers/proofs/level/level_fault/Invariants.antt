use Rattle.std.proofs.Common.{◌≡◌, ℕ, suc, ◌+◌, ◌<◌, ◌≤◌, ◌^◌, List, length}
use Rattle.std.specs.List.{sum_by}
use Rattle.subdiv_model.specs.Polygons.{Polygon}
use Rattle.subdiv_model.specs.Child.{faces_after}
use Rattle.mesh_answers.proofs.level.level_fault.Given as goal

-- the faces of the next level, and that no level so far has too many
abbrev pub invariant-loop-k : goal.invariant-loop-k
invariant-loop-k l = record {
  short : l.count < 2 ^ 28;
  counted : (polygons : List Polygon) → l.first ≡ sum_by length polygons → l.count ≡ faces_after polygons (l.k + 1);
  few : (polygons : List Polygon) → l.first ≡ sum_by length polygons → (j : ℕ) → j < l.k → faces_after polygons (suc j) ≤ 2 ^ 22;
}
