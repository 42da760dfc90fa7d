use Rattle.std.proofs.Common.{◌≡◌, ℕ, ◌≤◌, ◌++◌, not, length, map, get_or, drop}
use Rattle.subdiv_model.specs.Lists.{places_from}
use Rattle.subdiv_model.specs.Polygons.{is_distinct}
use Rattle.subdiv_model.specs.MeshFault.{RepeatedVertex, repeating_faces}
use Rattle.mesh_check.specs.View.{mesh_fault_of}
use Rattle.mesh_check.proofs.corners.put_repeating_faces.Given as goal

-- the faults so far and the rest of the faces that have a vertex twice are all, and no mark is later than the last face
abbrev pub invariant-loop-f : goal.invariant-loop-f
invariant-loop-f l = record {
  put : map mesh_fault_of l.faults.items ++ map RepeatedVertex (places_from l.f (λ polygon. not (is_distinct polygon)) (drop l.f l.raw.faces))
      ≡ map mesh_fault_of l.fn.faults.items ++ map RepeatedVertex (repeating_faces l.raw.faces);
  low : (v : ℕ) → get_or l.marks.items v 0 ≤ l.f;
  size : length l.marks.items ≡ length l.raw.points;
}
