use Rattle.std.proofs.Common.{◌≡◌, ℕ, ◌≤◌, not, length, get_or, drop}
use Rattle.subdiv_model.specs.Lists.{first_of, places_from}
use Rattle.subdiv_model.specs.Polygons.{is_distinct}
use Rattle.subdiv_model.specs.MeshFault.{repeating_faces}
use Rattle.mesh_check.proofs.corners.repeating_face.Given as goal

-- the faces from here on decide, and no mark is later than the last face
abbrev pub invariant-loop-f : goal.invariant-loop-f
invariant-loop-f l = record {
  decides : first_of (places_from l.f (λ polygon. not (is_distinct polygon)) (drop l.f l.raw.faces)) ≡ first_of (repeating_faces l.raw.faces);
  low : (v : ℕ) → get_or l.marks.items v 0 ≤ l.f;
  size : length l.marks.items ≡ length l.raw.points;
}
