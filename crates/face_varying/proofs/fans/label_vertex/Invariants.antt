use Rattle.std.proofs.Common.{◌≡◌, ◌≢◌, ℕ, ◌+◌, ◌<◌, length, get_or}
use Rattle.subdiv_model.specs.Polygons.{polygon_at}
use Rattle.face_varying.specs.CornerPlaces.{start_of}
use Rattle.face_varying.specs.Fans.{HasRuns, is_cut, last_before, last_run}
use Rattle.face_varying.proofs.fans.label_vertex.Given as goal

-- the corners of the faces before this place have their labels, and those at other vertices are as they were
abbrev pub invariant-loop-i : goal.invariant-loop-i
invariant-loop-i l = record {
  start : l.start ≡ last_before (is_cut l.level l.apart l.v) (last_run l.level l.apart l.v) l.i;
  corners : length l.labels.items ≡ length l.fn.labels.items;
  runs : HasRuns l.level l.apart l.v l.i l.labels.items;
  others : (f c : ℕ) → f < length l.level.level.polygons → c < length (polygon_at l.level.level.polygons f) → get_or (polygon_at l.level.level.polygons f) c 0 ≢ l.v
      → get_or l.labels.items (start_of l.level.level.polygons f + c) 0 ≡ get_or l.fn.labels.items (start_of l.level.level.polygons f + c) 0;
}
