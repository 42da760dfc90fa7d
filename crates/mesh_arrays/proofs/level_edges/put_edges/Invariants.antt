use Rattle.std.proofs.Common.{◌≡◌, ◌*◌, length, take, drop}
use Rattle.subdiv_model.specs.Edges.{edges_of}
use Rattle.mesh_arrays.specs.Flat.{ends_of}
use Rattle.mesh_arrays.proofs.level_edges.put_edges.Given as goal

-- the ends of the edges so far
abbrev pub invariant-loop-e : goal.invariant-loop-e
invariant-loop-e l = record {
  written : take (2 * l.e) l.out ≡ ends_of (take l.e (edges_of l.level.level.polygons));
  rest : drop (2 * length (edges_of l.level.level.polygons)) l.out ≡ drop (2 * length (edges_of l.level.level.polygons)) l.fn.out;
  len : length l.out ≡ length l.fn.out;
}
