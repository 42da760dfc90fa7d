use Rattle.std.proofs.Common.{◌≡◌, length}
use Rattle.leaf_laws.specs.FirstLeaf.{IsInGrid}
use Rattle.patch_map.specs.View.{location_of}
use Rattle.patch_map.specs.Found.{leaf_below}
use Rattle.patch_map.proofs.below.leaf_below.Given as goal

-- the leaf below the rest is the leaf below all levels
abbrev pub invariant-loop-rest : goal.invariant-loop-rest
invariant-loop-rest l = record {
  inside : IsInGrid l.grid (location_of l.leaf);
  same : leaf_below l.grid l.rest l.quad l.place (location_of l.leaf) ≡ leaf_below l.grid l.levels l.fn.is_quad l.fn.start (location_of l.fn.at);
}

abbrev pub decreases-loop-rest : goal.decreases-loop-rest
decreases-loop-rest l = length l.rest
