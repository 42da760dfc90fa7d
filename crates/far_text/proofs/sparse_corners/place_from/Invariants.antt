use Rattle.std.proofs.Common.{◌≤◌, ◌-◌, length}
use Rattle.far_text.specs.TexturedLines.{place_in}
use Rattle.far_text.proofs.sparse_corners.place_from.Given as goal

-- the place is not passed
abbrev pub invariant-loop-place : goal.invariant-loop-place
invariant-loop-place l = l.place ≤ place_in l.texture l.number

abbrev pub decreases-loop-place : goal.decreases-loop-place
decreases-loop-place l = length l.texture.faces - l.place
