use Rattle.std.proofs.Common.{◌≡◌, take, map, get_or}
use Rattle.point_fans.proofs.turn.put_corners.Given as goal

-- those so far are put
abbrev pub invariant-loop-i : goal.invariant-loop-i
invariant-loop-i l = l.at.items ≡ map (λ f. get_or l.corners f 0) (take l.i l.faces)
