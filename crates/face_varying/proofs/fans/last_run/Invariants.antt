use Rattle.std.proofs.Common.{◌≡◌}
use Rattle.face_varying.specs.Fans.{is_cut, last_before}
use Rattle.face_varying.proofs.fans.last_run.Given as goal

-- the start of the last run before this place
abbrev pub invariant-loop-i : goal.invariant-loop-i
invariant-loop-i l = l.start ≡ last_before (is_cut l.level l.apart l.v) 0 l.i
