use Rattle.std.proofs.Common.{◌≡◌, false, map, take, get_or}
use Rattle.sparse_level.proofs.places.put_inner.Given as goal

-- the marks at the places so far
abbrev pub invariant-loop-place : goal.invariant-loop-place
invariant-loop-place l = l.inner.items ≡ map (λ place. get_or l.selected place.face false) (take l.place-index l.places)
