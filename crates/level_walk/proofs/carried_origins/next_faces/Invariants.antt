use Rattle.std.proofs.Common.{◌≡◌, ℕ, map, take, get_or}
use Rattle.level_walk.proofs.carried_origins.next_faces.Given as goal

-- the faces so far
abbrev pub invariant-loop-f : goal.invariant-loop-f
invariant-loop-f l = l.faces.items ≡ map (λ (place : ℕ × ℕ). get_or l.before.faces.items place.0 0) (take l.f l.child.places)
