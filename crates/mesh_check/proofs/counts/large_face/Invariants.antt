use Rattle.std.proofs.Common.{◌≡◌, ℕ, nat_lt, length, map, drop}
use Rattle.std.specs.List.{filter, enumerate_from}
use Rattle.subdiv_model.specs.Lists.{first_of}
use Rattle.subdiv_model.specs.Limits.{large_faces, size_limit}
use Rattle.mesh_check.proofs.counts.large_face.Given as goal

-- the faces from here on decide
abbrev pub invariant-loop-f : goal.invariant-loop-f
invariant-loop-f l =
    first_of {X = ℕ × ℕ} (map (λ face. (face.0, length face.1)) (filter (λ face. nat_lt size_limit (length face.1)) (enumerate_from l.f (drop l.f l.raw.faces))))
    ≡ first_of {X = ℕ × ℕ} (map (λ face. (face.0, length face.1)) (large_faces l.raw))
