-- A test of faces with a parameter.
use Rattle.std.specs.Prelude.{ℕ, Bool, false, nat_lt, Option, Some, None}
use Rattle.subdiv_model.specs.Feature.{FaceFacts}

-- the face has more corners than the kept number; without a number no face passes
abbrev pub is_larger : Option ℕ → FaceFacts → Bool
is_larger (Some size) facts = nat_lt size facts.size
is_larger None facts = false
