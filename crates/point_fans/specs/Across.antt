-- The other face of an edge.
use Rattle.std.specs.Prelude.{ℕ, nat_eq, if◌then◌else◌}

-- The face of the pair that is not f.
abbrev pub other_of : ℕ × ℕ → ℕ → ℕ
other_of pair f = if nat_eq pair.0 f then pair.1 else pair.0
