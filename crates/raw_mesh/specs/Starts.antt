-- Where faces of given sizes begin.
use Rattle.std.specs.Prelude.{ℕ, ◌+◌, List, [], ◌∷◌}

-- The starts of the faces, the first at `place`, then the end of the last one.
abbrev pub starts_from : ℕ → List ℕ → List ℕ
starts_from place [] = place ∷ []
starts_from place (size ∷ sizes) = place ∷ starts_from (place + size) sizes
