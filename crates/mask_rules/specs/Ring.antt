-- The half of an edge of a ring.
use Rattle.std.specs.Prelude.{◌≡◌, ℕ, ◌<◌, false, List, length, map, get_or}
use Rattle.subdiv_model.specs.Sharpness.{half_child}
use Rattle.sharpness_rules.specs.declared.child.Method.{Method}
use Rattle.sharpness_rules.specs.declared.halves.Halves.{Halves}
use Rattle.sharpness_rules.specs.declared.sharpness.Sharpness.{Sharpness}
use Rattle.sharpness_rules.specs.View.{sharpness_of, method_of}
use Rattle.sharpness_rules.specs.Halves.{AreHalves, halves_overflow}

-- the half of an edge has this sharpness, in each ring with these halves that has the edge and does not overflow
abbrev pub IsHalf : Halves → Sharpness → Sharpness → Type 0
IsHalf halves s half =
    (method : Method) (ring : List Sharpness) (at : ℕ) → AreHalves method ring halves → halves_overflow method ring ≡ false → at < length ring
    → s ≡ get_or ring at s → sharpness_of half ≡ half_child (method_of method) (map sharpness_of ring) (sharpness_of s)
