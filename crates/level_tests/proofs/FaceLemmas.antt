-- The fans of a builder without marked points.
use Rattle.std.proofs.Common.{◌≡◌, ℕ, true, false, List, Bool, get_or, arith, ap, sym, ◌∙◌}
use Rattle.std.proofs.lemmas.List.{get_or-replicate}
use Rattle.subdiv_model.specs.Polygons.{Polygon}
use Rattle.point_fans.specs.Built.{Built, AreFans}
use Rattle.level_tests.specs.Faces.{IsUnmarked}

-- a builder without marked points has one fan at each marked point
pub unmarked-fans : (built : Built) (points : ℕ) (polygons : List Polygon) → IsUnmarked built points polygons → AreFans built
unmarked-fans built points polygons is v h mark =
    let none : get_or built.complete v false ≡ false = ap (λ (bs : List Bool). get_or bs v false) is.marks ∙ get_or-replicate points v false false (omega (arith, h, is.count)) in
    let no : false ≡ true = sym none ∙ mark in absurd (cc)
