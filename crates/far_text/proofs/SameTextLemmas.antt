-- Points that are the same, in any terms, have one text.
use Rattle.std.proofs.Common.{◌≡◌, ℕ, ◌<◌, Bool, List, [], ◌∷◌, ◌++◌, Option, Some, None, codes, refl, ap, ◌∙◌}
use Rattle.std.specs.List.{All, AllZip, AllByRecursion, flat_map}
use Rattle.std.proofs.lemmas.List.Elements.{recursion_from_All, All-from_recursion}
use Rattle.ratio128.specs.declared.point.Point3.{Point3}
use Rattle.ratio128.specs.declared.valued.Valued.{Valued}
use Rattle.subdiv_model.specs.Level.{Level}
use Rattle.subdiv_model.specs.Value.{Value, IsSameValue}
use Rattle.subdiv_model.specs.Refined.{Point}
use Rattle.subdiv_model.specs.NumberText.{number_text, value_text, value_text_with}
use Rattle.subdiv_model.specs.Text.{face_line, line_text, point_line, shown, mesh_text}
use Rattle.number_laws.proofs.TextLemmas.{fraction_text-same}
use Rattle.far_text.specs.Frames.{changed_line}
use Rattle.far_text.specs.Points.{CanBeWritten, IsSamePoint, HasDenominators, points_of}
use Rattle.far_text.proofs.RoundingLemmas.{rounded_text-same}

-- in lowest terms, and rounded
pub value-same : (decimals : Option ℕ) (x y : Value) → 0 < x.den → 0 < y.den → IsSameValue x y →
    value_text_with decimals x ≡ value_text_with decimals y
value-same None x y above below same = fraction_text-same x.num y.num x.den y.den above below same
value-same (Some digits) x y above below same = rounded_text-same digits x.num y.num x.den y.den above below same

point-same : (decimals : Option ℕ) (p q : Point) → HasDenominators p → HasDenominators q → IsSamePoint p q → point_line decimals p ≡ point_line decimals q
point-same decimals p q above below same =
    let words : List ℕ → List ℕ → List ℕ → List ℕ = λ x y z. line_text (codes "v") (x ∷ y ∷ z ∷ []) in
    ap (λ t. words t (value_text_with decimals p.1) (value_text_with decimals p.2)) (value-same decimals p.0 q.0 above.x below.x same.x)
    ∙ ap (λ t. words (value_text_with decimals q.0) t (value_text_with decimals p.2)) (value-same decimals p.1 q.1 above.y below.y same.y)
    ∙ ap (λ t. words (value_text_with decimals q.0) (value_text_with decimals q.1) t) (value-same decimals p.2 q.2 above.z below.z same.z)

-- the line of a changed point, with both denominators at least 1
pub changed-same : (number : ℕ) (p q : Point) → HasDenominators p → HasDenominators q → IsSamePoint p q → changed_line number p ≡ changed_line number q
changed-same number p q above below same =
    let words : List ℕ → List ℕ → List ℕ → List ℕ = λ x y z. line_text (codes "p") (number_text number ∷ x ∷ y ∷ z ∷ []) in
    ap (λ t. words t (value_text p.1) (value_text p.2)) (value-same None p.0 q.0 above.x below.x same.x)
    ∙ ap (λ t. words (value_text q.0) t (value_text p.2)) (value-same None p.1 q.1 above.y below.y same.y)
    ∙ ap (λ t. words (value_text q.0) (value_text q.1) t) (value-same None p.2 q.2 above.z below.z same.z)

-- point by point
pub points-same : (decimals : Option ℕ) (ps qs : List Point) → AllByRecursion HasDenominators ps → AllByRecursion HasDenominators qs → AllZip IsSamePoint ps qs →
    flat_map (point_line decimals) ps ≡ flat_map (point_line decimals) qs
points-same decimals [] [] above below same = refl
points-same decimals [] (q ∷ qs) above below same = absurd same
points-same decimals (p ∷ ps) [] above below same = absurd same
points-same decimals (p ∷ ps) (q ∷ qs) above below same =
    ap (λ t. t ++ flat_map (point_line decimals) ps) (point-same decimals p q above.0 below.0 same.0)
    ∙ ap (λ t. point_line decimals q ++ t) (points-same decimals ps qs above.1 below.1 same.1)

-- the text of a mesh, with all denominators at least 1
pub mesh_text-same : (decimals : Option ℕ) (holes : Bool) (level : Level) (ps qs : List Point) →
    All HasDenominators ps → All HasDenominators qs → AllZip IsSamePoint ps qs → mesh_text decimals holes level ps ≡ mesh_text decimals holes level qs
mesh_text-same decimals holes level ps qs above below same =
    ap (λ t. t ++ flat_map face_line (shown holes level level.polygons))
    (points-same decimals ps qs (recursion_from_All HasDenominators ps above) (recursion_from_All HasDenominators qs below) same)

-- points that can be written have denominators of at least 1
pub written-denominators : (common : ℕ) (points : List (Valued Point3)) → All (CanBeWritten common) points → All HasDenominators (points_of common points)
written-denominators common points written =
    All-from_recursion HasDenominators (points_of common points) (each common points (recursion_from_All (CanBeWritten common) points written))
  where
    each : (common : ℕ) (points : List (Valued Point3)) → AllByRecursion (CanBeWritten common) points → AllByRecursion HasDenominators (points_of common points)
    each common [] written = tt
    each common (p ∷ points) written =
        (record { x = written.0.positive; y = written.0.positive; z = written.0.positive }, each common points written.1)
