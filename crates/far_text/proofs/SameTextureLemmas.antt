-- Texture points that are the same, in any terms, have one text.
use Rattle.std.proofs.Common.{◌≡◌, ℕ, Bool, List, [], ◌∷◌, ◌++◌, Option, codes, zip, refl, ap, ◌∙◌}
use Rattle.std.specs.List.{All, AllZip, AllByRecursion, flat_map}
use Rattle.std.proofs.lemmas.List.Elements.{recursion_from_All, All-from_recursion}
use Rattle.ratio128.specs.declared.point.Point2.{Point2}
use Rattle.ratio128.specs.declared.valued.Valued.{Valued}
use Rattle.subdiv_model.specs.Level.{Level}
use Rattle.subdiv_model.specs.Value.{Value}
use Rattle.subdiv_model.specs.Refined.{Point}
use Rattle.subdiv_model.specs.NumberText.{value_text_with}
use Rattle.subdiv_model.specs.Text.{line_text, point_line, texture_line, textured_face_line, shown, textured_mesh_text}
use Rattle.far_text.specs.Points.{IsSamePoint, HasDenominators}
use Rattle.far_text.specs.Texture.{CanTextureBeWritten, IsSameTexturePoint, HasTextureDenominators, texture_points_of}
use Rattle.far_text.proofs.SameTextLemmas.{value-same, points-same}

texture-point-same : (decimals : Option ℕ) (p q : Value × Value) → HasTextureDenominators p → HasTextureDenominators q → IsSameTexturePoint p q →
    texture_line decimals p ≡ texture_line decimals q
texture-point-same decimals p q above below same =
    let words : List ℕ → List ℕ → List ℕ = λ u v. line_text (codes "vt") (u ∷ v ∷ []) in
    ap (λ t. words t (value_text_with decimals p.1)) (value-same decimals p.0 q.0 above.u below.u same.u)
    ∙ ap (λ t. words (value_text_with decimals q.0) t) (value-same decimals p.1 q.1 above.v below.v same.v)

-- point by point
pub texture-same : (decimals : Option ℕ) (ps qs : List (Value × Value)) → AllByRecursion HasTextureDenominators ps → AllByRecursion HasTextureDenominators qs →
    AllZip IsSameTexturePoint ps qs → flat_map (texture_line decimals) ps ≡ flat_map (texture_line decimals) qs
texture-same decimals [] [] above below same = refl
texture-same decimals [] (q ∷ qs) above below same = absurd same
texture-same decimals (p ∷ ps) [] above below same = absurd same
texture-same decimals (p ∷ ps) (q ∷ qs) above below same =
    ap (λ t. t ++ flat_map (texture_line decimals) ps) (texture-point-same decimals p q above.0 below.0 same.0)
    ∙ ap (λ t. texture_line decimals q ++ t) (texture-same decimals ps qs above.1 below.1 same.1)

-- the text of a mesh with its texture, with all denominators at least 1
pub textured_mesh_text-same : (decimals : Option ℕ) (holes : Bool) (level : Level) (ps qs : List Point) (cut : Level) (us vs : List (Value × Value)) →
    All HasDenominators ps → All HasDenominators qs → AllZip IsSamePoint ps qs →
    All HasTextureDenominators us → All HasTextureDenominators vs → AllZip IsSameTexturePoint us vs →
    textured_mesh_text decimals holes level ps cut us ≡ textured_mesh_text decimals holes level qs cut vs
textured_mesh_text-same decimals holes level ps qs cut us vs above below same texture_above texture_below texture_same =
    let faces = flat_map textured_face_line (shown holes level (zip level.polygons cut.polygons)) in
    ap (λ t. t ++ (flat_map (texture_line decimals) us ++ faces))
    (points-same decimals ps qs (recursion_from_All HasDenominators ps above) (recursion_from_All HasDenominators qs below) same)
    ∙ ap (λ t. flat_map (point_line decimals) qs ++ (t ++ faces))
    (texture-same decimals us vs (recursion_from_All HasTextureDenominators us texture_above) (recursion_from_All HasTextureDenominators vs texture_below) texture_same)

-- texture points that can be written have denominators of at least 1
pub written-texture-denominators : (common : ℕ) (points : List (Valued Point2)) → All (CanTextureBeWritten common) points →
    All HasTextureDenominators (texture_points_of common points)
written-texture-denominators common points written =
    All-from_recursion HasTextureDenominators (texture_points_of common points)
    (each common points (recursion_from_All (CanTextureBeWritten common) points written))
  where
    each : (common : ℕ) (points : List (Valued Point2)) → AllByRecursion (CanTextureBeWritten common) points →
        AllByRecursion HasTextureDenominators (texture_points_of common points)
    each common [] written = tt
    each common (p ∷ points) written = (record { u = written.0.positive; v = written.0.positive }, each common points written.1)
