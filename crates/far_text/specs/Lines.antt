-- The lines of a mesh and of its tags, piece by piece.
use Rattle.std.specs.Prelude.{ℕ, ◌+◌, ℤ, Bool, not, ◌||◌, List, [], ◌∷◌, codes, Option, if◌then◌else◌}
use Rattle.ratio128.specs.declared.point.Point2.{Point2}
use Rattle.ratio128.specs.declared.point.Point3.{Point3}
use Rattle.ratio128.specs.declared.valued.Valued.{Valued}
use Rattle.subdiv_model.specs.Polygons.{polygon_at}
use Rattle.subdiv_model.specs.Level.{Level, vertex_sharpness_of, is_hole}
use Rattle.subdiv_model.specs.Sharpness.{Sharpness, is_sharp}
use Rattle.subdiv_model.specs.Value.{Value}
use Rattle.subdiv_model.specs.Refined.{Point}
use Rattle.subdiv_model.specs.NumberText.{number_text, value_text_with}
use Rattle.subdiv_model.specs.Text.{point_line, texture_line, face_line, corner_text, textured_face_line, is_written_crease, crease_line, corner_tag_line, hole_line, sharpness_text, tag_line}
use Rattle.far_text.specs.Points.{point_of}
use Rattle.far_text.specs.Texture.{texture_point_of}

-- a numerator over a denominator
abbrev pub value_over : ℕ → ℤ → Value
value_over den n = record { num = n; den = den }

-- the point with these numerators over one denominator
abbrev pub point_over : ℕ → Point3 → Point
point_over den p = (value_over den p.x, value_over den p.y, value_over den p.z)

-- the coordinates of a point, in lowest terms or rounded
abbrev pub coordinate_words : Option ℕ → Point → List (List ℕ)
coordinate_words decimals p = value_text_with decimals p.0 ∷ value_text_with decimals p.1 ∷ value_text_with decimals p.2 ∷ []

-- the line of a point, whose numerators are over its denominator times the common one
abbrev pub valued_line : Option ℕ → ℕ → Valued Point3 → List ℕ
valued_line decimals common p = point_line decimals (point_of common p)

-- the texture point with these numerators over one denominator
abbrev pub texture_over : ℕ → Point2 → Value × Value
texture_over den p = (value_over den p.u, value_over den p.v)

-- the line of a texture point, whose numerators are over its denominator times the common one
abbrev pub valued_texture_line : Option ℕ → ℕ → Valued Point2 → List ℕ
valued_texture_line decimals common p = texture_line decimals (texture_point_of common p)

-- a corner after a space, counted from 1
abbrev pub corner_word : ℕ → List ℕ
corner_word corner = 32 ∷ number_text (corner + 1)

-- a corner with its texture point after a space, both counted from 1
abbrev pub textured_word : ℕ × ℕ → List ℕ
textured_word corner = 32 ∷ corner_text corner

-- the text of an item if the test is true of it, else nothing
abbrev pub text_where : {X : Type 0} → (X → Bool) → (X → List ℕ) → X → List ℕ
text_where test text x = if test x then text x else []

-- the line of a face that is shown
abbrev pub shown_face : Bool → Level → ℕ → List ℕ
shown_face all level = text_where (λ f. all || not (is_hole level f)) (λ f. face_line (polygon_at level.polygons f))

-- the line of a face that is shown, with its texture points from the cut level
abbrev pub shown_textured_face : Bool → Level → Level → ℕ → List ℕ
shown_textured_face all level cut =
    text_where (λ f. all || not (is_hole level f)) (λ f. textured_face_line (polygon_at level.polygons f, polygon_at cut.polygons f))

-- the tag of a crease between two vertices
abbrev pub crease_tag : ℕ × ℕ → Sharpness → List ℕ
crease_tag ends sharpness =
    tag_line (codes "crease") (codes "2/1/0") (number_text ends.0 ∷ number_text ends.1 ∷ sharpness_text sharpness ∷ [])

-- the tag of a sharp vertex
abbrev pub corner_tag : ℕ → Sharpness → List ℕ
corner_tag v sharpness = tag_line (codes "corner") (codes "1/1/0") (number_text v ∷ sharpness_text sharpness ∷ [])

-- the tag of an edge if it has one, else nothing
abbrev pub crease_where_sharp : Level → ℕ × ℕ → List ℕ
crease_where_sharp level = text_where (is_written_crease level) (crease_line level)

-- the tag of a vertex if it is sharp, else nothing
abbrev pub corner_where_sharp : Level → ℕ → List ℕ
corner_where_sharp level = text_where (λ v. is_sharp (vertex_sharpness_of level v)) (corner_tag_line level)

-- the tag of a face if it is a hole, else nothing
abbrev pub hole_where_marked : Level → ℕ → List ℕ
hole_where_marked level = text_where (is_hole level) hole_line
