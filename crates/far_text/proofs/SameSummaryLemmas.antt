-- The summary of a sheet has the text that the definitions give its mesh.
use Rattle.std.proofs.Common.{◌≡◌, ℕ, zero, suc, ◌+◌, List, [], ◌∷◌, ◌++◌, length, get_or, codes, None, arith, refl, ap, sym, ◌∙◌, subst}
use Rattle.std.specs.List.{All, AllZip, AllByRecursion}
use Rattle.std.proofs.lemmas.List.{get_or-map}
use Rattle.std.proofs.lemmas.List.Elements.{recursion_from_All}
use Rattle.ratio128.specs.declared.valued.Valued.{Valued}
use Rattle.ratio128.specs.declared.point.Point3.{Point3}
use Rattle.subdiv_model.specs.ObjMesh.{ObjMesh}
use Rattle.subdiv_model.specs.Base.{base_level}
use Rattle.subdiv_model.specs.Child.{refined_level}
use Rattle.subdiv_model.specs.Mask.{CatmullClark}
use Rattle.subdiv_model.specs.Refined.{Point}
use Rattle.subdiv_model.specs.Support.{entries_after}
use Rattle.subdiv_model.specs.Channel.{greatest_denominator}
use Rattle.subdiv_model.specs.NumberText.{number_text, value_text}
use Rattle.subdiv_model.specs.Text.{line_text}
use Rattle.far_model.specs.Answer.{points_after, positions_of, last_line, generated_text}
use Rattle.subdiv_model.specs.Text.{point_words}
use Rattle.far_text.specs.Points.{CanBeWritten, IsSamePoint, HasDenominators, point_of, points_of}
use Rattle.far_text.proofs.SameTextLemmas.{value-same, written-denominators}
use Rattle.far_text.specs.declared.summary.Summary.{Summary}
use Rattle.far_text.specs.Summary.{CanSummaryBeWritten, sheet_line, last_point_line, summary_text}

-- the line of a point that is the same
point-same : (p q : Point) → HasDenominators p → HasDenominators q → IsSamePoint p q → line_text (codes "last") (point_words p) ≡ line_text (codes "last") (point_words q)
point-same p q above below same =
    let words : List ℕ → List ℕ → List ℕ → List ℕ = λ x y z. line_text (codes "last") (x ∷ y ∷ z ∷ []) in
    ap (λ t. words t (value_text p.1) (value_text p.2)) (value-same None p.0 q.0 above.x below.x same.x)
    ∙ ap (λ t. words (value_text q.0) t (value_text p.2)) (value-same None p.1 q.1 above.y below.y same.y)
    ∙ ap (λ t. words (value_text q.0) (value_text q.1) t) (value-same None p.2 q.2 above.z below.z same.z)

-- the line of the last point, of points that are the same
last-same : (ps qs : List Point) → AllByRecursion HasDenominators ps → AllByRecursion HasDenominators qs → AllZip IsSamePoint ps qs → last_line ps ≡ last_line qs
last-same [] [] above below same = refl
last-same [] (q ∷ qs) above below same = absurd same
last-same (p ∷ ps) [] above below same = absurd same
last-same (p ∷ []) (q ∷ []) above below same = point-same p q above.0 below.0 same.0
last-same (p ∷ []) (q ∷ (r ∷ qs)) above below same = absurd same.1
last-same (p ∷ (r ∷ ps)) (q ∷ []) above below same = absurd same.1
last-same (p ∷ (r ∷ ps)) (q ∷ (s ∷ qs)) above below same = last-same (r ∷ ps) (s ∷ qs) above.1 below.1 same.1

-- the line of the last point and the point itself
last-at : (points : List Point) (at : ℕ) (d : Point) → at + 1 ≡ length points → last_line points ≡ line_text (codes "last") (point_words (get_or points at d))
last-at [] at d e = absurd (omega (arith, e))
last-at (p ∷ []) zero d e = refl
last-at (p ∷ []) (suc at) d e = absurd (omega (arith, e))
last-at (p ∷ (q ∷ points)) zero d e = absurd (omega (arith, e))
last-at (p ∷ (q ∷ points)) (suc at) d e = last-at (q ∷ points) at d (omega (arith, e))

length-points : (values : List (Valued Point3)) → length (points_of 1 values) ≡ length values
length-points [] = refl
length-points (value ∷ values) = ap suc (length-points values)

-- the line of the last of values over their own denominators
last-of-values : (values : List (Valued Point3)) (at : ℕ) (d : Valued Point3) → at + 1 ≡ length values → last_line (points_of 1 values) ≡ last_point_line (get_or values at d)
last-of-values values at d e =
    last-at (points_of 1 values) at (point_of 1 d) (e ∙ sym (length-points values))
    ∙ ap (λ p. line_text (codes "last") (point_words p)) (get_or-map (point_of 1) values at d (point_of 1 d) (omega (arith, e)))

-- a summary can be written if its last point can
pub summary-written : (summary : Summary) (common : ℕ) → common ≡ 1 → CanBeWritten common summary.last → CanSummaryBeWritten summary
summary-written summary common one written = subst (λ (n : ℕ). CanBeWritten n summary.last) one written

-- the text of a mesh whose points are whole, from values that are its points at a depth
pub summary_text-same : (mesh : ObjMesh) (depth : ℕ) (summary : Summary) (values : List (Valued Point3)) (at : ℕ) (d : Valued Point3) →
    mesh.common ≡ 1 → summary.points ≡ length mesh.points → summary.faces ≡ length mesh.faces → summary.depth ≡ depth →
    summary.level_points ≡ (refined_level (base_level mesh) depth).point_count →
    summary.level_faces ≡ length (refined_level (base_level mesh) depth).polygons →
    summary.entries ≡ entries_after (base_level mesh) CatmullClark depth →
    summary.greatest ≡ greatest_denominator (positions_of mesh) depth →
    at + 1 ≡ length values → summary.last ≡ get_or values at d →
    AllZip IsSamePoint (points_after mesh depth) (points_of mesh.common values) → All HasDenominators (points_after mesh depth) → All (CanBeWritten mesh.common) values →
    summary_text summary ≡ generated_text mesh depth
summary_text-same mesh depth summary values at d one points faces deep level_points level_faces entries greatest end last same positive written =
    let line : ℕ → ℕ → ℕ → ℕ → ℕ → List ℕ =
    λ n p f e g. line_text (codes "level") (number_text n ∷ codes "points" ∷ number_text p ∷ codes "faces" ∷ number_text f ∷ codes "entries" ∷ number_text e ∷ codes "den" ∷ number_text g ∷ []) in
    let level = refined_level (base_level mesh) depth in
    let all_entries = entries_after (base_level mesh) CatmullClark depth in
    let sheet : sheet_line summary.points summary.faces ≡ sheet_line (length mesh.points) (length mesh.faces) =
    ap (λ n. sheet_line n summary.faces) points ∙ ap (sheet_line (length mesh.points)) faces in
    let counts : line summary.depth summary.level_points summary.level_faces summary.entries summary.greatest ≡ line depth level.point_count (length level.polygons) all_entries (greatest_denominator (positions_of mesh) depth) =
    ap (λ n. line n summary.level_points summary.level_faces summary.entries summary.greatest) deep
    ∙ ap (λ n. line depth n summary.level_faces summary.entries summary.greatest) level_points
    ∙ ap (λ n. line depth level.point_count n summary.entries summary.greatest) level_faces
    ∙ ap (λ n. line depth level.point_count (length level.polygons) n summary.greatest) entries
    ∙ ap (line depth level.point_count (length level.polygons) all_entries) greatest in
    let final : last_line (points_after mesh depth) ≡ last_point_line summary.last =
    last-same (points_after mesh depth) (points_of mesh.common values) (recursion_from_All HasDenominators (points_after mesh depth) positive)
    (recursion_from_All HasDenominators (points_of mesh.common values) (written-denominators mesh.common values written)) same
    ∙ ap (λ n. last_line (points_of n values)) one
    ∙ last-of-values values at d end
    ∙ ap last_point_line (sym last) in
    ap (λ text. text ++ (line summary.depth summary.level_points summary.level_faces summary.entries summary.greatest ++ last_point_line summary.last)) sheet
    ∙ ap (λ text. sheet_line (length mesh.points) (length mesh.faces) ++ (text ++ last_point_line summary.last)) counts
    ∙ ap (λ text. sheet_line (length mesh.points) (length mesh.faces) ++ (line depth level.point_count (length level.polygons) all_entries (greatest_denominator (positions_of mesh) depth) ++ text)) (sym final)
