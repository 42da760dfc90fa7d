-- Faces that are put together one after another.
use Rattle.std.proofs.Common.{◌≡◌, ℕ, ◌+◌, ◌<◌, ◌≤◌, ◌^◌, Bool, true, false, nat_lt, List, [], length, get_or, take, arith, ap, sym, ◌∙◌, Some}
use Rattle.std.specs.List.{All, list_all, sum_by, slice_get}
use Rattle.std.proofs.lemmas.Bool.{ltb-true}
use Rattle.std.proofs.lemmas.List.{length-take-le}
use Rattle.std.proofs.lemmas.List.FromFn.{length-map-range_with_len}
use Rattle.std.proofs.lemmas.List.Sums.{sum_by_more_le}
use Rattle.std.proofs.lemmas.Option.{slice_get-get_or}
use Rattle.subdiv_model.specs.Polygons.{Polygon, polygon_at}
use Rattle.subdiv_model.specs.Manifold.{is_simple}
use Rattle.subdiv_model.specs.Sharpness.{Method}
use Rattle.mesh_laws.proofs.ClosedLemmas.{all-at}
use Rattle.point_fans.specs.Built.{Built}
use Rattle.level_builder.specs.Builder.{has_new_sides, with_polygon}
use Rattle.mesh_check.specs.Base.{smooth_built}
use Rattle.mesh_check.proofs.BaseFaceLemmas.{sides-new, faces-more, faces-all}
use Rattle.face_varying.specs.Built.{AreFit, cut_face, cut_by}
use Rattle.face_varying.proofs.BuiltLemmas.{cut-there}

-- the conditions on the next face of the cut mesh, before it is added
module _ {points : ℕ} (faces : List Polygon) (numbers : List ℕ) (fit : AreFit points (cut_by faces numbers)) (f end : ℕ) (polygon : Polygon) (before : f < end) (all : end ≡ length faces) (are : polygon ≡ cut_face faces numbers f) where
  inside : f < length (cut_by faces numbers)
  inside = omega (arith, before, all, length-map-range_with_len (cut_face faces numbers) 0 (length faces))

  -- the face is the one with this number
  is : polygon ≡ polygon_at (cut_by faces numbers) f
  is = are ∙ sym (cut-there faces numbers f (omega (arith, before, all)))

  -- the face has three corners or more, each once
  pub face-simple : is_simple polygon ≡ true
  face-simple = ap is_simple is ∙ all-at is_simple (cut_by faces numbers) f [] inside fit.simple

  -- the face has few corners
  pub face-size : length polygon ≤ 2 ^ 16
  face-size = omega (arith, ap (λ (p : Polygon). length p) is, fit.sizes f [] inside)

  -- the corners of the face are points
  pub face-inside : All (λ v. v < points) polygon
  face-inside k d h =
      let over : list_all (λ v. nat_lt v points) polygon ≡ true = ap (list_all (λ v. nat_lt v points)) is ∙ all-at (list_all (λ v. nat_lt v points)) (cut_by faces numbers) f [] inside fit.over in
      ltb-true _ _ (all-at (λ v. nat_lt v points) polygon k d h over)

  -- all corners together stay few
  pub face-short : sum_by length (take f (cut_by faces numbers)) + length polygon < 2 ^ 28
  face-short = omega (arith, ap (λ (p : Polygon). length p) is, sum_by_more_le length (cut_by faces numbers) f [] inside, fit.corners)

  -- the faces stay few
  pub face-few : length (take f (cut_by faces numbers)) < 2 ^ 22
  face-few = omega (arith, length-take-le f (cut_by faces numbers) (omega (arith, inside)), inside, fit.faces)

  -- no face before it has one of its sides
  pub face-new : has_new_sides (take f (cut_by faces numbers)) polygon ≡ true
  face-new = ap (has_new_sides (take f (cut_by faces numbers))) is ∙ sides-new (cut_by faces numbers) f (polygon_at (cut_by faces numbers) f) fit.sides_once (slice_get-get_or (cut_by faces numbers) f [] inside)

-- there is a mark for each face
marks-all : (faces : List Polygon) (numbers : List ℕ) (holes : List Bool) → length holes ≡ length faces → length holes ≡ length (cut_by faces numbers)
marks-all faces numbers holes is = is ∙ sym (length-map-range_with_len (cut_face faces numbers) 0 (length faces))

-- one face more, with its mark
pub cut-faces-more : (points : ℕ) (method : Method) (faces : List Polygon) (numbers : List ℕ) (holes : List Bool) (f end : ℕ) (polygon : Polygon) (hole : Bool) (old new : Built) → f < end → end ≡ length faces → polygon ≡ cut_face faces numbers f
    → length holes ≡ length faces → hole ≡ get_or holes f false → old ≡ smooth_built points method (take f (cut_by faces numbers)) (take f holes) → new ≡ with_polygon polygon hole old
    → new ≡ smooth_built points method (take (f + 1) (cut_by faces numbers)) (take (f + 1) holes)
cut-faces-more points method faces numbers holes f end polygon hole old new before_end all are marks marked before after =
    let here : f < length faces = omega (arith, before_end, all) in
    let at : slice_get (cut_by faces numbers) f ≡ Some polygon =
    slice_get-get_or (cut_by faces numbers) f [] (omega (arith, here, length-map-range_with_len (cut_face faces numbers) 0 (length faces))) ∙ ap (λ (p : Polygon). Some p) (cut-there faces numbers f here ∙ sym are) in
    faces-more points method (cut_by faces numbers) holes f polygon old new at (marks-all faces numbers holes marks) before (after ∙ ap (λ (b : Bool). with_polygon polygon b old) marked)

-- all faces are there
pub all-faces : (points : ℕ) (method : Method) (faces : List Polygon) (numbers : List ℕ) (holes : List Bool) (f end : ℕ) (built : Built) → end ≤ f → end ≡ length faces → length holes ≡ length faces
    → built ≡ smooth_built points method (take f (cut_by faces numbers)) (take f holes) → built ≡ smooth_built points method (cut_by faces numbers) holes
all-faces points method faces numbers holes f end built past all marks is =
    faces-all points method (cut_by faces numbers) holes f built (omega (arith, past, all, length-map-range_with_len (cut_face faces numbers) 0 (length faces))) (omega (arith, past, all, marks)) is
