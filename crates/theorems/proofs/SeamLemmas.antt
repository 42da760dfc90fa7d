-- The boundary of a cut mesh that stays sharp is refined linearly at every level.
use Rattle.std.proofs.Common.{◌≡◌, ℕ, zero, suc, ◌*◌, ◌<◌, true, ◌&&◌, ℤ, pos, List, length, get_or, arith, refl, ap, sym, ◌∙◌, subst, inl, IsTrue}
use Rattle.std.specs.List.{list_any}
use Rattle.std.proofs.lemmas.Bool.{and_from, ltb-true}
use Rattle.std.proofs.Math.ListN.{get_or-map}
use Rattle.subdiv_model.specs.Polygons.{Polygon, same_edge}
use Rattle.subdiv_model.specs.Edges.{edges_of, has_end, is_boundary}
use Rattle.subdiv_model.specs.Manifold.{IsManifold}
use Rattle.subdiv_model.specs.Sharpness.{Infinite}
use Rattle.subdiv_model.specs.ObjMesh.{ObjMesh}
use Rattle.subdiv_model.specs.Base.{is_at_boundary}
use Rattle.subdiv_model.specs.Level.{Level, vertex_sharpness_of, plain_level}
use Rattle.subdiv_model.specs.Child.{child_points, child_polygons, refined_level}
use Rattle.subdiv_model.specs.Mask.{CatmullClark, Linear}
use Rattle.subdiv_model.specs.Value.{Value, IsSameValue, whole_value}
use Rattle.subdiv_model.specs.Refined.{point_value, child_values, control_values, refined_values}
use Rattle.subdiv_model.specs.Cut.{SmoothSeams, BoundarySeams, cut_level}
use Rattle.number_laws.proofs.CountLemmas.{any-weaker}
use Rattle.mesh_laws.proofs.ClosedLemmas.{any-all}
use Rattle.mesh_laws.proofs.PointLemmas.{boundary-alike}
use Rattle.mesh_laws.proofs.Laws.{all-simple}
use Rattle.subdiv_model.specs.Feature.{is_infinite}
use Rattle.mask_laws.proofs.BoundaryLemmas.{IsSharpAtBoundary, boundary-named, sharp-from}
use Rattle.texture_laws.specs.CutMesh.{cut_faces, cut_point_count}
use Rattle.texture_laws.proofs.ChannelLemmas.{cut-over}
use Rattle.texture_laws.proofs.CutFanLemmas.{cut-manifold}
use Rattle.texture_laws.proofs.CutLevelLemmas.{cut-boundary, cut-vertex-sharp}
use Rattle.theorems.specs.Descendants.{boundary_descendants}
use Rattle.limit_laws.proofs.HalfEdgeLemmas.{end-kept, edge-of-one}
use Rattle.limit_laws.proofs.CreaseLemmas.{end-inside}
use Rattle.limit_laws.proofs.NumberLemmas.{IsNumber, same-number}
use Rattle.theorems.proofs.StraightLemmas.{IsStraight, straight-child}
use Rattle.theorems.proofs.DescendantLemmas.{descendants-boundary, descendants-exact}

-- Linear refinement depends on the points and polygons of its levels only.

abbrev Shape : Type 0
Shape = ℕ × List Polygon

-- the points and polygons of a level
abbrev shape_of : Level → Shape
shape_of level = (level.point_count, level.polygons)

-- the points and faces of the next level
abbrev next_shape : Shape → Shape
next_shape shape = (child_points shape.0 shape.1, child_polygons shape.0 shape.1)

-- the values of the next level under linear refinement
abbrev next_values : Shape → List Value → List Value
next_values shape values = child_values (plain_level shape.0 shape.1) Linear values

-- linear refinement depends only on the points and faces of the level
by-shape : (level : Level) (values : List Value) → child_values level Linear values ≡ next_values (shape_of level) values
by-shape level values = refl

module _ (one two : Level) (same : shape_of one ≡ shape_of two) where
  -- levels of one shape have next levels of one shape
  pub same-shape : (k : ℕ) → shape_of (refined_level one k) ≡ shape_of (refined_level two k)
  same-shape zero = same
  same-shape (suc k) = ap next_shape (same-shape k)

  -- both levels have the same linear refinement
  pub same-linear : (values : List Value) (k : ℕ) → refined_values one Linear values k ≡ refined_values two Linear values k
  same-linear values zero = refl
  same-linear values (suc k) =
      by-shape (refined_level one k) (refined_values one Linear values k)
      ∙ ap (next_values (shape_of (refined_level one k))) (same-linear values k)
      ∙ ap (λ shape. next_values shape (refined_values two Linear values k)) (same-shape k)
      ∙ sym (by-shape (refined_level two k) (refined_values two Linear values k))

-- Level by level.

-- a control number is itself over 1
control-number : (controls : List ℤ) (p : ℕ) → IsNumber 1 (get_or controls p (pos 0)) (point_value (control_values controls) p)
control-number controls p =
    subst (IsNumber 1 (get_or controls p (pos 0))) (sym (get_or-map whole_value controls p (pos 0))) (record { over = refl; proper = omega arith })

-- the values are equal, and both denominators are above 0
pub record AreOneValue (x y : Value) : Type 0 where
  pub same : IsSameValue x y
  pub first : 0 < x.den
  pub second : 0 < y.den

-- each end of a boundary edge is infinitely sharp
abbrev HasSharpEnds : Level → Type 0
HasSharpEnds level = (t : ℕ × ℕ) (p : ℕ) → is_boundary level.polygons t ≡ true → has_end p t ≡ true → vertex_sharpness_of level p ≡ Infinite

module _ (base : Level) (is : IsSharpAtBoundary base) (kept : HasSharpEnds base) (controls : List ℤ) where
  -- where each end of a boundary edge is infinitely sharp at level 0, the boundary is straight at every level
  straight-levels : (k : ℕ) → (m : ℕ) × (number : ℕ → ℤ) × IsStraight (refined_level base k) m number
      (refined_values base CatmullClark (control_values controls) k) (refined_values base Linear (control_values controls) k)
  straight-levels zero = (
    1,
    λ p. get_or controls p (pos 0),
    record {
      positive = omega arith;
      is = is;
      both = λ t p on_boundary at. record { first = control-number controls p; second = control-number controls p };
      point = λ t p on_boundary at. inl (kept t p on_boundary at);
    },
  )
  straight-levels (suc k) =
      let before = straight-levels k in
      (2 * before.0, _, straight-child (refined_level base k) before.0 before.1 _ _ before.2)

  -- the ends of descendants have the values of linear refinement
  pub linear-there : (k p : ℕ) → list_any (has_end p) (boundary_descendants base k) ≡ true
      → AreOneValue (point_value (refined_values base CatmullClark (control_values controls) k) p)
      (point_value (refined_values base Linear (control_values controls) k) p)
  linear-there k p there =
      let level = refined_level base k in
      let found = any-all (has_end p) (is_boundary level.polygons) (boundary_descendants base k) there (descendants-boundary base is k) in
      let straight = straight-levels k in
      let both = straight.2.both found.0 p found.2 found.1 in
      record {
        same = same-number straight.0 _ _ (straight.1 p) straight.2.positive both.first.over both.second.over;
        first = both.first.proper;
        second = both.second.proper;
      }

-- Level 0 of the cut mesh.

module _ (mesh : ObjMesh) (manifold : IsManifold (length mesh.points) mesh.faces) where
  -- the cut mesh is a manifold
  cut-is : IsManifold (cut_point_count mesh) (cut_faces mesh)
  cut-is = cut-manifold mesh manifold.simple manifold.sides_once

  abbrev base : Level
  base = cut_level BoundarySeams mesh

  -- the boundary edges of the cut mesh are infinitely sharp
  pub cut-sharp : IsSharpAtBoundary base
  cut-sharp =
      let simple = all-simple (cut_point_count mesh) (cut_faces mesh) cut-is in
      record {
        over = cut-over mesh;
        simple = simple;
        distinct = cut-is.sides_once;
        sharp = sharp-from base (λ t on_boundary. ap is_infinite (cut-boundary mesh BoundarySeams t (boundary-named base simple t on_boundary) on_boundary));
      }

  -- an end of a boundary edge is at the boundary
  at-boundary : (t : ℕ × ℕ) (p : ℕ) → is_boundary (cut_faces mesh) t ≡ true → has_end p t ≡ true → is_at_boundary (cut_faces mesh) p ≡ true
  at-boundary t p on_boundary at =
      any-weaker (same_edge t) (λ edge. is_boundary (cut_faces mesh) edge && has_end p edge)
      (λ edge same. and_from _ _ (sym (boundary-alike (cut_faces mesh) cut-sharp.simple t edge same) ∙ on_boundary) (end-kept p t edge same at))
      (edges_of (cut_faces mesh)) (boundary-named base cut-sharp.simple t on_boundary)

  -- the mode keeps each end of a boundary edge sharp
  cut-kept : HasSharpEnds base
  cut-kept t p on_boundary at =
      let inside = (edge-of-one (cut_point_count mesh) (cut_faces mesh) cut-sharp.over cut-sharp.simple t on_boundary).inside in
      cut-vertex-sharp mesh BoundarySeams p (ltb-true p (cut_point_count mesh) (end-inside (cut_point_count mesh) p t inside at)) (at-boundary t p on_boundary at)

  -- the law of seams, with its denominators
  pub seams-linear : (controls : List ℤ) (k p : ℕ) → IsTrue (list_any (has_end p) (boundary_descendants base k))
      → AreOneValue (point_value (refined_values base CatmullClark (control_values controls) k) p)
      (point_value (refined_values (cut_level SmoothSeams mesh) Linear (control_values controls) k) p)
  seams-linear controls k p there =
      subst (λ ys. AreOneValue (point_value (refined_values base CatmullClark (control_values controls) k) p) (point_value ys p))
      (same-linear base (cut_level SmoothSeams mesh) refl (control_values controls) k) (linear-there base cut-sharp cut-kept controls k p there)

  -- the descendants are the boundary edges
  pub seams-exact : (k : ℕ) (edge : ℕ × ℕ)
      → list_any (same_edge edge) (boundary_descendants base k) ≡ is_boundary (refined_level base k).polygons edge
  seams-exact = descendants-exact base cut-sharp

-- each level has the points and polygons that it has with smooth seams
pub seams-shape : (mesh : ObjMesh) (k : ℕ)
    → shape_of (refined_level (cut_level BoundarySeams mesh) k) ≡ shape_of (refined_level (cut_level SmoothSeams mesh) k)
seams-shape mesh k = same-shape (cut_level BoundarySeams mesh) (cut_level SmoothSeams mesh) refl k
