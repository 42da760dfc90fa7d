-- Meshes, levels, points, terms and control numbers, for the laws of masks and refined values.
-- Source: Drillolive.
use Rattle.std.specs.Prelude.{◌≡◌, ℕ, ◌<◌, false, ℤ, List, length, map, IsTrue}
use Rattle.std.specs.List.{list_all}
use Rattle.subdiv_model.specs.Manifold.{IsManifold}
use Rattle.subdiv_model.specs.ObjMesh.{ObjMesh, has_faces_over_points}
use Rattle.subdiv_model.specs.Base.{base_level, is_at_boundary}
use Rattle.subdiv_model.specs.Sharpness.{Sharpness, Method, uniform_child, is_proper_sharpness}
use Rattle.subdiv_model.specs.Level.{Level, is_well_formed}
use Rattle.subdiv_model.specs.Child.{refined_level}
use Rattle.subdiv_model.specs.Rule.{is_smooth_or_dart, vertex_rule, same_mask, child_ring, transition_weight}
use Rattle.subdiv_model.specs.Mask.{Scheme, SourcePoint, Term, weight_in, is_interior, rule_at, child_rule_at, has_means}
use Rattle.subdiv_model.specs.Value.{Value, IsSameValue, weighted, sum_of_values}
use Rattle.subdiv_model.specs.Refined.{AreTranslatedBy, control_values, translated_controls, refined_values}
use Rattle.mask_laws.specs.SharpBoundary.{has_sharp_boundary}

-- Meshes.

-- the corners of the faces are points of the mesh, and the faces are a manifold
pub record IsManifoldMesh (mesh : ObjMesh) : Type 0 where
  pub manifold : IsManifold (length mesh.points) mesh.faces
  pub over_points : IsTrue (has_faces_over_points mesh)

-- the level of the mesh after k steps
abbrev pub mesh_level : ObjMesh → ℕ → Level
mesh_level mesh k = refined_level (base_level mesh) k

-- Levels.

-- the level is a well-formed manifold, and its boundary is infinitely sharp
pub record IsManifoldWithSharpBoundary (level : Level) : Type 0 where
  pub formed : IsTrue (is_well_formed level)
  pub manifold : IsManifold level.point_count level.polygons
  pub sharp_boundary : IsTrue (has_sharp_boundary level)

-- the masks of the first k steps from the level are means
abbrev pub HasMeansInSteps : Level → Scheme → ℕ → Type 0
HasMeansInSteps level scheme k = (j : ℕ) → j < k → IsTrue (has_means (refined_level level j) scheme)

-- Points.

-- the point is interior if its rule is smooth or dart, in this level or in the next
pub record IsInteriorWhereSmooth (level : Level) (v : ℕ) : Type 0 where
  pub now : IsTrue (is_smooth_or_dart (rule_at level v)) → IsTrue (is_interior level v)
  pub next : IsTrue (is_smooth_or_dart (child_rule_at level v)) → IsTrue (is_interior level v)

-- a point on the infinitely sharp boundary of a manifold
pub record BoundaryPoint : Type 0 where
  pub level : Level
  pub v : ℕ
  pub manifold : IsManifold level.point_count level.polygons
  pub sharp_boundary : IsTrue (has_sharp_boundary level)
  pub at_boundary : IsTrue (is_at_boundary level.polygons v)

-- a vertex by its own sharpness and the sharpness of its edges, each well formed, whose mask changes in the next level
pub record Transition : Type 0 where
  pub method : Method
  pub vertex : Sharpness
  pub ring : List Sharpness
  pub proper_vertex : IsTrue (is_proper_sharpness vertex)
  pub proper_ring : IsTrue (list_all is_proper_sharpness ring)
  pub masks_differ : same_mask (vertex_rule vertex ring) (vertex_rule (uniform_child vertex) (child_ring method ring)) ≡ false

-- the weight that the transition gives the mask of this level
abbrev pub weight_of : Transition → ℕ × ℕ
weight_of transition =
    transition_weight transition.vertex (uniform_child transition.vertex) transition.ring (child_ring transition.method transition.ring)

-- Terms.

-- a value for each source, over a denominator above 0
pub record SourceValues : Type 0 where
  pub value : SourcePoint → Value
  pub above_zero : (source : SourcePoint) → 0 < (value source).den

-- both lists of terms give each source the same total weight
abbrev pub GiveSameWeights : List Term → List Term → Type 0
GiveSameWeights first second = (source : SourcePoint) → weight_in first source ≡ weight_in second source

-- the value of terms over a denominator
abbrev pub value_of_terms : (SourcePoint → Value) → List Term → ℕ → Value
value_of_terms value terms q = sum_of_values (map (λ t. weighted t.weight q (value t.source)) terms)

-- both lists of terms have the same value over a denominator
abbrev pub GiveSameValue : (SourcePoint → Value) → ℕ → List Term → List Term → Type 0
GiveSameValue value q first second = IsSameValue (value_of_terms value first q) (value_of_terms value second q)

-- Controls.

-- a number for each control point of the level
pub record Controls (level : Level) : Type 0 where
  pub numbers : List ℤ
  pub one_each : length numbers ≡ level.point_count

-- the control numbers of a level, a scheme and a number of steps
pub record Refinement (level : Level) : Type 0 where
  pub controls : Controls level
  pub scheme : Scheme
  pub steps : ℕ

-- the values that the control numbers are refined to
abbrev pub values_of : {level : Level} → Refinement level → List Value
values_of {level} refinement =
    refined_values level refinement.scheme (control_values refinement.controls.numbers) refinement.steps

-- the values that the control numbers are refined to, after a number is added to each
abbrev pub translated_values : {level : Level} → ℤ → Refinement level → List Value
translated_values {level} t refinement =
    refined_values level refinement.scheme (control_values (translated_controls t refinement.controls.numbers)) refinement.steps

-- a number added to each control number is added to each value
abbrev pub IsTranslatedBy : {level : Level} → ℤ → Refinement level → Type 0
IsTranslatedBy t refinement = AreTranslatedBy t (values_of refinement) (translated_values t refinement)
