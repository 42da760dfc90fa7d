-- Points that are whole numbers over a common denominator, coordinate by coordinate.
use Rattle.std.proofs.Common.{◌≡◌, ℕ, zero, suc, ℤ, List, [], ◌∷◌, length, map, arith, sym, ◌∙◌}
use Rattle.std.specs.List.{AllZip}
use Rattle.std.proofs.lemmas.List.{length-map}
use Rattle.subdiv_model.specs.Level.{Level}
use Rattle.subdiv_model.specs.Child.{refined_level}
use Rattle.subdiv_model.specs.Mask.{Scheme, child_masks}
use Rattle.subdiv_model.specs.Value.{Value, whole_value}
use Rattle.subdiv_model.specs.ObjMesh.{ObjMesh}
use Rattle.subdiv_model.specs.Base.{base_level}
use Rattle.subdiv_model.specs.Refined.{mask_value, source_value, points_of_coordinates, refined_values, control_values, over_common}
use Rattle.continued_laws.specs.Laws.{AreSameValues, values_over, IsPointOver, mesh_coordinates, mesh_points}

-- lists of one length give as many values
same-count : (level : Level) (scheme : Scheme) (xs ys : List Value) (k : ℕ) → length xs ≡ length ys
    → length (refined_values level scheme xs k) ≡ length (refined_values level scheme ys k)
same-count level scheme xs ys zero h = h
same-count level scheme xs ys (suc k) h =
    let here = refined_level level k in
    let masks = child_masks here scheme in
    length-map masks (mask_value (source_value here (refined_values level scheme xs k)))
    ∙ sym (length-map masks (mask_value (source_value here (refined_values level scheme ys k))))

count-of : (axis : ℤ × ℤ × ℤ → ℤ) (scheme : Scheme) (mesh : ObjMesh) (k : ℕ)
    → length (mesh_coordinates axis scheme mesh k) ≡ length (refined_values (base_level mesh) scheme (control_values (map axis mesh.points)) k)
count-of axis scheme mesh k =
    length-map (refined_values (base_level mesh) scheme (control_values (map axis mesh.points)) k) (over_common mesh.common)

controls-count : (axis : ℤ × ℤ × ℤ → ℤ) (points : List (ℤ × ℤ × ℤ)) → length (control_values (map axis points)) ≡ length points
controls-count axis points = length-map (map axis points) whole_value ∙ length-map points axis

-- all axes have as many coordinates
axes-count : (a b : ℤ × ℤ × ℤ → ℤ) (scheme : Scheme) (mesh : ObjMesh) (k : ℕ)
    → length (mesh_coordinates a scheme mesh k) ≡ length (mesh_coordinates b scheme mesh k)
axes-count a b scheme mesh k =
    count-of a scheme mesh k
    ∙ same-count (base_level mesh) scheme (control_values (map a mesh.points)) (control_values (map b mesh.points)) k
    (controls-count a mesh.points ∙ sym (controls-count b mesh.points))
    ∙ sym (count-of b scheme mesh k)

-- the three coordinates of points over a common denominator are each the same values
pub record AreSameAxes (common : ℕ) (xs ys zs : List Value) (points : List (ℤ × ℤ × ℤ)) : Type 0 where
  pub x : AreSameValues xs (values_over common (map (λ p. p.0) points))
  pub y : AreSameValues ys (values_over common (map (λ p. p.1) points))
  pub z : AreSameValues zs (values_over common (map (λ p. p.2) points))

axes-of : (common : ℕ) (xs ys zs : List Value) (points : List (ℤ × ℤ × ℤ)) → length xs ≡ length ys → length xs ≡ length zs
    → AllZip (IsPointOver common) (points_of_coordinates xs ys zs) points → AreSameAxes common xs ys zs points
axes-of common [] [] [] [] hy hz h = record { x = tt; y = tt; z = tt }
axes-of common [] [] [] (p ∷ points) hy hz h = absurd h
axes-of common [] (y ∷ ys) zs points hy hz h = absurd (omega arith)
axes-of common [] [] (z ∷ zs) points hy hz h = absurd (omega arith)
axes-of common (x ∷ xs) [] zs points hy hz h = absurd (omega arith)
axes-of common (x ∷ xs) (y ∷ ys) [] points hy hz h = absurd (omega arith)
axes-of common (x ∷ xs) (y ∷ ys) (z ∷ zs) [] hy hz h = absurd h
axes-of common (x ∷ xs) (y ∷ ys) (z ∷ zs) (p ∷ points) hy hz h =
    let rest = axes-of common xs ys zs points (omega arith) (omega arith) h.1 in
    let here = h.0 in
    record { x = (here.x, rest.x); y = (here.y, rest.y); z = (here.z, rest.z) }

-- a mesh whose points are the refined points of another has their coordinates
pub mesh-axes : (scheme : Scheme) (mesh second : ObjMesh) (k : ℕ) → AllZip (IsPointOver second.common) (mesh_points scheme mesh k) second.points
    → AreSameAxes second.common (mesh_coordinates (λ p. p.0) scheme mesh k) (mesh_coordinates (λ p. p.1) scheme mesh k)
    (mesh_coordinates (λ p. p.2) scheme mesh k) second.points
mesh-axes scheme mesh second k h =
    axes-of second.common (mesh_coordinates (λ p. p.0) scheme mesh k) (mesh_coordinates (λ p. p.1) scheme mesh k)
    (mesh_coordinates (λ p. p.2) scheme mesh k) second.points (axes-count (λ p. p.0) (λ p. p.1) scheme mesh k)
    (axes-count (λ p. p.0) (λ p. p.2) scheme mesh k) h
