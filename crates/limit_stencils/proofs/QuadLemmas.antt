-- Quads, and the terms of those at a vertex.
use Rattle.std.proofs.Common.{◌≡◌, ℕ, ◌<◌, ◌≤◌, true, nat_eq, List, [], length, get_or, arith, sym, ap, subst, ◌∙◌}
use Rattle.std.specs.List.{list_all}
use Rattle.std.proofs.lemmas.Bool.{eq-eqb, eqb-true}
use Rattle.std.proofs.lemmas.List.{get_or_default}
use Rattle.std.proofs.lemmas.List.Sums.{list_all-from_AllPass}
use Rattle.subdiv_model.specs.Polygons.{Polygon, polygon_at}
use Rattle.subdiv_model.specs.Level.{Level}
use Rattle.subdiv_model.specs.Limit.{has_quads}
use Rattle.mesh_laws.proofs.ClosedLemmas.{all-at}
use Rattle.level_topology.specs.Topology.{Topology, IsTopology}
use Rattle.level_topology.proofs.LawLemmas.{faces-each}
use Rattle.mask_rules.specs.Around.{faces_in}

pub all-quads : (polygons : List Polygon) (n : ℕ) → length polygons ≤ n → ((g : ℕ) → g < n → length (polygon_at polygons g) ≡ 4)
    → list_all (λ polygon. nat_eq (length polygon) 4) polygons ≡ true
all-quads polygons n all each =
    list_all-from_AllPass (λ polygon. nat_eq (length polygon) 4) polygons (λ k d h.
    eq-eqb _ 4 (ap (λ (polygon : Polygon). length polygon) (get_or_default polygons k d [] h) ∙ each k (omega arith)))

pub quad-four : (level : Level) (face : ℕ) → face < length level.polygons → has_quads level ≡ true → length (polygon_at level.polygons face) ≡ 4
quad-four level face exists quads = eqb-true _ 4 (all-at (λ polygon. nat_eq (length polygon) 4) level.polygons face [] exists quads)

-- a face at a vertex exists
pub quad-there : (t : Topology) (v i : ℕ) → IsTopology t → v < t.level.point_count → (faces : List ℕ) → faces ≡ faces_in t v → i < length faces
    → get_or faces i 0 < length t.level.polygons
quad-there t v i is inside faces e there =
    let within : i < length (faces_in t v) = subst (λ l. i < length l) e there in
    subst (λ l. get_or l i 0 < length t.level.polygons) (sym e) (faces-each t v i is inside within).exists
