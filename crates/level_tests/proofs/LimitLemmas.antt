-- The conditions of limit points on a level whose points are complete and whose edges have two faces.
use Rattle.std.proofs.Common.{◌≡◌, ℕ, zero, suc, ◌<◌, Bool, true, false, IsTrue, not, ◌||◌, nat_eq, List, [], ◌∷◌, length, get_or, replicate, arith, refl, ap, ◌∙◌}
use Rattle.std.proofs.lemmas.List.{get_or_default}
use Rattle.std.proofs.lemmas.List.Sums.{list_all-from_AllPass}
use Rattle.subdiv_model.specs.Edges.{edges_of, faces_of_edge, is_boundary}
use Rattle.subdiv_model.specs.Level.{Level, edge_sharpness_of}
use Rattle.subdiv_model.specs.Feature.{is_infinite}
use Rattle.mask_laws.specs.SharpBoundary.{has_sharp_boundary}
use Rattle.level_topology.specs.Topology.{edge_at}

-- all marks are true
pub all-marked : (marks : List Bool) (points : ℕ) → length marks ≡ points → ((v : ℕ) → v < points → get_or marks v false ≡ true) → marks ≡ replicate points true
all-marked [] zero count each = refl
all-marked [] (suc n) count each = absurd (omega (arith, count))
all-marked (mark ∷ marks) zero count each = absurd (omega (arith, count))
all-marked (mark ∷ marks) (suc n) count each =
    let first : mark ≡ true = each 0 (omega arith) in
    let rest : marks ≡ replicate n true = all-marked marks n (omega (arith, count)) (λ v h. each (suc v) (omega (arith, h))) in
    ap (λ b. b ∷ marks) first ∙ ap (λ bs. true ∷ bs) rest

-- no edge has one face
pub closed-sharp : (level : Level) → ((e : ℕ) → e < length (edges_of level.polygons) → length (faces_of_edge level.polygons (edge_at level.polygons e)) ≡ 2)
    → IsTrue (has_sharp_boundary level)
closed-sharp level closed =
    list_all-from_AllPass (λ edge. not (is_boundary level.polygons edge) || is_infinite (edge_sharpness_of level edge)) (edges_of level.polygons) (λ e d h.
    let edge : ℕ × ℕ = get_or (edges_of level.polygons) e d in
    let faces : length (faces_of_edge level.polygons edge) ≡ 2 =
    ap (λ s. length (faces_of_edge level.polygons s)) (get_or_default (edges_of level.polygons) e d (0, 0) h) ∙ closed e h in
    ap (λ n. not (nat_eq n 1) || is_infinite (edge_sharpness_of level edge)) faces)
