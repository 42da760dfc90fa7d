-- The points of the cut mesh, set one after another.
use Rattle.std.proofs.Common.{◌≡◌, ℕ, ◌+◌, ◌-◌, ◌<◌, Bool, true, List, [], ◌∷◌, ◌++◌, length, map, drop, slice_set, replicate, append_assoc, arith, ap, sym, ◌∙◌}
use Rattle.std.specs.List.{range_with_len}
use Rattle.std.proofs.lemmas.List.{drop_more, length-replicate, set-append_right}
use Rattle.std.proofs.lemmas.List.FromFn.{map-range_with_len_more, length-map-range_with_len}
use Rattle.subdiv_model.specs.Sharpness.{Sharpness}
use Rattle.point_fans.specs.Built.{Built, built_of}
use Rattle.level_builder.specs.Builder.{with_sharp_vertex, with_complete}
use Rattle.level_topology.proofs.ListPlaceLemmas.{replicate-push}
use Rattle.face_varying.specs.Built.{with_points}

-- one item more behind those that are set
pub set-next : {X : Type 0} (front start : List X) (p : ℕ) (d x : X) → length front ≡ p → p < length start → slice_set (front ++ drop p start) p x ≡ (front ++ x ∷ []) ++ drop (p + 1) start
set-next front start p d x size h =
    let none : p - p ≡ 0 = omega arith in
    set-append_right front (drop p start) p p x size (omega arith)
    ∙ ap (λ k. front ++ slice_set (drop p start) k x) none
    ∙ ap (λ xs. front ++ slice_set xs 0 x) (drop_more start p d h)
    ∙ sym (append_assoc front (x ∷ []) (drop (p + 1) start))

-- one point more
pub points-more : (sharpness : ℕ → Sharpness) (p : ℕ) (s : Sharpness) (old now sharp new : Built) → p < length old.level.vertex_sharpness → p < length old.complete → s ≡ sharpness p
    → now ≡ with_points sharpness p old → sharp ≡ with_sharp_vertex p s now → new ≡ with_complete p sharp → new ≡ with_points sharpness (p + 1) old
points-more sharpness p s old now sharp new inside_sharp inside_marks is before first second =
    let sharps : slice_set (map sharpness (range_with_len 0 p) ++ drop p old.level.vertex_sharpness) p (sharpness p) ≡ map sharpness (range_with_len 0 (p + 1)) ++ drop (p + 1) old.level.vertex_sharpness =
    set-next (map sharpness (range_with_len 0 p)) old.level.vertex_sharpness p s (sharpness p) (length-map-range_with_len sharpness 0 p) inside_sharp
    ∙ ap (λ (xs : List Sharpness). xs ++ drop (p + 1) old.level.vertex_sharpness) (sym (map-range_with_len_more sharpness 0 p p (omega arith))) in
    let marks : slice_set (replicate p true ++ drop p old.complete) p true ≡ replicate (p + 1) true ++ drop (p + 1) old.complete =
    set-next (replicate p true) old.complete p true true (length-replicate p true) inside_marks ∙ ap (λ (xs : List Bool). xs ++ drop (p + 1) old.complete) (sym (replicate-push p true)) in
    second
    ∙ ap (with_complete p) (first ∙ ap (λ (x : Sharpness). with_sharp_vertex p x now) is ∙ ap (with_sharp_vertex p (sharpness p)) before)
    ∙ ap (λ (xs : List Sharpness). built_of old.level.point_count old.level.polygons old.level.holes old.level.edge_sharpness xs old.level.method (slice_set (replicate p true ++ drop p old.complete) p true)) sharps
    ∙ ap (λ (xs : List Bool). built_of old.level.point_count old.level.polygons old.level.holes old.level.edge_sharpness (map sharpness (range_with_len 0 (p + 1)) ++ drop (p + 1) old.level.vertex_sharpness) old.level.method xs) marks
