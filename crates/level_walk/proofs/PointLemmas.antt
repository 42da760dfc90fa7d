-- The points at the boundary, by the edges that are listed at each point.
use Rattle.std.proofs.Common.{◌≡◌, ℕ, suc, ◌+◌, ◌<◌, Bool, true, false, ◌&&◌, ◌||◌, List, [], ◌∷◌, length, get_or, arith, refl, ap, sym, ◌∙◌}
use Rattle.std.specs.List.{list_any}
use Rattle.std.proofs.lemmas.List.Sorted.{list_any-IsPermutation, length_permutation}
use Rattle.subdiv_model.specs.Lists.{places_from}
use Rattle.subdiv_model.specs.Edges.{edges_of, faces_of_point, is_boundary, has_end}
use Rattle.subdiv_model.specs.Base.{is_at_boundary}
use Rattle.level_topology.specs.Topology.{Topology, IsTopology, edge_at}
use Rattle.level_topology.proofs.LawLemmas.{numbers-at}

-- some place of a kept item passes exactly where some item is kept and passes
any-places : {X : Type 0} (at : ℕ → Bool) (test keep : X → Bool) (d : X) (place : ℕ) (xs : List X) → ((j : ℕ) → j < length xs → at (place + j) ≡ test (get_or xs j d)) → list_any at (places_from place keep xs) ≡ list_any (λ x. test x && keep x) xs
any-places at test keep d place [] h = refl
any-places at test keep d place (x ∷ xs) h =
    let here : place ≡ place + 0 = omega arith in
    let first : at place ≡ test x = ap at here ∙ h 0 (omega arith) in
    let behind = any-places at test keep d (place + 1) xs (λ j inside. next j ∙ h (suc j) (omega arith)) in
    go (keep x) refl first behind
  where
    next : (j : ℕ) → at (place + 1 + j) ≡ at (place + suc j)
    next j = let same : place + 1 + j ≡ place + suc j = omega arith in ap at same

    kept : (b rest : Bool) → (b && true) || rest ≡ b || rest
    kept true rest = refl
    kept false rest = refl

    left : (b rest : Bool) → (b && false) || rest ≡ rest
    left true rest = refl
    left false rest = refl

    go : (b : Bool) → keep x ≡ b → at place ≡ test x → list_any at (places_from (place + 1) keep xs) ≡ list_any (λ y. test y && keep y) xs → list_any at (places_from place keep (x ∷ xs)) ≡ list_any (λ y. test y && keep y) (x ∷ xs)
    go true e first behind = rw (e, first, behind) (sym (kept (test x) _))
    go false e first behind = rw (e, behind) (sym (left (test x) _))

-- a point is at the boundary where one of the edges that are listed there has one face
pub boundary-listed : (t : Topology) (v : ℕ) → IsTopology t → v < t.level.point_count → list_any (λ e. is_boundary t.level.polygons (edge_at t.level.polygons e)) (get_or t.edges_at v []) ≡ is_at_boundary t.level.polygons v
boundary-listed t v is inside =
    let polygons = t.level.polygons in
    let at : ℕ → Bool = λ e. is_boundary polygons (edge_at polygons e) in
    sym (list_any-IsPermutation at _ _ (is.listed v inside).edges)
    ∙ ap (list_any at) (numbers-at polygons v)
    ∙ any-places at (is_boundary polygons) (has_end v) (0, 0) 0 (edges_of polygons) (λ j h. let same : 0 + j ≡ j = omega arith in ap at same)

-- as many faces are listed at a point as there are
pub faces-listed : (t : Topology) (v : ℕ) → IsTopology t → v < t.level.point_count → length (get_or t.faces_at v []) ≡ length (faces_of_point t.level.polygons v)
faces-listed t v is inside = length_permutation _ _ (is.listed v inside).faces
