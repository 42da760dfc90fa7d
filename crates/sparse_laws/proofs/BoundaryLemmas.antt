-- At a complete point an edge of one face is infinitely sharp.
use Rattle.std.proofs.Common.{◌≡◌, ℕ, zero, suc, ◌+◌, ◌<◌, ◌≤◌, Bool, true, false, List, [], ◌∷◌, length, get_or, arith, refl, ap, sym, ◌∙◌}
use Rattle.std.specs.List.{count_by, position_or_len}
use Rattle.std.proofs.Math.Numerals.{one-add}
use Rattle.std.proofs.lemmas.List.Folds.{list_any_at}
use Rattle.subdiv_model.specs.Polygons.{Polygon, same_edge}
use Rattle.subdiv_model.specs.Edges.{all_sides, edges_of, edge_number, has_end, is_boundary}
use Rattle.subdiv_model.specs.Sharpness.{Smooth, Infinite}
use Rattle.subdiv_model.specs.Level.{edge_sharpness_of}
use Rattle.subdiv_model.specs.Child.{refined_level}
use Rattle.subdiv_model.specs.Sparse.{present_points}
use Rattle.number_laws.proofs.CountLemmas.{count-cons, count-some, one_if}
use Rattle.mesh_laws.proofs.SideLemmas.{same_edge-refl}
use Rattle.mesh_laws.proofs.EdgeLemmas.{first_named-once}
use Rattle.mask_laws.proofs.BoundaryLemmas.{is-infinite, sharp-at, sharp-levels}
use Rattle.part_laws.specs.Parts.{renamed}
use Rattle.part_laws.proofs.PartLemmas.{edge-ends, same-boundary, whole-along}
use Rattle.sparse_laws.specs.SparseLevels.{name_in}
use Rattle.sparse_laws.specs.Laws.{SparseRefinement, HasSharpBoundary}
use Rattle.sparse_laws.proofs.FactLemmas.{end-named}
use Rattle.sparse_laws.proofs.SelectedLemmas.{complete-whole, marked-below}

-- an edge that is listed once has the number of its place
own-place : (edges : List (ℕ × ℕ)) (e : ℕ) → e < length edges → count_by (same_edge (get_or edges e (0, 0))) edges ≤ 1 → position_or_len (same_edge (get_or edges e (0, 0))) edges ≡ e
own-place [] e inside once = absurd (omega arith)
own-place (edge ∷ edges) zero inside once = let here = same_edge-refl edge in rw here refl
own-place (edge ∷ edges) (suc e) inside once = go (same_edge item edge) refl (own-place edges e (omega arith))
  where
    item : ℕ × ℕ
    item = get_or edges e (0, 0)

    counted : count_by (same_edge item) (edge ∷ edges) ≡ one_if (same_edge item edge) + count_by (same_edge item) edges
    counted = count-cons (same_edge item) edge edges

    go : (b : Bool) → same_edge item edge ≡ b → (count_by (same_edge item) edges ≤ 1 → position_or_len (same_edge item) edges ≡ e) → position_or_len (same_edge item) (edge ∷ edges) ≡ suc e
    go true is rest =
        let first : one_if (same_edge item edge) ≡ 1 = ap one_if is in
        let there = list_any_at (same_edge item) edges e (0, 0) (omega arith) (same_edge-refl item) in
        let more = count-some (same_edge item) edges there in
        absurd (omega (arith, counted, first, more, once))
    go false is rest =
        let first : one_if (same_edge item edge) ≡ 0 = ap one_if is in
        let place = rest (omega (arith, counted, first, once)) in
        rw (is, one-add, place) refl

own-number : (polygons : List Polygon) (e : ℕ) → e < length (edges_of polygons) → edge_number polygons (get_or (edges_of polygons) e (0, 0)) ≡ e
own-number polygons e inside = own-place (edges_of polygons) e inside (first_named-once (get_or (edges_of polygons) e (0, 0)) (all_sides polygons))

pub sharp-at-complete : (kept : SparseRefinement) (e v : ℕ) → HasSharpBoundary kept.base → get_or kept.sparse.complete v false ≡ true → e < length (edges_of kept.sparse.level.polygons) → has_end v (get_or (edges_of kept.sparse.level.polygons) e (0, 0)) ≡ true → is_boundary kept.sparse.level.polygons (get_or (edges_of kept.sparse.level.polygons) e (0, 0)) ≡ true → get_or kept.sparse.level.edge_sharpness e Smooth ≡ Infinite
sharp-at-complete kept e v sharp mark inside ends on_boundary =
    let s = kept.sparse in
    let name = name_in (present_points kept.base kept.predicate s.depth) in
    let whole = refined_level kept.base s.depth in
    let part = kept.is.part in
    let edge : ℕ × ℕ = get_or (edges_of s.level.polygons) e (0, 0) in
    let listed = list_any_at (same_edge edge) (edges_of s.level.polygons) e (0, 0) inside (same_edge-refl edge) in
    let corners = edge-ends name s.numbers s.level.polygons whole.polygons part.polygons edge listed in
    let along = whole-along s.numbers whole.polygons (name v) (renamed name edge) (end-named name v edge ends) (complete-whole kept v (marked-below kept v mark) mark) in
    let boundary = sym (same-boundary name s.numbers s.level.polygons whole.polygons part.polygons edge corners along) ∙ on_boundary in
    let here = sharp-levels kept.base s.depth (record { over = kept.over; simple = sharp.simple; distinct = sharp.distinct; sharp = sharp.sharp }) in
    ap (λ (n : ℕ). get_or s.level.edge_sharpness n Smooth) (sym (own-number s.level.polygons e inside))
    ∙ part.edges edge listed
    ∙ is-infinite (edge_sharpness_of whole (renamed name edge)) (sharp-at whole here.simple here.sharp (renamed name edge) boundary)
