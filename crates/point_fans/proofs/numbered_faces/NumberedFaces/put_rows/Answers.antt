use Rattle.std.proofs.Common.{subst, ◌≡◌, ◌∙◌, ◌++◌, ◌∷◌, [], ℕ, List, ap, sym, arith, rules, length, map}
use Rattle.std.specs.List.{sum_by}
use Rattle.std.specs.List.Sorted.{IsPermutation}
use Rattle.subdiv_model.specs.Edges.{edges_of}
use Rattle.level_topology.specs.Packed.{Paired}
use Rattle.level_topology.specs.ListPlaces.{pair_list}
use Rattle.point_fans.specs.Built.{Built}
use Rattle.level_topology.proofs.ListPlaceLemmas.{pairs-total}
use Rattle.level_topology.proofs.TurnLemmas.{edges-listed}
use Rattle.point_fans.proofs.PointPlaceLemmas.{push-fits}
use Rattle.level_topology.proofs.PointRowLemmas.{sum-push, rows-none, rows-push, below-none}
use Rattle.std.proofs.lemmas.List.{length-map}
use Rattle.level_topology.specs.Topology.{corner_of, end_of}
use Rattle.point_fans.proofs.numbered_faces.NumberedFaces.put_rows.Goals as goal

pub push-requires-clause-short : goal.push-requires-clause-short
push-requires-clause-short c =
    omega (arith, ap length c.deref.ensures.value, c.loop-v.invariant.face_items, (push-fits c.args.self.now.level.polygons c.args.places.now.faces.places.items.items c.args.places.now.faces.places.owners.items c.args.places.now.faces.places.within.items c.loop-v.v (sum_by length c.loop-v.faces.lists) c.ordered_row.new.turning.row.faces.items c.requires.places.corners.placed c.loop-v.invariant.face_sum c.in_ok-ordered_row.ensures.row.faces_are).1)

pub push-requires-in-loop-v-clause-short : goal.push-requires-in-loop-v-clause-short
push-requires-in-loop-v-clause-short c =
    omega (
      arith,
      ap length c.deref-in-loop-v-2.ensures.value,
      c.loop-v.invariant.edge_items,
      pairs-total (edges_of c.args.self.now.level.polygons),
      (push-fits (map pair_list (edges_of c.args.self.now.level.polygons)) c.args.places.now.edges.places.items.items c.args.places.now.edges.places.owners.items c.args.places.now.edges.places.within.items c.loop-v.v (sum_by length c.loop-v.edges.lists) c.ordered_row.new.turning.row.edges.items c.requires.places.ends.placed c.loop-v.invariant.edge_sum
          (subst (λ xs. IsPermutation xs c.ordered_row.new.turning.row.edges.items) (sym (edges-listed c.args.self.now.level.polygons c.loop-v.v)) c.in_ok-ordered_row.ensures.row.edges_are)).1,
    )

pub loop-v-preserved : goal.loop-v-preserved
loop-v-preserved c =
    let faces : c.push.new.self.lists ≡ c.loop-v.faces.lists ++ c.ordered_row.new.turning.row.faces.items ∷ [] = ap (λ (p : Paired ℕ). p.lists) c.push.ensures ∙ ap (λ (l : List ℕ). c.loop-v.faces.lists ++ l ∷ []) c.deref.ensures.value in
    let at : c.push.new.self.beside ≡ c.loop-v.faces.beside ++ c.ordered_row.new.turning.row.faces_at.items ∷ [] = ap (λ (p : Paired ℕ). p.beside) c.push.ensures ∙ ap (λ (l : List ℕ). c.loop-v.faces.beside ++ l ∷ []) c.deref-in-loop-v.ensures.value in
    let edges : c.push-in-loop-v.new.self.lists ≡ c.loop-v.edges.lists ++ c.ordered_row.new.turning.row.edges.items ∷ [] = ap (λ (p : Paired ℕ). p.lists) c.push-in-loop-v.ensures ∙ ap (λ (l : List ℕ). c.loop-v.edges.lists ++ l ∷ []) c.deref-in-loop-v-2.ensures.value in
    let ends : c.push-in-loop-v.new.self.beside ≡ c.loop-v.edges.beside ++ c.ordered_row.new.turning.row.edges_at.items ∷ [] = ap (λ (p : Paired ℕ). p.beside) c.push-in-loop-v.ensures ∙ ap (λ (l : List ℕ). c.loop-v.edges.beside ++ l ∷ []) c.deref-in-loop-v-3.ensures.value in
    record {
      rows = rows-push c.args.self.now.level.polygons c.args.self.now.complete c.loop-v.v c.loop-v.faces.lists c.loop-v.faces.beside c.loop-v.edges.lists c.loop-v.edges.beside c.loop-v.invariant.rows c.in_ok-ordered_row.ensures.row faces at edges ends;
      face_sum = sum-push _ _ _ faces ∙ (push-fits c.args.self.now.level.polygons c.args.places.now.faces.places.items.items c.args.places.now.faces.places.owners.items c.args.places.now.faces.places.within.items c.loop-v.v (sum_by length c.loop-v.faces.lists) c.ordered_row.new.turning.row.faces.items c.requires.places.corners.placed c.loop-v.invariant.face_sum c.in_ok-ordered_row.ensures.row.faces_are).0;
      edge_sum = sum-push _ _ _ edges ∙ (push-fits (map pair_list (edges_of c.args.self.now.level.polygons)) c.args.places.now.edges.places.items.items c.args.places.now.edges.places.owners.items c.args.places.now.edges.places.within.items c.loop-v.v (sum_by length c.loop-v.edges.lists) c.ordered_row.new.turning.row.edges.items c.requires.places.ends.placed c.loop-v.invariant.edge_sum
          (subst (λ xs. IsPermutation xs c.ordered_row.new.turning.row.edges.items) (sym (edges-listed c.args.self.now.level.polygons c.loop-v.v)) c.in_ok-ordered_row.ensures.row.edges_are)).0;
      size = c.ordered_row.ensures.size ∙ c.loop-v.invariant.size;
      face_limit = ap (λ (p : Paired ℕ). p.list_limit) c.push.ensures ∙ c.loop-v.invariant.face_limit;
      face_items = ap (λ (p : Paired ℕ). p.item_limit) c.push.ensures ∙ c.loop-v.invariant.face_items;
      edge_limit = ap (λ (p : Paired ℕ). p.list_limit) c.push-in-loop-v.ensures ∙ c.loop-v.invariant.edge_limit;
      edge_items = ap (λ (p : Paired ℕ). p.item_limit) c.push-in-loop-v.ensures ∙ c.loop-v.invariant.edge_items;
    }

pub loop-v-init : goal.loop-v-init
loop-v-init c =
    let n : c.len-points.result ≡ length c.self.inside.parts.complete.items = search rules in
    let points : c.len-points.result ≡ c.args.self.now.level.point_count = n ∙ ap (λ (b : Built). b.level.point_count) c.self.view_is in
    record {
      rows = rows-none c.args.self.now.level.polygons c.args.self.now.complete c.args.faces.now.lists c.args.faces.now.beside c.args.edges.now.lists c.args.edges.now.beside
          (ap (λ (p : Paired ℕ). p.lists) c.requires.no_faces) (ap (λ (p : Paired ℕ). p.beside) c.requires.no_faces) (ap (λ (p : Paired ℕ). p.lists) c.requires.no_edges) (ap (λ (p : Paired ℕ). p.beside) c.requires.no_edges);
      face_sum = ap (λ (p : Paired ℕ). sum_by length p.lists) c.requires.no_faces ∙ sym (below-none c.args.places.now.faces.places.items.items);
      edge_sum = ap (λ (p : Paired ℕ). sum_by length p.lists) c.requires.no_edges ∙ sym (below-none c.args.places.now.edges.places.items.items);
      size = c.requires.size;
      face_limit = ap (λ (p : Paired ℕ). p.list_limit) c.requires.no_faces ∙ sym points;
      face_items = ap (λ (p : Paired ℕ). p.item_limit) c.requires.no_faces;
      edge_limit = ap (λ (p : Paired ℕ). p.list_limit) c.requires.no_edges ∙ sym points;
      edge_items = ap (λ (p : Paired ℕ). p.item_limit) c.requires.no_edges;
    }

pub push-requires-clause-equal : goal.push-requires-clause-equal
push-requires-clause-equal c =
    ap length (c.deref-in-loop-v.ensures.value ∙ c.in_ok-ordered_row.ensures.row.corners_are) ∙ length-map c.ordered_row.new.turning.row.faces.items (corner_of c.args.self.now.level.polygons c.loop-v.v) ∙ ap length (sym c.deref.ensures.value)

pub push-requires-in-loop-v-clause-equal : goal.push-requires-in-loop-v-clause-equal
push-requires-in-loop-v-clause-equal c =
    ap length (c.deref-in-loop-v-3.ensures.value ∙ c.in_ok-ordered_row.ensures.row.ends_are) ∙ length-map c.ordered_row.new.turning.row.edges.items (end_of c.args.self.now.level.polygons c.loop-v.v) ∙ ap length (sym c.deref-in-loop-v-2.ensures.value)
