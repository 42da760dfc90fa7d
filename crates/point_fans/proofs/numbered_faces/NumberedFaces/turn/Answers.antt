use Rattle.std.proofs.Common.{subst, ◌≡◌, ◌∙◌, ◌++◌, ◌∷◌, [], true, ap, sym, length, map, get_or, if◌then◌else◌}
use Rattle.std.specs.List.{All}
use Rattle.std.specs.List.Sorted.{IsPermutation}
use Rattle.subdiv_model.specs.Polygons.{has_corner, polygon_at}
use Rattle.level_topology.specs.Topology.{edge_before, edge_after, end_of, edge_numbers_at}
use Rattle.level_topology.specs.PointRows.{last_face}
use Rattle.point_fans.proofs.TurnLemmas.{inside-there, turned-there, turned-row, edges-inside}
use Rattle.level_topology.proofs.TurnLemmas.{turned-edges}
use Rattle.point_fans.proofs.numbered_faces.NumberedFaces.turn.Goals as goal

pub put_corners-requires-clause-inside : goal.put_corners-requires-clause-inside
put_corners-requires-clause-inside c =
    let polygons = c.args.self.now.level.polygons in
    inside-there polygons c.facts.ensures.simple c.facts.ensures.sides_once c.args.v c.deref.result.now (length c.deref-2.result.now) (ap length c.deref-2.ensures.value ∙ c.in_ok-is_path.ensures.size ∙ c.requires.size)
    (subst (λ xs. All (λ f. has_corner c.args.v (polygon_at polygons f) ≡ true) xs) (sym c.deref.ensures.value)
    (turned-there polygons c.facts.ensures.simple c.facts.ensures.sides_once c.args.v c.in_ok-is_path.is_path c.put_fan.new.faces.items c.in_ok-is_path.ensures.turned))

pub put_ends-requires-clause-inside : goal.put_ends-requires-clause-inside
put_ends-requires-clause-inside c =
    let polygons = c.args.self.now.level.polygons in
    let fan = c.put_fan.new.faces.items in
    let path = c.in_ok-is_path.is_path in
    let edges : c.put_last_edge.new.edges.items ≡ map (edge_before polygons c.args.v) fan ++ (if path then edge_after polygons c.args.v (last_face fan) ∷ [] else []) =
    c.in_ok-put_last_edge.ensures
    ∙ ap (λ xs. xs ++ (if path then edge_after polygons c.args.v (last_face c.deref-5.result.now) ∷ [] else [])) (c.in_ok-put_edges_before.ensures ∙ ap (map (edge_before polygons c.args.v)) c.deref-3.ensures.value)
    ∙ ap (λ fs. map (edge_before polygons c.args.v) fan ++ (if path then edge_after polygons c.args.v (last_face fs) ∷ [] else [])) c.deref-5.ensures.value in
    edges-inside polygons c.args.v c.deref-7.result.now
    (subst (λ xs. IsPermutation (edge_numbers_at polygons c.args.v) xs) (sym c.deref-7.ensures.value)
    (turned-edges polygons c.facts.ensures.simple c.facts.ensures.sides_once c.args.v path fan c.put_last_edge.new.edges.items c.in_ok-is_path.ensures.turned edges).0)

pub returns-clause-row : goal.returns-clause-row
returns-clause-row c =
    let polygons = c.args.self.now.level.polygons in
    let fan = c.put_fan.new.faces.items in
    let path = c.in_ok-is_path.is_path in
    let edges : c.put_last_edge.new.edges.items ≡ map (edge_before polygons c.args.v) fan ++ (if path then edge_after polygons c.args.v (last_face fan) ∷ [] else []) =
    c.in_ok-put_last_edge.ensures
    ∙ ap (λ xs. xs ++ (if path then edge_after polygons c.args.v (last_face c.deref-5.result.now) ∷ [] else [])) (c.in_ok-put_edges_before.ensures ∙ ap (map (edge_before polygons c.args.v)) c.deref-3.ensures.value)
    ∙ ap (λ fs. map (edge_before polygons c.args.v) fan ++ (if path then edge_after polygons c.args.v (last_face fs) ∷ [] else [])) c.deref-5.ensures.value in
    turned-row polygons c.facts.ensures.simple c.facts.ensures.sides_once c.args.v path fan c.put_corners.new.at.items c.put_last_edge.new.edges.items c.put_ends.new.ends.items c.deref-2.result.now c.in_ok-is_path.ensures.turned
    (λ f has. ap (λ xs. get_or xs f 0) c.deref-2.ensures.value ∙ c.in_ok-is_path.ensures.corners f has)
    (c.in_ok-put_corners.ensures ∙ ap (map (λ f. get_or c.deref-2.result.now f 0)) c.deref.ensures.value)
    edges
    (c.in_ok-put_ends.ensures ∙ ap (map (end_of polygons c.args.v)) c.deref-7.ensures.value)

pub put_edges_before-requires-clause-there : goal.put_edges_before-requires-clause-there
put_edges_before-requires-clause-there c =
    let polygons = c.args.self.now.level.polygons in
    subst (λ xs. All (λ f. has_corner c.args.v (polygon_at polygons f) ≡ true) xs) (sym c.deref-3.ensures.value)
    (turned-there polygons c.facts.ensures.simple c.facts.ensures.sides_once c.args.v c.in_ok-is_path.is_path c.put_fan.new.faces.items c.in_ok-is_path.ensures.turned)

pub put_last_edge-requires-clause-there : goal.put_last_edge-requires-clause-there
put_last_edge-requires-clause-there c =
    let polygons = c.args.self.now.level.polygons in
    subst (λ xs. All (λ f. has_corner c.args.v (polygon_at polygons f) ≡ true) xs) (sym c.deref-5.ensures.value)
    (turned-there polygons c.facts.ensures.simple c.facts.ensures.sides_once c.args.v c.in_ok-is_path.is_path c.put_fan.new.faces.items c.in_ok-is_path.ensures.turned)
