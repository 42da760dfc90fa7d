use Rattle.std.proofs.Common.{rules, ◌≡◌, ℕ, List, ◌<◌, length, map, get_or, vec_len, arith, ap, ◌∙◌, subst}
use Rattle.std.specs.List.{sum_by}
use Rattle.std.proofs.lemmas.List.{get_or_read, length-map}
use Rattle.level_topology.specs.Child.{child_of}
use Rattle.level_topology.specs.declared.child_tables.ChildTables.{ChildTables}
use Rattle.level_topology.specs.ChildTables.{origin_of, place_of, corner_number, IsInverse, child_in, AreOfChild}
use Rattle.level_topology.proofs.ChildLemmas.{edges-corners}
use Rattle.level_topology.proofs.ChildMadeLemmas.{place-faces, place-corners, place-pairs, last-start, starts-some, made}
use Rattle.level_topology.proofs.child_tables.tables_of.Goals as goal

pub number_points-requires-clause-whole : goal.number_points-requires-clause-whole
number_points-requires-clause-whole c =
    omega (arith, c.points-vertices.ensures, c.faces-faces.ensures, c.edges.ensures, c.facts.ensures.small.points, c.facts.ensures.small.faces, c.facts.ensures.small.corners, edges-corners c.args.parent.now.level.polygons)

pub index-requires : goal.index-requires
index-requires c =
    let n : vec_len c.in_ok-starts.starts ≡ length c.in_ok-starts.starts.items = search rules in
    omega (arith, n, c.faces-faces.ensures, ap length c.in_ok-starts.ensures.items, starts-some c.args.parent.now.level.polygons c.corner_starts.result.now c.corner_starts.ensures.gaps c.corner_starts.ensures.ascend)

pub place_faces-requires-clause-faces : goal.place_faces-requires-clause-faces
place_faces-requires-clause-faces c =
    rw (c.deref.ensures.value, c.in_ok-starts.ensures.items)
    (place-faces c.args.parent.now.level.polygons c.corner_starts.result.now c.corner_starts.ensures.gaps c.corner_starts.ensures.ascend (map place_of c.args.places.now) c.requires.places_within)

pub place_faces-requires-clause-within : goal.place_faces-requires-clause-within
place_faces-requires-clause-within c =
    let polygons = c.args.parent.now.level.polygons in
    let starts = c.corner_starts.result.now in
    let some = starts-some polygons starts c.corner_starts.ensures.gaps c.corner_starts.ensures.ascend in
    let inside : c.faces-faces.result < length c.in_ok-starts.starts.items = omega (arith, c.faces-faces.ensures, ap length c.in_ok-starts.ensures.items, some) in
    let last : c.index.result.now ≡ sum_by length polygons =
    get_or_read c.in_ok-starts.starts.items c.faces-faces.result c.index.result.now inside c.index.ensures 0
    ∙ ap (λ (ss : List ℕ). get_or ss c.faces-faces.result 0) c.in_ok-starts.ensures.items ∙ ap (λ (n : ℕ). get_or starts n 0) c.faces-faces.ensures
    ∙ last-start polygons starts c.corner_starts.ensures.gaps c.corner_starts.ensures.ascend in
    rw (c.deref.ensures.value, c.in_ok-starts.ensures.items, last)
    (place-corners polygons starts c.corner_starts.ensures.gaps c.corner_starts.ensures.ascend (map place_of c.args.places.now) c.requires.places_within)

pub place_faces-requires-clause-once : goal.place_faces-requires-clause-once
place_faces-requires-clause-once c =
    rw (c.deref.ensures.value, c.in_ok-starts.ensures.items)
    (place-pairs c.args.parent.now.level.polygons c.corner_starts.result.now c.corner_starts.ensures.gaps c.corner_starts.ensures.ascend (map place_of c.args.places.now) c.requires.places_within c.requires.places_once)

both : (c : goal.In_ok-numbers)
    → let t : ChildTables = record {
      vertices = c.points-vertices.result;
      faces = c.faces-faces.result;
      numbers = c.in_ok-numbers.numbers;
      points = c.in_ok-numbers.points;
      starts = c.in_ok-starts.starts;
      child_faces = c.in_ok-child_faces.child_faces;
    } in
    (child_in c.args.level.now t ≡ child_of c.args.parent.now c.args.level.now (map origin_of c.args.origins.now) (map place_of c.args.places.now)) × AreOfChild c.args.level.now t
both c =
    let t : ChildTables = record {
      vertices = c.points-vertices.result;
      faces = c.faces-faces.result;
      numbers = c.in_ok-numbers.numbers;
      points = c.in_ok-numbers.points;
      starts = c.in_ok-starts.starts;
      child_faces = c.in_ok-child_faces.child_faces;
    } in
    let starts = c.corner_starts.result.now in
    let some = starts-some c.args.parent.now.level.polygons starts c.corner_starts.ensures.gaps c.corner_starts.ensures.ascend in
    let inside : c.faces-faces.result < length c.in_ok-starts.starts.items = omega (arith, c.faces-faces.ensures, ap length c.in_ok-starts.ensures.items, some) in
    let last =
    get_or_read c.in_ok-starts.starts.items c.faces-faces.result c.index.result.now inside c.index.ensures 0
    ∙ ap (λ (ss : List ℕ). get_or ss c.faces-faces.result 0) c.in_ok-starts.ensures.items ∙ ap (λ (n : ℕ). get_or starts n 0) c.faces-faces.ensures in
    let inverse =
    subst (λ (ss : List ℕ). IsInverse (map (corner_number ss) (map place_of c.args.places.now)) c.in_ok-child_faces.child_faces.items) c.deref.ensures.value c.in_ok-child_faces.ensures.inverse in
    made c.args.parent.now c.args.level.now (map origin_of c.args.origins.now) (map place_of c.args.places.now) t starts c.edges.result c.index.result.now
    c.facts.ensures c.facts-2.ensures c.requires c.points-vertices.ensures c.faces-faces.ensures c.edges.ensures c.in_ok-numbers.ensures
    c.in_ok-starts.ensures.items c.corner_starts.ensures.gaps c.corner_starts.ensures.ascend last inverse c.in_ok-child_faces.ensures.count

pub returns-clause-same : goal.returns-clause-same
returns-clause-same c = (both c).0

pub returns-clause-tables : goal.returns-clause-tables
returns-clause-tables c = (both c).1

pub place_faces-requires-clause-few : goal.place_faces-requires-clause-few
place_faces-requires-clause-few c = omega (arith, c.requires.each_face, c.facts-2.ensures.small.faces, length-map c.args.places.now place_of)

pub number_points-requires-clause-few : goal.number_points-requires-clause-few
number_points-requires-clause-few c = omega (arith, c.requires.each_point, c.facts-2.ensures.small.points, length-map c.args.origins.now origin_of)
