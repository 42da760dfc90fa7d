-- The level of a part from its tables.
use Rattle.std.proofs.Common.{◌≡◌, ℕ, ◌<◌, ◌≤◌, ◌^◌, Bool, true, false, List, [], length, map, take, get_or, arith, refl, ap, sym, ◌∙◌, subst}
use Rattle.std.specs.List.{All, list_all, list_any, sum_by}
use Rattle.std.proofs.lemmas.List.{get_or-map, length-map, take_all}
use Rattle.subdiv_model.specs.Polygons.{Polygon, is_over, has_distinct_sides, same_edge}
use Rattle.subdiv_model.specs.Edges.{all_sides, edges_of, edge_number}
use Rattle.subdiv_model.specs.Manifold.{is_simple, has_one_fan, HasOneFan}
use Rattle.subdiv_model.specs.Sharpness.{Sharpness, Smooth, Method}
use Rattle.subdiv_model.specs.Child.{child_polygons, child_level}
use Rattle.mesh_laws.proofs.WalkLemmas.{one_fan-test}
use Rattle.sharpness_rules.specs.View.{sharpness_of}
use Rattle.sharpness_rules.proofs.ViewLemmas.{ring-proper}
use Rattle.part_laws.specs.Parts as laws
use Rattle.part_laws.specs.LevelParts.{IsLevelPart}
use Rattle.part_laws.proofs.JoinLemmas.{corner-in}
use Rattle.part_laws.proofs.FanLemmas.{fan-from}
use Rattle.level_topology.specs.Packed.{Paired}
use Rattle.level_topology.specs.Numbering.{Numbered, numbered, IsNumbering, faces_so_far}
use Rattle.level_topology.specs.View.{faces_of_pair}
use Rattle.level_topology.specs.Topology.{Topology, IsTopology, IsSmallEnough, face_edges_of}
use Rattle.child_slots.specs.Slotted.{Slotted}
use Rattle.child_slots.specs.Parts.{Part, part_polygons, whole_quad}
use Rattle.child_slots.specs.Walked.{ArePartEdges, numbered_of}
use Rattle.child_slots.specs.HalfTable.{HasHalves}
use Rattle.child_slots.proofs.SlotLemmas.{over-of}
use Rattle.child_slots.proofs.PartLemmas.{quads-count, quads-simple, first-distinct}
use Rattle.child_slots.proofs.ChildEdgeLemmas.{numbering-all}
use Rattle.point_fans.specs.Built.{Built, IsBuilt, AreFans, built_of}
use Rattle.sparse_refiner.specs.Shapes.{children_at, name_in, AreNames, AreMarks}
use Rattle.sparse_refiner.specs.Tables.{slot_sharpness, child_sharpness, hole_at, ArePartTables}
use Rattle.sparse_refiner.specs.declared.tables.PartTables.{PartTables}
use Rattle.sparse_refiner.proofs.PutLemmas.{quads-corners}
use Rattle.sparse_refiner.proofs.NameLemmas.{quads-over, is-part}
use Rattle.sparse_refiner.proofs.SharpLemmas.{edges-sharp, holes-same, points-sharp}

-- a numbering stays one with any sharpness
numbering-with : (polygons : List Polygon) (n : Numbered) (ends faces : List (ℕ × ℕ)) (sharpness : List Sharpness) (limit : ℕ) → IsNumbering polygons [] n → ends ≡ n.ends → faces ≡ n.faces → length sharpness ≡ length ends → IsNumbering polygons [] (numbered ends faces sharpness limit)
numbering-with polygons n ends faces sharpness limit is p q long = record {
  ends = p ∙ is.ends;
  faces_listed = ap length q ∙ is.faces_listed ∙ sym (ap length p);
  sharp_listed = long;
  faces = λ e h.
      ap (λ (fs : List (ℕ × ℕ)). faces_of_pair (get_or fs e (0, 0))) q
      ∙ is.faces e (omega (arith, h, ap length p))
      ∙ ap (λ (es : List (ℕ × ℕ)). faces_so_far polygons [] (get_or es e (0, 0))) (sym p);
}

-- a point without faces has one fan, which is empty
no-fan : (polygons : List Polygon) (v : ℕ) → laws.is_corner polygons v ≡ false → HasOneFan polygons v
no-fan polygons v none = record {
  fan = [];
  once = refl;
  all = λ f. (
    λ h. absurd (cc),
    λ h. let there = corner-in polygons v f h in absurd (cc),
  );
  path = tt;
}

module _ (t : Topology) (is : IsTopology t) (p : Part) (n : Slotted) (are : ArePartEdges t.level p n) (names : List ℕ) (known : AreNames p.has p.number names) (few : length p.places ≤ 2 ^ 22)
    (complete : List Bool) (marks : AreMarks t.level (children_at t.level.polygons p.places) names complete) (halves : List Sharpness) (tables : PartTables) (made : ArePartTables t.level p n.slots names halves tables) (method : Method) where
  abbrev points : ℕ
  points = t.level.point_count

  abbrev polygons : List Polygon
  polygons = t.level.polygons

  abbrev quads : List Polygon
  quads = part_polygons t.level.point_count t.level.polygons p

  abbrev pub built : Built
  built = built_of (length complete) tables.faces.lists tables.holes.items (map sharpness_of tables.edge_sharpness.items) (map sharpness_of tables.vertex_sharpness.items) method complete

  count : length quads ≡ length p.places
  count = quads-count points polygons (over-of t is) is.simple p are.part

  all-quads : take (length p.places) quads ≡ quads
  all-quads = take_all (length p.places) quads (omega (arith, count))

  pub lists-are : tables.faces.lists ≡ quads
  lists-are = ap (λ (x : Paired ℕ). x.lists) made.faces ∙ all-quads

  simple : list_all is_simple quads ≡ true
  simple = quads-simple points polygons (over-of t is) is.simple p are.part

  sides-once : has_distinct_sides (all_sides quads) ≡ true
  sides-once = ap (λ qs. has_distinct_sides (all_sides qs)) (sym all-quads) ∙ first-distinct points polygons (over-of t is) is.simple p are.part is.sides_once (length p.places) (omega arith)

  small : IsSmallEnough built.level
  small = record {
    points = omega (arith, marks.count, known.few);
    faces = omega (arith, ap length lists-are, count, few);
    corners = omega (arith, ap (sum_by length) lists-are, ap (sum_by length) all-quads, quads-corners points polygons p.number (length p.places) p.places, few);
    sizes = subst (All (λ (polygon : Polygon). length polygon ≤ 2 ^ 16)) (sym lists-are) (λ k d h.
        let four : length (get_or quads k d) ≡ 4 = ap length (get_or-map (λ x. map p.number (whole_quad points polygons x)) p.places k (0, 0) d (omega (arith, h, count))) in
        omega (arith, four));
  }

  -- the tables are those of a level
  pub is-built : (ends faces : List (ℕ × ℕ)) (limit : ℕ) → ends ≡ n.ends → faces ≡ n.faces → IsBuilt built (numbered ends faces (map sharpness_of tables.edge_sharpness.items) limit) tables.faces.beside
  is-built ends faces limit same others = record {
    over = ap (λ qs. is_over (length complete) qs) lists-are ∙ ap (λ k. is_over k quads) marks.count ∙ quads-over t is p are.part names known;
    holes = ap length made.holes ∙ length-map p.places (hole_at t.level) ∙ sym count ∙ sym (ap length lists-are);
    vertices = ap length made.points ∙ length-map names (child_sharpness t.level) ∙ sym marks.count;
    marks = refl;
    edge_proper = ring-proper tables.edge_sharpness.items;
    vertex_proper = ring-proper tables.vertex_sharpness.items;
    simple = ap (list_all is_simple) lists-are ∙ simple;
    sides_once = ap (λ qs. has_distinct_sides (all_sides qs)) lists-are ∙ sides-once;
    small = small;
    numbering =
        numbering-with tables.faces.lists (numbered_of n) ends faces (map sharpness_of tables.edge_sharpness.items) limit (subst (λ (qs : List Polygon). IsNumbering qs [] (numbered_of n)) (sym lists-are) (numbering-all t is p n are)) same others
        (ap length made.edges ∙ length-map n.slots (slot_sharpness halves) ∙ are.listed ∙ sym (ap length same));
    sharpness = refl;
    face_edges = ap (λ (x : Paired ℕ). x.beside) made.faces ∙ ap (map (face_edges_of quads)) all-quads ∙ sym (ap (λ (qs : List Polygon). map (face_edges_of qs) qs) lists-are);
  }

  -- at each marked point the faces are one fan
  pub are-fans : AreFans built
  are-fans = λ v h mark.
      let low : v < length names = omega (arith, h, marks.count) in
      ap (λ qs. has_one_fan qs v) lists-are ∙ one_fan-test quads simple sides-once v (go v low mark (laws.is_corner quads v) refl)
    where
      go : (v : ℕ) → v < length names → get_or complete v false ≡ true → (b : Bool) → laws.is_corner quads v ≡ b → HasOneFan quads v
      go v low mark true e = fan-from (name_in names) (children_at polygons p.places) quads (child_polygons points polygons) (is-part t is p are.part names known) v e (marks.whole v low mark) (marks.fan v low mark)
      go v low mark false e = no-fan quads v e

  -- the level is a part of the next level
  pub level-part : HasHalves t.level p.has halves → method ≡ t.level.method → IsLevelPart (name_in names) (children_at t.level.polygons p.places) built.level (child_level t.level)
  level-part put same = record {
    polygons = subst (λ (qs : List Polygon). laws.IsPart (name_in names) (children_at polygons p.places) qs (child_polygons points polygons)) (sym lists-are) (is-part t is p are.part names known);
    method = same;
    holes = λ k h. holes-same t is p names known are.part tables.holes.items made.holes k (omega (arith, h, ap length lists-are, count));
    edges = λ edge h.
        ap (λ (qs : List Polygon). get_or (map sharpness_of tables.edge_sharpness.items) (edge_number qs edge) Smooth) lists-are
        ∙ edges-sharp t is p names known n are halves put (map sharpness_of tables.edge_sharpness.items) made.edges edge (ap (λ (qs : List Polygon). list_any (same_edge edge) (edges_of qs)) (sym lists-are) ∙ h);
    vertices = λ q h. points-sharp t is p names known are.part (map sharpness_of tables.vertex_sharpness.items) made.points q (ap (λ (qs : List Polygon). laws.is_corner qs q) (sym lists-are) ∙ h);
  }
