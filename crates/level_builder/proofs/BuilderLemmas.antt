-- The state of a builder after one more face.
use Rattle.std.proofs.Common.{subst, ◌≡◌, ℕ, zero, suc, ◌+◌, ◌-◌, ◌<◌, ◌≤◌, ◌^◌, Bool, true, false, not, nat_lt, List, [], ◌∷◌, ◌++◌, length, map, slice_set, replicate, arith, refl, ap, sym, ◌∙◌, append-nil, append_assoc, length-append}
use Rattle.std.specs.List.{All, list_any, list_all, count_by, sum_by}
use Rattle.std.proofs.lemmas.Bool.Decides.{nat_tests}
use Rattle.std.proofs.lemmas.Bool.{and_parts, and_from, not-true}
use Rattle.std.proofs.lemmas.List.{map-append, length-replicate, length-set}
use Rattle.std.proofs.lemmas.List.Elements.{All-append}
use Rattle.std.proofs.lemmas.List.Sums.{sum_by-append, list_all-from_AllPass}
use Rattle.std.proofs.lemmas.List.Folds.{list_all-append}
use Rattle.std.proofs.lemmas.Grind.{flat_map-append}
use Rattle.subdiv_model.specs.Polygons.{Polygon, same_side, same_edge, sides_of, has_distinct_sides}
use Rattle.subdiv_model.specs.Edges.{all_sides, edges_of, first_named}
use Rattle.subdiv_model.specs.Manifold.{is_simple}
use Rattle.subdiv_model.specs.Sharpness.{Sharpness, Smooth, Method, is_proper_sharpness}
use Rattle.sharpness_rules.specs.View.{sharpness_of}
use Rattle.sharpness_rules.specs.declared.sharpness.Sharpness.TheVariants as declared
use Rattle.number_laws.proofs.CountLemmas.{count-append, count-none}
use Rattle.mesh_laws.proofs.SideLemmas.{distinct-count, distinct-from_count, polygon-side-count, polygon-edge-count}
use Rattle.mesh_laws.proofs.EdgeLemmas.{all-named}
use Rattle.mesh_laws.proofs.ClosedLemmas.{any-all}
use Rattle.mesh_laws.proofs.ChildClosedLemmas.{same-pair}
use Rattle.level_topology.specs.Topology.{face_edges_of}
use Rattle.level_topology.specs.Numbering.{Numbered, numbered, IsNumbering, number_in, named_with, with_side, with_sides}
use Rattle.level_builder.specs.NumberedEdges.{numbers_in, named_with_all}
use Rattle.point_fans.specs.Built.{Built, IsBuilt, built_of}
use Rattle.level_builder.specs.Builder.{only_points, with_polygon, with_sharp_vertex, has_new_sides}
use Rattle.level_builder.proofs.EdgeNumberLemmas.{first_named-all, numbers-final, face-numbers-stay}
use Rattle.level_topology.proofs.NumberingLemmas.{numbering-sides, numbering-face}
use Rattle.level_builder.proofs.NumberedSideLemmas.{sides-ends}

-- new edges are smooth
pub sides-smooth : (face : ℕ) (n : Numbered) (sides : List (ℕ × ℕ)) → (k : ℕ) × ((with_sides face n sides).sharpness ≡ n.sharpness ++ replicate k Smooth) × (length (with_sides face n sides).ends ≡ length n.ends + k)
sides-smooth face n [] = (0, sym (append-nil n.sharpness), omega arith)
sides-smooth face n (s ∷ sides) = go (list_any (same_edge s) n.ends) refl (sides-smooth face (with_side face n s) sides)
  where
    go : (b : Bool) → list_any (same_edge s) n.ends ≡ b → ((k : ℕ) × ((with_sides face (with_side face n s) sides).sharpness ≡ (with_side face n s).sharpness ++ replicate k Smooth) × (length (with_sides face (with_side face n s) sides).ends ≡ length (with_side face n s).ends + k)) → (k : ℕ) × ((with_sides face (with_side face n s) sides).sharpness ≡ n.sharpness ++ replicate k Smooth) × (length (with_sides face (with_side face n s) sides).ends ≡ length n.ends + k)
    go true e found =
        let sharp : (with_side face n s).sharpness ≡ n.sharpness = rw e refl in
        let ends : (with_side face n s).ends ≡ n.ends = rw e refl in
        (found.0, found.1 ∙ ap (λ xs. xs ++ replicate found.0 Smooth) sharp, found.2 ∙ ap (λ xs. length xs + found.0) ends)
    go false e found =
        let sharp : (with_side face n s).sharpness ≡ n.sharpness ++ Smooth ∷ [] = rw e refl in
        let ends : (with_side face n s).ends ≡ n.ends ++ s ∷ [] = rw e refl in (
          suc found.0,
          found.1 ∙ ap (λ xs. xs ++ replicate found.0 Smooth) sharp ∙ append_assoc n.sharpness (Smooth ∷ []) (replicate found.0 Smooth),
          found.2 ∙ ap (λ xs. length xs + found.0) ends ∙ omega (arith, length-append n.ends (s ∷ [])),
        )

smooth-proper : (k : ℕ) → list_all is_proper_sharpness (replicate k Smooth) ≡ true
smooth-proper zero = refl
smooth-proper (suc k) = smooth-proper k

-- A numbering with other room is a numbering.
pub numbering-alike : (polygons : List Polygon) (n m : Numbered) → m.ends ≡ n.ends → m.faces ≡ n.faces → m.sharpness ≡ n.sharpness → IsNumbering polygons [] n → IsNumbering polygons [] m
numbering-alike polygons n m e f g is = record {
  ends = e ∙ is.ends;
  faces_listed = ap length f ∙ is.faces_listed ∙ ap length (sym e);
  sharp_listed = ap length g ∙ is.sharp_listed ∙ ap length (sym e);
  faces = λ k inside. rw (e, f) (is.faces k (rw e at inside));
}

sides-joined : (polygons : List Polygon) (corners : Polygon) → all_sides (polygons ++ corners ∷ []) ≡ all_sides polygons ++ sides_of corners
sides-joined polygons corners = flat_map-append sides_of polygons (corners ∷ []) ∙ ap (λ ss. all_sides polygons ++ ss) (append-nil (sides_of corners))

-- no side occurs twice where no face before has a side of the new one
once-more : (polygons : List Polygon) (corners : Polygon) → has_distinct_sides (all_sides polygons) ≡ true → is_simple corners ≡ true → has_new_sides polygons corners ≡ true → has_distinct_sides (all_sides (polygons ++ corners ∷ [])) ≡ true
once-more polygons corners once simple fresh = rw (sides-joined polygons corners) (distinct-from_count (all_sides polygons ++ sides_of corners) (λ s. few s (list_any (same_side s) (sides_of corners)) refl))
  where
    few : (s : ℕ × ℕ) (b : Bool) → list_any (same_side s) (sides_of corners) ≡ b → count_by (same_side s) (all_sides polygons ++ sides_of corners) ≤ 1
    few s false e = omega (arith, count-append (same_side s) (all_sides polygons) (sides_of corners), count-none (same_side s) (sides_of corners) e, distinct-count s (all_sides polygons) once)
    few s true e =
        let found = any-all (same_side s) (λ t. not (list_any (same_side t) (all_sides polygons))) (sides_of corners) e fresh in
        let none : list_any (same_side s) (all_sides polygons) ≡ false = ap (λ t. list_any (same_side t) (all_sides polygons)) (same-pair s found.0 found.1) ∙ not-true _ found.2 in
        let own = polygon-side-count corners s ((and_parts _ _ simple).1) in
        omega (arith, count-append (same_side s) (all_sides polygons) (sides_of corners), count-none (same_side s) (all_sides polygons) none, own)

module _ (b : Built) (n m : Numbered) (numbers : List (List ℕ)) (corners : Polygon) (hole : Bool) (is : IsBuilt b n numbers) (ends : m.ends ≡ n.ends) (faces : m.faces ≡ n.faces) (sharp : m.sharpness ≡ n.sharpness) where
  abbrev pub polygons : List Polygon
  polygons = b.level.polygons

  abbrev pub after : Numbered
  after = with_sides (length polygons) m (sides_of corners)

  ends-are : m.ends ≡ edges_of polygons
  ends-are = ends ∙ is.numbering.ends ∙ ap first_named (append-nil (all_sides polygons))

  ends-after : named_with_all m.ends (sides_of corners) ≡ edges_of (polygons ++ corners ∷ [])
  ends-after = ap (λ es. named_with_all es (sides_of corners)) ends-are ∙ first_named-all (all_sides polygons) (sides_of corners) ∙ ap first_named (sym (sides-joined polygons corners))

  -- The number of new edges.
  pub sharp-after : after.sharpness ≡ b.level.edge_sharpness ++ replicate (length (edges_of (polygons ++ corners ∷ [])) - length (edges_of polygons)) Smooth
  sharp-after =
      let found = sides-smooth (length polygons) m (sides_of corners) in
      let all : length after.ends ≡ length (edges_of (polygons ++ corners ∷ [])) = ap length (sides-ends (length polygons) m (sides_of corners) ∙ ends-after) in
      let k : found.0 ≡ length (edges_of (polygons ++ corners ∷ [])) - length (edges_of polygons) = omega (arith, found.2, all, ap length ends-are) in
      found.1 ∙ ap (λ xs. xs ++ replicate found.0 Smooth) (sharp ∙ is.sharpness) ∙ ap (λ j. b.level.edge_sharpness ++ replicate j Smooth) k

  -- The numbers of the edges of the new face follow those of the others.
  numbers-after : numbers ++ numbers_in m.ends (sides_of corners) ∷ [] ≡ map (face_edges_of (polygons ++ corners ∷ [])) (polygons ++ corners ∷ [])
  numbers-after =
      let old : map (λ polygon. map (number_in (named_with_all m.ends (sides_of corners))) (sides_of polygon)) polygons ≡ map (λ polygon. map (number_in m.ends) (sides_of polygon)) polygons =
      face-numbers-stay m.ends (sides_of corners) polygons (ap (λ es. list_all (λ s. list_any (same_edge s) es) (all_sides polygons)) ends-are ∙ all-named (all_sides polygons)) in
      let before : numbers ≡ map (λ polygon. map (number_in m.ends) (sides_of polygon)) polygons = is.face_edges ∙ ap (λ es. map (λ polygon. map (number_in es) (sides_of polygon)) polygons) (sym ends-are) in
      let whole : map (λ polygon. map (number_in (named_with_all m.ends (sides_of corners))) (sides_of polygon)) (polygons ++ corners ∷ []) ≡ map (face_edges_of (polygons ++ corners ∷ [])) (polygons ++ corners ∷ []) =
      ap (λ es. map (λ polygon. map (number_in es) (sides_of polygon)) (polygons ++ corners ∷ [])) ends-after in
      ap (λ ns. ns ++ numbers_in m.ends (sides_of corners) ∷ []) (before ∙ sym old)
      ∙ ap (λ ns. map (λ polygon. map (number_in (named_with_all m.ends (sides_of corners))) (sides_of polygon)) polygons ++ ns ∷ []) (numbers-final m.ends (sides_of corners))
      ∙ sym (map-append (λ polygon. map (number_in (named_with_all m.ends (sides_of corners))) (sides_of polygon)) polygons (corners ∷ []))
      ∙ whole

  -- a face more
  pub built-face : is_simple corners ≡ true → All (λ v. v < b.level.point_count) corners → length corners ≤ 2 ^ 16 → length polygons < 2 ^ 22 → sum_by length polygons + length corners < 2 ^ 28 → has_new_sides polygons corners ≡ true → IsBuilt (with_polygon corners hole b) after (numbers ++ numbers_in m.ends (sides_of corners) ∷ [])
  built-face simple inside size few short fresh =
      let over : list_all (λ v. nat_lt v b.level.point_count) corners ≡ true = list_all-from_AllPass (λ v. nat_lt v b.level.point_count) corners (λ k d h. let below = inside k d h in grind (arith, nat_tests)) in
      record {
        over = list_all-append (list_all (λ v. nat_lt v b.level.point_count)) polygons (corners ∷ []) ∙ and_from _ _ is.over (and_from _ _ over refl);
        holes = omega (arith, length-append b.level.holes (hole ∷ []), length-append polygons (corners ∷ []), is.holes);
        vertices = is.vertices;
        marks = is.marks;
        edge_proper = list_all-append is_proper_sharpness b.level.edge_sharpness (replicate (length (edges_of (polygons ++ corners ∷ [])) - length (edges_of polygons)) Smooth) ∙ and_from _ _ is.edge_proper (smooth-proper (length (edges_of (polygons ++ corners ∷ [])) - length (edges_of polygons)));
        vertex_proper = is.vertex_proper;
        simple = list_all-append is_simple polygons (corners ∷ []) ∙ and_from _ _ is.simple (and_from _ _ simple refl);
        sides_once = once-more polygons corners is.sides_once simple fresh;
        small = record {
          points = is.small.points;
          faces = omega (arith, few, length-append polygons (corners ∷ []));
          corners = omega (arith, short, sum_by-append length polygons (corners ∷ []));
          sizes = All-append (λ polygon. length polygon ≤ 2 ^ 16) polygons (corners ∷ []) is.small.sizes (one size);
        };
        numbering = numbering-face polygons corners after (numbering-sides polygons is.simple is.sides_once [] (sides_of corners) m (numbering-alike polygons n m ends faces sharp is.numbering) fresh (λ s. polygon-edge-count corners s simple));
        sharpness = sharp-after;
        face_edges = numbers-after;
      }
    where
      one : length corners ≤ 2 ^ 16 → All (λ polygon. length polygon ≤ 2 ^ 16) (corners ∷ [])
      one h zero d k = h
      one h (suc i) d k = absurd (omega arith)

pub numbers-length : (edges sides : List (ℕ × ℕ)) → length (numbers_in edges sides) ≡ length sides
numbers-length edges [] = refl
numbers-length edges (s ∷ sides) = ap suc (numbers-length (named_with edges s) sides)

set-proper : (xs : List Sharpness) (i : ℕ) (x : Sharpness) → list_all is_proper_sharpness xs ≡ true → is_proper_sharpness x ≡ true → list_all is_proper_sharpness (slice_set xs i x) ≡ true
set-proper [] i x h k = refl
set-proper (y ∷ ys) zero x h k = and_from _ _ k (and_parts (is_proper_sharpness y) (list_all is_proper_sharpness ys) h).1
set-proper (y ∷ ys) (suc i) x h k =
    let parts = and_parts (is_proper_sharpness y) (list_all is_proper_sharpness ys) h in
    and_from _ _ parts.0 (set-proper ys i x parts.1 k)

-- a sharpness of a vertex, of an edge, and a mark
pub built-vertex : (b : Built) (n : Numbered) (numbers : List (List ℕ)) (v : ℕ) (s : Sharpness) → is_proper_sharpness s ≡ true → IsBuilt b n numbers → IsBuilt (with_sharp_vertex v s b) n numbers
built-vertex b n numbers v s proper is = record {
  over = is.over;
  holes = is.holes;
  vertices = length-set b.level.vertex_sharpness v s ∙ is.vertices;
  marks = is.marks;
  edge_proper = is.edge_proper;
  vertex_proper = set-proper b.level.vertex_sharpness v s is.vertex_proper proper;
  simple = is.simple;
  sides_once = is.sides_once;
  small = record { points = is.small.points; faces = is.small.faces; corners = is.small.corners; sizes = is.small.sizes };
  numbering = is.numbering;
  sharpness = is.sharpness;
  face_edges = is.face_edges;
}

pub built-edge : (points : ℕ) (some : List Polygon) (holes : List Bool) (vertices : List Sharpness) (method : Method) (complete : List Bool) (n : Numbered) (numbers : List (List ℕ)) (k : ℕ) (s : Sharpness) → is_proper_sharpness s ≡ true → IsBuilt (built_of points some holes n.sharpness vertices method complete) n numbers → IsBuilt (built_of points some holes (slice_set n.sharpness k s) vertices method complete) (numbered n.ends n.faces (slice_set n.sharpness k s) n.limit) numbers
built-edge points some holes vertices method complete n numbers k s proper is = record {
  over = is.over;
  holes = is.holes;
  vertices = is.vertices;
  marks = is.marks;
  edge_proper = set-proper n.sharpness k s is.edge_proper proper;
  vertex_proper = is.vertex_proper;
  simple = is.simple;
  sides_once = is.sides_once;
  small = record { points = is.small.points; faces = is.small.faces; corners = is.small.corners; sizes = is.small.sizes };
  numbering = record {
    ends = is.numbering.ends;
    faces_listed = is.numbering.faces_listed;
    sharp_listed = length-set n.sharpness k s ∙ is.numbering.sharp_listed;
    faces = is.numbering.faces;
  };
  sharpness = refl;
  face_edges = is.face_edges;
}

-- The tables after one more face are those of the level after it.
pub built-added : (points : ℕ) (some : List Polygon) (holes : List Bool) (n : Numbered) (vertices : List Sharpness) (method : Method) (complete : List Bool) (numbers : List (List ℕ)) → IsBuilt (built_of points some holes n.sharpness vertices method complete) n numbers
    → (m last : Numbered) (corners : Polygon) (hole : Bool) (face : ℕ) (lists : List Polygon) (marks : List Bool) (rows : List (List ℕ)) (these : List ℕ)
    → m.ends ≡ n.ends → m.faces ≡ n.faces → m.sharpness ≡ n.sharpness → face ≡ length some → last ≡ with_sides face m (sides_of corners) → these ≡ numbers_in m.ends (sides_of corners)
    → lists ≡ some ++ corners ∷ [] → marks ≡ holes ++ hole ∷ [] → rows ≡ numbers ++ these ∷ []
    → is_simple corners ≡ true → All (λ v. v < points) corners → length corners ≤ 2 ^ 16 → length some < 2 ^ 22 → sum_by length some + length corners < 2 ^ 28 → has_new_sides some corners ≡ true
    → IsBuilt (built_of points lists marks last.sharpness vertices method complete) last rows
built-added points some holes n vertices method complete numbers is m last corners hole face lists marks rows these ends faces sharp f l t e h r simple inside size few short fresh =
    let b = built_of points some holes n.sharpness vertices method complete in
    let whole = built-face b n m numbers corners hole is ends faces sharp simple inside size few short fresh in
    let last-is : last ≡ with_sides (length some) m (sides_of corners) = l ∙ ap (λ k. with_sides k m (sides_of corners)) f in
    let sharp-is : last.sharpness ≡ (with_polygon corners hole b).level.edge_sharpness = ap (λ (k : Numbered). k.sharpness) last-is ∙ sharp-after b n m numbers corners hole is ends faces sharp in
    let rows-are : rows ≡ numbers ++ numbers_in m.ends (sides_of corners) ∷ [] = r ∙ ap (λ k. numbers ++ k ∷ []) t in
    moved (sym e) (sym h) (sym sharp-is) (sym last-is) (sym rows-are) whole
  where
    moved : {lists lists' : List Polygon} {marks marks' : List Bool} {xs xs' : List Sharpness} {k k' : Numbered} {rows rows' : List (List ℕ)} → lists ≡ lists' → marks ≡ marks' → xs ≡ xs' → k ≡ k' → rows ≡ rows' → IsBuilt (built_of points lists marks xs vertices method complete) k rows → IsBuilt (built_of points lists' marks' xs' vertices method complete) k' rows'
    moved {lists} {lists'} {marks} {marks'} {xs} {xs'} {k} {k'} {rows} {rows'} e h x l r is =
        subst (λ z. IsBuilt (built_of points lists' marks' xs' vertices method complete) k' z) r
        (subst (λ z. IsBuilt (built_of points lists' marks' xs' vertices method complete) z rows) l
        (subst (λ z. IsBuilt (built_of points lists' marks' z vertices method complete) k rows) x
        (subst (λ z. IsBuilt (built_of points lists' z xs vertices method complete) k rows) h
        (subst (λ z. IsBuilt (built_of points z marks xs vertices method complete) k rows) e is))))

pub built-same : (points : ℕ) (some : List Polygon) (holes : List Bool) (n : Numbered) (vertices : List Sharpness) (method : Method) (complete : List Bool) (numbers : List (List ℕ)) → IsBuilt (built_of points some holes n.sharpness vertices method complete) n numbers
    → (m last : Numbered) (corners : Polygon) (hole : Bool) (face : ℕ) (lists : List Polygon) (marks : List Bool)
    → m.ends ≡ n.ends → m.faces ≡ n.faces → m.sharpness ≡ n.sharpness → face ≡ length some → last ≡ with_sides face m (sides_of corners)
    → lists ≡ some ++ corners ∷ [] → marks ≡ holes ++ hole ∷ []
    → built_of points lists marks last.sharpness vertices method complete ≡ with_polygon corners hole (built_of points some holes n.sharpness vertices method complete)
built-same points some holes n vertices method complete numbers is m last corners hole face lists marks ends faces sharp f l e h =
    let b = built_of points some holes n.sharpness vertices method complete in
    let last-is : last ≡ with_sides (length some) m (sides_of corners) = l ∙ ap (λ k. with_sides k m (sides_of corners)) f in
    let sharp-is : last.sharpness ≡ (with_polygon corners hole b).level.edge_sharpness = ap (λ (k : Numbered). k.sharpness) last-is ∙ sharp-after b n m numbers corners hole is ends faces sharp in
    joined e h sharp-is
  where
    joined : {lists lists' : List Polygon} {marks marks' : List Bool} {xs xs' : List Sharpness} → lists ≡ lists' → marks ≡ marks' → xs ≡ xs' → built_of points lists marks xs vertices method complete ≡ built_of points lists' marks' xs' vertices method complete
    joined e h x = cc

-- nothing is there yet
pub map-smooth : (k : ℕ) → map sharpness_of (replicate k declared.Smooth) ≡ replicate k Smooth
map-smooth zero = refl
map-smooth (suc k) = ap (λ xs. Smooth ∷ xs) (map-smooth k)

pub none-same : (points : ℕ) (method : Method) → built_of (length (replicate points false)) [] [] [] (replicate points Smooth) method (replicate points false) ≡ only_points points method
none-same points method = rw (length-replicate points false) refl

pub built-none : (points limit : ℕ) (method : Method) → points ≤ 2 ^ 30 → IsBuilt (built_of (length (replicate points false)) [] [] [] (replicate points Smooth) method (replicate points false)) (numbered [] [] [] limit) []
built-none points limit method few = record {
  over = refl;
  holes = refl;
  vertices = length-replicate points Smooth ∙ sym (length-replicate points false);
  marks = refl;
  edge_proper = refl;
  vertex_proper = smooth-proper points;
  simple = refl;
  sides_once = refl;
  small = record { points = omega (arith, few, length-replicate points false); faces = omega arith; corners = omega arith; sizes = λ k d h. absurd (omega (arith, h)) };
  numbering = record {
    ends = refl;
    faces_listed = refl;
    sharp_listed = refl;
    faces = λ e inside. absurd (omega (arith, inside));
  };
  sharpness = refl;
  face_edges = refl;
}

-- The same edges, in tables of their own.
pub built-apart : (points : ℕ) (some : List Polygon) (holes : List Bool) (n : Numbered) (vertices : List Sharpness) (method : Method) (complete : List Bool) (numbers : List (List ℕ)) → IsBuilt (built_of points some holes n.sharpness vertices method complete) n numbers
    → (ends faces : List (ℕ × ℕ)) (sharpness : List Sharpness) (limit : ℕ) → ends ≡ n.ends → faces ≡ n.faces → sharpness ≡ n.sharpness
    → IsBuilt (built_of points some holes sharpness vertices method complete) (numbered ends faces sharpness limit) numbers
built-apart points some holes n vertices method complete numbers is ends faces sharpness limit e f s = record {
  over = is.over;
  holes = is.holes;
  vertices = is.vertices;
  marks = is.marks;
  edge_proper = subst (λ xs. list_all is_proper_sharpness xs ≡ true) (sym s) is.edge_proper;
  vertex_proper = is.vertex_proper;
  simple = is.simple;
  sides_once = is.sides_once;
  small = record { points = is.small.points; faces = is.small.faces; corners = is.small.corners; sizes = is.small.sizes };
  numbering = numbering-alike some n (numbered ends faces sharpness limit) e f s is.numbering;
  sharpness = refl;
  face_edges = is.face_edges;
}
