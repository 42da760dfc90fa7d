-- The tables of numbered faces are those of a level.
use Rattle.std.proofs.Common.{subst, ◌≡◌, ℕ, suc, ◌<◌, Bool, List, [], ◌∷◌, length, map, get_or, arith, refl, ap, sym, ◌∙◌}
use Rattle.std.proofs.lemmas.Bool.{eq-eqb}
use Rattle.subdiv_model.specs.Polygons.{Polygon}
use Rattle.subdiv_model.specs.Edges.{edges_of, faces_of_edge}
use Rattle.subdiv_model.specs.Sharpness.{Sharpness, Method}
use Rattle.level_laws.proofs.WellFormedLemmas.{all-six}
use Rattle.level_topology.specs.View.{faces_of_pair}
use Rattle.level_topology.specs.Coded.{kept}
use Rattle.level_topology.specs.Rows.{Counts, Rows, AreOfLevel}
use Rattle.level_topology.specs.Numbering.{Numbered}
use Rattle.level_topology.specs.PointRows.{AreRows}
use Rattle.point_fans.specs.Built.{IsBuilt, built_of}
use Rattle.level_topology.proofs.NumberingLemmas.{numbered-ends, edge-faces-are}

maps-equal : {X Y Z : Type 0} (f : X → Z) (g : Y → Z) (d : X) (e : Y) (xs : List X) (ys : List Y) → length xs ≡ length ys → ((k : ℕ) → k < length ys → f (get_or xs k d) ≡ g (get_or ys k e)) → map f xs ≡ map g ys
maps-equal f g d e [] [] same h = refl
maps-equal f g d e [] (y ∷ ys) same h = absurd (omega (arith, same))
maps-equal f g d e (x ∷ xs) [] same h = absurd (omega (arith, same))
maps-equal f g d e (x ∷ xs) (y ∷ ys) same h =
    let first : f x ≡ g y = h 0 (omega arith) in
    let behind = maps-equal f g d e xs ys (omega (arith, same)) (λ k inside. h (suc k) (omega (arith, inside))) in
    ap (λ z. z ∷ map f xs) first ∙ ap (λ zs. g y ∷ zs) behind

-- the tables of these lists
abbrev pub tables_of : Counts → List Polygon → List Bool → List (ℕ × ℕ) → List (ℕ × ℕ) → List Sharpness → List Sharpness → Method → List Bool → List (List ℕ) → List (List ℕ) → List (List ℕ) → List (List ℕ) → List (List ℕ) → Rows
tables_of counts polygons holes ends pairs sharp vertices method complete numbers faces at edges others = record {
  counts = counts;
  method = method;
  face_vertices = polygons;
  face_edges = numbers;
  holes = holes;
  edge_vertices = ends;
  edge_faces = map faces_of_pair pairs;
  edge_sharpness = sharp;
  vertex_faces = faces;
  vertex_faces_at = at;
  vertex_edges = edges;
  vertex_edges_at = others;
  vertex_sharpness = vertices;
  complete = complete;
}

-- The tables are those of the level that was built.
pub of-level : (counts : Counts) (polygons : List Polygon) (holes : List Bool) (n : Numbered) (vertices : List Sharpness) (method : Method) (complete : List Bool) (numbers faces at edges ends : List (List ℕ)) → IsBuilt (built_of (length complete) polygons holes n.sharpness vertices method complete) n numbers → AreRows polygons complete (length complete) faces at edges ends → AreOfLevel (tables_of counts polygons holes n.ends n.faces n.sharpness vertices method complete numbers faces at edges ends)
of-level counts polygons holes n vertices method complete numbers faces at edges ends is are =
    let own = numbered-ends polygons n is.numbering in
    record {
      topology = record {
        formed = all-six _ _ _ _ _ _ is.over (eq-eqb (length holes) (length polygons) is.holes) (eq-eqb (length n.sharpness) (length (edges_of polygons)) (is.numbering.sharp_listed ∙ ap length own)) (eq-eqb (length vertices) (length complete) is.vertices) is.edge_proper is.vertex_proper;
        simple = is.simple;
        sides_once = is.sides_once;
        small = record { points = is.small.points; faces = is.small.faces; corners = is.small.corners; sizes = is.small.sizes };
        face_lists = are.face_count;
        edge_lists = are.edge_count;
        marks = refl;
        listed = λ v h. record {
          faces = (are.rows v h).faces_are;
          edges = (are.rows v h).edges_are;
          fan = (are.rows v h).fan;
          ascending_faces = (are.rows v h).plain_faces;
          ascending_edges = (are.rows v h).plain_edges;
        };
      };
      face_edges = is.face_edges;
      edge_vertices = own;
      edge_faces = maps-equal faces_of_pair (faces_of_edge polygons) (0, 0) (0, 0) n.faces (edges_of polygons) (is.numbering.faces_listed ∙ ap length own) (λ k h. edge-faces-are polygons n k is.numbering (omega (arith, h, ap length own)));
      faces_listed = are.at_count;
      edges_listed = are.end_count;
      corners = λ v h. (are.rows v h).corners_are;
      ends = λ v h. (are.rows v h).ends_are;
    }

-- Tables equal to these are those of a level too.
pub of-level-same : (counts : Counts) (polygons : List Polygon) (holes : List Bool) (n : Numbered) (vertices : List Sharpness) (method : Method) (complete : List Bool) (numbers faces at edges others : List (List ℕ)) (ends pairs : List (ℕ × ℕ)) (sharp kept : List Sharpness) → IsBuilt (built_of (length complete) polygons holes n.sharpness vertices method complete) n numbers → AreRows polygons complete (length complete) faces at edges others → ends ≡ n.ends → pairs ≡ n.faces → sharp ≡ n.sharpness → kept ≡ vertices → AreOfLevel (tables_of counts polygons holes ends pairs sharp kept method complete numbers faces at edges others)
of-level-same counts polygons holes n vertices method complete numbers faces at edges others ends pairs sharp kept is are e p s k =
    subst (λ x. AreOfLevel (tables_of counts polygons holes ends pairs sharp x method complete numbers faces at edges others)) (sym k)
    (subst (λ x. AreOfLevel (tables_of counts polygons holes ends pairs x vertices method complete numbers faces at edges others)) (sym s)
    (subst (λ x. AreOfLevel (tables_of counts polygons holes ends x n.sharpness vertices method complete numbers faces at edges others)) (sym p)
    (subst (λ x. AreOfLevel (tables_of counts polygons holes x n.faces n.sharpness vertices method complete numbers faces at edges others)) (sym e)
    (of-level counts polygons holes n vertices method complete numbers faces at edges others is are))))
