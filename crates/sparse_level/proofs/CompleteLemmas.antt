-- The vertices that points of the next level come from, and the marks of these.
use Rattle.std.proofs.Common.{◌≡◌, ℕ, suc, ◌+◌, ◌-◌, ◌<◌, ◌≤◌, Bool, true, false, ◌&&◌, nat_lt, List, [], ◌∷◌, length, take, get_or, arith, refl, ap, subst, sym, ◌∙◌}
use Rattle.std.specs.List.{All, list_all}
use Rattle.std.proofs.lemmas.Bool.{lt-ltb, le-ltb}
use Rattle.std.proofs.lemmas.List.Elements.{All-nil, All-cons}
use Rattle.std.proofs.lemmas.List.Folds.{list_all_at, list_all_more}
use Rattle.std.proofs.lemmas.Bool.Decides.{nat_tests}
use Rattle.subdiv_model.specs.Child.{child_points}
use Rattle.subdiv_model.specs.Edges.{edges_of, has_end}
use Rattle.subdiv_model.specs.Level.{Level}
use Rattle.subdiv_model.specs.Polygons.{polygon_at}
use Rattle.subdiv_model.specs.Sparse.{is_on}
use Rattle.level_topology.specs.Topology.{Topology, IsTopology, edge_at}
use Rattle.level_topology.proofs.FactLemmas.{corners-exist}
use Rattle.child_slots.proofs.SlotLemmas.{over-of}
use Rattle.child_slots.proofs.SlotTellLemmas.{end-below}
use Rattle.sparse_laws.specs.NextSparse.{vertices_of, has_all_faces}
use Rattle.sparse_level.specs.Places.{marks_on}
use Rattle.sparse_level.proofs.PlaceLemmas.{mark-at}

-- one vertex more
pub all-more : (on : List Bool) (vertices : List ℕ) (i : ℕ) → i < length vertices → list_all (λ v. get_or on v false) (take i vertices) ≡ true → get_or on (get_or vertices i 0) false ≡ true → list_all (λ v. get_or on v false) (take (i + 1) vertices) ≡ true
all-more on vertices i h so more = list_all_more (λ v. get_or on v false) vertices i 0 h ∙ ap (λ b. b && get_or on (get_or vertices i 0) false) so ∙ more

-- a vertex without a mark ends the test
pub one-off : (on : List Bool) (vertices : List ℕ) (i : ℕ) → i < length vertices → get_or on (get_or vertices i 0) false ≡ false → false ≡ list_all (λ v. get_or on v false) vertices
one-off on vertices i h off = sym (list_all_at (λ v. get_or on v false) vertices i 0 h off)

-- all vertices are marked exactly where all lie on selected faces
all-agree : (level : Level) (selected : List ℕ) (on : List Bool) (vertices : List ℕ) → on ≡ marks_on level selected → All (λ v. v < level.point_count) vertices → list_all (λ v. get_or on v false) vertices ≡ list_all (is_on level.polygons selected) vertices
all-agree level selected on [] e below = refl
all-agree level selected on (v ∷ vertices) e below =
    ap (λ b. b && list_all (λ u. get_or on u false) vertices) (mark-at level selected on v e (below 0 0 (omega arith)))
    ∙ ap (λ b. is_on level.polygons selected v && b) (all-agree level selected on vertices e (λ k d h. below (suc k) d (omega (arith, h))))

pub marks-agree : (level : Level) (on : List Bool) (vertices : List ℕ) (n : ℕ) (result : Bool) → result ≡ list_all (λ v. get_or on v false) vertices → vertices ≡ vertices_of level n → All (λ v. v < level.point_count) vertices → (selected : List ℕ) → on ≡ marks_on level selected → result ≡ has_all_faces level selected n
marks-agree level on vertices n result is same below selected e = is ∙ all-agree level selected on vertices e below ∙ ap (list_all (is_on level.polygons selected)) same

-- a point that is a vertex
pub old-vertices : (level : Level) (n points : ℕ) → points ≡ level.point_count → n < points → n ∷ [] ≡ vertices_of level n
old-vertices level n points e h =
    let first : nat_lt n level.point_count ≡ true = lt-ltb n level.point_count (omega (arith, e, h)) in
    rw first refl

-- the vertices of a point that comes from a face
pub face-vertices : (level : Level) (n points faces : ℕ) → points ≡ level.point_count → faces ≡ length level.polygons → points ≤ n → n - points < faces → polygon_at level.polygons (n - points) ≡ vertices_of level n
face-vertices level n points faces e f h k =
    let first : nat_lt n level.point_count ≡ false = le-ltb n level.point_count (omega (arith, e, h)) in
    let second : nat_lt (n - level.point_count) (length level.polygons) ≡ true = lt-ltb _ _ (omega (arith, e, f, k)) in
    let place : n - points ≡ n - level.point_count = omega (arith, e) in
    rw (first, second, place) refl

-- the vertices of a point that comes from an edge
pub edge-vertices : (level : Level) (n points faces : ℕ) → points ≡ level.point_count → faces ≡ length level.polygons → points ≤ n → faces ≤ n - points → (edge : ℕ × ℕ) → edge ≡ edge_at level.polygons (n - points - faces) → edge.0 ∷ edge.1 ∷ [] ≡ vertices_of level n
edge-vertices level n points faces e f h k edge q =
    let first : nat_lt n level.point_count ≡ false = le-ltb n level.point_count (omega (arith, e, h)) in
    let second : nat_lt (n - level.point_count) (length level.polygons) ≡ false = le-ltb _ _ (omega (arith, e, f, k)) in
    let place : n - points - faces ≡ n - level.point_count - length level.polygons = omega (arith, e, f) in
    rw (first, second) (ap (λ (s : ℕ × ℕ). s.0 ∷ s.1 ∷ []) (q ∙ ap (edge_at level.polygons) place))

pub edge-known : (level : Level) (n points faces : ℕ) → points ≡ level.point_count → faces ≡ length level.polygons → n < child_points level.point_count level.polygons → points ≤ n → faces ≤ n - points → n - points - faces < length (edges_of level.polygons)
edge-known level n points faces e f h k l = omega (arith, e, f, h, k, l)

first-end : (a b : ℕ) → has_end a (a, b) ≡ true
first-end a b = grind (arith, nat_tests)

second-end : (a b : ℕ) → has_end b (a, b) ≡ true
second-end a b = grind (arith, nat_tests)

-- the ends of an edge are vertices
pub ends-below : (t : Topology) → IsTopology t → (e count : ℕ) (edge : ℕ × ℕ) → e < length (edges_of t.level.polygons) → edge ≡ edge_at t.level.polygons e → count ≡ t.level.point_count → All (λ v. v < count) (edge.0 ∷ edge.1 ∷ [])
ends-below t is e count edge h q long =
    let P : ℕ → Type 0 = λ v. v < count in
    let one = end-below t.level.point_count t.level.polygons (over-of t is) is.simple e edge.0 h (first edge (edge_at t.level.polygons e) q) in
    let two = end-below t.level.point_count t.level.polygons (over-of t is) is.simple e edge.1 h (second edge (edge_at t.level.polygons e) q) in
    All-cons P edge.0 (edge.1 ∷ []) (omega (arith, one, long)) (All-cons P edge.1 [] (omega (arith, two, long)) (All-nil P))
  where
    first : (s u : ℕ × ℕ) → s ≡ u → has_end s.0 u ≡ true
    first s u q = subst (λ (x : ℕ × ℕ). has_end s.0 x ≡ true) q (first-end s.0 s.1)

    second : (s u : ℕ × ℕ) → s ≡ u → has_end s.1 u ≡ true
    second s u q = subst (λ (x : ℕ × ℕ). has_end s.1 x ≡ true) q (second-end s.0 s.1)

pub one-below : (n count : ℕ) → n < count → All (λ v. v < count) (n ∷ [])
one-below n count h = All-cons (λ v. v < count) n [] h (All-nil (λ v. v < count))

pub face-below : (t : Topology) → IsTopology t → (f count : ℕ) (vertices : List ℕ) → f < length t.level.polygons → vertices ≡ polygon_at t.level.polygons f → count ≡ t.level.point_count → All (λ v. v < count) vertices
face-below t is f count vertices h q long = subst (λ xs. All (λ v. v < count) xs) (sym q) (λ k d l. omega (arith, corners-exist t is f h k d l, long))
