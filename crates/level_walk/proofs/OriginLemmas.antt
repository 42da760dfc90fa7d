-- A child with a point for each part of a level has the masks of the next level.
use Rattle.std.proofs.Common.{◌≡◌, ℕ, zero, suc, ◌+◌, ◌-◌, ◌<◌, Bool, true, false, not, ◌&&◌, ◌||◌, nat_lt, nat_eq, List, [], ◌∷◌, ◌++◌, append_assoc, length, map, arith, refl, ap, sym, ◌∙◌}
use Rattle.std.specs.List.{filter, list_any, sum_by, range_with_len}
use Rattle.std.proofs.lemmas.Bool.Decides.{nat_tests}
use Rattle.std.proofs.lemmas.Bool.{lt-ltb, le-ltb, eq-eqb}
use Rattle.std.proofs.lemmas.List.{get_or-map, length-map}
use Rattle.std.proofs.lemmas.List.FromFn.{get_or-map-range_with_len, length-map-range_with_len, fill_by_all}
use Rattle.std.proofs.lemmas.List.Folds.{list_any_at}
use Rattle.subdiv_model.specs.Edges.{edges_of}
use Rattle.subdiv_model.specs.Level.{Level}
use Rattle.subdiv_model.specs.Child.{child_points}
use Rattle.subdiv_model.specs.Mask.{Scheme, Mask, OfFace, has_source, face_mask, edge_mask, vertex_mask, child_masks, mask_terms}
use Rattle.level_topology.specs.Topology.{edge_at}
use Rattle.level_topology.specs.Child.{PointOrigin, FromVertex, FromFace, FromEdge, same_origin}
use Rattle.level_topology.specs.ChildTables.{numbered_origin}
use Rattle.uniform_refiner.specs.Uniform.{all_origins}
use Rattle.child_masks.specs.Masks.{mask_from, masks_from, has_origin, hidden_faces, step_terms}

-- an origin by its number
origin-vertex : (points faces n : ℕ) → n < points → numbered_origin points faces n ≡ FromVertex n
origin-vertex points faces n h = let low = lt-ltb n points h in rw low refl

origin-face : (points faces n f : ℕ) → n ≡ points + f → f < faces → numbered_origin points faces n ≡ FromFace f
origin-face points faces n f e h =
    let high : nat_lt n points ≡ false = le-ltb n points (omega (arith, e)) in
    let same : n - points ≡ f = omega (arith, e) in
    let low : nat_lt (n - points) faces ≡ true = lt-ltb (n - points) faces (omega (arith, same, h)) in
    rw (high, low) (ap FromFace same)

origin-edge : (points faces n e : ℕ) → n ≡ points + faces + e → numbered_origin points faces n ≡ FromEdge e
origin-edge points faces n e is =
    let high : nat_lt n points ≡ false = le-ltb n points (omega (arith, is)) in
    let past : nat_lt (n - points) faces ≡ false = le-ltb (n - points) faces (omega (arith, is)) in
    let same : n - points - faces ≡ e = omega (arith, is) in
    rw (high, past) (ap FromEdge same)

-- a range in two parts, and functions over two ranges that give equal lists
pub range-append : (a m n : ℕ) → range_with_len a (m + n) ≡ range_with_len a m ++ range_with_len (a + m) n
range-append a zero n =
    let count : 0 + n ≡ n = omega arith in
    let first : a ≡ a + 0 = omega arith in
    ap (range_with_len a) count ∙ ap (λ k. range_with_len k n) first
range-append a (suc m) n =
    let count : suc m + n ≡ suc (m + n) = omega arith in
    let first : a + 1 + m ≡ a + suc m = omega arith in
    ap (range_with_len a) count ∙ ap (λ xs. a ∷ xs) (range-append (a + 1) m n ∙ ap (λ k. range_with_len (a + 1) m ++ range_with_len k n) first)

map-range-same : {X : Type 0} (f g : ℕ → X) (a b n : ℕ) → ((j : ℕ) → j < n → f (a + j) ≡ g (b + j)) → map f (range_with_len a n) ≡ map g (range_with_len b n)
map-range-same f g a b zero same = refl
map-range-same f g a b (suc n) same =
    let here : f a ≡ g b = ap f (none a) ∙ same 0 (omega arith) ∙ ap g (sym (none b)) in
    ap (λ x. x ∷ map f (range_with_len (a + 1) n)) here
    ∙ ap (λ xs. g b ∷ xs) (map-range-same f g (a + 1) (b + 1) n (λ j h. ap f (next a j) ∙ same (suc j) (omega (arith, h)) ∙ ap g (sym (next b j))))
  where
    none : (n : ℕ) → n ≡ n + 0
    none n = omega arith

    next : (n j : ℕ) → n + 1 + j ≡ n + suc j
    next n j = omega arith

map-append : {X Y : Type 0} (f : X → Y) (xs ys : List X) → map f (xs ++ ys) ≡ map f xs ++ map f ys
map-append f [] ys = refl
map-append f (x ∷ xs) ys = ap (λ zs. f x ∷ zs) (map-append f xs ys)

map-twice : {X Y Z : Type 0} (f : Y → Z) (g : X → Y) (xs : List X) → map f (map g xs) ≡ map (λ x. f (g x)) xs
map-twice f g [] = refl
map-twice f g (x ∷ xs) = ap (λ ys. f (g x) ∷ ys) (map-twice f g xs)

-- an item found in a range, and an item that a filter of a range drops
any-found : (test : ℕ → Bool) (a n : ℕ) → list_any test (range_with_len a n) ≡ true → (k : ℕ) × (k < a + n) × (test k ≡ true)
any-found test a zero h = absurd (cc)
any-found test a (suc n) h = go (test a) refl h (λ found. any-found test (a + 1) n found)
  where
    go : (b : Bool) → test a ≡ b → (b || list_any test (range_with_len (a + 1) n)) ≡ true
        → (list_any test (range_with_len (a + 1) n) ≡ true → (k : ℕ) × (k < a + 1 + n) × (test k ≡ true))
        → (k : ℕ) × (k < a + suc n) × (test k ≡ true)
    go true e found behind = (a, omega arith, e)
    go false e found behind = let rest = behind found in (rest.0, omega (arith, rest.1), rest.2)

any-over : {X Y : Type 0} (test : Y → Bool) (f : X → Y) (xs : List X) → list_any test (map f xs) ≡ list_any (λ x. test (f x)) xs
any-over test f [] = refl
any-over test f (x ∷ xs) = ap (λ b. test (f x) || b) (any-over test f xs)

none-kept : (test : ℕ → Bool) (a n : ℕ) → ((k : ℕ) → k < a + n → test k ≡ false) → filter test (range_with_len a n) ≡ []
none-kept test a zero none = refl
none-kept test a (suc n) none = rw (none a (omega arith)) (none-kept test (a + 1) n (λ k h. none k (omega (arith, h))))

-- the masks by origins, where all parts have a point
pub masks-of-all : (level : Level) (scheme : Scheme)
    → masks_from level scheme (all_origins level.point_count (length level.polygons) (length (edges_of level.polygons))) ≡ child_masks level scheme
masks-of-all level scheme =
    let points = level.point_count in
    let faces = length level.polygons in
    let edges = length (edges_of level.polygons) in
    let mask : ℕ → Mask = λ n. mask_from level scheme (numbered_origin points faces n) in
    map-twice (mask_from level scheme) (numbered_origin points faces) (range_with_len 0 (points + faces + edges))
    ∙ ap (map mask) (range-append 0 (points + faces) edges ∙ ap (λ xs. xs ++ range_with_len (0 + (points + faces)) edges) (range-append 0 points faces))
    ∙ map-append mask (range_with_len 0 points ++ range_with_len (0 + points) faces) (range_with_len (0 + (points + faces)) edges)
    ∙ ap (λ xs. xs ++ map mask (range_with_len (0 + (points + faces)) edges)) (map-append mask (range_with_len 0 points) (range_with_len (0 + points) faces))
    ∙ append_assoc (map mask (range_with_len 0 points)) (map mask (range_with_len (0 + points) faces)) (map mask (range_with_len (0 + (points + faces)) edges))
    ∙ three vertices some_faces some_edges
  where
    three : {X : Type 0} {a b c d e f : List X} → a ≡ d → b ≡ e → c ≡ f → a ++ (b ++ c) ≡ d ++ (e ++ f)
    three p q r = cc

    vertices : map (λ n. mask_from level scheme (numbered_origin level.point_count (length level.polygons) n)) (range_with_len 0 level.point_count)
        ≡ map (vertex_mask level scheme) (range_with_len 0 level.point_count)
    vertices =
        map-range-same (λ n. mask_from level scheme (numbered_origin level.point_count (length level.polygons) n)) (vertex_mask level scheme) 0 0 level.point_count
        (λ j h. ap (mask_from level scheme) (origin-vertex level.point_count (length level.polygons) (0 + j) (omega (arith, h))))

    some_faces : map (λ n. mask_from level scheme (numbered_origin level.point_count (length level.polygons) n)) (range_with_len (0 + level.point_count) (length level.polygons))
        ≡ map (face_mask level) (range_with_len 0 (length level.polygons))
    some_faces =
        map-range-same (λ n. mask_from level scheme (numbered_origin level.point_count (length level.polygons) n)) (face_mask level) (0 + level.point_count) 0 (length level.polygons)
        (λ j h. ap (mask_from level scheme) (origin-face level.point_count (length level.polygons) (0 + level.point_count + j) (0 + j) (omega arith) (omega (arith, h))))

    listed : map (edge_mask level scheme) (edges_of level.polygons)
        ≡ map (λ e. edge_mask level scheme (edge_at level.polygons e)) (range_with_len 0 (length (edges_of level.polygons)))
    listed =
        let none = edge_mask level scheme (0, 0) in
        fill_by_all (λ e. edge_mask level scheme (edge_at level.polygons e)) (map (edge_mask level scheme) (edges_of level.polygons)) (length (edges_of level.polygons)) none
        (length-map (edges_of level.polygons) (edge_mask level scheme))
        (λ k h. get_or-map (edge_mask level scheme) (edges_of level.polygons) k (0, 0) none h)

    some_edges : map (λ n. mask_from level scheme (numbered_origin level.point_count (length level.polygons) n)) (range_with_len (0 + (level.point_count + length level.polygons)) (length (edges_of level.polygons)))
        ≡ map (edge_mask level scheme) (edges_of level.polygons)
    some_edges =
        map-range-same (λ n. mask_from level scheme (numbered_origin level.point_count (length level.polygons) n)) (λ e. edge_mask level scheme (edge_at level.polygons e))
        (0 + (level.point_count + length level.polygons)) 0 (length (edges_of level.polygons))
        (λ j h. ap (mask_from level scheme) (origin-edge level.point_count (length level.polygons) (0 + (level.point_count + length level.polygons) + j) (0 + j) (omega arith)))
        ∙ sym listed

-- the parts that have a point
module _ (points faces edges : ℕ) where
  found-at : (origin : PointOrigin) (n : ℕ) → n < points + faces + edges → numbered_origin points faces n ≡ origin → same_origin origin origin ≡ true
      → has_origin (all_origins points faces edges) origin ≡ true
  found-at origin n inside is own =
      list_any_at (same_origin origin) (all_origins points faces edges) n (FromVertex 0)
      (omega (arith, inside, length-map-range_with_len (numbered_origin points faces) 0 (points + faces + edges)))
      (ap (same_origin origin) (get_or-map-range_with_len (numbered_origin points faces) 0 (points + faces + edges) n n (FromVertex 0) inside (omega arith) ∙ is) ∙ own)

  pub has-vertex : (v : ℕ) → v < points → has_origin (all_origins points faces edges) (FromVertex v) ≡ true
  has-vertex v h = found-at (FromVertex v) v (omega (arith, h)) (origin-vertex points faces v h) (eq-eqb v v refl)

  pub has-face : (f : ℕ) → f < faces → has_origin (all_origins points faces edges) (FromFace f) ≡ true
  has-face f h = found-at (FromFace f) (points + f) (omega (arith, h)) (origin-face points faces (points + f) f refl h) (eq-eqb f f refl)

  numbered-where : (origin : PointOrigin) → has_origin (all_origins points faces edges) origin ≡ true
      → (n : ℕ) × (n < points + faces + edges) × (same_origin origin (numbered_origin points faces n) ≡ true)
  numbered-where origin h =
      let found =
      any-found (λ n. same_origin origin (numbered_origin points faces n)) 0 (points + faces + edges)
      (sym (any-over (same_origin origin) (numbered_origin points faces) (range_with_len 0 (points + faces + edges))) ∙ h) in
      (found.0, omega (arith, found.1), found.2)

  pub vertex-within : (v : ℕ) → has_origin (all_origins points faces edges) (FromVertex v) ≡ true → v < points
  vertex-within v h = let found = numbered-where (FromVertex v) h in go found.0 (nat_lt found.0 points) (nat_lt (found.0 - points) faces) refl refl found.2
    where
      go : (n : ℕ) (p q : Bool) → nat_lt n points ≡ p → nat_lt (n - points) faces ≡ q → same_origin (FromVertex v) (numbered_origin points faces n) ≡ true → v < points
      go n true q e f same = let own : nat_eq v n ≡ true = sym (rw e refl) ∙ same in grind (arith, nat_tests)
      go n false true e f same = let none : false ≡ true = sym (rw (e, f) refl) ∙ same in absurd (cc)
      go n false false e f same = let none : false ≡ true = sym (rw (e, f) refl) ∙ same in absurd (cc)

  pub edge-within : (d : ℕ) → has_origin (all_origins points faces edges) (FromEdge d) ≡ true → d < edges
  edge-within d h = let found = numbered-where (FromEdge d) h in go found.0 (nat_lt found.0 points) (nat_lt (found.0 - points) faces) refl refl found.1 found.2
    where
      go : (n : ℕ) (p q : Bool) → nat_lt n points ≡ p → nat_lt (n - points) faces ≡ q → n < points + faces + edges
          → same_origin (FromEdge d) (numbered_origin points faces n) ≡ true → d < edges
      go n true q e f inside same = let none : false ≡ true = sym (rw e refl) ∙ same in absurd (cc)
      go n false true e f inside same = let none : false ≡ true = sym (rw (e, f) refl) ∙ same in absurd (cc)
      go n false false e f inside same = let own : nat_eq d (n - points - faces) ≡ true = sym (rw (e, f) refl) ∙ same in grind (arith, nat_tests)

-- no face is hidden, so the terms of the step are those of the masks
pub terms-of-all : (level : Level) (scheme : Scheme)
    → step_terms level scheme (all_origins level.point_count (length level.polygons) (length (edges_of level.polygons))) ≡ mask_terms level scheme
terms-of-all level scheme =
    let origins = all_origins level.point_count (length level.polygons) (length (edges_of level.polygons)) in
    let shown : hidden_faces level scheme origins ≡ [] =
    none-kept (λ f. list_any (λ mask. has_source mask.terms (OfFace f)) (masks_from level scheme origins) && not (has_origin origins (FromFace f)))
    0 (length level.polygons) (λ f h. none (list_any (λ mask. has_source mask.terms (OfFace f)) (masks_from level scheme origins)) (has_origin origins (FromFace f))
    (has-face level.point_count (length level.polygons) (length (edges_of level.polygons)) f (omega (arith, h)))) in
    let masks = ap (sum_by (λ mask. length mask.terms)) (masks-of-all level scheme) in
    let rest = ap (sum_by (λ f. length (face_mask level f).terms)) shown in
    omega (arith, masks, rest)
  where
    none : (b c : Bool) → c ≡ true → (b && not c) ≡ false
    none true true h = refl
    none false true h = refl
    none b false h = absurd (cc)

-- there are as many masks as points of the next level
pub count-masks : (level : Level) (scheme : Scheme) → length (child_masks level scheme) ≡ child_points level.point_count level.polygons
count-masks level scheme =
    let points = level.point_count in
    let faces = length level.polygons in
    let edges = length (edges_of level.polygons) in
    ap length (sym (masks-of-all level scheme)) ∙ length-map (all_origins points faces edges) (mask_from level scheme)
    ∙ length-map-range_with_len (numbered_origin points faces) 0 (points + faces + edges)
