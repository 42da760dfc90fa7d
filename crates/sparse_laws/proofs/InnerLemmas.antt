-- The inner faces of a sparse level ascend, and are present.
use Rattle.std.proofs.Common.{◌≡◌, ℕ, zero, suc, ◌+◌, ◌<◌, Bool, true, false, ◌||◌, nat_eq, List, [], ◌∷◌, ◌++◌, length, replicate, arith, ap, sym, ◌∙◌, subst, length-append, refl}
use Rattle.std.specs.List.{flat_map, list_all, sum_by, range_with_len, enumerate_from}
use Rattle.std.proofs.lemmas.Bool.{and_parts, or_right}
use Rattle.std.proofs.lemmas.List.{length-replicate}
use Rattle.std.proofs.lemmas.List.Sums.{sum_by-cons}
use Rattle.subdiv_model.specs.Lists.{places_from}
use Rattle.subdiv_model.specs.Polygons.{Polygon, has_corner, is_among, polygon_at}
use Rattle.subdiv_model.specs.Level.{Level}
use Rattle.subdiv_model.specs.Child.{refined_level}
use Rattle.subdiv_model.specs.Sparse.{FacePredicate, corners_of, parents_of, is_on, selected, inner, present}
use Rattle.mesh_laws.proofs.FanLemmas.{number-any}
use Rattle.level_laws.proofs.FaceLemmas.{child_polygons-length}
use Rattle.part_laws.proofs.AscendingLemmas.{Ascends, lower}
use Rattle.sparse_laws.proofs.FactLemmas.{all-own}

-- lists of one length, where the second passes its test wherever the first passes its own
abbrev Aligned : {X Y : Type 0} → (X → Bool) → (Y → Bool) → List X → List Y → Type 0
Aligned test other [] [] = Unit {0}
Aligned test other [] (y ∷ ys) = ⊥
Aligned test other (x ∷ xs) [] = ⊥
Aligned test other (x ∷ xs) (y ∷ ys) = (test x ≡ true → other y ≡ true) × Aligned test other xs ys

aligned-append : {X Y : Type 0} (test : X → Bool) (other : Y → Bool) (xs : List X) (ys : List Y) (us : List X) (vs : List Y) → Aligned test other xs ys → Aligned test other us vs → Aligned test other (xs ++ us) (ys ++ vs)
aligned-append test other [] [] us vs one two = two
aligned-append test other [] (y ∷ ys) us vs one two = absurd one
aligned-append test other (x ∷ xs) [] us vs one two = absurd one
aligned-append test other (x ∷ xs) (y ∷ ys) us vs one two = (one.0, aligned-append test other xs ys us vs one.1 two)

or-weaker : (a b c : Bool) → (b ≡ true → c ≡ true) → (a || b) ≡ true → (a || c) ≡ true
or-weaker true b c weaker h = refl
or-weaker false b c weaker h = weaker h

-- the places of the first list are places of the second
places-aligned : {X Y : Type 0} (test : X → Bool) (other : Y → Bool) (place : ℕ) (xs : List X) (ys : List Y) → Aligned test other xs ys → (n : ℕ) → is_among (places_from place test xs) n ≡ true → is_among (places_from place other ys) n ≡ true
places-aligned test other place [] [] one n h = h
places-aligned test other place [] (y ∷ ys) one n h = absurd one
places-aligned test other place (x ∷ xs) [] one n h = absurd one
places-aligned test other place (x ∷ xs) (y ∷ ys) one n h = go (test x) (other y) refl refl (places-aligned test other (place + 1) xs ys one.1 n) h
  where
    go : (a b : Bool) → test x ≡ a → other y ≡ b → (is_among (places_from (place + 1) test xs) n ≡ true → is_among (places_from (place + 1) other ys) n ≡ true) → is_among (places_from place test (x ∷ xs)) n ≡ true → is_among (places_from place other (y ∷ ys)) n ≡ true
    go true true e f rest there =
        let here : (nat_eq n place || is_among (places_from (place + 1) test xs) n) ≡ true = rw e at there in
        rw f (or-weaker (nat_eq n place) _ _ rest here)
    go true false e f rest there = let yes = one.0 e in absurd (cc)
    go false true e f rest there = let here = rest (rw e at there) in rw f (or_right (nat_eq n place) _ here)
    go false false e f rest there = let here = rest (rw e at there) in rw f here

-- a vertex of a corner is on a listed face if the face of the corner is listed
corners-aligned : (polygons : List Polygon) (faces : List ℕ) (f : ℕ) (corners : Polygon) → list_all (λ v. has_corner v (polygon_at polygons f)) corners ≡ true → Aligned (is_among faces) (is_on polygons faces) (replicate (length corners) f) corners
corners-aligned polygons faces f [] all = tt
corners-aligned polygons faces f (v ∷ corners) all =
    let parts = and_parts (has_corner v (polygon_at polygons f)) (list_all (λ c. has_corner c (polygon_at polygons f)) corners) all in
    (λ there. number-any (λ face. has_corner v (polygon_at polygons face)) faces f parts.0 there, corners-aligned polygons faces f corners parts.1)

all-aligned : (polygons : List Polygon) (faces : List ℕ) (k : ℕ) (some : List Polygon) → ((i : ℕ) → i < length some → polygon_at some i ≡ polygon_at polygons (k + i)) → Aligned (is_among faces) (is_on polygons faces) (flat_map (λ face. replicate (length face.1) face.0) (enumerate_from k some)) (corners_of some)
all-aligned polygons faces k [] same = tt
all-aligned polygons faces k (polygon ∷ some) same =
    let first : polygon ≡ polygon_at polygons k = same 0 (omega arith) ∙ ap (polygon_at polygons) (let e : k + 0 ≡ k = omega arith in e) in
    aligned-append (is_among faces) (is_on polygons faces) (replicate (length polygon) k) polygon
    (flat_map (λ face. replicate (length face.1) face.0) (enumerate_from (k + 1) some)) (corners_of some)
    (corners-aligned polygons faces k polygon (ap (λ q. list_all (λ v. has_corner v q) polygon) (sym first) ∙ all-own polygon))
    (all-aligned polygons faces (k + 1) some (λ i h. same (suc i) (omega (arith, h)) ∙ ap (polygon_at polygons) (let e : k + suc i ≡ k + 1 + i = omega arith in e)))

-- each inner face is present
pub inner-present : (base : Level) (predicate : FacePredicate) (depth n : ℕ) → is_among (inner base predicate depth) n ≡ true → is_among (present base predicate depth) n ≡ true
inner-present base predicate zero n h = h
inner-present base predicate (suc depth) n h =
    let polygons = (refined_level base depth).polygons in
    let faces = selected base predicate depth in
    places-aligned (is_among faces) (is_on polygons faces) 0 (parents_of polygons) (corners_of polygons)
    (all-aligned polygons faces 0 polygons (λ i inside. ap (polygon_at polygons) (let e : i ≡ 0 + i = omega arith in e))) n h

-- places ascend
pub places-ascend : {X : Type 0} (test : X → Bool) (place : ℕ) (xs : List X) → Ascends place (place + length xs) (places_from place test xs)
places-ascend test place [] = tt
places-ascend test place (x ∷ xs) = go (test x) refl (subst (λ b. Ascends (place + 1) b (places_from (place + 1) test xs)) end (places-ascend test (place + 1) xs))
  where
    end : place + 1 + length xs ≡ place + length (x ∷ xs)
    end = omega arith

    go : (b : Bool) → test x ≡ b → Ascends (place + 1) (place + length (x ∷ xs)) (places_from (place + 1) test xs) → Ascends place (place + length (x ∷ xs)) (places_from place test (x ∷ xs))
    go true e rest = rw e (omega arith, omega arith, rest)
    go false e rest = rw e (lower (place + 1) place (place + length (x ∷ xs)) (places_from (place + 1) test xs) (omega arith) rest)

pub range-ascends : (a n : ℕ) → Ascends a (a + n) (range_with_len a n)
range-ascends a zero = tt
range-ascends a (suc n) = (omega arith, omega arith, subst (λ b. Ascends (a + 1) b (range_with_len (a + 1) n)) (let e : a + 1 + n ≡ a + suc n = omega arith in e) (range-ascends (a + 1) n))

parents-length : (k : ℕ) (polygons : List Polygon) → length (flat_map (λ face. replicate (length face.1) face.0) (enumerate_from k polygons)) ≡ sum_by length polygons
parents-length k [] = refl
parents-length k (polygon ∷ polygons) =
    let rest = parents-length (k + 1) polygons in
    let both = length-append (replicate (length polygon) k) (flat_map (λ face. replicate (length face.1) face.0) (enumerate_from (k + 1) polygons)) in
    omega (arith, rest, both, length-replicate (length polygon) k, sum_by-cons length polygon polygons)

-- inner faces ascend
pub inner-ascends : (base : Level) (predicate : FacePredicate) (depth : ℕ) → Ascends 0 (0 + length (refined_level base depth).polygons) (inner base predicate depth)
inner-ascends base predicate zero = range-ascends 0 (length base.polygons)
inner-ascends base predicate (suc depth) =
    let level = refined_level base depth in
    subst (λ n. Ascends 0 (0 + n) (inner base predicate (suc depth))) (parents-length 0 level.polygons ∙ sym (child_polygons-length level.point_count level.polygons))
    (places-ascend (is_among (selected base predicate depth)) 0 (parents_of level.polygons))
