-- The effect of tags on the sharpness of edges and vertices: of the tags for one, the last counts.
use Rattle.std.proofs.Common.{◌≡◌, ℕ, zero, suc, ◌+◌, ◌<◌, ◌≤◌, Bool, true, false, ◌||◌, nat_eq, List, [], ◌∷◌, length, get_or, map, slice_set, arith, refl, ap, sym, ◌∙◌, if◌then◌else◌}
use Rattle.std.specs.List.{filter, list_all, list_any, count_by, position_or_len, range_with_len}
use Rattle.std.proofs.lemmas.Bool.Decides.{nat_tests}
use Rattle.std.proofs.lemmas.Bool.{and_parts, false_from_ne_true}
use Rattle.subdiv_model.specs.Polygons.{Polygon, same_edge}
use Rattle.subdiv_model.specs.Edges.{all_sides, edges_of}
use Rattle.subdiv_model.specs.Lists.{last_of, places_from}
use Rattle.subdiv_model.specs.Sharpness.{Sharpness, Infinite, Method}
use Rattle.number_laws.proofs.CountLemmas.{count-cons, count-some, one_if}
use Rattle.mesh_laws.proofs.SideLemmas.{same_edge-sym}
use Rattle.mesh_laws.proofs.EdgeLemmas.{first_named-once}
use Rattle.point_fans.specs.Built.{Built, built_of}
use Rattle.level_builder.specs.Builder.{with_sharp_edge, with_sharp_vertex}
use Rattle.level_builder.proofs.RestLemmas.{others, at-first}
use Rattle.mesh_check.specs.Base.{with_edge_tag, with_edge_tags, with_vertex_tags, infinite}

-- two functions that agree give the same list
pub map-alike : {X Y : Type 0} (f g : X → Y) → ((x : X) → f x ≡ g x) → (xs : List X) → map f xs ≡ map g xs
map-alike f g same [] = refl
map-alike f g same (x ∷ xs) = ap (λ y. y ∷ map f xs) (same x) ∙ ap (λ ys. g x ∷ ys) (map-alike f g same xs)

-- a sharpness for the key, and the function for all others
abbrev pub but : {K : Type 0} → (K → K → Bool) → K → Sharpness → (K → Sharpness) → K → Sharpness
but same key s f k = if same k key then s else f k

-- the last of the tags for a key, or else the given sharpness
abbrev pub last_tag : {K : Type 0} → (K → K → Bool) → List (K × Sharpness) → (K → Sharpness) → K → Sharpness
last_tag same tags f k = last_of (f k) (map (λ tag. tag.1) (filter (λ tag. same k tag.0) tags))

-- one tag more at the front
last-next : {K : Type 0} (same : K → K → Bool) (tag : K × Sharpness) (tags : List (K × Sharpness)) (f : K → Sharpness) (k : K) → last_tag same tags (but same tag.0 tag.1 f) k ≡ last_tag same (tag ∷ tags) f k
last-next same tag tags f k = here (same k tag.0)
  where
    here : (b : Bool) → last_of (if b then tag.1 else f k) (map (λ t. t.1) (filter (λ t. same k t.0) tags)) ≡ last_of (f k) (map (λ t. t.1) (if b then tag ∷ filter (λ t. same k t.0) tags else filter (λ t. same k t.0) tags))
    here true = refl
    here false = refl

-- a tag for no edge changes nothing
but-none : (key : ℕ × ℕ) (s : Sharpness) (f : ℕ × ℕ → Sharpness) (edges : List (ℕ × ℕ)) → list_any (same_edge key) edges ≡ false → map f edges ≡ map (but same_edge key s f) edges
but-none key s f [] none = refl
but-none key s f (e ∷ edges) none =
    let this : same_edge e key ≡ false = same_edge-sym e key ∙ (grind (arith, nat_tests)) in
    let rest : list_any (same_edge key) edges ≡ false = grind (arith, nat_tests) in
    ap (λ b. (if b then s else f e) ∷ map f edges) (sym this) ∙ ap (λ ys. but same_edge key s f e ∷ ys) (but-none key s f edges rest)

set-next : (x : Sharpness) (xs : List Sharpness) (n : ℕ) (s : Sharpness) → slice_set (x ∷ xs) (1 + n) s ≡ x ∷ slice_set xs n s
set-next x xs n s = let next : 1 + n ≡ suc n = omega arith in ap (λ k. slice_set (x ∷ xs) k s) next

-- a new sharpness at the place of an edge that occurs at most once
set-edge : (key : ℕ × ℕ) (s : Sharpness) (f : ℕ × ℕ → Sharpness) (edges : List (ℕ × ℕ)) → count_by (same_edge key) edges ≤ 1
    → list_any (same_edge key) edges ≡ true → slice_set (map f edges) (position_or_len (same_edge key) edges) s ≡ map (but same_edge key s f) edges
set-edge key s f [] once some = absurd (cc)
set-edge key s f (e ∷ edges) once some = here (same_edge key e) refl (set-edge key s f edges)
  where
    here : (b : Bool) → same_edge key e ≡ b
        → (count_by (same_edge key) edges ≤ 1 → list_any (same_edge key) edges ≡ true → slice_set (map f edges) (position_or_len (same_edge key) edges) s ≡ map (but same_edge key s f) edges)
        → slice_set (map f (e ∷ edges)) (position_or_len (same_edge key) (e ∷ edges)) s ≡ map (but same_edge key s f) (e ∷ edges)
    here true is behind =
        let first : one_if (same_edge key e) ≡ 1 = ap one_if is in
        let none : list_any (same_edge key) edges ≡ false = false_from_ne_true (list_any (same_edge key) edges) (λ more. omega (arith, count-cons (same_edge key) e edges, first, once, count-some (same_edge key) edges more)) in
        rw (is, same_edge-sym e key ∙ is) (ap (λ ys. s ∷ ys) (but-none key s f edges none))
    here false is behind =
        let other : same_edge e key ≡ false = same_edge-sym e key ∙ is in
        let more : list_any (same_edge key) edges ≡ true = grind (arith, nat_tests) in
        rw (is, other) (set-next (f e) (map f edges) (position_or_len (same_edge key) edges) s ∙ ap (λ ys. f e ∷ ys) (behind (omega (arith, once, count-cons (same_edge key) e edges)) more))

-- all tags of edges
pub edge-tags : (points : ℕ) (polygons : List Polygon) (holes : List Bool) (vertices : List Sharpness) (method : Method) (complete : List Bool) (tags : List ((ℕ × ℕ) × Sharpness)) (f : ℕ × ℕ → Sharpness)
    → with_edge_tags tags (built_of points polygons holes (map f (edges_of polygons)) vertices method complete)
    ≡ built_of points polygons holes (map (last_tag same_edge tags f) (edges_of polygons)) vertices method complete
edge-tags points polygons holes vertices method complete [] f = refl
edge-tags points polygons holes vertices method complete (tag ∷ tags) f =
    ap (with_edge_tags tags) (one (list_any (same_edge tag.0) (edges_of polygons)) refl)
    ∙ edge-tags points polygons holes vertices method complete tags (but same_edge tag.0 tag.1 f)
    ∙ ap built (map-alike _ _ (last-next same_edge tag tags f) (edges_of polygons))
  where
    built : List Sharpness → Built
    built sharpness = built_of points polygons holes sharpness vertices method complete

    one : (b : Bool) → list_any (same_edge tag.0) (edges_of polygons) ≡ b
        → (if b then built (slice_set (map f (edges_of polygons)) (position_or_len (same_edge tag.0) (edges_of polygons)) tag.1) else built (map f (edges_of polygons)))
        ≡ built (map (but same_edge tag.0 tag.1 f) (edges_of polygons))
    one true is = ap built (set-edge tag.0 tag.1 f (edges_of polygons) (first_named-once tag.0 (all_sides polygons)) is)
    one false is = ap built (but-none tag.0 tag.1 f (edges_of polygons) is)

-- a sharpness at a vertex before these changes none of them
set-later : (a n : ℕ) (s : Sharpness) (f : ℕ → Sharpness) (v : ℕ) → v < a → map f (range_with_len a n) ≡ map (but nat_eq v s f) (range_with_len a n)
set-later a zero s f v h = refl
set-later a (suc n) s f v h =
    let other : nat_eq a v ≡ false = grind (arith, nat_tests) in
    ap (λ b. (if b then s else f a) ∷ map f (range_with_len (a + 1) n)) (sym other) ∙ ap (λ ys. but nat_eq v s f a ∷ ys) (set-later (a + 1) n s f v (omega arith))

-- a sharpness at the place of a vertex
set-vertex : (a n i : ℕ) (s : Sharpness) (f : ℕ → Sharpness) → slice_set (map f (range_with_len a n)) i s ≡ map (but nat_eq (a + i) s f) (range_with_len a n)
set-vertex a zero i s f = refl
set-vertex a (suc n) zero s f =
    let same : nat_eq a (a + 0) ≡ true = grind (arith, nat_tests) in
    ap (λ b. (if b then s else f a) ∷ map f (range_with_len (a + 1) n)) (sym same) ∙ ap (λ ys. but nat_eq (a + 0) s f a ∷ ys) (set-later (a + 1) n s f (a + 0) (omega arith))
set-vertex a (suc n) (suc i) s f =
    let other : nat_eq a (a + suc i) ≡ false = grind (arith, nat_tests) in
    let place : a + 1 + i ≡ a + suc i = omega arith in
    ap (λ b. (if b then s else f a) ∷ slice_set (map f (range_with_len (a + 1) n)) i s) (sym other)
    ∙ ap (λ ys. but nat_eq (a + suc i) s f a ∷ ys) (set-vertex (a + 1) n i s f ∙ ap (λ v. map (but nat_eq v s f) (range_with_len (a + 1) n)) place)

-- all tags of vertices
pub vertex-tags : (points : ℕ) (polygons : List Polygon) (holes : List Bool) (edges : List Sharpness) (method : Method) (complete : List Bool) (tags : List (ℕ × Sharpness)) (f : ℕ → Sharpness)
    → with_vertex_tags tags (built_of points polygons holes edges (map f (range_with_len 0 points)) method complete)
    ≡ built_of points polygons holes edges (map (last_tag nat_eq tags f) (range_with_len 0 points)) method complete
vertex-tags points polygons holes edges method complete [] f = refl
vertex-tags points polygons holes edges method complete (tag ∷ tags) f =
    let from : 0 + tag.0 ≡ tag.0 = omega arith in
    ap (λ sharpness. with_vertex_tags tags (built sharpness)) (set-vertex 0 points tag.0 tag.1 f ∙ ap (λ v. map (but nat_eq v tag.1 f) (range_with_len 0 points)) from)
    ∙ vertex-tags points polygons holes edges method complete tags (but nat_eq tag.0 tag.1 f)
    ∙ ap built (map-alike _ _ (last-next nat_eq tag tags f) (range_with_len 0 points))
  where
    built : List Sharpness → Built
    built sharpness = built_of points polygons holes edges sharpness method complete

-- a tag of infinite sharpness counts at any place among such tags
pub last-infinite : {K : Type 0} (same : K → K → Bool) (named : List K) (f : K → Sharpness) (k : K) → last_tag same (infinite named) f k ≡ (if list_any (same k) named then Infinite else f k)
last-infinite {K = K} same named f k = go named (f k)
  where
    go : (named : List K) (s : Sharpness) → last_of s (map (λ tag. tag.1) (filter (λ tag. same k tag.0) (infinite named))) ≡ (if list_any (same k) named then Infinite else s)
    go [] s = refl
    go (n ∷ named) s = here (same k n) (go named)
      where
        stays : (b : Bool) → (if b then Infinite else Infinite) ≡ Infinite
        stays true = refl
        stays false = refl

        here : (b : Bool) → ((t : Sharpness) → last_of t (map (λ tag. tag.1) (filter (λ tag. same k tag.0) (infinite named))) ≡ (if list_any (same k) named then Infinite else t))
            → last_of s (map (λ tag. tag.1) (if b then (n, Infinite) ∷ filter (λ tag. same k tag.0) (infinite named) else filter (λ tag. same k tag.0) (infinite named)))
            ≡ (if b || list_any (same k) named then Infinite else s)
        here true behind = behind Infinite ∙ stays (list_any (same k) named)
        here false behind = behind s

-- the first side is made sharp, and the others follow
module _ (sides : List (ℕ × ℕ)) (old new : Built) (some : 1 ≤ length sides) (edges : list_all (λ s. list_any (same_edge s) (edges_of old.level.polygons)) sides ≡ true) (is : new ≡ with_sharp_edge (get_or sides 0 (0, 0)) Infinite old) where
  parts : (list_any (same_edge (get_or sides 0 (0, 0))) (edges_of old.level.polygons) ≡ true) × (list_all (λ s. list_any (same_edge s) (edges_of old.level.polygons)) (others sides) ≡ true)
  parts = and_parts _ _ (sym (at-first (list_all (λ s. list_any (same_edge s) (edges_of old.level.polygons))) sides (0, 0) some) ∙ edges)

  pub side-put : (all : Built) → with_edge_tags (infinite sides) old ≡ all → with_edge_tags (infinite (others sides)) new ≡ all
  side-put all whole =
      ap (with_edge_tags (infinite (others sides))) is
      ∙ sym (ap (λ b. with_edge_tags (infinite (others sides)) (if b then with_sharp_edge (get_or sides 0 (0, 0)) Infinite old else old)) parts.0)
      ∙ sym (at-first (λ ss. with_edge_tags (infinite ss) old) sides (0, 0) some)
      ∙ whole

  pub side-edges : list_all (λ s. list_any (same_edge s) (edges_of new.level.polygons)) (others sides) ≡ true
  side-edges = ap (λ (b : Built). list_all (λ s. list_any (same_edge s) (edges_of b.level.polygons)) (others sides)) is ∙ parts.1

-- a tag leaves the polygons as they are
pub tag-polygons : (tag : (ℕ × ℕ) × Sharpness) (old new : Built) → new ≡ with_edge_tag tag old → new.level.polygons ≡ old.level.polygons
tag-polygons tag old new is = ap (λ (b : Built). b.level.polygons) is ∙ stays (list_any (same_edge tag.0) (edges_of old.level.polygons))
  where
    stays : (b : Bool) → (if b then with_sharp_edge tag.0 tag.1 old else old).level.polygons ≡ old.level.polygons
    stays true = refl
    stays false = refl

-- a vertex with one corner is made sharp, and the others follow
module _ (counts : List ℕ) (v : ℕ) (old new : Built) (is : new ≡ (if nat_eq (get_or counts 0 0) 1 then with_sharp_vertex v Infinite old else old)) where
  pub single-put : (all : Built) → 1 ≤ length counts → with_vertex_tags (infinite (places_from v (λ count. nat_eq count 1) counts)) old ≡ all → with_vertex_tags (infinite (places_from (v + 1) (λ count. nat_eq count 1) (others counts))) new ≡ all
  single-put all some whole = go (nat_eq (get_or counts 0 0) 1) refl is ∙ sym (at-first (λ ns. with_vertex_tags (infinite (places_from v (λ count. nat_eq count 1) ns)) old) counts 0 some) ∙ whole
    where
      later : List ℕ
      later = places_from (v + 1) (λ count. nat_eq count 1) (others counts)

      go : (b : Bool) → nat_eq (get_or counts 0 0) 1 ≡ b → new ≡ (if b then with_sharp_vertex v Infinite old else old)
          → with_vertex_tags (infinite later) new ≡ with_vertex_tags (infinite (places_from v (λ count. nat_eq count 1) (get_or counts 0 0 ∷ others counts))) old
      go true e made = ap (with_vertex_tags (infinite later)) made ∙ sym (ap (λ b. with_vertex_tags (infinite (if b then v ∷ later else later)) old) e)
      go false e made = ap (with_vertex_tags (infinite later)) made ∙ sym (ap (λ b. with_vertex_tags (infinite (if b then v ∷ later else later)) old) e)

  pub single-points : new.level.point_count ≡ old.level.point_count
  single-points = ap (λ (b : Built). b.level.point_count) is ∙ stays (nat_eq (get_or counts 0 0) 1)
    where
      stays : (b : Bool) → (if b then with_sharp_vertex v Infinite old else old).level.point_count ≡ old.level.point_count
      stays true = refl
      stays false = refl
