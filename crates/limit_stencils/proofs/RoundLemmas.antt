-- A smooth vertex has as many quads as edges, if each edge of one face is infinitely sharp.
use Rattle.std.proofs.Common.{◌≡◌, ℕ, ◌<◌, Bool, true, false, not, ◌&&◌, ◌||◌, nat_eq, nat_le, if◌then◌else◌, List, [], ◌∷◌, length, map, get_or, arith, refl, ap, sym, ◌∙◌}
use Rattle.std.specs.List.{filter, list_all, list_any}
use Rattle.std.proofs.lemmas.Bool.{and_parts, cond_both, eqb-true, false_from_ne_true, false≢true}
use Rattle.std.proofs.lemmas.Bool.Decides.{nat_tests}
use Rattle.std.proofs.lemmas.List.{length-map}
use Rattle.subdiv_model.specs.Polygons.{polygon_at}
use Rattle.subdiv_model.specs.Edges.{edges_of, has_end, is_boundary}
use Rattle.subdiv_model.specs.Base.{is_at_boundary}
use Rattle.subdiv_model.specs.Sharpness.{Smooth}
use Rattle.subdiv_model.specs.Level.{Level, edge_sharpness_of, vertex_sharpness_of, edges_at, faces_at, ring_at}
use Rattle.subdiv_model.specs.Feature.{is_infinite}
use Rattle.subdiv_model.specs.Limit.{opposite_corner}
use Rattle.number_laws.proofs.ListLemmas.{any-both}
use Rattle.sharpness_laws.proofs.OrderLemmas.{count-any_order}
use Rattle.mask_laws.specs.SharpBoundary.{has_sharp_boundary}
use Rattle.mask_laws.proofs.BoundaryRuleLemmas.{interior-away}
use Rattle.level_topology.specs.Topology.{Topology, IsTopology}
use Rattle.level_topology.proofs.ValenceLemmas.{edges-counted}
use Rattle.mask_rules.specs.Around.{end_of_edge, ends_in, faces_in, ring_in}
use Rattle.mask_rules.proofs.AroundLemmas.{ring-permuted}
use Rattle.limit_stencils.specs.declared.lasting.LastingRule.TheVariants.{Smooth as SmoothRule, Corner}
use Rattle.limit_stencils.specs.AtVertex.{opposites_in, lasting_ends, rule_of_ends, rule_in}
use Rattle.limit_stencils.proofs.OrderLemmas.{any-permuted}

-- if all edges of one face are sharp, one that ends at a point is a sharp edge there
any-sharp : {X : Type 0} (single end sharp : X → Bool) (xs : List X) → list_all (λ x. not (single x) || sharp x) xs ≡ true
    → list_any (λ x. single x && end x) xs ≡ true → list_any (λ x. end x && sharp x) xs ≡ true
any-sharp single end sharp [] h k = k
any-sharp single end sharp (x ∷ xs) h k =
    let parts = and_parts (not (single x) || sharp x) (list_all (λ y. not (single y) || sharp y) xs) h in
    here (single x) (end x) (sharp x) (list_any (λ y. single y && end y) xs) (list_any (λ y. end y && sharp y) xs) parts.0 k (any-sharp single end sharp xs parts.1)
  where
    or-true : (b : Bool) → (b || true) ≡ true
    or-true true = refl
    or-true false = refl

    here : (a e s r q : Bool) → (not a || s) ≡ true → ((a && e) || r) ≡ true → (r ≡ true → q ≡ true) → ((e && s) || q) ≡ true
    here true true true r q p k h = refl
    here true true false r q p k h = absurd (false≢true p)
    here true false s r q p k h = h k
    here false e s r q p k h = ap (λ b. (e && s) || b) (h k) ∙ or-true (e && s)

any-mapped : {X Y : Type 0} (test : Y → Bool) (f : X → Y) (xs : List X) → list_any test (map f xs) ≡ list_any (λ x. test (f x)) xs
any-mapped test f [] = refl
any-mapped test f (x ∷ xs) = ap (λ b. test (f x) || b) (any-mapped test f xs)

none-left : {X : Type 0} (test : X → Bool) (xs : List X) → filter test xs ≡ [] → list_any test xs ≡ false
none-left test [] e = refl
none-left test (x ∷ xs) e =
    cond_both (test x) (x ∷ filter test xs) (filter test xs) (λ l. l ≡ [] → (test x || list_any test xs) ≡ false)
    (λ yes some. absurd (cc)) (λ no none. ap (λ b. b || list_any test xs) no ∙ none-left test xs none) e

none-mapped : (f : ℕ → ℕ) (xs : List ℕ) → map f xs ≡ [] → xs ≡ []
none-mapped f [] e = refl
none-mapped f (x ∷ xs) e = absurd (cc)

smooth-parts : (b : Bool) (ends : List ℕ) → (if b then Corner else rule_of_ends ends) ≡ SmoothRule → (b ≡ false) × (ends ≡ [])
smooth-parts true ends e = absurd (cc)
smooth-parts false [] e = (refl, refl)
smooth-parts false (a ∷ []) e = absurd (cc)
smooth-parts false (a ∷ (b ∷ [])) e = absurd (cc)
smooth-parts false (a ∷ (b ∷ (c ∷ ends))) e = absurd (cc)

module _ (t : Topology) (v : ℕ) (is : IsTopology t) (inside : v < t.level.point_count) where
  abbrev level : Level
  level = t.level

  abbrev items : List ℕ
  items = get_or t.edges_at v []

  abbrev sharp : ℕ → Bool
  sharp e = is_infinite (get_or level.edge_sharpness e Smooth)

  -- an edge of one face at a point is a sharp edge there
  sharp-there : has_sharp_boundary level ≡ true → is_at_boundary level.polygons v ≡ true → list_any is_infinite (ring_in t v) ≡ true
  sharp-there boundary at =
      let edges = edges_of level.polygons in
      let test : ℕ × ℕ → Bool = λ edge. is_infinite (edge_sharpness_of level edge) in
      let all : list_all (λ edge. not (is_boundary level.polygons edge) || test edge) edges ≡ true = boundary in
      sym (any-permuted is_infinite (ring_at level v) (ring_in t v) (ring-permuted t v is inside))
      ∙ any-mapped is_infinite (edge_sharpness_of level) (edges_at level v)
      ∙ any-both (has_end v) test edges
      ∙ any-sharp (is_boundary level.polygons) (has_end v) test edges all at

  pub smooth-round : has_sharp_boundary level ≡ true → rule_in t v ≡ SmoothRule
      → (0 < length (ends_in t v)) × (length (opposites_in t v) ≡ length (ends_in t v))
  smooth-round boundary smooth =
      let parts = smooth-parts (is_infinite (vertex_sharpness_of level v) || nat_eq (length items) 0) (lasting_ends level v items) smooth in
      let none : list_any is_infinite (ring_in t v) ≡ false =
      any-mapped is_infinite (λ e. get_or level.edge_sharpness e Smooth) items
      ∙ none-left sharp items (none-mapped (end_of_edge level.polygons v) (filter sharp items) parts.1) in
      let away : is_at_boundary level.polygons v ≡ false = false_from_ne_true _ (λ at. false≢true (sym none ∙ sharp-there boundary at)) in
      let some : 0 < length items = long (is_infinite (vertex_sharpness_of level v)) (length items) parts.0 in
      let counted = edges-counted t v is inside in
      let interior = interior-away level is.simple is.sides_once v away (omega (arith, some, counted)) in
      let round : length (faces_at level v) ≡ length (edges_at level v) =
      eqb-true _ _ (and_parts (nat_le 2 (length (edges_at level v))) (nat_eq (length (faces_at level v)) (length (edges_at level v))) interior).1 in
      let ends = length-map items (end_of_edge level.polygons v) in
      let opposites = length-map (faces_in t v) (λ face. opposite_corner v (polygon_at level.polygons face)) in
      let faces = count-any_order (faces_at level v) (faces_in t v) (is.listed v inside).faces in
      (omega (arith, some, ends), opposites ∙ sym faces ∙ round ∙ sym counted ∙ sym ends)
    where
      long : (b : Bool) (n : ℕ) → (b || nat_eq n 0) ≡ false → 0 < n
      long b n h = grind (arith, nat_tests)
