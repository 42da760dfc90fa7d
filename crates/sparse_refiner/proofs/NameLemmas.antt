-- The child faces of a part under the names of its points.
use Rattle.std.proofs.Common.{◌≡◌, ℕ, suc, ◌+◌, ◌<◌, true, nat_eq, nat_lt, List, [], ◌∷◌, length, map, get_or, arith, refl, ap, sym, ◌∙◌}
use Rattle.std.specs.List.{list_all}
use Rattle.std.proofs.lemmas.Bool.{eq-eqb, lt-ltb}
use Rattle.std.proofs.lemmas.List.{get_or-map, length-map}
use Rattle.std.proofs.lemmas.List.Sums.{list_all-from_AllPass}
use Rattle.std.proofs.lemmas.List.Folds.{list_any_at}
use Rattle.subdiv_model.specs.Polygons.{Polygon, polygon_at, is_over, has_corner}
use Rattle.subdiv_model.specs.Child.{child_polygons}
use Rattle.mesh_laws.proofs.TurnedLemmas.{among-map}
use Rattle.level_laws.proofs.FaceLemmas.{child_polygons-length}
use Rattle.part_laws.specs.Parts as laws
use Rattle.part_laws.proofs.ListLemmas.{map-twice}
use Rattle.part_laws.proofs.JoinLemmas.{corner-of}
use Rattle.level_topology.specs.Topology.{Topology, IsTopology}
use Rattle.child_slots.specs.Parts.{Part, IsPart, place_number, whole_quad, part_polygons}
use Rattle.child_slots.proofs.SlotLemmas.{over-of, first-below}
use Rattle.child_slots.proofs.QuadLemmas.{child-quad, face-below}
use Rattle.child_slots.proofs.PartLemmas.{quads-count, quad-at-place}
use Rattle.child_slots.proofs.FaceWalkLemmas.{corners-there}
use Rattle.sparse_refiner.specs.Shapes.{children_at, name_in, AreNames}

-- two functions that agree on each item give the same list
maps-same : {X : Type 0} (f g : ℕ × ℕ → X) (xs : List (ℕ × ℕ)) → ((i : ℕ) → i < length xs → f (get_or xs i (0, 0)) ≡ g (get_or xs i (0, 0))) → map f xs ≡ map g xs
maps-same f g [] same = refl
maps-same f g (x ∷ xs) same =
    let first : f x ≡ g x = same 0 (omega arith) in
    let rest = maps-same f g xs (λ i h. same (suc i) (omega (arith, h))) in
    ap (λ y. y ∷ map f xs) first ∙ ap (λ ys. g x ∷ ys) rest

four-same : {a a' b b' d d' e e' : ℕ} → a ≡ a' → b ≡ b' → d ≡ d' → e ≡ e' → a ∷ b ∷ d ∷ e ∷ [] ≡ a' ∷ b' ∷ d' ∷ e' ∷ []
four-same p q r s = cc

module _ (t : Topology) (is : IsTopology t) (p : Part) (part : IsPart t.level.point_count t.level.polygons p) (names : List ℕ) (known : AreNames p.has p.number names) where
  abbrev points : ℕ
  points = t.level.point_count

  abbrev polygons : List Polygon
  polygons = t.level.polygons

  abbrev quads : List Polygon
  quads = part_polygons t.level.point_count t.level.polygons p

  abbrev kids : List Polygon
  kids = child_polygons t.level.point_count t.level.polygons

  abbrev children : List ℕ
  children = children_at t.level.polygons p.places

  abbrev place : ℕ → ℕ × ℕ
  place i = get_or p.places i (0, 0)

  count : length quads ≡ length p.places
  count = quads-count points polygons (over-of t is) is.simple p part

  -- a point under its number
  pub named : (m : ℕ) → p.has m ≡ true → name_in names (p.number m) ≡ m
  named m h = (known.listed m h).1

  -- the corners of a child face under their names are those of the whole
  quad-named : (i : ℕ) → i < length p.places → map (name_in names) (map p.number (whole_quad points polygons (place i))) ≡ whole_quad points polygons (place i)
  quad-named i h =
      let there = corners-there t is p part i h in
      four-same (named _ (there 0 0 (omega arith))) (named _ (there 1 0 (omega arith))) (named _ (there 2 0 (omega arith))) (named _ (there 3 0 (omega arith)))

  whole-at : (i : ℕ) → i < length p.places → polygon_at kids (place_number polygons (place i)) ≡ whole_quad points polygons (place i)
  whole-at i h = child-quad points polygons (place i).0 (place i).1 (face-below polygons (place i).0 (place i).1 (part.within i h)) (part.within i h)

  -- the number of a child face of the part
  pub child-at : (i d : ℕ) → i < length p.places → get_or children i d ≡ place_number polygons (place i)
  child-at i d h = get_or-map (place_number polygons) p.places i (0, 0) d h

  pub children-count : length children ≡ length p.places
  children-count = length-map p.places (place_number polygons)

  -- a corner is the number of a point that the part has
  corner-from : (a : ℕ) → laws.is_corner quads a ≡ true → (m : ℕ) × (p.has m ≡ true) × (a ≡ p.number m)
  corner-from a h =
      let found = corner-of quads a h in
      let inside : found.0 < length p.places = omega (arith, found.1, count) in
      let here : has_corner a (map p.number (whole_quad points polygons (place found.0))) ≡ true = ap (has_corner a) (sym (quad-at-place points polygons (over-of t is) is.simple p part found.0 inside)) ∙ found.2 in
      let own = among-map p.number (whole_quad points polygons (place found.0)) a here in
      (own.0, part.corners found.0 own.0 inside own.1, sym own.2)

  pub corner-below : (a : ℕ) → laws.is_corner quads a ≡ true → a < length names
  corner-below a h = let from = corner-from a h in omega (arith, from.2, (known.listed from.0 from.1).0)

  pub quads-over : is_over (length names) quads ≡ true
  quads-over =
      list_all-from_AllPass (list_all (λ v. nat_lt v (length names))) quads (λ k d h.
      let polygon : Polygon = get_or quads k d in
      list_all-from_AllPass (λ v. nat_lt v (length names)) polygon (λ j e l.
      let c : ℕ = get_or polygon j e in
      let there : laws.is_corner quads c ≡ true = list_any_at (has_corner c) quads k d h (list_any_at (nat_eq c) polygon j e l (eq-eqb c c refl)) in
      lt-ltb c (length names) (corner-below c there)))

  -- the child faces are those of the whole with these numbers
  pub is-part : laws.IsPart (name_in names) children quads kids
  is-part = record {
    ascending = λ k h.
        let below : k + 1 < length p.places = omega (arith, h, children-count) in
        let less = part.ascend k (k + 1) (omega arith) below in
        omega (arith, less, child-at k 0 (omega (arith, below)), child-at (k + 1) 0 below);
    inside = λ k d h.
        let inside : k < length p.places = omega (arith, h, children-count) in
        omega (arith, child-at k d inside, first-below polygons (place k).0 (place k).1 (part.within k inside), child_polygons-length points polygons);
    same =
        map-twice (λ x. map p.number (whole_quad points polygons x)) (map (name_in names)) p.places
        ∙ maps-same (λ x. map (name_in names) (map p.number (whole_quad points polygons x))) (λ x. polygon_at kids (place_number polygons x)) p.places (λ i h. quad-named i h ∙ sym (whole-at i h))
        ∙ sym (map-twice (place_number polygons) (polygon_at kids) p.places);
    apart = λ a b h k e.
        let one = known.own a (corner-below a h) in
        let two = known.own b (corner-below b k) in
        sym one ∙ ap p.number e ∙ two;
  }
