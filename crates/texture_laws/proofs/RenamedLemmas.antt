-- Polygons whose points have other, distinct names: their edges, and the faces at edges and points.
use Rattle.std.proofs.Common.{◌≡◌, ℕ, ◌+◌, ◌<◌, Bool, true, false, not, nat_eq, nat_lt, List, [], ◌∷◌, ◌++◌, map, get_or, refl, ap, sym, ◌∙◌, ◌⊎◌, inl, inr}
use Rattle.std.specs.List.{filter, list_any, list_all, position_or_len}
use Rattle.std.proofs.lemmas.Bool.{and_parts, ltb-true, eqb-true, eq-eqb, and_from}
use Rattle.std.proofs.lemmas.List.{map-append, append-nil}
use Rattle.subdiv_model.specs.Lists.{places_from}
use Rattle.subdiv_model.specs.Polygons.{Polygon, same_edge, sides_back_to, sides_of, has_edge, is_over}
use Rattle.subdiv_model.specs.Edges.{all_sides, first_named, edges_of, edge_number, faces_of_edge}
use Rattle.mesh_laws.proofs.ClosedLemmas.{first_named-all}
use Rattle.mesh_laws.proofs.ChildCountLemmas.{is_inside, sides-inside}
use Rattle.mesh_laws.proofs.SideLemmas.{same_edge-refl}
use Rattle.texture_laws.proofs.ReachLemmas.{same-tests}
use Rattle.texture_laws.proofs.JoinLemmas.{edge-cases, turned-edge}

module _ (name : ℕ → ℕ) where
  -- a pair of points by their other names
  abbrev pub renamed : ℕ × ℕ → ℕ × ℕ
  renamed s = (name s.0, name s.1)

  -- equal edges are equal under other names
  pub renamed-alike : (s t : ℕ × ℕ) → same_edge s t ≡ true → same_edge (renamed s) (renamed t) ≡ true
  renamed-alike s t h = here (edge-cases s t h)
    where
      here : (s ≡ t) ⊎ (s ≡ (t.1, t.0)) → same_edge (renamed s) (renamed t) ≡ true
      here (inl same) = ap (λ (e : ℕ × ℕ). same_edge (renamed e) (renamed t)) same ∙ same_edge-refl (renamed t)
      here (inr turned) = ap (λ (e : ℕ × ℕ). same_edge (renamed e) (renamed t)) turned ∙ turned-edge (name t.1) (name t.0)

  renamed-next : (first : ℕ) (rest : Polygon) → get_or (map name rest) 0 (name first) ≡ name (get_or rest 0 first)
  renamed-next first [] = refl
  renamed-next first (v ∷ rest) = refl

  renamed-path : (first : ℕ) (path : Polygon) → sides_back_to (name first) (map name path) ≡ map renamed (sides_back_to first path)
  renamed-path first [] = refl
  renamed-path first (v ∷ rest) =
      ap (λ (w : ℕ). (name v, w) ∷ sides_back_to (name first) (map name rest)) (renamed-next first rest) ∙ ap (λ (sides : List (ℕ × ℕ)). renamed (v, get_or rest 0 first) ∷ sides) (renamed-path first rest)

  pub renamed-sides : (polygon : Polygon) → sides_of (map name polygon) ≡ map renamed (sides_of polygon)
  renamed-sides [] = refl
  renamed-sides (v ∷ rest) = renamed-path v (v ∷ rest)

  pub renamed-all : (polygons : List Polygon) → all_sides (map (map name) polygons) ≡ map renamed (all_sides polygons)
  renamed-all [] = refl
  renamed-all (polygon ∷ polygons) =
      ap (λ (sides : List (ℕ × ℕ)). sides ++ all_sides (map (map name) polygons)) (renamed-sides polygon)
      ∙ ap (λ (sides : List (ℕ × ℕ)). map renamed (sides_of polygon) ++ sides) (renamed-all polygons)
      ∙ sym (map-append renamed (sides_of polygon) (all_sides polygons))

  module _ (points : ℕ) (one : (p q : ℕ) → p < points → q < points → name p ≡ name q → p ≡ q) where
    pub renamed-eq : (p q : ℕ) → nat_lt p points ≡ true → nat_lt q points ≡ true → nat_eq (name p) (name q) ≡ nat_eq p q
    renamed-eq p q hp hq =
        same-tests _ _ (λ h. eq-eqb p q (one p q (ltb-true _ _ hp) (ltb-true _ _ hq) (eqb-true (name p) (name q) h))) (λ h. eq-eqb _ _ (ap name (eqb-true p q h)))

    renamed-same_edge : (s t : ℕ × ℕ) → is_inside points s ≡ true → is_inside points t ≡ true → same_edge (renamed s) (renamed t) ≡ same_edge s t
    renamed-same_edge s t hs ht =
        let at_s = and_parts (nat_lt s.0 points) (nat_lt s.1 points) hs in
        let at_t = and_parts (nat_lt t.0 points) (nat_lt t.1 points) ht in
        rw (renamed-eq s.0 t.0 at_s.0 at_t.0, renamed-eq s.1 t.1 at_s.1 at_t.1, renamed-eq s.0 t.1 at_s.0 at_t.1, renamed-eq s.1 t.0 at_s.1 at_t.0) refl

    -- a test of pairs by their names that is a test of the pairs
    any-renamed : (p q : ℕ × ℕ → Bool) → ((t : ℕ × ℕ) → is_inside points t ≡ true → p (renamed t) ≡ q t) → (sides : List (ℕ × ℕ)) → list_all (is_inside points) sides ≡ true → list_any p (map renamed sides) ≡ list_any q sides
    any-renamed p q alike [] inside = refl
    any-renamed p q alike (t ∷ sides) inside =
        let parts = and_parts (is_inside points t) (list_all (is_inside points) sides) inside in
        rw (alike t parts.0, any-renamed p q alike sides parts.1) refl

    first-renamed : (p q : ℕ × ℕ → Bool) → ((t : ℕ × ℕ) → is_inside points t ≡ true → p (renamed t) ≡ q t) → (sides : List (ℕ × ℕ)) → list_all (is_inside points) sides ≡ true → position_or_len p (map renamed sides) ≡ position_or_len q sides
    first-renamed p q alike [] inside = refl
    first-renamed p q alike (t ∷ sides) inside =
        let parts = and_parts (is_inside points t) (list_all (is_inside points) sides) inside in
        rw (alike t parts.0, first-renamed p q alike sides parts.1) refl

    filter-renamed : (p q : ℕ × ℕ → Bool) → ((t : ℕ × ℕ) → is_inside points t ≡ true → p (renamed t) ≡ q t) → (sides : List (ℕ × ℕ)) → list_all (is_inside points) sides ≡ true → filter p (map renamed sides) ≡ map renamed (filter q sides)
    filter-renamed p q alike [] inside = refl
    filter-renamed p q alike (t ∷ sides) inside =
        let parts = and_parts (is_inside points t) (list_all (is_inside points) sides) inside in
        here (q t) refl (alike t parts.0) (filter-renamed p q alike sides parts.1)
      where
        here : (b : Bool) → q t ≡ b → p (renamed t) ≡ q t → filter p (map renamed sides) ≡ map renamed (filter q sides) → filter p (map renamed (t ∷ sides)) ≡ map renamed (filter q (t ∷ sides))
        here true e same behind = rw (same, e) (ap (λ (xs : List (ℕ × ℕ)). renamed t ∷ xs) behind)
        here false e same behind = rw (same, e) behind

    named-renamed : (sides : List (ℕ × ℕ)) → list_all (is_inside points) sides ≡ true → first_named (map renamed sides) ≡ map renamed (first_named sides)
    named-renamed [] inside = refl
    named-renamed (s ∷ sides) inside =
        let parts = and_parts (is_inside points s) (list_all (is_inside points) sides) inside in
        ap (λ (xs : List (ℕ × ℕ)). renamed s ∷ filter (λ t. not (same_edge (renamed s) t)) xs) (named-renamed sides parts.1)
        ∙ ap (λ (xs : List (ℕ × ℕ)). renamed s ∷ xs) (filter-renamed (λ t. not (same_edge (renamed s) t)) (λ t. not (same_edge s t)) (λ t h. ap not (renamed-same_edge s t parts.0 h)) (first_named sides) (first_named-all (is_inside points) sides parts.1))

    places-renamed : (p q : Polygon → Bool) → ((polygon : Polygon) → list_all (λ v. nat_lt v points) polygon ≡ true → p (map name polygon) ≡ q polygon) → (n : ℕ) (polygons : List Polygon) → is_over points polygons ≡ true → places_from n p (map (map name) polygons) ≡ places_from n q polygons
    places-renamed p q alike n [] over = refl
    places-renamed p q alike n (polygon ∷ polygons) over =
        let parts = and_parts (list_all (λ v. nat_lt v points) polygon) (is_over points polygons) over in
        rw (alike polygon parts.0, places-renamed p q alike (n + 1) polygons parts.1) refl

    polygon-inside : (polygon : Polygon) → list_all (λ v. nat_lt v points) polygon ≡ true → list_all (is_inside points) (sides_of polygon) ≡ true
    polygon-inside polygon h = ap (list_all (is_inside points)) (sym (append-nil (sides_of polygon))) ∙ sides-inside points (polygon ∷ []) (and_from _ _ h refl)

    pub has_edge-renamed : (s : ℕ × ℕ) → is_inside points s ≡ true → (polygon : Polygon) → list_all (λ v. nat_lt v points) polygon ≡ true → has_edge (renamed s) (map name polygon) ≡ has_edge s polygon
    has_edge-renamed s hs polygon h = ap (list_any (same_edge (renamed s))) (renamed-sides polygon) ∙ any-renamed (same_edge (renamed s)) (same_edge s) (λ t ht. renamed-same_edge s t hs ht) (sides_of polygon) (polygon-inside polygon h)

    module _ (polygons : List Polygon) (over : is_over points polygons ≡ true) where
      pub renamed-edges : edges_of (map (map name) polygons) ≡ map renamed (edges_of polygons)
      renamed-edges = ap first_named (renamed-all polygons) ∙ named-renamed (all_sides polygons) (sides-inside points polygons over)

      pub renamed-faces : (s : ℕ × ℕ) → is_inside points s ≡ true → faces_of_edge (map (map name) polygons) (renamed s) ≡ faces_of_edge polygons s
      renamed-faces s hs = places-renamed (has_edge (renamed s)) (has_edge s) (has_edge-renamed s hs) 0 polygons over

      pub renamed-number : (s : ℕ × ℕ) → is_inside points s ≡ true → edge_number (map (map name) polygons) (renamed s) ≡ edge_number polygons s
      renamed-number s hs =
          ap (position_or_len (same_edge (renamed s))) renamed-edges
          ∙ first-renamed (same_edge (renamed s)) (same_edge s) (λ t ht. renamed-same_edge s t hs ht) (edges_of polygons) (first_named-all (is_inside points) (all_sides polygons) (sides-inside points polygons over))

      pub renamed-listed : (s : ℕ × ℕ) → is_inside points s ≡ true → list_any (same_edge (renamed s)) (edges_of (map (map name) polygons)) ≡ list_any (same_edge s) (edges_of polygons)
      renamed-listed s hs =
          ap (list_any (same_edge (renamed s))) renamed-edges
          ∙ any-renamed (same_edge (renamed s)) (same_edge s) (λ t ht. renamed-same_edge s t hs ht) (edges_of polygons) (first_named-all (is_inside points) (all_sides polygons) (sides-inside points polygons over))
