-- Polygons and sides under other numbers of their points, where different points have different numbers.
use Rattle.std.proofs.Common.{◌≡◌, ℕ, Bool, true, false, ◌&&◌, nat_eq, if◌then◌else◌, List, [], ◌∷◌, ◌++◌, map, refl, ap, sym, ◌∙◌}
use Rattle.std.specs.List.{list_all, list_any}
use Rattle.std.proofs.lemmas.Bool.{and_parts, and_from, eqb-true, eq-eqb, ne_eqb}
use Rattle.std.proofs.lemmas.List.{map-append}
use Rattle.std.proofs.lemmas.List.Folds.{list_all-append}
use Rattle.subdiv_model.specs.Polygons.{Polygon, sides_back_to, sides_of, same_edge, has_corner, has_edge}
use Rattle.subdiv_model.specs.Edges.{all_sides, first_named, has_end}
use Rattle.subdiv_model.specs.Mask.{other_end}
use Rattle.part_laws.specs.Parts.{renamed}
use Rattle.part_laws.proofs.ListLemmas.{any-mapped, once-mapped}

-- the sides of renamed polygons are the sides, renamed
path-renamed : (name : ℕ → ℕ) (first : ℕ) (path : Polygon) → sides_back_to (name first) (map name path) ≡ map (renamed name) (sides_back_to first path)
path-renamed name first [] = refl
path-renamed name first (v ∷ []) = refl
path-renamed name first (v ∷ (w ∷ rest)) = ap (λ l. (name v, name w) ∷ l) (path-renamed name first (w ∷ rest))

pub sides-renamed : (name : ℕ → ℕ) (polygon : Polygon) → sides_of (map name polygon) ≡ map (renamed name) (sides_of polygon)
sides-renamed name [] = refl
sides-renamed name (v ∷ rest) = path-renamed name v (v ∷ rest)

pub all-sides-renamed : (name : ℕ → ℕ) (polygons : List Polygon) → all_sides (map (map name) polygons) ≡ map (renamed name) (all_sides polygons)
all-sides-renamed name [] = refl
all-sides-renamed name (polygon ∷ polygons) =
    ap (λ l. l ++ all_sides (map (map name) polygons)) (sides-renamed name polygon)
    ∙ ap (λ l. map (renamed name) (sides_of polygon) ++ l) (all-sides-renamed name polygons)
    ∙ sym (map-append (renamed name) (sides_of polygon) (all_sides polygons))

-- both ends of a side pass
abbrev pub both_ends : (ℕ → Bool) → ℕ × ℕ → Bool
both_ends own s = own s.0 && own s.1

-- the ends of the sides of a polygon are its corners
path-ends : (own : ℕ → Bool) (first : ℕ) (path : Polygon) → own first ≡ true → list_all own path ≡ true → list_all (both_ends own) (sides_back_to first path) ≡ true
path-ends own first [] one all = refl
path-ends own first (v ∷ []) one all = let here = (and_parts (own v) true all).0 in rw (here, one) refl
path-ends own first (v ∷ (w ∷ rest)) one all =
    let parts = and_parts (own v) (list_all own (w ∷ rest)) all in
    let more = and_parts (own w) (list_all own rest) parts.1 in
    and_from _ _ (and_from _ _ parts.0 more.0) (path-ends own first (w ∷ rest) one parts.1)

pub side-ends : (own : ℕ → Bool) (polygon : Polygon) → list_all own polygon ≡ true → list_all (both_ends own) (sides_of polygon) ≡ true
side-ends own [] all = refl
side-ends own (v ∷ rest) all = path-ends own v (v ∷ rest) (and_parts (own v) (list_all own rest) all).0 all

pub all-side-ends : (own : ℕ → Bool) (polygons : List Polygon) → list_all (list_all own) polygons ≡ true → list_all (both_ends own) (all_sides polygons) ≡ true
all-side-ends own [] all = refl
all-side-ends own (polygon ∷ polygons) all =
    let parts = and_parts (list_all own polygon) (list_all (list_all own) polygons) all in
    list_all-append (both_ends own) (sides_of polygon) (all_sides polygons) ∙ and_from _ _ (side-ends own polygon parts.0) (all-side-ends own polygons parts.1)

module _ (name : ℕ → ℕ) (own : ℕ → Bool) (apart : (p q : ℕ) → own p ≡ true → own q ≡ true → name p ≡ name q → p ≡ q) where
  pub number-renamed : (p q : ℕ) → own p ≡ true → own q ≡ true → nat_eq (name p) (name q) ≡ nat_eq p q
  number-renamed p q h k = go (nat_eq p q) refl
    where
      go : (b : Bool) → nat_eq p q ≡ b → nat_eq (name p) (name q) ≡ b
      go true e = eq-eqb _ _ (ap name (eqb-true p q e))
      go false e = ne_eqb _ _ (λ same. let one = eq-eqb p q (apart p q h k same) in absurd (cc))

  pub corner-renamed : (p : ℕ) (polygon : Polygon) → own p ≡ true → list_all own polygon ≡ true → has_corner (name p) (map name polygon) ≡ has_corner p polygon
  corner-renamed p polygon h all = any-mapped own name (nat_eq p) (nat_eq (name p)) (λ q k. number-renamed p q h k) polygon all

  pub edge-same : (s t : ℕ × ℕ) → both_ends own s ≡ true → both_ends own t ≡ true → same_edge (renamed name s) (renamed name t) ≡ same_edge s t
  edge-same s t h k =
      let a = and_parts (own s.0) (own s.1) h in
      let b = and_parts (own t.0) (own t.1) k in
      let one = number-renamed s.0 t.0 a.0 b.0 in
      let two = number-renamed s.1 t.1 a.1 b.1 in
      let three = number-renamed s.0 t.1 a.0 b.1 in
      let four = number-renamed s.1 t.0 a.1 b.0 in
      rw (one, two, three, four) refl

  pub edge-renamed : (s : ℕ × ℕ) (polygon : Polygon) → both_ends own s ≡ true → list_all own polygon ≡ true → has_edge (renamed name s) (map name polygon) ≡ has_edge s polygon
  edge-renamed s polygon h all =
      ap (list_any (same_edge (renamed name s))) (sides-renamed name polygon)
      ∙ any-mapped (both_ends own) (renamed name) (same_edge s) (same_edge (renamed name s)) (λ t k. edge-same s t h k) (sides_of polygon) (side-ends own polygon all)

  pub end-renamed : (p : ℕ) (s : ℕ × ℕ) → own p ≡ true → both_ends own s ≡ true → has_end (name p) (renamed name s) ≡ has_end p s
  end-renamed p s h k =
      let a = and_parts (own s.0) (own s.1) k in
      let one = number-renamed p s.0 h a.0 in
      let two = number-renamed p s.1 h a.1 in
      rw (one, two) refl

  pub other-renamed : (p : ℕ) (s : ℕ × ℕ) → own p ≡ true → both_ends own s ≡ true → other_end (name p) (renamed name s) ≡ name (other_end p s)
  other-renamed p s h k =
      let a = and_parts (own s.0) (own s.1) k in
      ap (λ b. if b then name s.1 else name s.0) (number-renamed p s.0 h a.0) ∙ go (nat_eq p s.0)
    where
      go : (b : Bool) → (if b then name s.1 else name s.0) ≡ name (if b then s.1 else s.0)
      go true = refl
      go false = refl

  pub first-renamed : (sides : List (ℕ × ℕ)) → list_all (both_ends own) sides ≡ true → first_named (map (renamed name) sides) ≡ map (renamed name) (first_named sides)
  first-renamed sides all = once-mapped (both_ends own) (renamed name) same_edge same_edge (λ s t h k. edge-same s t h k) sides all
