-- Sharpness that is well formed stays so from level to level.
use Rattle.std.proofs.Common.{◌≡◌, ℕ, zero, suc, ◌+◌, ◌*◌, ◌<◌, Bool, true, ◌&&◌, nat_eq, nat_le, List, [], ◌∷◌, length, map, get_or, replicate, arith, refl, ◌∙◌}
use Rattle.std.specs.List.{list_all, flat_map, range_with_len}
use Rattle.std.proofs.lemmas.Bool.{and_from, and_parts, cond_both, leb-false, lt-ltb, eq-eqb}
use Rattle.std.proofs.lemmas.List.Folds.{list_all-append}
use Rattle.std.proofs.lemmas.Nat.Gcd.{same_from_IsGcd}
use Rattle.subdiv_model.specs.Polygons.{is_over, same_edge}
use Rattle.subdiv_model.specs.Edges.{edges_of, edge_number}
use Rattle.subdiv_model.specs.Fractions.{gcd_of, lowest, minus_fraction, sum_of_fractions}
use Rattle.subdiv_model.specs.Sharpness.{Sharpness, Smooth, Semi, Infinite, Method, Normal, Chaikin, is_proper_sharpness, semi_of, semi_values, sharpness_of, uniform_child, chaikin_value, chaikin_half, half_child}
use Rattle.subdiv_model.specs.Level.{Level, edge_sharpness_of, vertex_sharpness_of, edges_at, ring_at, is_well_formed}
use Rattle.subdiv_model.specs.Child.{half_sharpness, half_at, halves_of, sharpness_among, child_polygons, child_edge_sharpness, child_vertex_sharpness, child_level}
use Rattle.subdiv_model.specs.Mask.{is_proper_at}
use Rattle.number_laws.proofs.FractionLemmas.{gcd_of-is}
use Rattle.number_laws.proofs.DivisorLemmas.{lowest-coprime, lowest-positive, lowest-below}

proper-lowest : (a b : ℕ) → 0 < a → a < 10 * b → is_proper_sharpness (semi_of (lowest (a, b))) ≡ true
proper-lowest a b above below =
    let least = lowest (a, b) in
    let one : gcd_of least.0 least.1 ≡ 1 =
    same_from_IsGcd least.0 least.1 _ 1 (gcd_of-is least.0 least.1) (lowest-coprime a b (omega arith)) in
    and_from _ _ (lt-ltb 0 least.0 (lowest-positive a b above))
    (and_from _ _ (lt-ltb least.0 (10 * least.1) (lowest-below 10 a b below)) (eq-eqb (gcd_of least.0 least.1) 1 one))

pub proper-of : (num den : ℕ) → is_proper_sharpness (sharpness_of num den) ≡ true
proper-of zero den = refl
proper-of (suc num) den =
    cond_both (nat_le (10 * den) (suc num)) Infinite (semi_of (lowest (suc num, den))) (λ s. is_proper_sharpness s ≡ true) (λ _. refl)
    (λ below. proper-lowest (suc num) den (omega arith) (leb-false _ _ below))

proper-uniform : (s : Sharpness) → is_proper_sharpness s ≡ true → is_proper_sharpness (uniform_child s) ≡ true
proper-uniform Smooth h = refl
proper-uniform (Semi num den) h = proper-of (minus_fraction (num, den) (1, 1)).0 (minus_fraction (num, den) (1, 1)).1
proper-uniform Infinite h = refl

proper-chaikin : (values : List (ℕ × ℕ)) (num den : ℕ) → is_proper_sharpness (Semi num den) ≡ true
    → is_proper_sharpness (chaikin_half values (num, den)) ≡ true
proper-chaikin values num den h =
    let value = chaikin_value (num, den) (sum_of_fractions values) (length values) in
    cond_both (nat_le 2 (length values)) (sharpness_of value.0 value.1) (uniform_child (Semi num den)) (λ s. is_proper_sharpness s ≡ true)
    (λ _. proper-of value.0 value.1) (λ _. proper-uniform (Semi num den) h)

pub proper-half : (method : Method) (ring : List Sharpness) (s : Sharpness) → is_proper_sharpness s ≡ true
    → is_proper_sharpness (half_child method ring s) ≡ true
proper-half Normal ring s h = proper-uniform s h
proper-half Chaikin ring Smooth h = refl
proper-half Chaikin ring (Semi num den) h = proper-chaikin (flat_map semi_values ring) num den h
proper-half Chaikin ring Infinite h = refl

-- what all of a list and the default pass, each read passes
pub all-get_or : {X : Type 0} (p : X → Bool) (xs : List X) (i : ℕ) (d : X) → list_all p xs ≡ true → p d ≡ true → p (get_or xs i d) ≡ true
all-get_or p [] i d h k = k
all-get_or p (x ∷ xs) zero d h k = (and_parts (p x) (list_all p xs) h).0
all-get_or p (x ∷ xs) (suc i) d h k = all-get_or p xs i d (and_parts (p x) (list_all p xs) h).1 k

pub all-mapped : {X Y : Type 0} (p : Y → Bool) (f : X → Y) → ((x : X) → p (f x) ≡ true) → (xs : List X) → list_all p (map f xs) ≡ true
all-mapped p f h [] = refl
all-mapped p f h (x ∷ xs) = and_from _ _ (h x) (all-mapped p f h xs)

pub proper-among : (entries : List ((ℕ × ℕ) × Sharpness)) (edge : ℕ × ℕ) → list_all (λ entry. is_proper_sharpness entry.1) entries ≡ true
    → is_proper_sharpness (sharpness_among entries edge) ≡ true
proper-among [] edge h = refl
proper-among (entry ∷ entries) edge h =
    let parts = and_parts (is_proper_sharpness entry.1) (list_all (λ other. is_proper_sharpness other.1) entries) h in
    cond_both (same_edge edge entry.0) entry.1 (sharpness_among entries edge) (λ s. is_proper_sharpness s ≡ true) (λ _. parts.0)
    (λ _. proper-among entries edge parts.1)

all-smooth : (n : ℕ) → list_all is_proper_sharpness (replicate n Smooth) ≡ true
all-smooth zero = refl
all-smooth (suc n) = all-smooth n

-- each sharpness of the level is well formed
abbrev pub IsProper : Level → Type 0
IsProper level =
    (list_all is_proper_sharpness level.edge_sharpness ≡ true) × (list_all is_proper_sharpness level.vertex_sharpness ≡ true)

pub proper-well_formed : (level : Level) → is_well_formed level ≡ true → IsProper level
proper-well_formed level h =
    last-two (is_over level.point_count level.polygons) (nat_eq (length level.holes) (length level.polygons))
    (nat_eq (length level.edge_sharpness) (length (edges_of level.polygons)))
    (nat_eq (length level.vertex_sharpness) level.point_count) (list_all is_proper_sharpness level.edge_sharpness) (list_all is_proper_sharpness level.vertex_sharpness) h
  where
    last-two : (a b c d e f : Bool) → (a && b && c && d && e && f) ≡ true → (e ≡ true) × (f ≡ true)
    last-two a b c d e f h =
        let last = and_parts (a && b && c && d && e) f h in ((and_parts (a && b && c && d) e last.0).1, last.1)

module _ (level : Level) (h : IsProper level) where
  pub proper-edge : (edge : ℕ × ℕ) → is_proper_sharpness (edge_sharpness_of level edge) ≡ true
  proper-edge edge = all-get_or is_proper_sharpness level.edge_sharpness (edge_number level.polygons edge) Smooth h.0 refl

  pub proper-vertex : (v : ℕ) → is_proper_sharpness (vertex_sharpness_of level v) ≡ true
  proper-vertex v = all-get_or is_proper_sharpness level.vertex_sharpness v Smooth h.1 refl

  pub proper-ring : (v : ℕ) → list_all is_proper_sharpness (ring_at level v) ≡ true
  proper-ring v = all-mapped is_proper_sharpness (edge_sharpness_of level) proper-edge (edges_at level v)

  pub proper-at : (v : ℕ) → is_proper_at level v ≡ true
  proper-at v = and_from _ _ (proper-vertex v) (proper-ring v)

  pub proper-half_sharpness : (edge : ℕ × ℕ) (v : ℕ) → is_proper_sharpness (half_sharpness level edge v) ≡ true
  proper-half_sharpness edge v = proper-half level.method (ring_at level v) (edge_sharpness_of level edge) (proper-edge edge)

  proper-halves : (edges : List (ℕ × ℕ))
      → list_all (λ entry. is_proper_sharpness entry.1) (flat_map (λ edge. half_at level edge edge.0 ∷ half_at level edge edge.1 ∷ []) edges) ≡ true
  proper-halves [] = refl
  proper-halves (edge ∷ edges) =
      and_from _ _ (proper-half_sharpness edge edge.0) (and_from _ _ (proper-half_sharpness edge edge.1) (proper-halves edges))

  pub proper-child_edges : list_all is_proper_sharpness (child_edge_sharpness level) ≡ true
  proper-child_edges =
      all-mapped is_proper_sharpness (sharpness_among (halves_of level))
      (λ edge. proper-among (halves_of level) edge (proper-halves (edges_of level.polygons)))
      (edges_of (child_polygons level.point_count level.polygons))

  pub proper-child_vertices : list_all is_proper_sharpness (child_vertex_sharpness level) ≡ true
  proper-child_vertices =
      let kept = map (λ v. uniform_child (vertex_sharpness_of level v)) (range_with_len 0 level.point_count) in
      let fresh = length level.polygons + length (edges_of level.polygons) in
      list_all-append is_proper_sharpness kept (replicate fresh Smooth)
      ∙ and_from _ _ (all-mapped is_proper_sharpness (λ v. uniform_child (vertex_sharpness_of level v)) (λ v. proper-uniform (vertex_sharpness_of level v) (proper-vertex v)) (range_with_len 0 level.point_count)) (all-smooth fresh)

  pub proper-child : IsProper (child_level level)
  proper-child = (proper-child_edges, proper-child_vertices)
