-- The next level is a sparse level, and that of the definitions.
use Rattle.std.proofs.Common.{◌≡◌, ℕ, zero, suc, ◌+◌, ◌*◌, ◌^◌, ◌<◌, ◌≤◌, Bool, true, false, nat_eq, nat_lt, List, [], length, map, get_or, arith, refl, ap, sym, ◌∙◌, subst}
use Rattle.std.specs.List.{list_all}
use Rattle.std.proofs.Math.Nat.{pow-succ'}
use Rattle.std.proofs.lemmas.Bool.{eqb-false}
use Rattle.std.proofs.lemmas.List.{get_or-map, get_or_default, length-map}
use Rattle.subdiv_model.specs.Polygons.{is_among, polygon_at}
use Rattle.level_topology.specs.Topology.{Topology, IsTopology}
use Rattle.child_slots.proofs.ChildNumberLemmas.{child-few}
use Rattle.child_slots.proofs.SlotLemmas.{over-of}
use Rattle.sparse_laws.specs.NextSparse.{IsNextSparse, uniform_child}
use Rattle.sparse_laws.proofs.NextPartLemmas.{inside-complete}
use Rattle.sparse_level.specs.View.{SparseTopology, IsSparseTopology, level_of, sparse_topology}
use Rattle.sparse_refiner.specs.Made.{IsNextLevel, places_in}
use Rattle.sparse_refiner.proofs.SelfLemmas.{selection}
use Rattle.sparse_refiner.proofs.OriginLemmas.{as-places, face-long, place-at}

module _ (s : SparseTopology) (whole : IsTopology s.topology) (is : IsSparseTopology s) (some : List ℕ) (within : list_all (λ f. nat_lt f (length s.topology.level.polygons)) some ≡ true) where
  -- the numbers of the next faces in the uniform level, and their marks
  abbrev pub next_numbers : List ℕ
  next_numbers = map (uniform_child (level_of s)) (places_in s.topology some)

  abbrev pub next_inner : List Bool
  next_inner = map (λ place. is_among some place.0) (places_in s.topology some)

  power-more : (d : ℕ) → 4 ^ (d + 1) ≡ 4 * 4 ^ d
  power-more d = ap (λ k. 4 ^ k) (let e : d + 1 ≡ suc d = omega arith in e) ∙ pow-succ' 4 d

  power-some : (d : ℕ) → 1 ≤ 4 ^ d
  power-some zero = omega arith
  power-some (suc d) = omega (arith, pow-succ' 4 d, power-some d)

  -- the number of a child face
  child-small : (f c : ℕ) → f < length s.topology.level.polygons → c < length (polygon_at s.topology.level.polygons f) → uniform_child (level_of s) (f, c) < 2 ^ 28 * 4 ^ (s.depth + 1)
  child-small f c h k = go (nat_eq s.depth 0) refl
    where
      go : (b : Bool) → nat_eq s.depth 0 ≡ b → uniform_child (level_of s) (f, c) < 2 ^ 28 * 4 ^ (s.depth + 1)
      go true e = rw e (omega (arith, child-few s.topology whole f c k, power-more s.depth, power-some s.depth))
      go false e =
          let later : 1 ≤ s.depth = omega (arith, eqb-false _ _ e) in
          let quad : length (polygon_at s.topology.level.polygons f) ≡ 4 = is.quads later f [] h in
          let small = is.small f 0 (omega (arith, h, is.numbers_listed)) in
          rw e (omega (arith, k, quad, small, power-more s.depth))

  module _ (next : Topology) (next_whole : IsTopology next) (made : IsNextLevel s.topology some next) where
    pub next-sparse-topology : s.depth < 10 → IsSparseTopology (sparse_topology next next_numbers next_inner (s.depth + 1))
    next-sparse-topology shallow =
        let many = as-places s.topology whole some within next made in
        let listed = length-map (places_in s.topology some) (uniform_child (level_of s)) in
        record {
          numbers_listed = listed ∙ sym many;
          inner_listed = length-map (places_in s.topology some) (λ place. is_among some place.0) ∙ sym many;
          inside = λ f p own at.
              ap (λ (bs : List Bool). get_or bs p false) made.complete
              ∙ inside-complete (selection s.topology.level (over-of s.topology whole) some within) next.level made.part (over-of next next_whole) made.points f p own at;
          deep = omega (arith, shallow);
          small = λ k d h.
              let inside : k < length (places_in s.topology some) = omega (arith, h, listed) in
              let at = place-at s.topology whole some within k inside in
              let place = get_or (places_in s.topology some) k (0, 0) in
              subst (λ n. n < 2 ^ 28 * 4 ^ (s.depth + 1)) (sym (get_or-map (uniform_child (level_of s)) (places_in s.topology some) k (0, 0) d inside)) (child-small place.0 place.1 at.is_face at.is_corner);
          quads = λ later k d h.
              ap length (get_or_default next.level.polygons k d [] h) ∙ face-long s.topology whole some within next made k (omega (arith, h, many));
        }

    pub next-is : IsNextSparse (level_of s) some (level_of (sparse_topology next next_numbers next_inner (s.depth + 1)))
    next-is = record {
      depth = omega arith;
      points = made.points;
      part = made.part;
      numbers = refl;
      inner = refl;
      complete = made.complete;
      over = over-of next next_whole;
    }
