-- The numbers of faces in the uniform level.
use Rattle.std.proofs.Common.{◌≡◌, ℕ, ◌+◌, ◌*◌, ◌<◌, ◌≤◌, ◌^◌, ◌≢◌, length, get_or, arith, ap, subst, sym, ◌∙◌}
use Rattle.std.proofs.Math.Nat.{pow-le-pow_right}
use Rattle.std.proofs.lemmas.Bool.{ne_eqb, eq-eqb}
use Rattle.subdiv_model.specs.Polygons.{polygon_at}
use Rattle.level_topology.specs.Topology.{Topology, IsTopology}
use Rattle.level_topology.proofs.FactLemmas.{corners-few}
use Rattle.child_slots.specs.Slots.{first_child}
use Rattle.child_slots.proofs.ChildNumberLemmas.{child-few}
use Rattle.child_slots.proofs.QuadLemmas.{face-below}
use Rattle.sparse_laws.specs.NextSparse.{uniform_child}
use Rattle.sparse_level.specs.View.{SparseTopology, IsSparseTopology, level_of}

module _ (s : SparseTopology) (is : IsSparseTopology s) (t : Topology) (same : t ≡ s.topology) (whole : IsTopology t) (f c : ℕ) (h : c < length (polygon_at s.topology.level.polygons f)) where
  here : IsTopology s.topology
  here = subst IsTopology same whole

  pub face-there : f < length s.topology.level.polygons
  face-there = face-below s.topology.level.polygons f c h

  pub face-known : f < length t.level.polygons
  face-known = omega (arith, face-there, ap (λ (k : Topology). length k.level.polygons) same)

  -- at level 0 it is the number of the child face in the next level
  pub first-few : (first : ℕ) → first ≡ first_child t.level.polygons f → first + c < 2 ^ 28
  first-few first e = omega (arith, e, ap (λ (k : Topology). first_child k.level.polygons f) same, child-few s.topology here f c h)

  pub first-number : (depth first : ℕ) → depth ≡ s.depth → depth ≡ 0 → first ≡ first_child t.level.polygons f → first + c ≡ uniform_child (level_of s) (f, c)
  first-number depth first d zero e =
      let test = eq-eqb s.depth 0 (sym d ∙ zero) in
      rw test (ap (λ n. n + c) (e ∙ ap (λ (k : Topology). first_child k.level.polygons f) same))

  -- a child face after level 0 has four times the number of the face, plus the corner
  pub number-small : (n : ℕ) → n ≡ get_or s.numbers f 0 → n < 2 ^ 28 * 4 ^ 10
  number-small n e =
      let listed : f < length s.numbers = omega (arith, face-there, is.numbers_listed) in
      let below = is.small f 0 listed in
      let power : 4 ^ s.depth ≤ 4 ^ 10 = pow-le-pow_right (omega arith) is.deep in
      omega (arith, e, below, power)

  pub corner-small : c < 2 ^ 17
  corner-small = omega (arith, h, corners-few s.topology here f face-there)

  pub later-number : (depth n : ℕ) → depth ≡ s.depth → depth ≢ 0 → n ≡ get_or s.numbers f 0 → 4 * n + c ≡ uniform_child (level_of s) (f, c)
  later-number depth n d some e =
      let test = ne_eqb s.depth 0 (λ none. some (d ∙ none)) in
      rw test (ap (λ k. 4 * k + c) e)
