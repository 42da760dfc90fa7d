-- Numbers carried to the whole next level: none passes its bound, or the first one that does.
use Rattle.std.proofs.Common.{◌≡◌, ℕ, ◌*◌, ◌≤◌, true, false, List, length, map, arith, ap, ◌∙◌}
use Rattle.std.specs.List.{All}
use Rattle.subdiv_model.specs.Edges.{edges_of}
use Rattle.subdiv_model.specs.Level.{Level}
use Rattle.subdiv_model.specs.Mask.{Scheme}
use Rattle.subdiv_model.specs.Refined.{mask_denominator, source_denominator, child_denominators}
use Rattle.subdiv_model.specs.Channel.{number_bound, chaikin_overflows_at, transition_overflows_at, at_some_point}
use Rattle.level_topology.specs.Topology.{Topology}
use Rattle.level_topology.specs.Child.{FromVertex, ChildTopology}
use Rattle.uniform_refiner.specs.Refined.{IsRefined}
use Rattle.primvar_refine.specs.Rows.{greatest_of}
use Rattle.child_masks.specs.Masks.{masks_from, has_origin, IsFirstTransition, HasNoTransition}
use Rattle.level_walk.proofs.OriginLemmas.{has-vertex}
use Rattle.level_walk.proofs.UniformMaskLemmas.{origins-are, vertex-of, dens-are}
use Rattle.level_walk.proofs.UniformFaultLemmas.{any-none, any-from-0}

-- no number of the next level passes its bound; these numbers give its common denominators
pub record AreNextNumbers (most : ℕ) (level : Level) (scheme : Scheme) (dens next : List ℕ) : Type 0 where
  pub chaikin : at_some_point (chaikin_overflows_at level) level ≡ false
  pub transition : at_some_point (transition_overflows_at level scheme) level ≡ false
  pub dens_are : next ≡ child_denominators level scheme dens
  pub short : All (λ den. den ≤ number_bound) next
  pub fits : greatest_of next * most ≤ number_bound

module _ (parent : Topology) (child : ChildTopology) (refined : IsRefined parent child) where
  -- halves overflow at no point, and if no weight is refused none is at any point
  pub no-chaikin : at_some_point (chaikin_overflows_at parent.level) parent.level ≡ false
  no-chaikin = any-none (chaikin_overflows_at parent.level) 0 parent.level.point_count (λ v h. refined.fine v (omega (arith, h)))

  pub no-transition : (scheme : Scheme) → HasNoTransition parent.level scheme child.origins → at_some_point (transition_overflows_at parent.level scheme) parent.level ≡ false
  no-transition scheme none =
      any-none (transition_overflows_at parent.level scheme) 0 parent.level.point_count (λ v h.
      none v (ap (λ origins. has_origin origins (FromVertex v)) (origins-are parent child refined)
      ∙ has-vertex parent.level.point_count (length parent.level.polygons) (length (edges_of parent.level.polygons)) v (omega (arith, h))))

  pub some-transition : (scheme : Scheme) (v : ℕ) → IsFirstTransition parent.level scheme child.origins v
      → at_some_point (transition_overflows_at parent.level scheme) parent.level ≡ true
  some-transition scheme v is = any-from-0 (transition_overflows_at parent.level scheme) parent.level.point_count v (vertex-of parent child refined v is.has) is.refused

  -- the numbers that are carried are those of the next level
  pub next-numbers : (most : ℕ) (scheme : Scheme) (dens next : List ℕ) → HasNoTransition parent.level scheme child.origins
      → next ≡ map (mask_denominator (source_denominator parent.level dens)) (masks_from parent.level scheme child.origins)
      → All (λ den. den ≤ number_bound) next → greatest_of next * most ≤ number_bound → AreNextNumbers most parent.level scheme dens next
  next-numbers most scheme dens next none are short fits = record {
    chaikin = no-chaikin;
    transition = no-transition scheme none;
    dens_are = are ∙ dens-are parent child refined scheme dens;
    short = short;
    fits = fits;
  }
