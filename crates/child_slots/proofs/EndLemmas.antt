-- The end of an edge that a point is.
use Rattle.std.proofs.Common.{◌≡◌, ℕ, Bool, true, false, nat_eq, arith, refl, sym}
use Rattle.std.proofs.lemmas.Bool.Decides.{nat_tests}
use Rattle.std.proofs.lemmas.Bool.{eq-eqb}
use Rattle.subdiv_model.specs.Edges.{has_end}
use Rattle.level_topology.specs.Topology.{end_at}

-- a point that is an end is among the ends
pub end-has : (v k : ℕ) (edge : ℕ × ℕ) → end_at edge k ≡ v → has_end v edge ≡ true
end-has v k edge same = go (nat_eq k 0) refl
  where
    go : (b : Bool) → nat_eq k 0 ≡ b → has_end v edge ≡ true
    go true e = let first : edge.0 ≡ v = rw e at same in let yes = eq-eqb v edge.0 (sym first) in grind (arith, nat_tests)
    go false e = let second : edge.1 ≡ v = rw e at same in let yes = eq-eqb v edge.1 (sym second) in grind (arith, nat_tests)
