use Rattle.std.proofs.Common.{◌≡◌, ◌++◌, ◌-◌, ℕ, List, length}
use Rattle.point_fans.specs.Chains.{IsChain, at_places}
use Rattle.point_fans.proofs.places.put_chain.Given as goal

-- what is put, and what the chain has from here on, make what it has in all
abbrev pub invariant-loop-place : goal.invariant-loop-place
invariant-loop-place l =
    (chain : List ℕ) → IsChain l.next l.first chain
    → (rest : List ℕ) × IsChain l.next l.place rest
    × (l.owners.items ++ at_places l.places.owners.items rest ≡ l.fn.owners.items ++ at_places l.places.owners.items chain)
    × (l.within.items ++ at_places l.places.within.items rest ≡ l.fn.within.items ++ at_places l.places.within.items chain)

abbrev pub decreases-loop-place : goal.decreases-loop-place
decreases-loop-place l = length l.next - l.place
