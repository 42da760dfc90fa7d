use Rattle.std.proofs.Common.{sym, subst, map, List, ℕ}
use Rattle.std.proofs.lemmas.Result.{IfOk-weaker}
use Rattle.level_topology.specs.Child.{PointOrigin, IsChild}
use Rattle.level_topology.specs.ChildTables.{origin_of, place_of}
use Rattle.uniform_refiner.specs.Uniform.{origins_in}
use Rattle.uniform_refiner.proofs.RefineLemmas.{uniform-is}
use Rattle.uniform_refiner.proofs.UniformLemmas.{uniform-child}
use Rattle.uniform_refiner.proofs.uniform.join.Goals as goal

pub join-requires : goal.join-requires
join-requires c =
    let t = c.args.level.now in
    subst (λ (xs : List PointOrigin). IsChild t c.args.next xs (map place_of c.args.places.now)) (sym c.requires.origins)
    (subst (λ (xs : List (ℕ × ℕ)). IsChild t c.args.next (origins_in t) xs) (sym c.requires.places) (uniform-child t c.facts.ensures c.args.next c.requires.level))

pub returns : goal.returns
returns c =
    IfOk-weaker c.join.result _ _ (λ child is. uniform-is c.args.level.now c.args.next (map origin_of c.args.origins.now) (map place_of c.args.places.now) child is c.requires.origins c.requires.places c.requires.level c.requires.complete) c.join.ensures
