use Rattle.std.proofs.Common.{◌∙◌, ap, refl, subst, map, get_or, false, List, ℕ, Bool}
use Rattle.level_topology.specs.Topology.{IsTopology}
use Rattle.level_topology.specs.ChildTables.{place_of}
use Rattle.level_topology.specs.declared.child_origin.FacePlace.{FacePlace}
use Rattle.sparse_laws.specs.NextSparse.{uniform_child}
use Rattle.sparse_level.specs.View.{level_of}
use Rattle.sparse_refiner.proofs.StepLemmas.{within-at, marked-faces-at, step-topology, step-is}
use Rattle.sparse_refiner.proofs.step.step_of.Goals as goal

pub put_numbers-requires : goal.put_numbers-requires
put_numbers-requires c =
    within-at c.args.sparse.now c.args.sparse.now.topology refl (subst IsTopology c.level.ensures c.facts-2.ensures) c.args.present c.requires.present c.deref.result.now c.deref.ensures.value

pub put_inner-requires : goal.put_inner-requires
put_inner-requires c =
    marked-faces-at c.args.sparse.now c.args.sparse.now.topology refl (subst IsTopology c.level.ensures c.facts-2.ensures) c.args.present c.requires.present c.deref-3.result.now c.deref-3.ensures.value c.deref-2.result.now c.deref-2.ensures.value

pub of-requires : goal.of-requires
of-requires c =
    step-topology c.args.sparse.now (subst IsTopology c.level.ensures c.facts-2.ensures) c.args.present c.requires.present c.facts.ensures c.args.next c.facts-3.ensures c.requires.next c.in_ok-child.child c.in_ok-numbers.numbers.items c.in_ok-inner.inner.items c.next_depth-depth.result
    c.in_ok-child.ensures
    (c.in_ok-numbers.ensures ∙ ap (λ (xs : List FacePlace). map (uniform_child (level_of c.args.sparse.now)) (map place_of xs)) c.deref.ensures.value)
    (c.in_ok-inner.ensures ∙ ap (λ (bs : List Bool). map (λ (place : ℕ × ℕ). get_or bs place.0 false) (map place_of c.deref-3.result.now)) c.deref-2.ensures.value ∙ ap (λ (xs : List FacePlace). map (λ (place : ℕ × ℕ). get_or c.args.present.selected.items place.0 false) (map place_of xs)) c.deref-3.ensures.value)
    c.next_depth-depth.ensures c.requires.depth

pub returns-clause-step : goal.returns-clause-step
returns-clause-step c =
    step-is c.args.sparse.now (subst IsTopology c.level.ensures c.facts-2.ensures) c.args.present c.requires.present c.facts.ensures c.args.next c.facts-3.ensures c.requires.next c.in_ok-child.child c.in_ok-numbers.numbers.items c.in_ok-inner.inner.items c.next_depth-depth.result
    c.in_ok-child.ensures
    (c.in_ok-numbers.ensures ∙ ap (λ (xs : List FacePlace). map (uniform_child (level_of c.args.sparse.now)) (map place_of xs)) c.deref.ensures.value)
    (c.in_ok-inner.ensures ∙ ap (λ (bs : List Bool). map (λ (place : ℕ × ℕ). get_or bs place.0 false) (map place_of c.deref-3.result.now)) c.deref-2.ensures.value ∙ ap (λ (xs : List FacePlace). map (λ (place : ℕ × ℕ). get_or c.args.present.selected.items place.0 false) (map place_of xs)) c.deref-3.ensures.value)
    c.next_depth-depth.ensures c.of.result c.of.ensures
