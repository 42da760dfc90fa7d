use Rattle.std.proofs.Common.{◌∙◌, ◌++◌, ◌∷◌, [], ap, sym, arith, map, List}
use Rattle.std.specs.List.{range_with_len}
use Rattle.std.proofs.lemmas.List.{map_push}
use Rattle.std.proofs.lemmas.List.FromFn.{map-range_with_len_more}
use Rattle.level_topology.specs.Child.{PointOrigin}
use Rattle.level_topology.specs.ChildTables.{origin_of, numbered_origin}
use Rattle.child_slots.proofs.SlotLemmas.{few-edges}
use Rattle.uniform_refiner.proofs.origins.put_origins.Goals as goal

pub overflow_add-count-2 : goal.overflow_add-count-2
overflow_add-count-2 c = record { fits = omega (arith, few-edges c.args.level.now c.facts.ensures, c.facts.ensures.small.points, c.facts.ensures.small.faces, c.points-vertices.ensures, c.faces-faces.ensures, c.edges.ensures) }

pub loop-n-preserved : goal.loop-n-preserved
loop-n-preserved c =
    let origin = numbered_origin c.points-vertices.result c.faces-faces.result in
    ap (map origin_of) c.in_ok-push.ensures.items ∙ map_push origin_of c.loop-n.origins.items c.origin_at.result
    ∙ ap (λ (xs : List PointOrigin). xs ++ origin_of c.origin_at.result ∷ []) c.loop-n.invariant
    ∙ ap (λ (y : PointOrigin). map origin (range_with_len 0 c.loop-n.n) ++ y ∷ []) c.origin_at.ensures
    ∙ sym (map-range_with_len_more origin 0 c.loop-n.n c.loop-n.n (omega arith))
