use Rattle.std.proofs.Common.{◌∙◌, ◌+◌, ap, arith, length, ℕ, List}
use Rattle.std.proofs.lemmas.List.{length-replicate}
use Rattle.child_slots.proofs.SlotLemmas.{few-edges}
use Rattle.sparse_level.proofs.PointLemmas.{points-none}
use Rattle.sparse_level.proofs.points.point_table.Goals as goal

pub overflow_add-count : goal.overflow_add-count
overflow_add-count c = record { fits = omega (arith, c.facts.ensures.small.points, c.facts.ensures.small.faces, c.points.ensures, c.faces.ensures) }

pub overflow_add-count-2 : goal.overflow_add-count-2
overflow_add-count-2 c = record { fits = omega (arith, few-edges c.args.level.now c.facts.ensures, c.facts.ensures.small.points, c.facts.ensures.small.faces, c.points.ensures, c.faces.ensures, c.edges.ensures) }

pub returns : goal.returns
returns c =
    let items = c.in_ok-vec.ensures.items_if_clones_equal (λ y h. h) in
    record {
      count = ap (λ (xs : List ℕ). length xs) items ∙ length-replicate _ _ ∙ ap (λ (k : ℕ). k + c.faces.result + c.edges.result) c.points.ensures ∙ ap (λ (k : ℕ). c.args.level.now.level.point_count + k + c.edges.result) c.faces.ensures
          ∙ ap (λ (k : ℕ). c.args.level.now.level.point_count + length c.args.level.now.level.polygons + k) c.edges.ensures;
      none = points-none c.in_ok-vec.field-0.items _ items;
    }
