use Rattle.std.proofs.Common.{◌∙◌, ◌≤◌, ◌^◌, arith, ap, length}
use Rattle.level_topology.specs.Topology.{Topology}
use Rattle.sparse_level.specs.View.{level_of}
use Rattle.sparse_level.specs.Places.{marked}
use Rattle.sparse_level.specs.Numbers.{numbered_faces}
use Rattle.sparse_level.proofs.FaceLemmas.{all-written, each-written}
use Rattle.sparse_level.proofs.faces.SparseFaces.of.Goals as goal

pub invariant_of-result : goal.invariant_of-result
invariant_of-result c =
    let faces = ap (λ (t : Topology). length t.level.polygons) c.level-level.ensures in
    let few : length c.args.sparse.now.topology.level.polygons ≤ 2 ^ 22 = omega (arith, c.facts-2.ensures.small.faces, faces) in
    each-written (level_of c.args.sparse.now) (marked c.args.selected.now) c.in_ok-put_kinds.field-0.items c.in_ok-put_numbers.field-0.items c.in_ok-of.field-0
    c.in_ok-put_kinds.ensures c.in_ok-put_numbers.ensures (c.in_ok-of.ensures ∙ ap (λ (t : Topology). numbered_faces t.level) c.level-level.ensures) c.facts.ensures.numbers_listed few

pub returns : goal.returns
returns c =
    all-written (level_of c.args.sparse.now) (marked c.args.selected.now) c.in_ok-put_kinds.field-0.items c.in_ok-put_numbers.field-0.items c.in_ok-of.field-0
    c.in_ok-put_kinds.ensures c.in_ok-put_numbers.ensures (c.in_ok-of.ensures ∙ ap (λ (t : Topology). numbered_faces t.level) c.level-level.ensures)
