use Rattle.std.proofs.Common.{◌∙◌, ap, arith, ℕ, ◌+◌, ◌*◌}
use Rattle.sparse_level.proofs.NumberLemmas.{face-known, face-there, first-few, first-number, number-small, corner-small, later-number}
use Rattle.sparse_level.proofs.places.child_number.Goals as goal

pub first_child_of-requires : goal.first_child_of-requires
first_child_of-requires c = omega (arith, face-known c.args.sparse.now c.facts.ensures c.level-level.result.now c.level-level.ensures c.facts-2.ensures c.args.place.face c.args.place.corner c.requires)

pub overflow_add-first_child_of : goal.overflow_add-first_child_of
overflow_add-first_child_of c = record {
  fits = omega (arith, first-few c.args.sparse.now c.facts.ensures c.level-level.result.now c.level-level.ensures c.facts-2.ensures c.args.place.face c.args.place.corner c.requires c.first_child_of.result c.first_child_of.ensures);
}

pub number-requires : goal.number-requires
number-requires c = face-there c.args.sparse.now c.facts.ensures c.level-level.result.now c.level-level.ensures c.facts-2.ensures c.args.place.face c.args.place.corner c.requires

pub overflow_mul-result : goal.overflow_mul-result
overflow_mul-result c = record {
  fits = omega (arith, number-small c.args.sparse.now c.facts.ensures c.level-level.result.now c.level-level.ensures c.facts-2.ensures c.args.place.face c.args.place.corner c.requires c.number.result c.number.ensures);
}

pub overflow_add-result : goal.overflow_add-result
overflow_add-result c = record {
  fits = omega (
    arith,
    number-small c.args.sparse.now c.facts.ensures c.level-level.result.now c.level-level.ensures c.facts-2.ensures c.args.place.face c.args.place.corner c.requires c.number.result c.number.ensures,
    corner-small c.args.sparse.now c.facts.ensures c.level-level.result.now c.level-level.ensures c.facts-2.ensures c.args.place.face c.args.place.corner c.requires,
    c.from-else-depth-eq0.ensures,
  );
}

pub returns-then-depth-eq0 : goal.returns-then-depth-eq0
returns-then-depth-eq0 c =
    c.from.ensures
    ∙ first-number c.args.sparse.now c.facts.ensures c.level-level.result.now c.level-level.ensures c.facts-2.ensures c.args.place.face c.args.place.corner c.requires c.depth.result c.first_child_of.result c.depth.ensures c.if-depth-eq0.true c.first_child_of.ensures

pub returns-else-depth-eq0 : goal.returns-else-depth-eq0
returns-else-depth-eq0 c =
    ap (λ (k : ℕ). 4 * c.number.result + k) c.from-else-depth-eq0.ensures
    ∙ later-number c.args.sparse.now c.facts.ensures c.level-level.result.now c.level-level.ensures c.facts-2.ensures c.args.place.face c.args.place.corner c.requires c.depth.result c.number.result c.depth.ensures c.if-depth-eq0.false c.number.ensures
