use Rattle.std.proofs.Common.{ℕ, ◌+◌, ◌∙◌, List, nat_eq, get_or, arith, ap, refl}
use Rattle.std.specs.List.{count_by}
use Rattle.std.proofs.lemmas.List.{length-set, take_all}
use Rattle.mesh_check.proofs.BaseMarkLemmas.{count-room, count-more}
use Rattle.mesh_check.proofs.base_corners.count_face.Goals as goal

pub overflow_add-index_mut : goal.overflow_add-index_mut
overflow_add-index_mut c =
    let v = get_or c.args.face.now c.loop-v.v-index 0 in
    omega (
      arith,
      count-room c.args.face.now c.loop-v.counts.items c.loop-v.v-index v _ _ _ c.loop-v-test.true
          (omega (arith, c.requires.inside c.loop-v.v-index 0 c.loop-v-test.true, c.loop-v.invariant.size)) (c.requires.countable v) c.index_mut.ensures.value (c.loop-v.invariant.counts v),
    )

pub loop-v-preserved : goal.loop-v-preserved
loop-v-preserved c =
    let w = get_or c.args.face.now c.loop-v.v-index 0 in
    record {
      counts = λ v. count-more c.args.face.now c.loop-v.counts.items c.loop-v.v-index v w _ _ _ c.loop-v-test.true refl (omega (arith, c.requires.inside c.loop-v.v-index 0 c.loop-v-test.true, c.loop-v.invariant.size)) c.index_mut.ensures.value (c.loop-v.invariant.counts v);
      size = length-set c.loop-v.counts.items w _ ∙ c.loop-v.invariant.size;
    }

pub returns-clause-counts : goal.returns-clause-counts
returns-clause-counts c = λ v.
    c.loop-v.invariant.counts v
    ∙ ap (λ (vs : List ℕ). get_or c.args.counts.now.items v 0 + count_by (nat_eq v) vs) (take_all c.loop-v.v-index c.args.face.now c.loop-v-test.false)
