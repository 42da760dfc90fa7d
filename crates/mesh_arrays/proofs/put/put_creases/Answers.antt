use Rattle.std.proofs.Common.{arith, ◌+◌, length, ◌∙◌}
use Rattle.std.proofs.lemmas.Grind.{common_steps}
use Rattle.flat_arrays.proofs.PartLemmas.{rest-later}
use Rattle.mesh_arrays.proofs.put.put_creases.Goals as goal

pub loop-k-preserved : goal.loop-k-preserved
loop-k-preserved c = record {
  written = grind (arith, common_steps);
  good = grind (arith, common_steps);
  rest = rest-later (c.loop-k.k + 1) (length c.args.creases.now) c.put_item.new.out c.loop-k.out c.args.out.now (omega (arith, c.loop-k-test.true)) c.put_item.ensures.rest c.loop-k.invariant.rest;
  len = c.put_item.ensures.len ∙ c.loop-k.invariant.len;
}
