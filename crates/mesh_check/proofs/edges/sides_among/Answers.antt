use Rattle.std.proofs.Common.{refl}
use Rattle.std.specs.List.{filter}
use Rattle.level_builder.specs.Keys.{is_named}
use Rattle.level_builder.proofs.RestLemmas.{kept-put, all-put}
use Rattle.mesh_check.proofs.edges.sides_among.Goals as goal

pub loop-rest-preserved : goal.loop-rest-preserved
loop-rest-preserved c = kept-put (is_named c.args.directed c.args.known.now) c.loop-rest.rest.now _ _ _ _ _ c.in-len1-up.len_at_least c.is_named-put.ensures c.in_ok-put_if.ensures c.loop-rest.invariant

pub returns : goal.returns
returns c = all-put (filter (is_named c.args.directed c.args.known.now)) c.loop-rest.rest.now _ _ c.in_default.len_below refl c.loop-rest.invariant
