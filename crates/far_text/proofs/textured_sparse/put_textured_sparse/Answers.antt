use Rattle.std.proofs.Common.{◌<◌, arith, length}
use Rattle.obj_out.proofs.PutsLemmas.{puts-next, puts-stop, puts-same}
use Rattle.far_text.specs.TexturedLines.{numbered_parts}
use Rattle.far_text.proofs.TexturedLemmas.{all-parts, can-at, no_parts, numbered_levels, parts-at, within-parts}
use Rattle.far_text.proofs.textured_sparse.put_textured_sparse.Goals as goal

pub put_level-requires-clause-written : goal.put_level-requires-clause-written
put_level-requires-clause-written g c =
    let within : c.loop-k.k < length c.args.sparse.now.mesh.levels.items = omega (arith, c.loop-k-test.true, c.len-k-end.ensures) in
    can-at c.args.sparse.now c.loop-k.k c.index-level.result.now c.index.result.now c.requires.written within c.index-level.ensures c.index.ensures

pub returns-in_err-put_level : goal.returns-in_err-put_level
returns-in_err-put_level g c =
    let sparse = c.args.sparse.now in
    let many = c.requires.written.as_many in
    let within : c.loop-k.k < length c.args.sparse.now.mesh.levels.items = omega (arith, c.loop-k-test.true, c.len-k-end.ensures) in
    puts-stop (numbered_parts sparse.mesh.decimals) (numbered_levels sparse) c.loop-k.k no_parts (within-parts sparse many c.loop-k.k within)
    c.from_residual.ensures.0 c.loop-k.invariant
    (puts-same (parts-at sparse many c.loop-k.k c.index-level.result.now c.index.result.now within c.index-level.ensures c.index.ensures) c.in_err-put_level.ensures)

pub loop-k-preserved : goal.loop-k-preserved
loop-k-preserved g c =
    let sparse = c.args.sparse.now in
    let many = c.requires.written.as_many in
    let within : c.loop-k.k < length c.args.sparse.now.mesh.levels.items = omega (arith, c.loop-k-test.true, c.len-k-end.ensures) in
    puts-next (numbered_parts sparse.mesh.decimals) (numbered_levels sparse) c.loop-k.k no_parts (within-parts sparse many c.loop-k.k within)
    c.loop-k.invariant
    (puts-same (parts-at sparse many c.loop-k.k c.index-level.result.now c.index.result.now within c.index-level.ensures c.index.ensures) c.in_ok-put_level.ensures)

pub returns : goal.returns
returns g c =
    let past = all-parts c.args.sparse.now c.requires.written.as_many c.loop-k.k (omega (arith, c.loop-k-test.false, c.len-k-end.ensures)) in
    puts-same past c.loop-k.invariant
