use Rattle.std.proofs.Common.{◌<◌, arith, length}
use Rattle.obj_out.proofs.PutsLemmas.{puts-next, puts-stop, puts-same}
use Rattle.far_text.specs.SparseLines.{numbered_level}
use Rattle.far_text.proofs.SparseLemmas.{no_level, numbered, within-levels, level-at, all-levels}
use Rattle.far_text.proofs.sparse.put_sparse.Goals as goal

pub returns-in_err-put_sparse_level : goal.returns-in_err-put_sparse_level
returns-in_err-put_sparse_level g c =
    let common = c.args.mesh.now.common in
    let levels = c.args.mesh.now.levels.items in
    let within : c.loop-k.k < length c.args.mesh.now.levels.items = omega (arith, c.loop-k-test.true, c.len-k-end.ensures) in
    puts-stop (numbered_level c.args.mesh.now.decimals) (numbered common levels) c.loop-k.k no_level (within-levels common levels c.loop-k.k within)
    c.from_residual.ensures.0 c.loop-k.invariant
    (puts-same (level-at common levels c.args.mesh.now.decimals c.loop-k.k c.index.result.now within c.index.ensures) c.in_err-put_sparse_level.ensures)

pub loop-k-preserved : goal.loop-k-preserved
loop-k-preserved g c =
    let common = c.args.mesh.now.common in
    let levels = c.args.mesh.now.levels.items in
    let within : c.loop-k.k < length c.args.mesh.now.levels.items = omega (arith, c.loop-k-test.true, c.len-k-end.ensures) in
    puts-next (numbered_level c.args.mesh.now.decimals) (numbered common levels) c.loop-k.k no_level (within-levels common levels c.loop-k.k within)
    c.loop-k.invariant
    (puts-same (level-at common levels c.args.mesh.now.decimals c.loop-k.k c.index.result.now within c.index.ensures) c.in_ok-put_sparse_level.ensures)

pub returns : goal.returns
returns g c =
    puts-same (all-levels c.args.mesh.now.common c.args.mesh.now.levels.items c.args.mesh.now.decimals c.loop-k.k (omega (arith, c.loop-k-test.false, c.len-k-end.ensures)))
    c.loop-k.invariant
