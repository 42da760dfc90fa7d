use Rattle.subdiv_model.specs.SparseText.{sparse_level_line}
use Rattle.obj_out.proofs.PutsLemmas.{puts-after, puts-cut, puts-same}
use Rattle.far_text.proofs.SparseLemmas.{level-by-parts}
use Rattle.far_text.proofs.sparse.put_sparse_level.Goals as goal

pub returns-in_err-put_counts : goal.returns-in_err-put_counts
returns-in_err-put_counts g c = puts-cut _ c.from_residual.ensures.0 c.in_err-put_counts.ensures

pub returns-in_err-put_points : goal.returns-in_err-put_points
returns-in_err-put_points g c =
    puts-same (level-by-parts c.args.decimals c.args.number c.args.common c.args.level.now _ c.deref.ensures.value)
    (puts-after {x = sparse_level_line c.args.number c.args.level.now.faces} c.in_ok-put_counts.ensures
    (puts-cut _ c.from_residual-in_err-put_points.ensures.0 c.in_err-put_points.ensures))

pub returns : goal.returns
returns g c =
    puts-same (level-by-parts c.args.decimals c.args.number c.args.common c.args.level.now _ c.deref.ensures.value)
    (puts-after {x = sparse_level_line c.args.number c.args.level.now.faces} c.in_ok-put_counts.ensures
    (puts-after c.in_ok-put_points.ensures c.put_faces.ensures))
