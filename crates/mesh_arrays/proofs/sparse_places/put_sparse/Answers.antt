use Rattle.std.proofs.Common.{rules, ◌*◌, ◌≤◌, length, sym, subst}
use Rattle.mesh_arrays.proofs.LevelLemmas.{values-count}
use Rattle.mesh_arrays.proofs.sparse_places.put_sparse.Goals as goal

pub put_points-requires-clause-fits : goal.put_points-requires-clause-fits
put_points-requires-clause-fits c =
    subst (λ n. 3 * n ≤ length c.args.places.now.numerators.now) (sym (values-count c.args.common c.args.levels.now c.requires.put)) (search rules)

pub put_points-requires-clause-dens_fit : goal.put_points-requires-clause-dens_fit
put_points-requires-clause-dens_fit c =
    subst (λ n. n ≤ length c.args.places.now.denominators.now) (sym (values-count c.args.common c.args.levels.now c.requires.put)) (search rules)
