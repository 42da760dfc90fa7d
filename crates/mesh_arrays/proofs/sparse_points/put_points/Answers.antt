use Rattle.std.proofs.Common.{rules, ◌+◌, ◌*◌, ◌≤◌, ◌≡◌, length, map, take, get_or, arith, ap, sym, ◌∙◌}
use Rattle.flat_arrays.specs.Words.{integer_of, natural_of}
use Rattle.flat_arrays.proofs.PartLemmas.{counts-more, counts-room, part-length}
use Rattle.mesh_arrays.specs.Points.{all_numerators, all_denominators}
use Rattle.mesh_arrays.specs.SparseFlat.{value_count}
use Rattle.mesh_arrays.proofs.FrontLemmas.{front-all, front-next-view, part-size}
use Rattle.mesh_arrays.proofs.LevelLemmas.{numerators-length, denominators-length, values-fit}
use Rattle.mesh_arrays.proofs.sparse_points.put_points.Goals as goal

pub loop-level-preserved : goal.loop-level-preserved
loop-level-preserved c =
    let levels = c.args.levels.now in
    let common = c.args.common in
    let i = c.loop-level.level-index in
    let level = c.level-item.result in
    let at = c.loop-level.at in
    let len = c.len-len.result in
    let new = c.fill_points.new in
    let so_far = c.loop-level.invariant in
    let size : len ≡ value_count (get_or levels i level) = omega (arith, c.len-len.ensures, level.values.ok.0, ap value_count c.level-item.is) in
    let enough = counts-room value_count levels i level at len c.loop-level-test.true so_far.at size in
    let fits : 3 * at + 3 * len ≤ length c.loop-level.numerators = omega (arith, enough, c.requires.fits, so_far.len) in
    let dens_fit : at + len ≤ length c.loop-level.denominators = omega (arith, enough, c.requires.dens_fit, so_far.dens_len) in
    let nums_len : length new.numerators ≡ 3 * len = c.fill_points.ensures.len ∙ part-size (3 * at) (3 * len) c.loop-level.numerators fits in
    let dens_len : length new.denominators ≡ len = c.fill_points.ensures.dens_len ∙ part-size at len c.loop-level.denominators dens_fit in record {
      at = counts-more value_count levels i level at len c.loop-level-test.true so_far.at size;
      numerators = front-next-view integer_of (λ level. all_numerators level.values.items) levels i level c.args.numerators.now c.loop-level.numerators new.numerators (3 * at) (3 * len)
          c.loop-level-test.true (numerators-length (take i levels) ∙ ap (λ n. 3 * n) (sym so_far.at)) nums_len fits so_far.numerators
          (c.fill_points.ensures.numerators ∙ ap (λ l. all_numerators l.values.items) c.level-item.is);
      denominators = front-next-view natural_of (λ level. all_denominators common level.values.items) levels i level c.args.denominators.now c.loop-level.denominators new.denominators at len
          c.loop-level-test.true (denominators-length common (take i levels) ∙ sym so_far.at) dens_len dens_fit so_far.denominators
          (c.fill_points.ensures.denominators ∙ ap (λ l. all_denominators common l.values.items) c.level-item.is);
      len = part-length (3 * at) (3 * len) c.loop-level.numerators new.numerators fits nums_len ∙ so_far.len;
      dens_len = part-length at len c.loop-level.denominators new.denominators dens_fit dens_len ∙ so_far.dens_len;
    }

pub overflow_mul-at : goal.overflow_mul-at
overflow_mul-at c =
    let enough = values-fit c.args.levels.now c.loop-level.level-index c.level-item.result c.loop-level.at c.len-len.result (length c.args.numerators.now) (length c.args.denominators.now)
    c.loop-level-test.true c.loop-level.invariant.at c.level-item.is c.len-len.ensures c.requires.fits c.requires.dens_fit in
    search rules

pub overflow_mul-at-in-loop-level : goal.overflow_mul-at-in-loop-level
overflow_mul-at-in-loop-level c =
    let enough = values-fit c.args.levels.now c.loop-level.level-index c.level-item.result c.loop-level.at c.len-len.result (length c.args.numerators.now) (length c.args.denominators.now)
    c.loop-level-test.true c.loop-level.invariant.at c.level-item.is c.len-len.ensures c.requires.fits c.requires.dens_fit in
    search rules

pub overflow_mul-len : goal.overflow_mul-len
overflow_mul-len c =
    let enough = values-fit c.args.levels.now c.loop-level.level-index c.level-item.result c.loop-level.at c.len-len.result (length c.args.numerators.now) (length c.args.denominators.now)
    c.loop-level-test.true c.loop-level.invariant.at c.level-item.is c.len-len.ensures c.requires.fits c.requires.dens_fit in
    search rules

pub overflow_add-at : goal.overflow_add-at
overflow_add-at c =
    let enough = values-fit c.args.levels.now c.loop-level.level-index c.level-item.result c.loop-level.at c.len-len.result (length c.args.numerators.now) (length c.args.denominators.now)
    c.loop-level-test.true c.loop-level.invariant.at c.level-item.is c.len-len.ensures c.requires.fits c.requires.dens_fit in
    search rules

pub slice_bounds-fill_points-end : goal.slice_bounds-fill_points-end
slice_bounds-fill_points-end c =
    let enough = values-fit c.args.levels.now c.loop-level.level-index c.level-item.result c.loop-level.at c.len-len.result (length c.args.numerators.now) (length c.args.denominators.now)
    c.loop-level-test.true c.loop-level.invariant.at c.level-item.is c.len-len.ensures c.requires.fits c.requires.dens_fit in
    search rules

pub overflow_add-at-in-loop-level : goal.overflow_add-at-in-loop-level
overflow_add-at-in-loop-level c =
    let enough = values-fit c.args.levels.now c.loop-level.level-index c.level-item.result c.loop-level.at c.len-len.result (length c.args.numerators.now) (length c.args.denominators.now)
    c.loop-level-test.true c.loop-level.invariant.at c.level-item.is c.len-len.ensures c.requires.fits c.requires.dens_fit in
    search rules

pub slice_bounds-fill_points-end-in-loop-level : goal.slice_bounds-fill_points-end-in-loop-level
slice_bounds-fill_points-end-in-loop-level c =
    let enough = values-fit c.args.levels.now c.loop-level.level-index c.level-item.result c.loop-level.at c.len-len.result (length c.args.numerators.now) (length c.args.denominators.now)
    c.loop-level-test.true c.loop-level.invariant.at c.level-item.is c.len-len.ensures c.requires.fits c.requires.dens_fit in
    search rules

pub overflow_add-at-in-loop-level-2 : goal.overflow_add-at-in-loop-level-2
overflow_add-at-in-loop-level-2 c =
    let enough = values-fit c.args.levels.now c.loop-level.level-index c.level-item.result c.loop-level.at c.len-len.result (length c.args.numerators.now) (length c.args.denominators.now)
    c.loop-level-test.true c.loop-level.invariant.at c.level-item.is c.len-len.ensures c.requires.fits c.requires.dens_fit in
    search rules

pub returns-clause-numerators : goal.returns-clause-numerators
returns-clause-numerators c =
    front-all (λ level. all_numerators level.values.items) c.args.levels.now c.loop-level.level-index (map integer_of c.args.numerators.now) (map integer_of c.loop-level.numerators)
    c.loop-level-test.false c.loop-level.invariant.numerators

pub returns-clause-denominators : goal.returns-clause-denominators
returns-clause-denominators c =
    front-all (λ level. all_denominators c.args.common level.values.items) c.args.levels.now c.loop-level.level-index (map natural_of c.args.denominators.now)
    (map natural_of c.loop-level.denominators) c.loop-level-test.false c.loop-level.invariant.denominators
