use Rattle.std.proofs.Common.{rules, ◌+◌, ◌≤◌, ◌≡◌, length, take, get_or, arith, ap, sym, ◌∙◌}
use Rattle.std.proofs.lemmas.List.{length-map}
use Rattle.flat_arrays.proofs.PartLemmas.{counts-more, counts-room, part-length}
use Rattle.mesh_arrays.specs.SparseFlat.{face_count, kind_number, level_kinds, level_numbers, level_sizes}
use Rattle.mesh_arrays.proofs.FrontLemmas.{front-all, front-next}
use Rattle.mesh_arrays.proofs.LevelLemmas.{faces-length, level-fits}
use Rattle.mesh_arrays.proofs.sparse_faces.put_faces.Goals as goal

pub loop-level-preserved : goal.loop-level-preserved
loop-level-preserved c =
    let levels = c.args.levels.now in
    let i = c.loop-level.level-index in
    let level = c.level-item.result in
    let at = c.loop-level.at in
    let len = c.len-len.result in
    let new = c.fill_faces.new in
    let so_far = c.loop-level.invariant in
    let size : len ≡ face_count (get_or levels i level) = c.len-len.ensures ∙ ap face_count c.level-item.is in
    let enough = counts-room face_count levels i level at len c.loop-level-test.true so_far.at size in
    let kinds_fit : at + len ≤ length c.loop-level.kinds = omega (arith, enough, c.requires.kinds_fit, so_far.kinds_len) in
    let numbers_fit : at + len ≤ length c.loop-level.numbers = omega (arith, enough, c.requires.numbers_fit, so_far.numbers_len) in
    let sizes_fit : at + len ≤ length c.loop-level.sizes = omega (arith, enough, c.requires.sizes_fit, so_far.sizes_len) in
    let kinds_len : length new.kinds ≡ len = ap length c.fill_faces.ensures.kinds ∙ length-map level.faces.faces (λ face. kind_number face.kind) ∙ sym c.len-len.ensures in
    let numbers_len : length new.numbers ≡ len = ap length c.fill_faces.ensures.numbers ∙ length-map level.faces.faces (λ face. face.number) ∙ sym c.len-len.ensures in
    let sizes_len : length new.sizes ≡ len = ap length c.fill_faces.ensures.sizes ∙ length-map level.faces.faces (λ face. length face.corners) ∙ sym c.len-len.ensures in record {
      at = counts-more face_count levels i level at len c.loop-level-test.true so_far.at size;
      kinds = front-next (λ level. level_kinds level.faces) levels i level c.args.kinds.now c.loop-level.kinds new.kinds at len c.loop-level-test.true
          (faces-length (λ face. kind_number face.kind) (take i levels) ∙ sym so_far.at) kinds_len kinds_fit so_far.kinds (c.fill_faces.ensures.kinds ∙ ap (λ l. level_kinds l.faces) c.level-item.is);
      numbers = front-next (λ level. level_numbers level.faces) levels i level c.args.numbers.now c.loop-level.numbers new.numbers at len c.loop-level-test.true
          (faces-length (λ face. face.number) (take i levels) ∙ sym so_far.at) numbers_len numbers_fit so_far.numbers (c.fill_faces.ensures.numbers ∙ ap (λ l. level_numbers l.faces) c.level-item.is);
      sizes = front-next (λ level. level_sizes level.faces) levels i level c.args.sizes.now c.loop-level.sizes new.sizes at len c.loop-level-test.true
          (faces-length (λ face. length face.corners) (take i levels) ∙ sym so_far.at) sizes_len sizes_fit so_far.sizes (c.fill_faces.ensures.sizes ∙ ap (λ l. level_sizes l.faces) c.level-item.is);
      kinds_len = part-length at len c.loop-level.kinds new.kinds kinds_fit kinds_len ∙ so_far.kinds_len;
      numbers_len = part-length at len c.loop-level.numbers new.numbers numbers_fit numbers_len ∙ so_far.numbers_len;
      sizes_len = part-length at len c.loop-level.sizes new.sizes sizes_fit sizes_len ∙ so_far.sizes_len;
    }

pub overflow_add-at : goal.overflow_add-at
overflow_add-at c =
    let enough = level-fits face_count c.args.levels.now c.loop-level.level-index c.level-item.result c.loop-level.at c.len-len.result (length c.args.kinds.now) c.loop-level-test.true
    c.loop-level.invariant.at c.level-item.is c.len-len.ensures c.requires.kinds_fit in
    search rules

pub slice_bounds-fill_faces-end : goal.slice_bounds-fill_faces-end
slice_bounds-fill_faces-end c =
    let enough = level-fits face_count c.args.levels.now c.loop-level.level-index c.level-item.result c.loop-level.at c.len-len.result (length c.args.kinds.now) c.loop-level-test.true
    c.loop-level.invariant.at c.level-item.is c.len-len.ensures c.requires.kinds_fit in
    search rules

pub overflow_add-at-in-loop-level : goal.overflow_add-at-in-loop-level
overflow_add-at-in-loop-level c =
    let enough = level-fits face_count c.args.levels.now c.loop-level.level-index c.level-item.result c.loop-level.at c.len-len.result (length c.args.numbers.now) c.loop-level-test.true
    c.loop-level.invariant.at c.level-item.is c.len-len.ensures c.requires.numbers_fit in
    search rules

pub slice_bounds-fill_faces-end-in-loop-level : goal.slice_bounds-fill_faces-end-in-loop-level
slice_bounds-fill_faces-end-in-loop-level c =
    let enough = level-fits face_count c.args.levels.now c.loop-level.level-index c.level-item.result c.loop-level.at c.len-len.result (length c.args.numbers.now) c.loop-level-test.true
    c.loop-level.invariant.at c.level-item.is c.len-len.ensures c.requires.numbers_fit in
    search rules

pub overflow_add-at-in-loop-level-2 : goal.overflow_add-at-in-loop-level-2
overflow_add-at-in-loop-level-2 c =
    let enough = level-fits face_count c.args.levels.now c.loop-level.level-index c.level-item.result c.loop-level.at c.len-len.result (length c.args.sizes.now) c.loop-level-test.true
    c.loop-level.invariant.at c.level-item.is c.len-len.ensures c.requires.sizes_fit in
    search rules

pub slice_bounds-fill_faces-end-in-loop-level-2 : goal.slice_bounds-fill_faces-end-in-loop-level-2
slice_bounds-fill_faces-end-in-loop-level-2 c =
    let enough = level-fits face_count c.args.levels.now c.loop-level.level-index c.level-item.result c.loop-level.at c.len-len.result (length c.args.sizes.now) c.loop-level-test.true
    c.loop-level.invariant.at c.level-item.is c.len-len.ensures c.requires.sizes_fit in
    search rules

pub overflow_add-at-in-loop-level-3 : goal.overflow_add-at-in-loop-level-3
overflow_add-at-in-loop-level-3 c =
    let enough = level-fits face_count c.args.levels.now c.loop-level.level-index c.level-item.result c.loop-level.at c.len-len.result (length c.args.kinds.now) c.loop-level-test.true
    c.loop-level.invariant.at c.level-item.is c.len-len.ensures c.requires.kinds_fit in
    search rules

pub returns-clause-kinds : goal.returns-clause-kinds
returns-clause-kinds c = front-all (λ level. level_kinds level.faces) c.args.levels.now c.loop-level.level-index c.args.kinds.now c.loop-level.kinds c.loop-level-test.false c.loop-level.invariant.kinds

pub returns-clause-numbers : goal.returns-clause-numbers
returns-clause-numbers c = front-all (λ level. level_numbers level.faces) c.args.levels.now c.loop-level.level-index c.args.numbers.now c.loop-level.numbers c.loop-level-test.false c.loop-level.invariant.numbers

pub returns-clause-sizes : goal.returns-clause-sizes
returns-clause-sizes c = front-all (λ level. level_sizes level.faces) c.args.levels.now c.loop-level.level-index c.args.sizes.now c.loop-level.sizes c.loop-level-test.false c.loop-level.invariant.sizes
