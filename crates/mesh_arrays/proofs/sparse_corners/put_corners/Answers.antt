use Rattle.std.proofs.Common.{◌+◌, ◌≤◌, length, take, get_or, arith, ap, sym, ◌∙◌, ◌≡◌}
use Rattle.flat_arrays.proofs.PartLemmas.{counts-more, counts-room, part-length}
use Rattle.mesh_arrays.specs.SparseFlat.{corner_count, level_corners}
use Rattle.mesh_arrays.proofs.FrontLemmas.{front-next}
use Rattle.mesh_arrays.proofs.LevelLemmas.{corners-length, level-corners-length}
use Rattle.mesh_arrays.proofs.sparse_corners.put_corners.Goals as goal

pub loop-level-preserved : goal.loop-level-preserved
loop-level-preserved c =
    let levels = c.args.levels.now in
    let i = c.loop-level.level-index in
    let level = c.level-item.result in
    let at = c.loop-level.at in
    let len = c.corner_count-len.result in
    let out = c.loop-level.out in
    let part = c.fill_corners.new.out in
    let so_far = c.loop-level.invariant in
    let size : len ≡ corner_count (get_or levels i level) = c.corner_count-len.ensures ∙ ap corner_count c.level-item.is in
    let enough = counts-room corner_count levels i level at len c.loop-level-test.true so_far.at size in
    let fits : at + len ≤ length out = omega (arith, enough, c.requires.fits, so_far.len) in
    let part_len : length part ≡ len = ap length c.fill_corners.ensures ∙ level-corners-length level.faces ∙ sym c.corner_count-len.ensures in record {
      at = counts-more corner_count levels i level at len c.loop-level-test.true so_far.at size;
      corners = front-next (λ level. level_corners level.faces) levels i level c.args.out.now out part at len c.loop-level-test.true (corners-length (take i levels) ∙ sym so_far.at)
          part_len fits so_far.corners (c.fill_corners.ensures ∙ ap (λ l. level_corners l.faces) c.level-item.is);
      len = part-length at len out part fits part_len ∙ so_far.len;
    }
