use Rattle.std.proofs.Common.{◌<◌, ap, arith, length}
use Rattle.std.specs.List.{flat_map}
use Rattle.obj_out.proofs.PutsLemmas.{puts-next, puts-stop, puts-same}
use Rattle.patch_map.specs.View.{location_of}
use Rattle.far_text.specs.MapLines.{placed_leaf_line}
use Rattle.far_text.proofs.GridLemmas.{all-places, place-at, placed, within-places}
use Rattle.far_text.proofs.MapLemmas.{no_leaf}
use Rattle.far_text.proofs.map.put_map.Goals as goal

pub returns-in_err-put_leaf_line : goal.returns-in_err-put_leaf_line
returns-in_err-put_leaf_line g c =
    let grid = c.args.map.now.grid in
    let leaves = c.args.map.now.leaves.items in
    let each = c.requires.written.each in
    let n = c.loop-number.number in
    let within : n < length c.args.map.now.leaves.items = omega (arith, c.loop-number-test.true, c.len-number-end.ensures) in
    puts-stop (placed_leaf_line grid) (placed grid location_of leaves) n no_leaf (within-places grid location_of leaves each n within)
    c.from_residual.ensures.0 c.loop-number.invariant
    (puts-same (ap (placed_leaf_line grid) (place-at grid location_of leaves each n c.place_of-place.result c.index.result.now no_leaf within c.place_of-place.ensures.within c.place_of-place.ensures.number c.index.ensures)) c.in_err-put_leaf_line.ensures)

pub loop-number-preserved : goal.loop-number-preserved
loop-number-preserved g c =
    let grid = c.args.map.now.grid in
    let leaves = c.args.map.now.leaves.items in
    let each = c.requires.written.each in
    let n = c.loop-number.number in
    let within : n < length c.args.map.now.leaves.items = omega (arith, c.loop-number-test.true, c.len-number-end.ensures) in
    puts-next (placed_leaf_line grid) (placed grid location_of leaves) n no_leaf (within-places grid location_of leaves each n within)
    c.loop-number.invariant
    (puts-same (ap (placed_leaf_line grid) (place-at grid location_of leaves each n c.place_of-place.result c.index.result.now no_leaf within c.place_of-place.ensures.within c.place_of-place.ensures.number c.index.ensures)) c.in_ok-put_leaf_line.ensures)

pub returns : goal.returns
returns g c =
    let grid = c.args.map.now.grid in
    let leaves = c.args.map.now.leaves.items in
    let past = all-places grid location_of leaves c.requires.written.each c.loop-number.number (omega (arith, c.loop-number-test.false, c.len-number-end.ensures)) in
    puts-same (ap (flat_map (placed_leaf_line grid)) past) c.loop-number.invariant
