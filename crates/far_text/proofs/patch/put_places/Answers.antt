use Rattle.std.proofs.Common.{◌<◌, ap, arith, length}
use Rattle.std.specs.List.{flat_map}
use Rattle.subdiv_model.specs.Patch.{place_line}
use Rattle.obj_out.proofs.PutsLemmas.{puts-next, puts-stop, puts-same}
use Rattle.far_text.specs.Points.{point_of}
use Rattle.far_text.proofs.GridLemmas.{all-places, place-at, placed, within-places}
use Rattle.far_text.proofs.PatchLemmas.{no_place}
use Rattle.far_text.proofs.patch.put_places.Goals as goal

pub returns-in_err-put_place_line : goal.returns-in_err-put_place_line
returns-in_err-put_place_line g c =
    let grid = c.args.patch.now.grid in
    let view = point_of c.args.patch.now.common in
    let values = c.args.patch.now.values.items in
    let each = c.requires.written.each in
    let n = c.loop-number.number in
    let within : n < length c.args.patch.now.values.items = omega (arith, c.loop-number-test.true, c.len-number-end.ensures) in
    puts-stop place_line (placed grid view values) n no_place (within-places grid view values each n within)
    c.from_residual.ensures.0 c.loop-number.invariant
    (puts-same (ap place_line (place-at grid view values each n c.place_of-place.result c.index.result.now no_place within c.place_of-place.ensures.within c.place_of-place.ensures.number c.index.ensures)) c.in_err-put_place_line.ensures)

pub loop-number-preserved : goal.loop-number-preserved
loop-number-preserved g c =
    let grid = c.args.patch.now.grid in
    let view = point_of c.args.patch.now.common in
    let values = c.args.patch.now.values.items in
    let each = c.requires.written.each in
    let n = c.loop-number.number in
    let within : n < length c.args.patch.now.values.items = omega (arith, c.loop-number-test.true, c.len-number-end.ensures) in
    puts-next place_line (placed grid view values) n no_place (within-places grid view values each n within)
    c.loop-number.invariant
    (puts-same (ap place_line (place-at grid view values each n c.place_of-place.result c.index.result.now no_place within c.place_of-place.ensures.within c.place_of-place.ensures.number c.index.ensures)) c.in_ok-put_place_line.ensures)

pub returns : goal.returns
returns g c =
    let values = c.args.patch.now.values.items in
    let past = all-places c.args.patch.now.grid (point_of c.args.patch.now.common) values c.requires.written.each c.loop-number.number (omega (arith, c.loop-number-test.false, c.len-number-end.ensures)) in
    puts-same (ap (flat_map place_line) past) c.loop-number.invariant
