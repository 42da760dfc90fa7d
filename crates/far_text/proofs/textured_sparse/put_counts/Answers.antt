use Rattle.std.proofs.Common.{codes, ap}
use Rattle.obj_out.proofs.PutsLemmas.{puts-after, puts-cut, puts-same}
use Rattle.far_text.specs.CountLines.{count_words}
use Rattle.far_text.proofs.TexturedLemmas.{textured-counts-by-words}
use Rattle.far_text.proofs.textured_sparse.put_counts.Goals as goal

pub returns-in_err-put_count : goal.returns-in_err-put_count
returns-in_err-put_count g c =
    puts-same (textured-counts-by-words c.args.number c.args.level.now c.args.texture.now)
    (puts-cut _ c.from_residual.ensures.0 c.in_err-put_count.ensures)

pub returns-in_err-put_count-2 : goal.returns-in_err-put_count-2
returns-in_err-put_count-2 g c =
    let points = ap (count_words (codes " points")) c.points.ensures in
    puts-same (textured-counts-by-words c.args.number c.args.level.now c.args.texture.now)
    (puts-after c.in_ok-put_count.ensures (puts-cut _ c.from_residual-in_err-put_count-2.ensures.0 (puts-same points c.in_err-put_count-2.ensures)))

pub returns-in_err-put_count-3 : goal.returns-in_err-put_count-3
returns-in_err-put_count-3 g c =
    let points = ap (count_words (codes " points")) c.points.ensures in
    let faces = ap (count_words (codes " faces")) c.len.ensures in
    puts-same (textured-counts-by-words c.args.number c.args.level.now c.args.texture.now)
    (puts-after c.in_ok-put_count.ensures (puts-after (puts-same points c.in_ok-put_count-2.ensures)
    (puts-cut _ c.from_residual-in_err-put_count-3.ensures.0 (puts-same faces c.in_err-put_count-3.ensures))))

pub returns-in_err-put_count-4 : goal.returns-in_err-put_count-4
returns-in_err-put_count-4 g c =
    let points = ap (count_words (codes " points")) c.points.ensures in
    let faces = ap (count_words (codes " faces")) c.len.ensures in
    let texture = ap (count_words (codes " texture")) c.points-2.ensures in
    puts-same (textured-counts-by-words c.args.number c.args.level.now c.args.texture.now)
    (puts-after c.in_ok-put_count.ensures (puts-after (puts-same points c.in_ok-put_count-2.ensures) (puts-after (puts-same faces c.in_ok-put_count-3.ensures)
    (puts-cut _ c.from_residual-in_err-put_count-4.ensures.0 (puts-same texture c.in_err-put_count-4.ensures)))))

pub returns : goal.returns
returns g c =
    let points = ap (count_words (codes " points")) c.points.ensures in
    let faces = ap (count_words (codes " faces")) c.len.ensures in
    let texture = ap (count_words (codes " texture")) c.points-2.ensures in
    puts-same (textured-counts-by-words c.args.number c.args.level.now c.args.texture.now)
    (puts-after c.in_ok-put_count.ensures (puts-after (puts-same points c.in_ok-put_count-2.ensures)
    (puts-after (puts-same faces c.in_ok-put_count-3.ensures) (puts-after (puts-same texture c.in_ok-put_count-4.ensures) c.put_byte.ensures))))
