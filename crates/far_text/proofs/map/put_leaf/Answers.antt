use Rattle.std.proofs.Common.{[], ap}
use Rattle.subdiv_model.specs.Text.{line_text}
use Rattle.obj_out.proofs.PutsLemmas.{puts-after, puts-cut, puts-same}
use Rattle.patch_map.specs.View.{location_of}
use Rattle.far_text.specs.MapLines.{position_words}
use Rattle.far_text.proofs.MapLemmas.{leaf-by-words}
use Rattle.far_text.proofs.map.put_leaf.Goals as goal

pub returns-in_err-put_count : goal.returns-in_err-put_count
returns-in_err-put_count g c =
    puts-same (leaf-by-words c.args.grid (location_of c.args.leaf.now)) (puts-cut _ c.from_residual.ensures.0 c.in_err-put_count.ensures)

pub returns-in_err-put_count-2 : goal.returns-in_err-put_count-2
returns-in_err-put_count-2 g c =
    puts-same (leaf-by-words c.args.grid (location_of c.args.leaf.now))
    (puts-after c.in_ok-put_count.ensures (puts-cut _ c.from_residual-in_err-put_count-2.ensures.0 c.in_err-put_count-2.ensures))

pub returns-in_err-put_count-3 : goal.returns-in_err-put_count-3
returns-in_err-put_count-3 g c =
    puts-same (leaf-by-words c.args.grid (location_of c.args.leaf.now))
    (puts-after c.in_ok-put_count.ensures (puts-after c.in_ok-put_count-2.ensures
    (puts-cut _ c.from_residual-in_err-put_count-3.ensures.0 c.in_err-put_count-3.ensures)))

pub returns : goal.returns
returns g c =
    let position = ap (λ at. line_text [] (position_words c.args.grid at)) c.position_on.ensures in
    puts-same (leaf-by-words c.args.grid (location_of c.args.leaf.now))
    (puts-after c.in_ok-put_count.ensures (puts-after c.in_ok-put_count-2.ensures
    (puts-after c.in_ok-put_count-3.ensures (puts-same position c.put_position.ensures))))
