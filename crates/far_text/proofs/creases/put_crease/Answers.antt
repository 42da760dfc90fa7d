use Rattle.obj_out.proofs.PutsLemmas.{puts-after, puts-cut, puts-same}
use Rattle.sharpness_rules.specs.View.{sharpness_of}
use Rattle.far_text.proofs.LineLemmas.{crease-by-words}
use Rattle.far_text.proofs.creases.put_crease.Goals as goal

pub returns-in_err-put_bytes : goal.returns-in_err-put_bytes
returns-in_err-put_bytes g c =
    puts-same (crease-by-words c.args.ends (sharpness_of c.args.sharpness))
    (puts-cut _ c.from_residual.ensures.0 c.in_err-put_bytes.ensures)

pub returns-in_err-put_number_after : goal.returns-in_err-put_number_after
returns-in_err-put_number_after g c =
    puts-same (crease-by-words c.args.ends (sharpness_of c.args.sharpness))
    (puts-after c.in_ok-put_bytes.ensures (puts-cut _ c.from_residual-in_err-put_number_after.ensures.0 c.in_err-put_number_after.ensures))

pub returns-in_err-put_number_after-2 : goal.returns-in_err-put_number_after-2
returns-in_err-put_number_after-2 g c =
    puts-same (crease-by-words c.args.ends (sharpness_of c.args.sharpness))
    (puts-after c.in_ok-put_bytes.ensures (puts-after c.in_ok-put_number_after.ensures
    (puts-cut _ c.from_residual-in_err-put_number_after-2.ensures.0 c.in_err-put_number_after-2.ensures)))

pub returns-in_err-put_sharpness_word : goal.returns-in_err-put_sharpness_word
returns-in_err-put_sharpness_word g c =
    puts-same (crease-by-words c.args.ends (sharpness_of c.args.sharpness))
    (puts-after c.in_ok-put_bytes.ensures (puts-after c.in_ok-put_number_after.ensures (puts-after c.in_ok-put_number_after-2.ensures
    (puts-cut _ c.from_residual-in_err-put_sharpness_word.ensures.0 c.in_err-put_sharpness_word.ensures))))

pub returns : goal.returns
returns g c =
    puts-same (crease-by-words c.args.ends (sharpness_of c.args.sharpness))
    (puts-after c.in_ok-put_bytes.ensures (puts-after c.in_ok-put_number_after.ensures (puts-after c.in_ok-put_number_after-2.ensures
    (puts-after c.in_ok-put_sharpness_word.ensures c.put_byte.ensures))))
