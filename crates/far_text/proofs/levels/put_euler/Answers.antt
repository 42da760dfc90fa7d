use Rattle.std.proofs.Common.{◌≡◌, unsigned_abs, ap, rules}
use Rattle.obj_out.proofs.PutsLemmas.{puts-after, puts-cut, puts-same}
use Rattle.subdiv_model.specs.NumberText.{number_text}
use Rattle.far_text.proofs.levels.put_euler.Goals as goal

pub returns-in_err-put_bytes : goal.returns-in_err-put_bytes
returns-in_err-put_bytes g c =
    puts-cut _ c.from_residual.ensures.0 c.in_err-put_bytes.ensures

pub returns-in_err-put_sign : goal.returns-in_err-put_sign
returns-in_err-put_sign g c =
    puts-after c.in_ok-put_bytes.ensures (puts-cut _ c.from_residual-in_err-put_sign.ensures.0 c.in_err-put_sign.ensures)

pub returns : goal.returns
returns g c =
    let amount : c.unsigned_abs.result ≡ unsigned_abs c.args.counts.now.euler = search rules in
    puts-after c.in_ok-put_bytes.ensures (puts-after c.in_ok-put_sign.ensures (puts-same (ap number_text amount) c.put_number.ensures))
