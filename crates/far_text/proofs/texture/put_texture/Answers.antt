use Rattle.std.proofs.Common.{pos}
use Rattle.obj_out.proofs.PutsLemmas.{puts-next, puts-stop}
use Rattle.ratio128.specs.declared.point.Point2.{Point2}
use Rattle.ratio128.specs.declared.valued.Valued.{Valued}
use Rattle.far_text.specs.Lines.{valued_texture_line}
use Rattle.far_text.proofs.texture.put_texture.Goals as goal

-- a read past the end gives the default
abbrev none : Valued Point2
none = record { value = record { u = pos 0; v = pos 0 }; den = 0 }

pub returns-in_err-put_valued : goal.returns-in_err-put_valued
returns-in_err-put_valued g c =
    puts-stop (valued_texture_line c.args.decimals c.args.common) c.args.points.now c.loop-p.p-index none c.loop-p-test.true
    c.from_residual.ensures.0 c.loop-p.invariant
    c.in_err-put_valued.ensures

pub loop-p-preserved : goal.loop-p-preserved
loop-p-preserved g c =
    puts-next (valued_texture_line c.args.decimals c.args.common) c.args.points.now c.loop-p.p-index none c.loop-p-test.true
    c.loop-p.invariant
    c.in_ok-put_valued.ensures
