use Rattle.std.proofs.Common.{ap, take_all, pos}
use Rattle.std.specs.List.{flat_map}
use Rattle.obj_out.proofs.PutsLemmas.{puts-next, puts-same, puts-stop}
use Rattle.ratio128.specs.declared.point.Point3.{Point3}
use Rattle.ratio128.specs.declared.valued.Valued.{Valued}
use Rattle.far_text.specs.Lines.{valued_line}
use Rattle.far_text.proofs.points.put_points.Goals as goal

-- a read past the end gives the default
abbrev none : Valued Point3
none = record { value = record { x = pos 0; y = pos 0; z = pos 0 }; den = 0 }

pub returns-in_err-put_valued : goal.returns-in_err-put_valued
returns-in_err-put_valued g c =
    puts-stop (valued_line c.args.decimals c.args.common) c.args.points.now c.loop-p.p-index none c.loop-p-test.true
    c.from_residual.ensures.0 c.loop-p.invariant
    c.in_err-put_valued.ensures

pub loop-p-preserved : goal.loop-p-preserved
loop-p-preserved g c =
    puts-next (valued_line c.args.decimals c.args.common) c.args.points.now c.loop-p.p-index none c.loop-p-test.true c.loop-p.invariant
    c.in_ok-put_valued.ensures

pub returns : goal.returns
returns g c =
    puts-same (ap (flat_map (valued_line c.args.decimals c.args.common))
    (take_all c.loop-p.p-index c.args.points.now c.loop-p-test.false)) c.loop-p.invariant
