use Rattle.std.proofs.Common.{refl}
use Rattle.channel_refine.proofs.TableLemmas.{test-fits, test-over}
use Rattle.mesh_answers.proofs.scales.fitting.Goals as goal

pub returns-then-scale_fits : goal.returns-then-scale_fits
returns-then-scale_fits c = (refl, c.facts.ensures, test-fits _ _ c.args.most c.scale_fits.ensures c.if-scale_fits.true)

pub returns : goal.returns
returns c = (refl, c.facts.ensures, test-over _ _ c.args.most c.scale_fits.ensures c.if-scale_fits.false)
