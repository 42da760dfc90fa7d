use Rattle.std.proofs.Common.{ap, sym, ◌∙◌}
use Rattle.mask_rules.specs.View.{scheme_of}
use Rattle.mask_rules.proofs.AroundLemmas.{refused-same}
use Rattle.mask_rules.proofs.SmoothLemmas.{smooth-fine}
use Rattle.mask_rules.proofs.VertexLemmas.{from-joined}
use Rattle.mask_rules.proofs.made.MadeMask.put_plain.Goals as goal

pub returns-in-CatmullClark-clause-mask : goal.returns-in-CatmullClark-clause-mask
returns-in-CatmullClark-clause-mask c =
    rw c.in-CatmullClark.is
    (from-joined c.args.level.now c.args.v c.facts.ensures c.requires.known (c.requires.boundary (ap scheme_of c.in-CatmullClark.is)) c.put_smooth.new.self c.put_smooth.ensures)

pub returns-in-CatmullClark-clause-fine : goal.returns-in-CatmullClark-clause-fine
returns-in-CatmullClark-clause-fine c =
    rw c.in-CatmullClark.is
    (sym (refused-same c.args.level.now c.args.v c.facts.ensures c.requires.known) ∙ smooth-fine c.args.level.now c.args.v (c.requires.plain (ap scheme_of c.in-CatmullClark.is)).0)
