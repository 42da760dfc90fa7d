use Rattle.std.proofs.Common.{◌∙◌}
use Rattle.sharpness_rules.proofs.HalvesLemmas.{shared-half}
use Rattle.sharpness_rules.proofs.halves.Halves.half.Goals as goal

pub returns-in-Shared-clause-half : goal.returns-in-Shared-clause-half
returns-in-Shared-clause-half c = λ method ring at are within read.
    c.half_of.ensures ∙ shared-half method ring c.args.self.now c.in-Shared.shares at c.args.s c.in-Semi.edge are c.in-Shared.is within read c.in-Semi.is
