use Rattle.primvar_refine.proofs.BoundLemmas.{greatest-next}
use Rattle.primvar_refine.proofs.bound.Greatest.with.Goals as goal

pub returns-then-den-self : goal.returns-then-den-self
returns-then-den-self c dens e h = greatest-next dens c.args.den c.args.place _ _ c.if-den-self.true e h
