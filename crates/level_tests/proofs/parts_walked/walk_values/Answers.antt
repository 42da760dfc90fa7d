use Rattle.std.proofs.Common.{inl, sym, subst, [], ◌∷◌}
use Rattle.ratio128.specs.declared.point.Point3.{Point3}
use Rattle.level_topology.specs.Topology.{Topology}
use Rattle.primvar_refine.specs.View.{rows_of}
use Rattle.channel_refine.specs.Step.{AreValues}
use Rattle.level_tests.proofs.parts_walked.walk_values.Goals as goal

pub walk-requires-clause-ready : goal.walk-requires-clause-ready
walk-requires-clause-ready g c = inl c.requires.level

pub walk-requires-clause-fits : goal.walk-requires-clause-fits
walk-requires-clause-fits g c = subst (λ (t : Topology). AreValues 8 t (rows_of (λ (q : Point3). q.x ∷ q.y ∷ q.z ∷ []) c.args.carried.items)) (sym c.requires.level) c.requires.values
