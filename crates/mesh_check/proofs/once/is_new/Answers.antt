use Rattle.std.proofs.Common.{rules, ◌∙◌, ap, slice_set}
use Rattle.mesh_check.proofs.NamedLemmas.{found-new, missed-new}
use Rattle.mesh_check.proofs.once.is_new.Goals as goal

pub returns-in-Ok-clause-new : goal.returns-in-Ok-clause-new
returns-in-Ok-clause-new c =
    let found = found-new c.args.keys.now c.args.marks.now.items c.args.key _ _ _ c.binary_search.ensures.position c.in-Ok.is c.requires.rises c.requires.once c.mark_at.ensures.was in
    -- proved by name, so that the prover refuses a body that breaks it at once
    search (rules, found.0)

pub returns-in-Ok-clause-marks : goal.returns-in-Ok-clause-marks
returns-in-Ok-clause-marks c =
    let found = found-new c.args.keys.now c.args.marks.now.items c.args.key _ _ _ c.binary_search.ensures.position c.in-Ok.is c.requires.rises c.requires.once c.mark_at.ensures.was in
    c.mark_at.ensures.marks ∙ ap (λ place. slice_set c.args.marks.now.items place 1) found.1

pub returns-in-Err-clause-new : goal.returns-in-Err-clause-new
returns-in-Err-clause-new c = (missed-new c.args.keys.now c.args.marks.now.items c.args.key _ _ c.binary_search.ensures.position c.in-Err.is c.requires.rises c.requires.once c.requires.size).0

pub returns-in-Err-clause-marks : goal.returns-in-Err-clause-marks
returns-in-Err-clause-marks c = (missed-new c.args.keys.now c.args.marks.now.items c.args.key _ _ c.binary_search.ensures.position c.in-Err.is c.requires.rises c.requires.once c.requires.size).1
