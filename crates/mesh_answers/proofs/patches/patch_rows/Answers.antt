use Rattle.std.proofs.Common.{ap, sym, subst, ◌∙◌}
use Rattle.far_words.specs.View.{patch_of_code}
use Rattle.mesh_answers.specs.Patches.{patch_fault_of, patch_refusal}
use Rattle.mesh_answers.specs.Refusals.{IsFound}
use Rattle.mesh_answers.proofs.MaskTableLemmas.{rows-there}
use Rattle.mesh_answers.proofs.PatchLemmas.{patch-failed, patch-tested}
use Rattle.mesh_answers.proofs.patches.patch_rows.Goals as goal

pub patch_table-requires-clause-complete : goal.patch_table-requires-clause-complete
patch_table-requires-clause-complete c = c.requires.composed.composed.complete

pub patch_table-requires-clause-each : goal.patch_table-requires-clause-each
patch_table-requires-clause-each c = rows-there c.args.mesh.now c.args.options.now.depth c.args.composed.now c.requires.composed

pub returns-in-Ok : goal.returns-in-Ok
returns-in-Ok c =
    patch-tested (patch_of_code c.args.options.now) c.args.mesh.now c.args.composed.now c.requires.composed c.in-Ok.table c.in-Ok.ensures
    c.most_of.result c.fitting.result c.most_of.ensures c.fitting.ensures

pub returns-in-Err : goal.returns-in-Err
returns-in-Err c =
    let options = patch_of_code c.args.options.now in
    subst (λ fault. IsFound fault (patch_refusal options c.args.mesh.now)) (sym (c.patch_fault.ensures ∙ ap (λ count. patch_fault_of count options c.in-Err.fault) c.faces.ensures))
    (patch-failed options c.args.mesh.now c.args.composed.now c.requires.composed c.in-Err.fault c.in-Err.ensures)
