use Rattle.std.proofs.Common.{◌≡◌}
use Rattle.subdiv_model.specs.ReadObj.{obj_lines, first_bad_line, first_late_fault, mesh_of_lines}
use Rattle.obj_tags.proofs.MeshLemmas.{short-draft}
use Rattle.obj_tags.proofs.ReadLemmas.{kept-text, found-text, refused-late, good-late, kept-late}
use Rattle.obj_tags.proofs.WholeLemmas.{whole-draft}
use Rattle.obj_tags.proofs.read.read_obj.Goals as goal

pub finish-requires-clause-whole : goal.finish-requires-clause-whole
finish-requires-clause-whole c =
    let kept = kept-text c.survey_of-all.result c.in_ok-draft.draft c.args.bytes.now _ c.skip_mark-text.ensures c.in_ok-draft.ensures in
    whole-draft c.survey_of-all.result c.in_ok-draft.draft c.args.bytes.now c.requires.short kept.1 kept.0

pub finish-requires-clause-short : goal.finish-requires-clause-short
finish-requires-clause-short c =
    let least = c.args.least_scale in
    let kept = kept-text c.survey_of-all.result c.in_ok-draft.draft c.args.bytes.now _ c.skip_mark-text.ensures c.in_ok-draft.ensures in
    let found = found-text c.survey_of-all.result least c.args.bytes.now _ c.requires.scale c.skip_mark-text.ensures c.survey_of-all.ensures.commons kept.0 in
    short-draft c.survey_of-all.result c.in_ok-draft.draft c.args.bytes.now least found kept.1 kept.0 c.survey_of-all.ensures.positions_bounded c.survey_of-all.ensures.texture_bounded

pub returns-clause-refused : goal.returns-clause-refused
returns-clause-refused c =
    let lines = obj_lines c.args.bytes.now in
    let least = c.args.least_scale in
    let kept = kept-text c.survey_of-all.result c.in_ok-draft.draft c.args.bytes.now _ c.skip_mark-text.ensures c.in_ok-draft.ensures in
    let found = found-text c.survey_of-all.result least c.args.bytes.now _ c.requires.scale c.skip_mark-text.ensures c.survey_of-all.ensures.commons kept.0 in
    refused-late (λ mesh. mesh ≡ mesh_of_lines lines least) c.finish.result (first_bad_line lines) (first_late_fault least lines)
    kept.0 (c.finish.ensures lines least found kept.1)

pub returns-clause-good : goal.returns-clause-good
returns-clause-good c =
    let lines = obj_lines c.args.bytes.now in
    let least = c.args.least_scale in
    let kept = kept-text c.survey_of-all.result c.in_ok-draft.draft c.args.bytes.now _ c.skip_mark-text.ensures c.in_ok-draft.ensures in
    let found = found-text c.survey_of-all.result least c.args.bytes.now _ c.requires.scale c.skip_mark-text.ensures c.survey_of-all.ensures.commons kept.0 in
    good-late (λ mesh. mesh ≡ mesh_of_lines lines least) c.finish.result (first_bad_line lines) (first_late_fault least lines)
    kept.0 (c.finish.ensures lines least found kept.1)

pub returns-clause-mesh : goal.returns-clause-mesh
returns-clause-mesh c =
    let lines = obj_lines c.args.bytes.now in
    let least = c.args.least_scale in
    let kept = kept-text c.survey_of-all.result c.in_ok-draft.draft c.args.bytes.now _ c.skip_mark-text.ensures c.in_ok-draft.ensures in
    let found = found-text c.survey_of-all.result least c.args.bytes.now _ c.requires.scale c.skip_mark-text.ensures c.survey_of-all.ensures.commons kept.0 in
    kept-late (λ mesh. mesh ≡ mesh_of_lines lines least) c.finish.result (first_late_fault least lines) (c.finish.ensures lines least found kept.1)
