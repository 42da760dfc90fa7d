use Rattle.std.proofs.Common.{arith, refl, ap, ◌∙◌, map, None}
use Rattle.subdiv_model.specs.ObjLine.{lines_of, is_vertex_line, is_face_line, line_words}
use Rattle.subdiv_model.specs.ReadObj.{is_texture_line}
use Rattle.obj_tags.specs.Survey.{surveyed}
use Rattle.obj_tags.proofs.DenominatorLemmas.{survey-step, tens-bounded, count-step}
use Rattle.obj_tags.proofs.survey.survey_of.Goals as goal

pub loop-line-init : goal.loop-line-init
loop-line-init c =
    let tens = tens-bounded c.args.least_scale c.requires.scale in
    record {
      points = omega arith;
      textures = omega arith;
      faces = omega arith;
      positions = ap (λ v. surveyed is_vertex_line 1 (record { value = v; wide = None }) (map line_words (lines_of c.args.text.now))) c.pow.ensures;
      texture = refl;
      positions_bounded = record { positive = omega (arith, tens.0, c.pow.ensures); short = omega (arith, tens.1, c.pow.ensures) };
      texture_bounded = record { positive = omega arith; short = omega arith };
      bound = (omega arith, omega arith, omega arith, omega arith);
    }

pub loop-line-preserved : goal.loop-line-preserved
loop-line-preserved c =
    let all = c.loop-line.invariant in
    let lines = ap (map line_words) c.in-Some.ensures.lines in
    let line = line_words c.in-Some.line.now in
    let others = map line_words (lines_of c.in-Some.others.now) in
    let points = count-step is_vertex_line c.loop-line.all.counts.point_count c.with_line-all.result.counts.point_count line others _ _ lines c.with_line-all.ensures.points all.points in
    let textures = count-step is_texture_line c.loop-line.all.counts.texture_count c.with_line-all.result.counts.texture_count line others _ _ lines c.with_line-all.ensures.textures all.textures in
    let faces = count-step is_face_line c.loop-line.all.counts.face_count c.with_line-all.result.counts.face_count line others _ _ lines c.with_line-all.ensures.faces all.faces in
    let shorter = c.in-Some.ensures.shorter in
    record {
      points = points.0;
      textures = textures.0;
      faces = faces.0;
      positions = survey-step is_vertex_line c.loop-line.number c.loop-line.all.positions _ (line_words c.in-Some.line.now) (map line_words (lines_of c.in-Some.others.now)) _ lines c.with_line-all.ensures.positions ∙ all.positions;
      texture = survey-step is_texture_line c.loop-line.number c.loop-line.all.texture _ (line_words c.in-Some.line.now) (map line_words (lines_of c.in-Some.others.now)) _ lines c.with_line-all.ensures.texture ∙ all.texture;
      positions_bounded = c.with_line-all.ensures.positions_bounded;
      texture_bounded = c.with_line-all.ensures.texture_bounded;
      bound = (
        omega (arith, all.bound.0, points.1, shorter),
        omega (arith, all.bound.1, textures.1, shorter),
        omega (arith, all.bound.2, faces.1, shorter),
        omega (arith, all.bound.3, shorter),
      );
    }
