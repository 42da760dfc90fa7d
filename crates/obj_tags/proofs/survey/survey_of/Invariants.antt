use Rattle.std.proofs.Common.{◌≡◌, ◌+◌, ◌^◌, ◌≤◌, suc, None, length, map}
use Rattle.std.specs.List.{count_by}
use Rattle.subdiv_model.specs.ObjLine.{lines_of, is_vertex_line, is_face_line, line_words}
use Rattle.subdiv_model.specs.ReadObj.{is_texture_line}
use Rattle.obj_tags.specs.Survey.{IsBounded, surveyed}
use Rattle.obj_tags.proofs.survey.survey_of.Given as goal

-- the lines so far with those to come are all lines, and each has a byte
abbrev pub invariant-loop-line : goal.invariant-loop-line
invariant-loop-line l = record {
  points : l.all.counts.point_count + count_by is_vertex_line (map line_words (lines_of l.rest)) ≡ count_by is_vertex_line (map line_words (lines_of l.text));
  textures : l.all.counts.texture_count + count_by is_texture_line (map line_words (lines_of l.rest)) ≡ count_by is_texture_line (map line_words (lines_of l.text));
  faces : l.all.counts.face_count + count_by is_face_line (map line_words (lines_of l.rest)) ≡ count_by is_face_line (map line_words (lines_of l.text));
  positions : surveyed is_vertex_line (suc l.number) l.all.positions (map line_words (lines_of l.rest)) ≡ surveyed is_vertex_line 1 (record { value = 10 ^ l.least_scale; wide = None }) (map line_words (lines_of l.text));
  texture : surveyed is_texture_line (suc l.number) l.all.texture (map line_words (lines_of l.rest)) ≡ surveyed is_texture_line 1 (record { value = 1; wide = None }) (map line_words (lines_of l.text));
  positions_bounded : IsBounded l.all.positions;
  texture_bounded : IsBounded l.all.texture;
  bound : (l.all.counts.point_count + length l.rest ≤ length l.text) × (l.all.counts.texture_count + length l.rest ≤ length l.text) × (l.all.counts.face_count + length l.rest ≤ length l.text) × (l.number + length l.rest ≤ length l.text);
}

abbrev pub decreases-loop-line : goal.decreases-loop-line
decreases-loop-line l = length l.rest
