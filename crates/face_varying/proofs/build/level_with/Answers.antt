use Rattle.std.proofs.Common.{ℕ, ◌≡◌, length, arith, ap, ◌∙◌}
use Rattle.std.proofs.lemmas.List.{length-map}
use Rattle.subdiv_model.specs.Polygons.{same_side}
use Rattle.subdiv_model.specs.Cut.{channel_point, channel_points}
use Rattle.face_varying.specs.Corners.{corner_points}
use Rattle.face_varying.proofs.CornerLemmas.{corners-length}
use Rattle.face_varying.proofs.FirstOneLemmas.{once-length}
use Rattle.face_varying.proofs.build.level_with.Goals as goal

pub overflow_cast-points : goal.overflow_cast-points
overflow_cast-points g c =
    let mesh = c.args.raw.now in
    omega (
      arith,
      ap length c.requires.vertices,
      length-map (channel_points mesh) (λ (point : ℕ × ℕ). point.0),
      once-length same_side (corner_points mesh),
      corners-length (channel_point mesh) 0 mesh.faces,
      c.requires.cuttable.within.few_corners,
    )

pub cut_level-requires-clause-kept : goal.cut_level-requires-clause-kept
cut_level-requires-clause-kept g c =
    let mesh = c.args.raw.now in
    let count : length c.args.vertices.now ≡ length (channel_points mesh) = ap length c.requires.vertices ∙ length-map (channel_points mesh) (λ (point : ℕ × ℕ). point.0) in
    c.deref.ensures.value ∙ c.in_ok-kept.ensures mesh c.requires.cuttable c.requires.apart c.requires.numbers count
