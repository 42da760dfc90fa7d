-- The sparse levels of the positions of a mesh, and their refusals.
use Rattle.std.proofs.Common.{◌≡◌, ℕ, ◌+◌, ◌<◌, ℤ, Bool, List, [], length, map, get_or, Result, Ok, Err, MatchResult, Vec, Global, arith, refl, ap, sym, subst, ◌∙◌}
use Rattle.std.specs.List.{All}
use Rattle.std.proofs.lemmas.List.{length-map, get_or-map}
use Rattle.subdiv_model.specs.Lists.{first_of}
use Rattle.subdiv_model.specs.Base.{base_level}
use Rattle.subdiv_model.specs.ObjMesh.{ObjMesh}
use Rattle.subdiv_model.specs.Mask.{CatmullClark}
use Rattle.subdiv_model.specs.Feature.{FaceFacts}
use Rattle.subdiv_model.specs.Fault.{Track, Positions}
use Rattle.subdiv_model.specs.Channel.{Channel, Asked, Tables}
use Rattle.subdiv_model.specs.Sparse.{FacePredicate}
use Rattle.subdiv_model.specs.SparseFaults.{sparse_faults}
use Rattle.subdiv_model.specs.SparseText.{written_points}
use Rattle.subdiv_model.specs.SparseTexture.{points_part}
use Rattle.far_model.specs.Command.{SparseOptions}
use Rattle.far_model.specs.Answer.{predicate_for, positions_of, sparse_positions, test_of}
use Rattle.level_walk.specs.declared.fault.Cause.{Cause}
use Rattle.level_walk.specs.declared.fault.Cause.TheVariants.{TooManyFaces, Overflow, TooManyEntries, Memory}
use Rattle.level_walk.specs.declared.fault.WalkFault.{WalkFault}
use Rattle.raw_mesh.specs.View as reader
use Rattle.ratio128.specs.StepsTaken.{StepsTaken}
use Rattle.ratio128.specs.declared.point.Point3.{Point3}
use Rattle.channel_refine.specs.Refined.{AreControls}
use Rattle.channel_refine.specs.Evaluated.{control_rows}
use Rattle.channel_refine.proofs.ValueLemmas.{dens-of-rows}
use Rattle.sparse_walk.specs.Faults.{IsCauseAt}
use Rattle.channel_refine.specs.SparseRefined.{AreSparseLevels, AreSparseSteps, AreSparseTo, IsSparseFaultTo, IsSparseLevel, SparseRows}
use Rattle.channel_refine.specs.SparseView.{sparse_rows}
use Rattle.sparse_level.specs.declared.values.SparseValues.{SparseValues}
use Rattle.far_fault.specs.View.{fault_of}
use Rattle.far_fault.specs.Walk.{fault_at, walk_fault_of}
use Rattle.far_fault.specs.declared.fault.FarFault.{FarFault}
use Rattle.far_text.specs.Points.{CanBeWritten}
use Rattle.mesh_answers.specs.Refusals.{IsFound}
use Rattle.mesh_answers.specs.SparseLevels.{ArePointsLevels, ArePointsLevelsFound, IsPointsLevel, IsWithinLimits, sparse_position_faults, sparse_position_refusal, written_denominators}
use Rattle.mesh_answers.specs.StepCounts.{sparse_position_steps}
use Rattle.mesh_answers.proofs.RefusalLemmas.{refusal-of-small}
use Rattle.mesh_answers.proofs.ReplyLemmas.{any-steps}
use Rattle.mesh_answers.proofs.ColumnLemmas.{IsColumn, column-seen, can-be-written}
use Rattle.mesh_answers.proofs.PointLemmas.{numbers, written-point}
use Rattle.mesh_answers.proofs.PositionLemmas.{point-controls, points-column}
use Rattle.mesh_answers.proofs.WrittenLemmas.{same-written, positive-written, same-count, sparse-column, values_at}

-- columns of the points are refined to as many values
same-columns : (mesh : ObjMesh) (k : ℕ) (first second : ℤ × ℤ × ℤ → ℤ) → length (points-column mesh k first) ≡ length (points-column mesh k second)
same-columns mesh k first second =
    same-count (base_level mesh) CatmullClark (map first mesh.points) (map second mesh.points) k (length-map mesh.points first ∙ sym (length-map mesh.points second))

-- a level with its values is one
pub level-written : (options : SparseOptions) (mesh : ObjMesh) (points : List Point3) (k : ℕ) (level : SparseValues Point3) → map reader.point_of points ≡ mesh.points → 0 < mesh.common →
    IsSparseLevel (positions_of mesh) (predicate_for options mesh) (control_rows (map numbers points)) k (sparse_rows numbers level) →
    IsPointsLevel mesh.common (written_denominators (positions_of mesh) (predicate_for options mesh) k) level (points_part (sparse_positions options mesh) k)
level-written options mesh points k level said some is =
    let channel = positions_of mesh in
    let predicate = predicate_for options mesh in
    let written = written_points (base_level mesh) predicate k in
    let values = level.values.items in
    let xs = points-column mesh k (λ p. p.0) in
    let ys = points-column mesh k (λ p. p.1) in
    let zs = points-column mesh k (λ p. p.2) in
    let x : IsColumn numbers values 0 (values_at written xs) =
    sparse-column numbers channel predicate points k level.faces values 0 _ (column-seen numbers reader.point_of 0 (λ p. p.0) (λ p. refl) points ∙ ap (map (λ p. p.0)) said) is in
    let y : IsColumn numbers values 1 (values_at written ys) =
    sparse-column numbers channel predicate points k level.faces values 1 _ (column-seen numbers reader.point_of 1 (λ p. p.1) (λ p. refl) points ∙ ap (map (λ p. p.1)) said) is in
    let z : IsColumn numbers values 2 (values_at written zs) =
    sparse-column numbers channel predicate points k level.faces values 2 _ (column-seen numbers reader.point_of 2 (λ p. p.2) (λ p. refl) points ∙ ap (map (λ p. p.2)) said) is in
    let can : All (CanBeWritten mesh.common) values = can-be-written numbers mesh.common channel.greatest _ (written-point mesh.common) some values is.positive is.short is.within in
    record {
      faces = is.written;
      dens = dens-of-rows numbers values ∙ is.dens;
      same = same-written mesh.common xs ys zs (same-columns mesh k (λ p. p.0) (λ p. p.1)) (same-columns mesh k (λ p. p.1) (λ p. p.2)) written values x y z;
      positive = positive-written mesh.common xs ys zs some written x.positive y.positive z.positive;
      written = can;
    }

-- no level
abbrev pub no_rows : SparseRows
no_rows = record { written = record { point_count = 0; faces = [] }; rows = [] }

-- the first fault of sparse levels, by its cause
pub found-of-cause : (asked : Asked) (channel : Channel) (predicate : FacePredicate) (track : Track) (depth k : ℕ) (cause : Cause) → IsCauseAt asked channel predicate depth k cause →
    IsFound (fault_at track k cause) (first_of (sparse_faults asked channel predicate track depth))
found-of-cause asked channel predicate track depth k (TooManyFaces count) is = is track
found-of-cause asked channel predicate track depth k (Overflow kind) is = is track
found-of-cause asked channel predicate track depth k TooManyEntries is = is track
found-of-cause asked channel predicate track depth k Memory is = tt

-- The result of the walk over the sparse levels of a mesh's positions.
module _ (options : SparseOptions) (mesh : ObjMesh) (points : List Point3) (said : map reader.point_of points ≡ mesh.points)
    (base : Channel) (same : base ≡ positions_of mesh) (test : FaceFacts → Bool) (named : test ≡ test_of options.select) where
  pub sparse-controls : AreControls base (control_rows (map numbers points))
  sparse-controls = subst (λ b. AreControls b (control_rows (map numbers points))) (sym same) (point-controls mesh points said)

  -- the steps are those of the levels after the first
  pub sparse-steps : {X E : Type 0} (old new : ℕ) (r : Result X E) → AreSparseSteps test base options.depth old new →
      StepsTaken r old new 0 (sparse_position_steps options mesh)
  sparse-steps old new r taken =
      let is : AreSparseSteps (test_of options.select) (positions_of mesh) options.depth old new =
      subst (λ t. AreSparseSteps t (positions_of mesh) options.depth old new) named (subst (λ b. AreSparseSteps test b options.depth old new) same taken) in
      any-steps r old new 0 (sparse_position_steps options mesh) (omega (arith, is.later)) is.later (omega (arith, is.most))

  pub sparse-failed : (fault : WalkFault) → IsSparseFaultTo test base options.depth fault → IsFound (walk_fault_of Positions fault) (sparse_position_refusal options mesh)
  sparse-failed fault is =
      found-of-cause Tables (positions_of mesh) (predicate_for options mesh) Positions options.depth fault.level fault.cause
      (subst (λ t. IsSparseFaultTo t (positions_of mesh) options.depth fault) named (subst (λ b. IsSparseFaultTo test b options.depth fault) same is)).is

  -- the levels are those of the definitions
  pub sparse-found : IsWithinLimits mesh → 0 < mesh.common → (levels : List (SparseValues Point3)) →
      AreSparseTo test base (control_rows (map numbers points)) options.depth (map (sparse_rows numbers) levels) → ArePointsLevels options mesh levels
  sparse-found within common levels is =
      let are : AreSparseLevels (positions_of mesh) (predicate_for options mesh) (control_rows (map numbers points)) options.depth (map (sparse_rows numbers) levels) =
      subst (λ t. AreSparseTo t (positions_of mesh) (control_rows (map numbers points)) options.depth (map (sparse_rows numbers) levels)) named
      (subst (λ b. AreSparseTo test b (control_rows (map numbers points)) options.depth (map (sparse_rows numbers) levels)) same is) in
      let count : length levels ≡ options.depth + 1 = sym (length-map levels (sparse_rows numbers)) ∙ are.count in
      record {
        mesh_is = within;
        fine = are.fine Positions;
        count = count;
        each = λ k d h.
            level-written options mesh points k (get_or levels k d) said common
            (subst (IsSparseLevel (positions_of mesh) (predicate_for options mesh) (control_rows (map numbers points)) k)
            (get_or-map (sparse_rows numbers) levels k d no_rows h) (are.each k (omega (arith, h, count))));
      }

-- The call for positions only refuses a mesh within its limits for the first fault of the positions.
pub positions-untextured : (options : SparseOptions) (mesh : ObjMesh) → IsWithinLimits mesh → (r : Result (Vec (SparseValues Point3) Global) FarFault) →
    MatchResult r (λ levels. ArePointsLevels options mesh levels.items) (λ fault. IsFound (fault_of fault) (sparse_position_refusal options mesh)) → ArePointsLevelsFound options mesh r
positions-untextured options mesh within (Ok levels) are = are
positions-untextured options mesh within (Err fault) found =
    subst (IsFound (fault_of fault)) (sym (refusal-of-small mesh within.manifold (sparse_position_faults options mesh) within.small)) found
