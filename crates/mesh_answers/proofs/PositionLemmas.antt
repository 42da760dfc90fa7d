-- The positions of a mesh as a channel, and the result of their refinement.
use Rattle.std.proofs.Common.{◌≡◌, ℕ, ◌+◌, ◌<◌, ◌≤◌, max, true, List, length, map, replicate, ℤ, Result, OnOk, refl, ap, sym, subst, ◌∙◌, arith}
use Rattle.std.proofs.Math.Nat.{max-le}
use Rattle.std.proofs.lemmas.List.{length-map}
use Rattle.subdiv_model.specs.Base.{base_level}
use Rattle.subdiv_model.specs.ObjMesh.{ObjMesh}
use Rattle.subdiv_model.specs.Mask.{CatmullClark}
use Rattle.far_model.specs.Command.{By, ByTable, ByLevel, RefineOptions}
use Rattle.subdiv_model.specs.Fault.{Positions}
use Rattle.subdiv_model.specs.Channel.{Channel, Asked, greatest_amount, number_bound}
use Rattle.subdiv_model.specs.Value.{Value}
use Rattle.subdiv_model.specs.Refined.{refined_values, control_values}
use Rattle.far_model.specs.Answer.{asked_of, point_numbers, positions_of}
use Rattle.mask_laws.proofs.BoundaryLemmas.{boundary-base}
use Rattle.level_topology.specs.Topology.{Topology}
use Rattle.level_walk.specs.declared.fault.WalkFault.{WalkFault}
use Rattle.mesh_check.specs.Checked.{IsAccepted}
use Rattle.raw_mesh.specs.Laws.{IsWithin}
use Rattle.raw_mesh.specs.View as reader
use Rattle.ratio128.specs.StepsTaken.{StepsTaken}
use Rattle.ratio128.specs.declared.point.Point3.{Point3}
use Rattle.ratio128.specs.declared.valued.Valued.{Valued}
use Rattle.primvar_refine.specs.View.{rows_of}
use Rattle.level_walk.specs.UniformFaults.{IsChannelFault}
use Rattle.channel_refine.specs.Base.{IsBase, channel_of}
use Rattle.channel_refine.specs.Refined.{AreControls, AreRefineSteps, IsRefinedTo, path_steps}
use Rattle.channel_refine.specs.View.{refined_of}
use Rattle.channel_refine.specs.Evaluated.{control_rows}
use Rattle.channel_refine.specs.declared.refine.RefinedChannel.{RefinedChannel}
use Rattle.far_fault.specs.Walk.{walk_fault_of}
use Rattle.mesh_answers.specs.Levels.{IsSmallManifold}
use Rattle.mesh_answers.specs.StepCounts.{later_faces, position_steps}
use Rattle.mesh_answers.specs.Tracks.{ArePositions, AreRefined, IsPositionFault}
use Rattle.mesh_answers.proofs.RefusalLemmas.{is-manifold}
use Rattle.mesh_answers.proofs.LevelLemmas.{few-points, found-of-walk, steps-of-levels}
use Rattle.mesh_answers.proofs.ColumnLemmas.{IsColumn, column-seen, refined-column, can-be-written}
use Rattle.mesh_answers.proofs.PointLemmas.{numbers, are-controls, same-points, positive-points, written-point, greatest-short}

-- Level 0 of a mesh that was accepted can be refined.
pub base-of : (mesh : ObjMesh) (level : Topology) → IsAccepted mesh level → IsBase level
base-of mesh level accepted =
    let many : level.level.point_count ≡ length mesh.points = ap (λ l. l.point_count) accepted.level_is in
    let manifold = is-manifold mesh accepted.manifold in
    record {
      points = omega (arith, many, few-points mesh accepted.small);
      complete = accepted.complete ∙ ap (λ n. replicate n true) (sym many);
      manifold = rw accepted.level_is manifold;
      boundary = rw accepted.level_is (boundary-base mesh manifold);
    }

-- Its points are the channel of the definitions, within the bounds.
module _ (mesh : ObjMesh) (level : Topology) (points : List Point3) (greatest common : ℕ) (accepted : IsAccepted mesh level)
    (said : map reader.point_of points ≡ mesh.points) (most : greatest ≡ greatest_amount (point_numbers (map reader.point_of points))) (over : common ≡ mesh.common) where
  pub same-channel : channel_of level.level CatmullClark greatest common ≡ positions_of mesh
  same-channel =
      ap (λ b. channel_of b CatmullClark greatest common) accepted.level_is
      ∙ ap (λ g. channel_of (base_level mesh) CatmullClark g common) (most ∙ ap (λ ps. greatest_amount (point_numbers ps)) said)
      ∙ ap (channel_of (base_level mesh) CatmullClark (greatest_amount (point_numbers mesh.points))) over

  pub short-channel : IsWithin mesh → max greatest common ≤ number_bound
  short-channel within =
      let first : greatest ≤ number_bound = omega (arith, most, ap (λ ps. greatest_amount (point_numbers ps)) said, greatest-short mesh.points within.points) in
      let second : common ≤ number_bound = omega (arith, over, within.common_short) in
      max-le first second

-- a coordinate of the refined points
abbrev pub points-column : ObjMesh → ℕ → (ℤ × ℤ × ℤ → ℤ) → List Value
points-column mesh depth coordinate = refined_values (base_level mesh) CatmullClark (control_values (map coordinate mesh.points)) depth

-- The refined points, by the record of the refined channel.
pub refined-points : (asked : Asked) (mesh : ObjMesh) (points : List Point3) (depth : ℕ) (last : Topology) (values : List (Valued Point3)) → map reader.point_of points ≡ mesh.points → 0 < mesh.common →
    IsRefinedTo asked (positions_of mesh) (control_rows (map numbers points)) depth (record { level = last; rows = rows_of numbers values }) → AreRefined asked mesh depth last values
refined-points asked mesh points depth last values said some is =
    let x : IsColumn numbers values 0 (points-column mesh depth (λ p. p.0)) =
    refined-column numbers asked (positions_of mesh) points depth last values 0 _ (column-seen numbers reader.point_of 0 (λ p. p.0) (λ p. refl) points ∙ ap (map (λ p. p.0)) said) is in
    let y : IsColumn numbers values 1 (points-column mesh depth (λ p. p.1)) =
    refined-column numbers asked (positions_of mesh) points depth last values 1 _ (column-seen numbers reader.point_of 1 (λ p. p.1) (λ p. refl) points ∙ ap (map (λ p. p.1)) said) is in
    let z : IsColumn numbers values 2 (points-column mesh depth (λ p. p.2)) =
    refined-column numbers asked (positions_of mesh) points depth last values 2 _ (column-seen numbers reader.point_of 2 (λ p. p.2) (λ p. refl) points ∙ ap (map (λ p. p.2)) said) is in
    record {
      fine = is.fine Positions;
      level_is = is.level_is;
      same = same-points mesh.common values (points-column mesh depth (λ p. p.0)) (points-column mesh depth (λ p. p.1)) (points-column mesh depth (λ p. p.2)) x y z;
      positive = positive-points mesh.common (points-column mesh depth (λ p. p.0)) (points-column mesh depth (λ p. p.1)) (points-column mesh depth (λ p. p.2)) some x.positive y.positive z.positive;
      written = can-be-written numbers mesh.common (positions_of mesh).greatest _ (written-point mesh.common) some values is.positive is.short is.within;
    }

-- The points of a mesh are its controls.
pub point-controls : (mesh : ObjMesh) (points : List Point3) → map reader.point_of points ≡ mesh.points → AreControls (positions_of mesh) (control_rows (map numbers points))
point-controls mesh points said =
    are-controls points (positions_of mesh) (sym (length-map points reader.point_of) ∙ ap length said) (ap (λ ps. greatest_amount (point_numbers ps)) (sym said))

-- The result of a refinement of the positions.
module _ (mesh : ObjMesh) (options : RefineOptions) (base : Channel) (points : List Point3) (fine : IsSmallManifold options.depth mesh) (same : base ≡ positions_of mesh)
    (said : map reader.point_of points ≡ mesh.points) where
  pub base-controls : AreControls base (control_rows (map numbers points))
  base-controls = subst (λ b. AreControls b (control_rows (map numbers points))) (sym same) (point-controls mesh points said)

  pub positions-refined : 0 < mesh.common → (refined : RefinedChannel Point3) →
      IsRefinedTo (asked_of options.by) base (control_rows (map numbers points)) options.depth (refined_of numbers refined) → ArePositions options mesh refined
  positions-refined some refined is =
      refined-points (asked_of options.by) mesh points options.depth refined.level refined.values.items said some
      (subst (λ b. IsRefinedTo (asked_of options.by) b (control_rows (map numbers points)) options.depth (refined_of numbers refined)) same is)

  pub positions-failed : (fault : WalkFault) → IsChannelFault (asked_of options.by) base options.depth fault → IsPositionFault options mesh (walk_fault_of Positions fault)
  positions-failed fault is =
      found-of-walk (asked_of options.by) (positions_of mesh) mesh options.depth fine.few (λ n. refl) Positions fault.level fault.cause
      (subst (λ b. IsChannelFault (asked_of options.by) b options.depth fault) same is)

-- the steps of a refinement: those of its levels, and of its terms or entries
asked-steps : (by : By) (mesh : ObjMesh) (depth : ℕ) → path_steps (asked_of by) (positions_of mesh) depth ≡ position_steps by depth mesh
asked-steps ByTable mesh depth = refl
asked-steps ByLevel mesh depth = refl

pub position-steps : {X E : Type 0} (mesh : ObjMesh) (by : By) (base : Channel) (depth old new : ℕ) (r : Result X E) → base ≡ positions_of mesh →
    AreRefineSteps (asked_of by) base depth r old new → StepsTaken r old new (position_steps by depth mesh) (later_faces depth mesh + position_steps by depth mesh)
position-steps mesh by base depth old new r same taken =
    let is = subst (λ b. AreRefineSteps (asked_of by) b depth r old new) same taken in
    record {
      least = subst (λ n. OnOk r (old + n ≤ new)) (asked-steps by mesh depth) is.least;
      most = omega (arith, is.most, asked-steps by mesh depth, steps-of-levels (base_level mesh) depth);
      later = is.later;
    }
