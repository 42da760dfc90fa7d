-- The refusals of a mesh by the call for its texture's table, and the contents of the table.
use Rattle.std.proofs.Common.{◌≡◌, ℕ, Bool, true, cond, List, [], map, Option, Some, Result, Ok, Err, IsOkAnd, MatchResult, Vec, Global, arith, ap, sym, subst, ◌∙◌}
use Rattle.std.specs.List.{range_with_len}
use Rattle.subdiv_model.specs.Lists.{first_of}
use Rattle.subdiv_model.specs.ObjMesh.{ObjMesh}
use Rattle.subdiv_model.specs.Cut.{channel_values, cut_level}
use Rattle.subdiv_model.specs.Fault.{Fault, Texture}
use Rattle.subdiv_model.specs.Channel.{Channel, Tables, channel_faults}
use Rattle.subdiv_model.specs.Table.{level_table}
use Rattle.far_model.specs.Command.{Uv}
use Rattle.far_model.specs.Answer.{scheme_of, seams_of, texture_of}
use Rattle.raw_mesh.specs.View.{texture_of as value_of}
use Rattle.ratio128.specs.StepsTaken.{StepsTaken}
use Rattle.ratio128.specs.declared.point.Point2.{Point2}
use Rattle.level_walk.specs.declared.fault.WalkFault.{WalkFault}
use Rattle.level_walk.specs.UniformFaults.{IsChannelFault}
use Rattle.level_walk.specs.UniformLevels.{AreLevelSteps, faces_to}
use Rattle.stencil_apply.specs.Table.{IsTable}
use Rattle.channel_refine.specs.Composed.{IsComposedTo}
use Rattle.channel_refine.specs.View.{composed_of}
use Rattle.channel_refine.specs.declared.compose.ComposedChannel.{ComposedChannel}
use Rattle.channel_refine.proofs.LevelTableLemmas.{level-table}
use Rattle.channel_refine.proofs.NumeratorLemmas.{stencil-numerators}
use Rattle.far_fault.specs.View.{fault_of}
use Rattle.far_fault.specs.Walk.{walk_fault_of}
use Rattle.far_fault.specs.declared.fault.FarFault.{FarFault}
use Rattle.mesh_answers.specs.Levels.{IsSmallManifold}
use Rattle.mesh_answers.specs.Refusals.{IsFound}
use Rattle.mesh_answers.specs.StepCounts.{later_faces}
use Rattle.mesh_answers.specs.Textures.{IsTextureComposition, IsTextureTable, texture_refusal}
use Rattle.mesh_answers.specs.declared.texture_table.ComposedTexture.{ComposedTexture}
use Rattle.mesh_answers.proofs.CutLemmas.{cut-faces-after}
use Rattle.mesh_answers.proofs.LevelLemmas.{found-of-walk, steps-of-levels, sum-same}
use Rattle.mesh_answers.proofs.RefusalLemmas.{refusal-of-others}
use Rattle.mesh_answers.proofs.ReplyLemmas.{any-steps}

module _ (uv : Uv) (depth : ℕ) (mesh : ObjMesh) where
  abbrev faults : List Fault
  faults = channel_faults Tables (texture_of mesh uv) Texture depth

  module _ (fine : IsSmallManifold depth mesh) where
    refusal-is : (textured : Bool) → mesh.has_texture ≡ textured → texture_refusal uv depth mesh ≡ first_of (cond textured faults [])
    refusal-is textured is = refusal-of-others depth mesh fine (cond mesh.has_texture faults []) ∙ ap (λ b. first_of (cond b faults [])) is

    -- a mesh with texture is refused for the first fault of the table
    module _ (textured : mesh.has_texture ≡ true) (base : Channel) (same : base ≡ texture_of mesh uv) where
      pub texture-failed : (fault : WalkFault) → IsChannelFault Tables base depth fault → IsFound (walk_fault_of Texture fault) (texture_refusal uv depth mesh)
      texture-failed fault is =
          subst (IsFound (walk_fault_of Texture fault)) (sym (refusal-is true textured))
          (found-of-walk Tables (texture_of mesh uv) mesh depth fine.few (cut-faces-after mesh) Texture fault.level fault.cause
          (subst (λ b. IsChannelFault Tables b depth fault) same is))

      pub texture-composed : (composed : ComposedChannel) → IsComposedTo base depth (composed_of composed) → IsTable composed.table → IsTextureTable uv depth mesh composed
      texture-composed composed is made =
          let all : IsComposedTo (texture_of mesh uv) depth (composed_of composed) = subst (λ b. IsComposedTo b depth (composed_of composed)) same is in
          record {
            good = refusal-is true textured ∙ ap first_of (all.fine Texture);
            textured = textured;
            composed = all;
            made = made;
          }

  -- the composition takes one step for each face of the levels after the first, which are as many as those of the mesh
  pub texture-steps : {X E : Type 0} (base : Channel) → base ≡ texture_of mesh uv → (old new : ℕ) (r : Result X E) → AreLevelSteps base.base depth old new →
      StepsTaken r old new 0 (later_faces depth mesh)
  texture-steps base same old new r taken =
      let is = subst (λ (b : Channel). AreLevelSteps b.base depth old new) same taken in
      let faces : faces_to (cut_level (seams_of uv) mesh) depth ≡ later_faces depth mesh =
      steps-of-levels (cut_level (seams_of uv) mesh) depth ∙ sum-same _ _ (cut-faces-after mesh) (range_with_len 1 depth) in
      any-steps r old new 0 (later_faces depth mesh) (omega (arith, is.later)) is.later (omega (arith, is.most, faces))

  -- the table is that of the definitions
  pub texture-own : (composed : ComposedChannel) → IsTextureTable uv depth mesh composed → composed.table ≡ level_table (cut_level (seams_of uv) mesh) (scheme_of uv) depth
  texture-own composed is =
      level-table composed.table (cut_level (seams_of uv) mesh) (scheme_of uv) depth is.composed.controls is.composed.dens is.composed.supports
      (stencil-numerators (texture_of mesh uv) depth (composed_of composed) is.composed is.made) is.made

  -- the texture is the table with its values, if the table was found
  pub texture-with-values : (values : Vec Point2 Global) → map value_of values.items ≡ channel_values mesh → (found : Result ComposedChannel FarFault) (r : Result (Option ComposedTexture) FarFault)
      → MatchResult found (λ composed. IsOkAnd r (λ texture. texture ≡ Some (record { level = composed.level; table = composed.table; values = values }))) (λ fault. r ≡ Err fault)
      → MatchResult found (IsTextureTable uv depth mesh) (λ fault. IsFound (fault_of fault) (texture_refusal uv depth mesh))
      → IsTextureComposition uv depth mesh r
  texture-with-values values are (Ok composed) (Ok texture) made is =
      subst (λ t. IsTextureComposition uv depth mesh (Ok t)) (sym made) (record { table_is = is; values_are = are })
  texture-with-values values are (Ok composed) (Err fault) made is = absurd made
  texture-with-values values are (Err fault) r same found = subst (IsTextureComposition uv depth mesh) (sym same) found
