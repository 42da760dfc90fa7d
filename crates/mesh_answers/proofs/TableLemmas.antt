-- The refusals of a mesh by the command for its table, and the text of the table.
use Rattle.std.proofs.Common.{◌≡◌, ℕ, Result, arith, refl, ap, subst, ◌∙◌}
use Rattle.subdiv_model.specs.Lists.{first_of}
use Rattle.subdiv_model.specs.Base.{base_level}
use Rattle.subdiv_model.specs.ObjMesh.{ObjMesh}
use Rattle.subdiv_model.specs.Mask.{CatmullClark}
use Rattle.subdiv_model.specs.TableText.{text_of_table}
use Rattle.far_model.specs.Command.{Stencils}
use Rattle.subdiv_model.specs.Fault.{Positions}
use Rattle.subdiv_model.specs.Channel.{Channel, Tables, channel_faults}
use Rattle.far_model.specs.Answer.{own_table, positions_of, table_faults}
use Rattle.level_walk.specs.declared.fault.WalkFault.{WalkFault}
use Rattle.level_walk.specs.UniformFaults.{IsChannelFault}
use Rattle.level_walk.specs.UniformLevels.{AreLevelSteps}
use Rattle.ratio128.specs.StepsTaken.{StepsTaken}
use Rattle.stencil_apply.specs.Table.{IsTable}
use Rattle.channel_refine.specs.Composed.{IsComposedTo}
use Rattle.channel_refine.specs.View.{composed_of}
use Rattle.channel_refine.specs.declared.compose.ComposedChannel.{ComposedChannel}
use Rattle.channel_refine.proofs.LevelTableLemmas.{level-table}
use Rattle.channel_refine.proofs.NumeratorLemmas.{stencil-numerators}
use Rattle.far_fault.specs.Walk.{walk_fault_of}
use Rattle.far_text.specs.declared.reply.Reply.TheVariants.{Table}
use Rattle.mesh_answers.specs.Levels.{IsSmallManifold}
use Rattle.mesh_answers.specs.Refusals.{IsFound, refusal_by}
use Rattle.mesh_answers.specs.Replies.{IsReplyTo, written_text}
use Rattle.mesh_answers.specs.StepCounts.{later_faces}
use Rattle.mesh_answers.specs.Tables.{IsComposedOf}
use Rattle.mesh_answers.proofs.RefusalLemmas.{found-of-others, refusal-of-others}
use Rattle.mesh_answers.proofs.LevelLemmas.{found-of-walk, steps-of-levels}
use Rattle.mesh_answers.proofs.ReplyLemmas.{any-steps}

module _ (mesh : ObjMesh) (depth : ℕ) (fine : IsSmallManifold depth mesh) (base : Channel) (same : base ≡ positions_of mesh) where
  -- the mesh is refused for the first fault of its table
  pub table-failed : (fault : WalkFault) → IsChannelFault Tables base depth fault → IsFound (walk_fault_of Positions fault) (refusal_by (table_faults depth mesh) mesh)
  table-failed fault is =
      found-of-others depth mesh fine (channel_faults Tables (positions_of mesh) Positions depth) (walk_fault_of Positions fault)
      (found-of-walk Tables (positions_of mesh) mesh depth fine.few (λ n. refl) Positions fault.level fault.cause (subst (λ b. IsChannelFault Tables b depth fault) same is))

  pub table-composed : (composed : ComposedChannel) → IsComposedTo base depth (composed_of composed) → IsTable composed.table → IsComposedOf mesh depth composed
  table-composed composed is made =
      let all : IsComposedTo (positions_of mesh) depth (composed_of composed) = subst (λ b. IsComposedTo b depth (composed_of composed)) same is in
      record {
        good = refusal-of-others depth mesh fine (channel_faults Tables (positions_of mesh) Positions depth) ∙ ap first_of (all.fine Positions);
        composed = all;
        made = made;
      }

-- the composition takes one step for each face of the levels after the first
pub table-steps : {X E : Type 0} (mesh : ObjMesh) (depth : ℕ) (base : Channel) → base ≡ positions_of mesh → (old new : ℕ) (r : Result X E) → AreLevelSteps base.base depth old new →
    StepsTaken r old new 0 (later_faces depth mesh)
table-steps mesh depth base same old new r taken =
    let is = subst (λ (b : Channel). AreLevelSteps b.base depth old new) same taken in
    any-steps r old new 0 (later_faces depth mesh) (omega (arith, is.later)) is.later (omega (arith, is.most, steps-of-levels (base_level mesh) depth))

-- the table is that of the definitions
pub table-own : (mesh : ObjMesh) (depth : ℕ) (composed : ComposedChannel) → IsComposedOf mesh depth composed → composed.table ≡ own_table depth mesh
table-own mesh depth composed is =
    level-table composed.table (base_level mesh) CatmullClark depth is.composed.controls is.composed.dens is.composed.supports
    (stencil-numerators (positions_of mesh) depth (composed_of composed) is.composed is.made) is.made

-- the text of the table is that of the definitions
pub table-reply : (mesh : ObjMesh) (depth : ℕ) (composed : ComposedChannel) → IsComposedOf mesh depth composed → IsReplyTo (Stencils depth) mesh (Table composed.table)
unfolding written_text
table-reply mesh depth composed is = record { good = is.good; says = ap text_of_table (table-own mesh depth composed is); put = tt }
