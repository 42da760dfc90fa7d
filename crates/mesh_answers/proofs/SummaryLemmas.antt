-- The summary of a sheet of the command `gen`.
use Rattle.std.proofs.Common.{rules, ◌≡◌, ℕ, zero, suc, ◌+◌, ◌*◌, ◌-◌, ◌<◌, ◌≤◌, max, List, ◌++◌, length, map, get_or, arith, Option, Some, None, Result, IsErr, refl, ap, sym, subst, ◌∙◌}
use Rattle.std.specs.List.{fold}
use Rattle.std.proofs.lemmas.List.{length-map}
use Rattle.subdiv_model.specs.Lists.{first_of}
use Rattle.subdiv_model.specs.Level.{Level}
use Rattle.subdiv_model.specs.Base.{base_level}
use Rattle.subdiv_model.specs.Edges.{edges_of}
use Rattle.subdiv_model.specs.Child.{refined_level}
use Rattle.subdiv_model.specs.ObjMesh.{ObjMesh}
use Rattle.subdiv_model.specs.Mask.{CatmullClark}
use Rattle.subdiv_model.specs.MeshFault.{first_mesh_fault}
use Rattle.far_model.specs.Command.{Gen, GenOptions, ByTable}
use Rattle.subdiv_model.specs.Fault.{Fault}
use Rattle.subdiv_model.specs.Channel.{Tables}
use Rattle.far_model.specs.Refusal.{answer_unless}
use Rattle.subdiv_model.specs.Limits.{count_faults}
use Rattle.far_model.specs.Answer.{generated_text, made_faults, made_text, positions_of, table_faults}
use Rattle.subdiv_model.specs.Generator.{draws_of, generated_mesh}
use Rattle.sheet_maker.proofs.GridLemmas.{points-length}
use Rattle.stencil_laws.proofs.SupportLemmas.{length-supports}
use Rattle.raw_mesh.specs.View as reader
use Rattle.ratio128.specs.declared.point.Point3.{Point3}
use Rattle.ratio128.specs.declared.valued.Valued.{Valued}
use Rattle.primvar_refine.specs.View.{row_of, rows_of}
use Rattle.stencil_apply.specs.Table.{Row as TableRow, entries_of, greatest_of}
use Rattle.stencil_factory.specs.Rows.{support_of}
use Rattle.channel_refine.specs.Evaluated.{CanEvaluate, control_rows, evaluated}
use Rattle.channel_refine.specs.Refined.{IsRefinedTo}
use Rattle.channel_refine.specs.View.{composed_of}
use Rattle.channel_refine.specs.declared.compose.ComposedChannel.{ComposedChannel}
use Rattle.channel_refine.proofs.EvaluatedLemmas.{can-evaluate, entries-are, evaluated-to}
use Rattle.far_text.specs.Points.{CanBeWritten}
use Rattle.far_text.specs.declared.summary.Summary.{Summary}
use Rattle.far_text.specs.declared.reply.Reply.TheVariants.{Sheet}
use Rattle.far_text.proofs.SameSummaryLemmas.{summary-written, summary_text-same}
use Rattle.mesh_answers.specs.Refusals.{IsFound, refusal_by, refusal_of_made, refusal_unless}
use Rattle.mesh_answers.specs.Replies.{IsMadeReply, made_written}
use Rattle.mesh_answers.specs.StepCounts.{position_steps}
use Rattle.mesh_answers.specs.Tables.{IsComposedOf, IsSummaryOf}
use Rattle.mesh_answers.specs.Tracks.{AreRefined}
use Rattle.ratio128.specs.StepsTaken.{StepsTaken}
use Rattle.mesh_answers.proofs.ReplyLemmas.{any-steps, failed-steps}
use Rattle.mesh_answers.proofs.PointLemmas.{numbers}
use Rattle.mesh_answers.proofs.PositionLemmas.{point-controls, refined-points}

-- every level of a mesh with points has points
some-points : (level : Level) (k : ℕ) → 0 < level.point_count → 0 < (refined_level level k).point_count
some-points level zero some = some
some-points level (suc k) some =
    more (refined_level level k).point_count (length (refined_level level k).polygons) (length (edges_of (refined_level level k).polygons)) (some-points level k some)
  where
    more : (points faces edges : ℕ) → 0 < points → 0 < points + faces + edges
    more points faces edges h = omega (arith, h)

module _ (mesh : ObjMesh) (depth : ℕ) (composed : ComposedChannel) (is : IsComposedOf mesh depth composed) where
  -- a table has a row for each point of its level
  pub rows-points : length composed.table.rows ≡ (refined_level (base_level mesh) depth).point_count
  rows-points =
      let supports : TableRow → List ℕ = λ row. support_of row.shares in
      sym (length-map composed.table.rows supports) ∙ ap length is.composed.supports ∙ length-supports (base_level mesh) CatmullClark depth

  -- the table has as many entries as the definitions say
  pub entries-counted : entries_of composed.table.rows ≡ position_steps ByTable depth mesh
  entries-counted = entries-are (positions_of mesh) depth (composed_of composed) is.composed is.made

  -- the evaluation takes one step for each entry
  pub failed-evaluation : {X E : Type 0} (old new : ℕ) (r : Result X E) → IsErr r → old ≤ new → new ≤ old + entries_of composed.table.rows →
      StepsTaken r old new (position_steps ByTable depth mesh) (position_steps ByTable depth mesh)
  failed-evaluation old new r err later most = failed-steps r old new _ _ err later (omega (arith, most, entries-counted))

  pub evaluated-steps : {X E : Type 0} (old new : ℕ) (r : Result X E) → new ≡ old + entries_of composed.table.rows →
      StepsTaken r old new (position_steps ByTable depth mesh) (position_steps ByTable depth mesh)
  evaluated-steps old new r all = any-steps r old new _ _ (omega (arith, all, entries-counted)) (omega (arith, all)) (omega (arith, all, entries-counted))

  module _ (points : List Point3) (said : map reader.point_of points ≡ mesh.points) where
    -- the table can be evaluated over the points of its mesh
    pub points-evaluate : CanEvaluate composed.table (map numbers points)
    points-evaluate = can-evaluate (positions_of mesh) depth (composed_of composed) is.composed is.made (map numbers points) (point-controls mesh points said)

    module _ (values : List (Valued Point3)) (made : rows_of numbers values ≡ evaluated composed.table (map numbers points)) where
      -- each point has a value, and so there is a last one
      values-points : length values ≡ (refined_level (base_level mesh) depth).point_count
      values-points = sym (length-map values (row_of numbers)) ∙ ap length made ∙ length-map composed.table.rows _ ∙ rows-points

      pub values-some : 0 < length mesh.points → 0 < length values
      values-some some = subst (λ n. 0 < n) (sym values-points) (some-points (base_level mesh) depth some)

      -- these are the points of the definitions
      evaluated-points : 0 < mesh.common → AreRefined Tables mesh depth composed.level values
      evaluated-points some =
          refined-points Tables mesh points depth composed.level values said some
          (subst (λ rows. IsRefinedTo Tables (positions_of mesh) (control_rows (map numbers points)) depth (record { level = composed.level; rows = rows })) (sym made)
          (evaluated-to (positions_of mesh) depth (composed_of composed) is.composed is.made (map numbers points) (point-controls mesh points said)))

      -- the summary has the last of these points
      pub summary-is : (summary : Summary) → mesh.common ≡ 1 → 0 < length mesh.points →
          summary.points ≡ composed.table.controls → summary.faces ≡ length mesh.faces → summary.depth ≡ depth →
          summary.level_points ≡ composed.level.level.point_count → summary.level_faces ≡ length composed.level.level.polygons →
          summary.entries ≡ entries_of composed.table.rows → summary.greatest ≡ greatest_of composed.table →
          ((none : Valued Point3) → summary.last ≡ get_or values (length values - 1) none) → IsSummaryOf mesh depth summary
      summary-is summary one some points_are faces deep level_points level_faces entries greatest end =
          let refined = evaluated-points (omega (arith, one)) in
          let count = values-some some in
          let at : length values - 1 + 1 ≡ length values = omega (arith, count) in
          record {
            good = is.good;
            says = summary_text-same mesh depth summary values (length values - 1) summary.last one (points_are ∙ is.composed.controls) faces deep
                (level_points ∙ ap (λ l. l.point_count) is.composed.level_is) (level_faces ∙ ap (λ l. length l.polygons) is.composed.level_is)
                (entries ∙ entries-counted) (greatest ∙ ap (fold max 1) is.composed.dens) at (end summary.last) refined.same refined.positive refined.written;
            written = summary-written summary mesh.common one
                (subst (CanBeWritten mesh.common) (sym (end summary.last)) (refined.written (length values - 1) summary.last (omega (arith, count))));
          }

-- every sheet has points
pub sheet-some : (seed size : ℕ) → 0 < length (generated_mesh seed size).points
sheet-some seed size = subst (λ n. 0 < n) (sym (points-length size (draws_of seed size))) (some size)
  where
    some : (size : ℕ) → 0 < (size + 1) * (size + 1)
    some size = search rules

-- the refusal of an answer is its fault
unless-refusal : (fault : Option Fault) (text : List ℕ) → (answer_unless fault text).refusal ≡ fault
unless-refusal (Some fault) text = refl
unless-refusal None text = refl

-- A sheet is refused as if it were read, since the mesh checks find no fault in it.
module _ (options : GenOptions) (mesh : ObjMesh) (same : mesh ≡ generated_mesh options.seed options.size)
    (fine : first_mesh_fault (length (generated_mesh options.seed options.size).points) (generated_mesh options.seed options.size).faces ≡ None) where
  made-refusal : refusal_by (table_faults options.depth mesh) mesh ≡ refusal_of_made (Gen options)
  made-refusal =
      ap (λ m. refusal_by (table_faults options.depth m) m) same
      ∙ ap (λ fault. refusal_unless fault (first_of (count_faults (generated_mesh options.seed options.size) ++ made_faults (Gen options)))) fine
      ∙ sym (unless-refusal (first_of (count_faults (generated_mesh options.seed options.size) ++ made_faults (Gen options))) (made_text (Gen options)))

  -- a result for the mesh is one for the sheet
  pub made-found : (fault : Fault) → IsFound fault (refusal_by (table_faults options.depth mesh) mesh) → IsFound fault (refusal_of_made (Gen options))
  made-found fault found = subst (IsFound fault) made-refusal found

  -- the summary is the text of the command
  pub made-reply : (summary : Summary) → IsSummaryOf mesh options.depth summary → IsMadeReply (Gen options) (Sheet summary)
  unfolding made_written
  made-reply summary is = record {
    good = sym made-refusal ∙ is.good;
    says = is.says ∙ ap (λ m. generated_text m options.depth) same;
    put = is.written;
  }
