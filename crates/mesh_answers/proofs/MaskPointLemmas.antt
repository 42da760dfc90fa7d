-- The points that a table of masks gives are those of the definitions, in other terms.
use Rattle.std.proofs.Common.{◌≡◌, ℕ, ◌+◌, ◌<◌, ◌≤◌, ℤ, List, length, map, get_or, Result, Ok, Err, IsOkAnd, OnOk, MatchResult, arith, ap, sym, subst, ◌∙◌}
use Rattle.std.specs.List.{All, AllZip}
use Rattle.std.proofs.lemmas.List.{length-map}
use Rattle.subdiv_model.specs.Value.{Value}
use Rattle.subdiv_model.specs.Level.{Level}
use Rattle.subdiv_model.specs.Base.{base_level}
use Rattle.subdiv_model.specs.Child.{refined_level}
use Rattle.subdiv_model.specs.Mask.{CatmullClark, Mask}
use Rattle.subdiv_model.specs.ObjMesh.{ObjMesh}
use Rattle.subdiv_model.specs.Channel.{Channel, denominators_after}
use Rattle.subdiv_model.specs.Refined.{Point, point_value, mask_denominator, source_value, source_denominator, refined_values, control_values}
use Rattle.far_model.specs.Answer.{positions_of}
use Rattle.stencil_laws.proofs.ShareLemmas.{masks-positive, source-positive, value-positive}
use Rattle.raw_mesh.specs.View as reader
use Rattle.ratio128.specs.StepsTaken.{StepsTaken}
use Rattle.ratio128.specs.declared.point.Point3.{Point3}
use Rattle.ratio128.specs.declared.valued.Valued.{Valued}
use Rattle.primvar_refine.specs.Rows.{Row, dens_of}
use Rattle.primvar_refine.specs.View.{row_of, rows_of}
use Rattle.stencil_apply.specs.Table.{Table, entries_of}
use Rattle.channel_refine.specs.Evaluated.{CanEvaluate, evaluated}
use Rattle.far_text.specs.Points.{points_of, CanBeWritten, IsSamePoint, HasDenominators}
use Rattle.mesh_answers.specs.MaskTables.{IsMaskTable, denominators_of_masks, entries_of_masks, values_of_masks}
use Rattle.mesh_answers.proofs.ColumnLemmas.{dens-positive}
use Rattle.mesh_answers.proofs.PointLemmas.{numbers}
use Rattle.mesh_answers.proofs.PointTableLemmas.{IsPointTable, can-evaluate-points, can-write, dens-above, dens-are, same-as-values, value-denominators, value-points}

module _ (mesh : ObjMesh) (depth : ℕ) (masks : List Mask) (table : Table) (is : IsMaskTable mesh depth masks table) where
  abbrev channel : Channel
  channel = positions_of mesh

  abbrev last : Level
  last = refined_level (base_level mesh) depth

  -- the evaluation takes a step for each entry
  pub masks-taken : {X Y E : Type 0} (found : Result X E) (r : Result Y E) (Made : X → Y → Type 0) (old new : ℕ)
      → MatchResult found (λ x. IsOkAnd r (Made x)) (λ fault. r ≡ Err fault) → OnOk found (new ≡ old + entries_of table.rows)
      → new ≤ old + entries_of table.rows → old ≤ new → StepsTaken r old new (entries_of_masks channel depth masks) (entries_of_masks channel depth masks)
  masks-taken (Ok x) (Ok y) Made old new made all most later =
      record { least = omega (arith, all, is.entries); most = omega (arith, most, is.entries); later = later }
  masks-taken (Ok x) (Err fault) Made old new made all most later = absurd made
  masks-taken (Err fault) r Made old new same all most later =
      subst (λ r. StepsTaken r old new (entries_of_masks channel depth masks) (entries_of_masks channel depth masks)) (sym same)
      (record { least = tt; most = omega (arith, most, is.entries); later = later })

  -- the points that the masks give from numbers, and from the points of the mesh
  abbrev pub value_of : List ℤ → List Value
  value_of controls = values_of_masks mesh depth masks controls

  pub point-table : IsPointTable mesh value_of table
  point-table = record { controls = is.controls; same = is.values; made = is.made; fits = is.fits }

  abbrev pub mask-points : List Point
  mask-points = value-points mesh value_of table point-table

  module _ (points : List Point3) (said : map reader.point_of points ≡ mesh.points) where
    -- the table can be evaluated over the points of the mesh
    pub masks-evaluate : CanEvaluate table (map numbers points)
    masks-evaluate = can-evaluate-points mesh value_of table point-table points said

    module _ (values : List (Valued Point3)) (made : rows_of numbers values ≡ evaluated table (map numbers points)) where
      abbrev rows : List Row
      rows = rows_of numbers values

      -- the denominators are those of the definitions
      rows-dens : dens_of rows ≡ denominators_of_masks channel depth masks
      rows-dens = dens-are mesh value_of table point-table points said values made ∙ is.dens

      -- there is a value for each mask
      pub masks-each : length values ≡ length masks
      masks-each =
          sym (length-map values (row_of numbers))
          ∙ sym (length-map rows (λ row. row.den))
          ∙ ap length rows-dens
          ∙ length-map masks (mask_denominator (source_denominator last (denominators_after channel depth)))

      column-positive : (controls : List ℤ) (p : ℕ) → 0 < (point_value (value_of controls) p).den
      column-positive controls p =
          let before = refined_values (base_level mesh) CatmullClark (control_values controls) depth in
          masks-positive (source_value last before) (source_denominator last (denominators_after channel depth))
          (source-positive last before (denominators_after channel depth) (value-positive (base_level mesh) CatmullClark controls depth))
          masks p (subst (λ dens. 0 < get_or dens p 1) rows-dens (dens-positive rows (dens-above mesh value_of table point-table points said values made) p))

      pub masks-same : AllZip IsSamePoint mask-points (points_of mesh.common values)
      masks-same = same-as-values mesh value_of table point-table points said values made column-positive

      module _ (some : 0 < mesh.common) where
        pub masks-denominators : All HasDenominators mask-points
        masks-denominators = value-denominators mesh value_of table point-table points said values made column-positive some

        pub masks-written : All (CanBeWritten mesh.common) values
        masks-written = can-write mesh value_of table point-table points said values made some
