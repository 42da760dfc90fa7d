-- The points that a table gives from the points of a mesh are those of some values, in other terms.
use Rattle.std.proofs.Common.{◌≡◌, ℕ, ◌*◌, ◌<◌, ◌≤◌, max, ℤ, List, length, map, get_or, pos, arith, refl, ap, sym, subst, ◌∙◌}
use Rattle.std.specs.List.{All, AllZip}
use Rattle.std.proofs.lemmas.List.{length-map}
use Rattle.subdiv_model.specs.Value.{Value}
use Rattle.subdiv_model.specs.Base.{base_level}
use Rattle.subdiv_model.specs.ObjMesh.{ObjMesh}
use Rattle.subdiv_model.specs.Channel.{Channel, number_bound}
use Rattle.subdiv_model.specs.Refined.{Point, point_value, over_common, points_of_coordinates}
use Rattle.far_model.specs.Answer.{positions_of}
use Rattle.raw_mesh.specs.View as reader
use Rattle.ratio128.specs.declared.point.Point3.{Point3}
use Rattle.ratio128.specs.declared.valued.Valued.{Valued}
use Rattle.primvar_refine.specs.Rows.{Row, dens_of, StandFor, AreWithin}
use Rattle.primvar_refine.specs.View.{row_of, rows_of}
use Rattle.stencil_apply.specs.Table.{Table, IsTable, greatest_of}
use Rattle.stencil_factory.specs.Rows as factory
use Rattle.stencil_factory.specs.Rows.{row_values, AreSameValues}
use Rattle.channel_refine.specs.Refined.{AreControls, column_of}
use Rattle.channel_refine.specs.Evaluated.{CanEvaluate, control_rows, evaluated}
use Rattle.channel_refine.proofs.EvaluatedLemmas.{can-evaluate-by, column-count, dens-evaluated, positive-evaluated, short-evaluated, short-rows, stands-for, within-evaluated}
use Rattle.channel_refine.proofs.PathLemmas.{control-rows}
use Rattle.far_text.specs.Points.{points_of, CanBeWritten, IsSamePoint, HasDenominators}
use Rattle.mesh_answers.proofs.ColumnLemmas.{IsColumn, can-be-written, column-seen, control-column}
use Rattle.mesh_answers.proofs.PointLemmas.{numbers, positive-points, same-points, written-point}
use Rattle.mesh_answers.proofs.PositionLemmas.{point-controls}

-- A table over the points of a mesh that gives these values for any numbers.
pub record IsPointTable (mesh : ObjMesh) (values : List ℤ → List Value) (table : Table) : Type 0 where
  pub controls : table.controls ≡ (base_level mesh).point_count
  pub same : (numbers : List ℤ) → length numbers ≡ (base_level mesh).point_count → AreSameValues (values numbers) (row_values table numbers)
  pub made : IsTable table
  pub fits : greatest_of table * max (positions_of mesh).greatest (positions_of mesh).common ≤ number_bound

module _ (mesh : ObjMesh) (value_of : List ℤ → List Value) (table : Table) (is : IsPointTable mesh value_of table) where
  abbrev channel : Channel
  channel = positions_of mesh

  -- a coordinate of the points, and these points
  abbrev pub value-column : (ℤ × ℤ × ℤ → ℤ) → List Value
  value-column coordinate = value_of (map coordinate mesh.points)

  abbrev pub value-points : List Point
  value-points =
      points_of_coordinates
      (map (over_common mesh.common) (value-column (λ p. p.0)))
      (map (over_common mesh.common) (value-column (λ p. p.1)))
      (map (over_common mesh.common) (value-column (λ p. p.2)))

  module _ (points : List Point3) (said : map reader.point_of points ≡ mesh.points) where
    are : AreControls channel (control_rows (map numbers points))
    are = point-controls mesh points said

    -- the table can be evaluated over the points of the mesh
    pub can-evaluate-points : CanEvaluate table (map numbers points)
    can-evaluate-points = can-evaluate-by channel table is.controls is.fits (map numbers points) are

    module _ (values : List (Valued Point3)) (made : rows_of numbers values ≡ evaluated table (map numbers points)) where
      abbrev rows : List Row
      rows = rows_of numbers values

      -- the denominators are those of the table, and above 0
      pub dens-are : dens_of rows ≡ factory.dens_of table
      dens-are = ap dens_of made ∙ dens-evaluated channel table is.controls is.made.rows (map numbers points) are

      pub dens-above : All (λ row. 0 < row.den) rows
      dens-above = subst (All (λ row. 0 < row.den)) (sym made) (positive-evaluated channel table is.controls is.made.rows (map numbers points) are)

      dens-short : All (λ row. row.den * max channel.greatest channel.common ≤ number_bound) rows
      dens-short =
          subst (All (λ row. row.den * max channel.greatest channel.common ≤ number_bound)) (sym made)
          (short-evaluated channel table is.controls is.made.rows (map numbers points) are (short-rows table (max channel.greatest channel.common) is.fits))

      numbers-within : AreWithin channel.greatest rows
      numbers-within = subst (AreWithin channel.greatest) (sym made) (within-evaluated channel table is.controls is.made.rows (map numbers points) are)

      pub can-write : 0 < mesh.common → All (CanBeWritten mesh.common) values
      can-write some = can-be-written numbers mesh.common channel.greatest _ (written-point mesh.common) some values dens-above dens-short numbers-within

      module _ (positive : (controls : List ℤ) (p : ℕ) → 0 < (point_value (value_of controls) p).den) where
        column-is : (column : ℕ) (controls : List ℤ) → map (λ p. get_or (numbers p) column (pos 0)) points ≡ controls → IsColumn numbers values column (value_of controls)
        column-is column controls same =
            let all = column_of column (control_rows (map numbers points)) in
            let stands : StandFor (evaluated table (map numbers points)) column (value_of all) =
            stands-for channel table is.controls is.made.rows (map numbers points) are column _
            (is.same all (column-count channel table is.controls is.made.rows (map numbers points) are column)) in
            let here : StandFor rows column (value_of controls) =
            subst (λ cs. StandFor rows column (value_of cs))
            (ap (column_of column) (control-rows numbers points) ∙ control-column numbers column points ∙ same)
            (subst (λ rs. StandFor rs column (value_of all)) (sym made) stands) in
            record {
              count = here.count ∙ length-map values (row_of numbers);
              same = λ p h. here.same p (omega (arith, h, length-map values (row_of numbers)));
              positive = positive controls;
            }

        x-column : IsColumn numbers values 0 (value-column (λ p. p.0))
        x-column = column-is 0 _ (column-seen numbers reader.point_of 0 (λ p. p.0) (λ p. refl) points ∙ ap (map (λ p. p.0)) said)

        y-column : IsColumn numbers values 1 (value-column (λ p. p.1))
        y-column = column-is 1 _ (column-seen numbers reader.point_of 1 (λ p. p.1) (λ p. refl) points ∙ ap (map (λ p. p.1)) said)

        z-column : IsColumn numbers values 2 (value-column (λ p. p.2))
        z-column = column-is 2 _ (column-seen numbers reader.point_of 2 (λ p. p.2) (λ p. refl) points ∙ ap (map (λ p. p.2)) said)

        pub same-as-values : AllZip IsSamePoint value-points (points_of mesh.common values)
        same-as-values = same-points mesh.common values (value-column (λ p. p.0)) (value-column (λ p. p.1)) (value-column (λ p. p.2)) x-column y-column z-column

        pub value-denominators : 0 < mesh.common → All HasDenominators value-points
        value-denominators some =
            positive-points mesh.common (value-column (λ p. p.0)) (value-column (λ p. p.1)) (value-column (λ p. p.2)) some x-column.positive y-column.positive z-column.positive
