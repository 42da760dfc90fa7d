-- The denominators that a survey over a table finds.
use Rattle.std.proofs.Common.{◌≡◌, ℕ, ◌<◌, ◌≤◌, List, [], length, get_or, ap, sym, ◌∙◌, subst}
use Rattle.std.specs.List.{All}
use Rattle.std.proofs.lemmas.List.{length-map, get_or-map}
use Rattle.std.proofs.lemmas.List.Elements.{All-map}
use Rattle.subdiv_model.specs.Level.{Level}
use Rattle.subdiv_model.specs.Mask.{Scheme, Mask}
use Rattle.subdiv_model.specs.Refined.{mask_denominator, source_denominator}
use Rattle.subdiv_model.specs.Channel.{number_bound}
use Rattle.level_topology.specs.Topology.{Topology, IsTopology}
use Rattle.level_topology.specs.Child.{PointOrigin, FromVertex, ChildTopology, HasParent}
use Rattle.child_masks.specs.Masks.{CanRefine, mask_from, masks_from}
use Rattle.child_masks.specs.Survey.{IsSurvey}
use Rattle.child_masks.specs.Found.{ArePointDenominators, AreFaceDenominators}
use Rattle.child_masks.specs.declared.survey.Survey.{Survey}
use Rattle.stencil_apply.specs.Table.{Row, Table, IsTable}
use Rattle.child_masks.proofs.DenLemmas.{den-positive}
use Rattle.stencil_factory.specs.Rows.{dens_of}
use Rattle.stencil_factory.specs.MaskRows.{AreRowDenominators}

-- the denominators of a table's rows are those of points
pub point-dens : (table : Table) (level : Level) → IsTable table → length table.rows ≡ level.point_count → ArePointDenominators level (dens_of table)
point-dens table level is each = record {
  count = length-map table.rows (λ (row : Row). row.den) ∙ each;
  positive = All-map (λ den. 0 < den) (λ (row : Row). row.den) table.rows (λ i d inside. (is.rows i d inside).positive);
  short = All-map (λ den. den ≤ number_bound) (λ (row : Row). row.den) table.rows (λ i d inside. (is.rows i d inside).short);
}

module _ (parent : Topology) (scheme : Scheme) (origins : List PointOrigin) (dens : List ℕ) (survey : Survey) (is : IsSurvey parent scheme origins dens survey) where
  abbrev own : ℕ → ℕ
  own p = mask_denominator (source_denominator parent.level dens) (mask_from parent.level scheme (get_or origins p (FromVertex 0)))

  -- there is a denominator for each point
  pub found-count : length survey.dens.items ≡ length origins
  found-count =
      ap length is.dens ∙ length-map (masks_from parent.level scheme origins) (mask_denominator (source_denominator parent.level dens)) ∙ length-map origins (mask_from parent.level scheme)

  -- The denominator of a point is that of its mask.
  found-at : (p d : ℕ) → p < length origins → get_or survey.dens.items p d ≡ own p
  found-at p d inside =
      let none : Mask = record { terms = []; denominator = 0 } in
      ap (λ l. get_or l p d) is.dens
      ∙ get_or-map (mask_denominator (source_denominator parent.level dens)) (masks_from parent.level scheme origins) p none d
      (subst (λ n. p < n) (sym (length-map origins (mask_from parent.level scheme))) inside)
      ∙ ap (mask_denominator (source_denominator parent.level dens)) (get_or-map (mask_from parent.level scheme) origins p (FromVertex 0) none inside)

  -- all are within their bound
  pub all-short : All (λ den. den ≤ number_bound) survey.dens.items
  all-short = subst (All (λ den. den ≤ number_bound)) (sym is.dens) is.short

  -- Each face has its denominator.
  pub found-faces : AreFaceDenominators parent.level dens survey.faces.items
  found-faces = record { count = is.face_count; each = is.faces }

-- The survey has the denominators of the rows of the masks.
module _ (parent : Topology) (child : ChildTopology) (scheme : Scheme) (table : Table) (survey : Survey) (is : IsTopology parent) (has : HasParent child) (can : CanRefine parent child scheme)
    (whole : IsTable table) (count : length table.rows ≡ parent.level.point_count) (found : IsSurvey parent scheme child.origins (dens_of table) survey) where
  pub survey-dens : (dens : List ℕ) → dens ≡ survey.dens.items → AreRowDenominators parent.level table (masks_from parent.level scheme child.origins) dens
  survey-dens dens dens_are = subst (AreRowDenominators parent.level table (masks_from parent.level scheme child.origins)) (sym dens_are) (record {
    each = found.dens;
    positive = λ p d inside.
        let below : p < length child.origins = subst (λ n. p < n) (found-count parent scheme child.origins (dens_of table) survey found) inside in
        subst (λ n. 0 < n) (sym (found-at parent scheme child.origins (dens_of table) survey found p d below))
        (den-positive parent child scheme (dens_of table) is has can (point-dens table parent.level whole count).positive p below);
    short = all-short parent scheme child.origins (dens_of table) survey found;
  })
