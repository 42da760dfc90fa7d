-- Tables of masks over the points of a mesh's level at a depth.
-- Source: this profile.
use Rattle.std.specs.Prelude.{ℕ, ◌≡◌, ◌*◌, ◌≤◌, ℤ, nat_lt, List, ◌++◌, length, map, max, Option}
use Rattle.std.specs.List.{list_any, fold, sum_by}
use Rattle.subdiv_model.specs.Value.{Value}
use Rattle.subdiv_model.specs.Base.{base_level}
use Rattle.subdiv_model.specs.Child.{refined_level}
use Rattle.subdiv_model.specs.Mask.{CatmullClark, Mask}
use Rattle.subdiv_model.specs.ObjMesh.{ObjMesh}
use Rattle.subdiv_model.specs.Refined.{mask_value, source_value, mask_denominator, source_denominator, refined_values, control_values}
use Rattle.subdiv_model.specs.Support.{mask_support, source_support, refined_supports}
use Rattle.subdiv_model.specs.Channel.{Channel, number_bound, entry_bound, channel_level, denominators_after, fault_where}
use Rattle.subdiv_model.specs.Fault.{Fault, Counted, TooLarge, Track, Overflow, DenominatorOverflow, ValueOverflow}
use Rattle.far_model.specs.Answer.{positions_of, table_faults}
use Rattle.stencil_apply.specs.Table.{Table, IsTable, entries_of, greatest_of}
use Rattle.stencil_factory.specs.Rows.{dens_of, row_values, AreSameValues}
use Rattle.mesh_answers.specs.Refusals.{refusal_by}

-- the points that masks make, from controls, of a mesh's level at a depth
abbrev pub values_of_masks : ObjMesh → ℕ → List Mask → List ℤ → List Value
values_of_masks mesh depth masks controls =
    map (mask_value (source_value (refined_level (base_level mesh) depth) (refined_values (base_level mesh) CatmullClark (control_values controls) depth))) masks

-- the common denominators of the masks' rows, on a channel's level after k steps
abbrev pub denominators_of_masks : Channel → ℕ → List Mask → List ℕ
denominators_of_masks channel k masks = map (mask_denominator (source_denominator (channel_level channel k) (denominators_after channel k))) masks

-- the number of entries of the masks' rows, on a channel's level after k steps
abbrev pub entries_of_masks : Channel → ℕ → List Mask → ℕ
entries_of_masks channel k masks =
    sum_by length
    (map (mask_support channel.base.point_count (source_support channel.base.point_count (channel_level channel k) (refined_supports channel.base channel.scheme k))) masks)

-- the faults of the masks' table in their order: an overflow names the track, and this count is the fault of too many entries
abbrev pub mask_faults : Track → Counted → Channel → ℕ → List Mask → List Fault
mask_faults track counted channel k masks =
    fault_where (list_any (nat_lt number_bound) (denominators_of_masks channel k masks)) (Overflow track k DenominatorOverflow)
    ++ (fault_where (nat_lt entry_bound (entries_of_masks channel k masks)) (TooLarge counted)
    ++ fault_where (nat_lt number_bound (fold max 1 (denominators_of_masks channel k masks) * max channel.greatest channel.common)) (Overflow track k ValueOverflow))

-- the refusal of a mesh by a command that makes rows from its table at a depth, where the rows have these faults
abbrev pub refusal_behind_table : List Fault → ObjMesh → ℕ → Option Fault
refusal_behind_table faults mesh depth = refusal_by (table_faults depth mesh ++ faults) mesh

-- Each row has the common denominator of a mask and gives its value for any controls. The greatest denominator times the greatest amount
-- of the mesh's points, or times their common denominator, is within the bound of numbers.
pub record IsMaskTable (mesh : ObjMesh) (depth : ℕ) (masks : List Mask) (table : Table) : Type 0 where
  pub controls : table.controls ≡ (base_level mesh).point_count
  pub dens : dens_of table ≡ denominators_of_masks (positions_of mesh) depth masks
  pub entries : entries_of table.rows ≡ entries_of_masks (positions_of mesh) depth masks
  pub values : (numbers : List ℤ) → length numbers ≡ (base_level mesh).point_count → AreSameValues (values_of_masks mesh depth masks numbers) (row_values table numbers)
  pub made : IsTable table
  pub fits : greatest_of table * max (positions_of mesh).greatest (positions_of mesh).common ≤ number_bound
