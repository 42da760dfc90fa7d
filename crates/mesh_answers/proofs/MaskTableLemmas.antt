-- The refusals of a mesh by a command that makes a table of masks from the mesh's own table, and the contents of that table.
use Rattle.std.proofs.Common.{◌≡◌, ℕ, ◌*◌, ◌<◌, ◌≤◌, Bool, false, nat_lt, max, List, [], ◌∷◌, ◌++◌, length, map, get_or, Option, Some, None, Result, Ok, Err, MatchResult, arith, ap, sym, subst, ◌∙◌}
use Rattle.std.specs.List.{All, list_any, fold, sum_by}
use Rattle.std.proofs.lemmas.Bool.{le-ltb, lt-ltb}
use Rattle.std.proofs.lemmas.List.Folds.{list_any_at}
use Rattle.subdiv_model.specs.Lists.{first_of}
use Rattle.subdiv_model.specs.Level.{Level}
use Rattle.subdiv_model.specs.Mask.{Mask}
use Rattle.subdiv_model.specs.ObjMesh.{ObjMesh}
use Rattle.subdiv_model.specs.Refined.{mask_denominator, source_denominator, refined_values, control_values}
use Rattle.subdiv_model.specs.Support.{mask_support, source_support}
use Rattle.subdiv_model.specs.Channel.{Channel, number_bound, entry_bound, channel_level}
use Rattle.subdiv_model.specs.Fault.{Fault, Counted, TooLarge, Track, Overflow, DenominatorOverflow, ValueOverflow}
use Rattle.far_model.specs.Answer.{positions_of, table_faults}
use Rattle.level_walk.proofs.UniformFaultLemmas.{first-here, first-behind}
use Rattle.stencil_apply.specs.Table.{Table, IsTable, greatest_of}
use Rattle.stencil_factory.specs.Rows.{supports_of, dens_of}
use Rattle.stencil_factory.specs.MaskRows.{AreMaskRows, mask_dens, mask_entries}
use Rattle.channel_refine.specs.declared.compose.ComposedChannel.{ComposedChannel}
use Rattle.channel_refine.proofs.FaultLemmas.{held_faults, none-held, first-held}
use Rattle.channel_refine.proofs.IdentityLemmas.{entries-by-support}
use Rattle.channel_refine.proofs.TableLemmas.{dens-short}
use Rattle.channel_refine.proofs.ValueLemmas.{none-passes}
use Rattle.far_fault.specs.View.{fault_of}
use Rattle.far_fault.specs.declared.fault.FarFault.{FarFault}
use Rattle.mesh_answers.specs.MaskTables.{IsMaskTable, denominators_of_masks, entries_of_masks, mask_faults, refusal_behind_table}
use Rattle.mesh_answers.specs.Refusals.{IsFound}
use Rattle.mesh_answers.specs.Tables.{IsComposedOf}
use Rattle.mesh_answers.proofs.RefusalLemmas.{refusal-behind}
use Rattle.mesh_answers.proofs.SummaryLemmas.{rows-points}

-- there is a row for each point of the level
pub rows-there : (mesh : ObjMesh) (depth : ℕ) (composed : ComposedChannel) → IsComposedOf mesh depth composed → length composed.table.rows ≡ composed.level.level.point_count
rows-there mesh depth composed is = rows-points mesh depth composed is ∙ ap (λ (level : Level). level.point_count) (sym is.composed.level_is)

-- The table of a mesh at a depth, masks over the points of the level there, and the faults before those of the masks' table.
module _ (mesh : ObjMesh) (depth : ℕ) (composed : ComposedChannel) (is : IsComposedOf mesh depth composed) (masks : List Mask) (track : Track) (counted : Counted) (causes : List Fault) where
  abbrev channel : Channel
  channel = positions_of mesh

  abbrev last : Level
  last = channel_level channel depth

  abbrev most : ℕ
  most = max channel.greatest channel.common

  abbrev refusal : Option Fault
  refusal = refusal_behind_table (causes ++ mask_faults track counted channel depth masks) mesh depth

  dens-are : mask_dens last composed.table masks ≡ denominators_of_masks channel depth masks
  dens-are = ap (λ dens. map (mask_denominator (source_denominator last dens)) masks) is.composed.dens

  pub entries-are : mask_entries last composed.table masks ≡ entries_of_masks channel depth masks
  entries-are =
      ap (λ controls. sum_by length (map (mask_support controls (source_support controls last (supports_of composed.table))) masks)) is.composed.controls
      ∙ ap (λ supports. sum_by length (map (mask_support channel.base.point_count (source_support channel.base.point_count last supports)) masks)) is.composed.supports

  -- the tests behind the causes, in the order of their faults
  abbrev tests : List (Bool × Fault)
  tests =
      (list_any (nat_lt number_bound) (denominators_of_masks channel depth masks), Overflow track depth DenominatorOverflow)
      ∷ (nat_lt entry_bound (entries_of_masks channel depth masks), TooLarge counted)
      ∷ (nat_lt number_bound (fold max 1 (denominators_of_masks channel depth masks) * most), Overflow track depth ValueOverflow)
      ∷ []

  refusal-is : refusal ≡ first_of (causes ++ held_faults tests)
  refusal-is = refusal-behind (table_faults depth mesh) (causes ++ held_faults tests) mesh is.good

  -- the mesh is refused for the first cause
  pub refusal-of-cause : (cause : Fault) → first_of causes ≡ Some cause → refusal ≡ Some cause
  refusal-of-cause cause first = refusal-is ∙ first-here causes (held_faults tests) cause first

  -- without a cause, the mesh is refused for the first test that passes
  module _ (no_cause : first_of causes ≡ None) where
    refusal-of-tests : refusal ≡ first_of (held_faults tests)
    refusal-of-tests = refusal-is ∙ first-behind causes (held_faults tests) no_cause

    none : Bool × Fault
    none = (false, TooLarge counted)

    pub denominator-failed : (row : ℕ) → row < length (mask_dens last composed.table masks) → number_bound < get_or (mask_dens last composed.table masks) row 1
        → refusal ≡ Some (Overflow track depth DenominatorOverflow)
    denominator-failed row exists great =
        refusal-of-tests
        ∙ first-held tests 0 none
        (ap (list_any (nat_lt number_bound)) (sym dens-are)
        ∙ list_any_at (nat_lt number_bound) (mask_dens last composed.table masks) row 1 exists (lt-ltb number_bound _ great))

    pub entries-failed : All (λ den. den ≤ number_bound) (mask_dens last composed.table masks) → entry_bound < mask_entries last composed.table masks → refusal ≡ Some (TooLarge counted)
    entries-failed short many =
        refusal-of-tests
        ∙ first-held tests 1 none (
          ap (list_any (nat_lt number_bound)) (sym dens-are) ∙ none-passes _ short,
          lt-ltb entry_bound _ (subst (λ n. entry_bound < n) entries-are many),
        )

    -- If there is a table of the masks, its denominators and its entries are within their bounds.
    module _ (table : Table) (rows : AreMaskRows last masks composed.table table) where
      dens-made : dens_of table ≡ denominators_of_masks channel depth masks
      dens-made = rows.dens ∙ dens-are

      entries-made : sum_by length (supports_of table) ≡ entries_of_masks channel depth masks
      entries-made = ap (sum_by length) rows.supports ∙ entries-are

      no-denominator : IsTable table → list_any (nat_lt number_bound) (denominators_of_masks channel depth masks) ≡ false
      no-denominator made = ap (list_any (nat_lt number_bound)) (sym dens-made) ∙ none-passes (dens_of table) (dens-short table made)

      few-entries : IsTable table → nat_lt entry_bound (entries_of_masks channel depth masks) ≡ false
      few-entries made = le-ltb entry_bound _ (omega (arith, made.entries_few, entries-by-support table.rows, entries-made))

      -- if its numerators are within their bounds too, nothing is refused
      rows-fine : IsTable table → greatest_of table * most ≤ number_bound → refusal ≡ None
      rows-fine made fits =
          refusal-of-tests
          ∙ ap first_of (none-held tests (no-denominator made, (few-entries made, (le-ltb number_bound _ (subst (λ dens. fold max 1 dens * most ≤ number_bound) dens-made fits), tt))))

      rows-made : IsTable table → greatest_of table * most ≤ number_bound → IsMaskTable mesh depth masks table
      rows-made made fits = record {
        controls = rows.controls ∙ is.composed.controls;
        dens = dens-made;
        entries = sym (entries-by-support table.rows) ∙ entries-made;
        values = λ numbers count. rows.values numbers (refined_values channel.base channel.scheme (control_values numbers) depth) (is.composed.values numbers count);
        made = made;
        fits = fits;
      }

      rows-over : IsTable table → number_bound < greatest_of table * most → refusal ≡ Some (Overflow track depth ValueOverflow)
      rows-over made over =
          refusal-of-tests
          ∙ first-held tests 2 none (no-denominator made, (few-entries made, lt-ltb number_bound _ (subst (λ dens. number_bound < fold max 1 dens * most) dens-made over)))

      -- the test of the numerators decides between both
      pub rows-tested : (P : Table → Type 0) → (refusal ≡ None → IsMaskTable mesh depth masks table → P table) → (amount : ℕ) (r : Result Table FarFault) → amount ≡ most
          → MatchResult r (λ found. (found ≡ table) × IsTable table × (greatest_of table * amount ≤ number_bound))
          (λ fault. (fault_of fault ≡ Overflow track depth ValueOverflow) × IsTable table × (number_bound < greatest_of table * amount))
          → MatchResult r P (λ fault. IsFound (fault_of fault) refusal)
      rows-tested P makes amount (Ok same) all found =
          let fits : greatest_of table * most ≤ number_bound = subst (λ n. greatest_of table * n ≤ number_bound) all found.2 in
          subst P (sym found.0) (makes (rows-fine found.1 fits) (rows-made found.1 fits))
      rows-tested P makes amount (Err fault) all found =
          subst (λ f. IsFound f refusal) (sym found.0) (rows-over found.1 (subst (λ n. number_bound < greatest_of table * n) all found.2))
