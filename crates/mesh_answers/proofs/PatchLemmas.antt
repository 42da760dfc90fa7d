-- The refusals of a mesh by the command for a patch, and the rows of the patch.
use Rattle.std.proofs.Common.{◌≡◌, ℕ, ◌*◌, ◌<◌, ◌≤◌, Bool, true, false, not, max, cond, List, [], ◌∷◌, length, Some, None, Result, MatchResult, ap, sym, subst, ◌∙◌}
use Rattle.std.proofs.lemmas.Bool.{le-ltb, lt-ltb}
use Rattle.subdiv_model.specs.Lists.{first_of}
use Rattle.subdiv_model.specs.Level.{Level}
use Rattle.subdiv_model.specs.Mask.{Mask}
use Rattle.subdiv_model.specs.ObjMesh.{ObjMesh}
use Rattle.subdiv_model.specs.Channel.{Channel, number_bound, channel_level, fault_where}
use Rattle.subdiv_model.specs.Fault as model
use Rattle.subdiv_model.specs.Fault.{Fault, Place, PatchEntries, Overflow, Patch, ValueOverflow}
use Rattle.subdiv_model.specs.Patch.{has_patch, place_faults}
use Rattle.far_model.specs.Command.{PatchOptions}
use Rattle.far_model.specs.Answer.{positions_of}
use Rattle.stencil_apply.specs.Table.{Table, IsTable, greatest_of}
use Rattle.patch_bspline.specs.Patches.{HasPatch, IsPatchFault, IsPatchTable}
use Rattle.patch_bspline.specs.declared.fault.PatchFault.{PatchFault}
use Rattle.patch_bspline.specs.declared.fault.PatchFault.TheVariants.{NoFace, NotRegular, Denominator, TooManyEntries, Memory}
use Rattle.channel_refine.specs.declared.compose.ComposedChannel.{ComposedChannel}
use Rattle.far_fault.specs.View.{fault_of}
use Rattle.far_fault.specs.declared.fault.FarFault.{FarFault}
use Rattle.mesh_answers.specs.Patches.{ArePatchRows, masks_of_patch, patch_fault_of, patch_refusal}
use Rattle.mesh_answers.specs.Refusals.{IsFound}
use Rattle.mesh_answers.specs.Tables.{IsComposedOf}
use Rattle.mesh_answers.proofs.MaskTableLemmas.{denominator-failed, entries-failed, refusal-of-cause, rows-tested}

-- the faults of a place by its two tests
abbrev faults_by : Level → ℕ → Bool → Bool → List Fault
faults_by level face inside regular = cond inside (fault_where (not regular) (Place (model.NotRegular face))) (Place (model.NoFace (length level.polygons)) ∷ [])

module _ (level : Level) (face : ℕ) where
  past-the-last : length level.polygons ≤ face → first_of (place_faults level face) ≡ Some (Place (model.NoFace (length level.polygons)))
  past-the-last past = ap (λ inside. first_of (faults_by level face inside (has_patch level face))) (le-ltb face (length level.polygons) past)

  not-regular : face < length level.polygons → has_patch level face ≡ false → first_of (place_faults level face) ≡ Some (Place (model.NotRegular face))
  not-regular inside other =
      ap (λ inside. first_of (faults_by level face inside (has_patch level face))) (lt-ltb face (length level.polygons) inside)
      ∙ ap (λ regular. first_of (faults_by level face true regular)) other

  no-fault : HasPatch level face → first_of (place_faults level face) ≡ None
  no-fault has =
      ap (λ inside. first_of (faults_by level face inside (has_patch level face))) (lt-ltb face (length level.polygons) has.inside)
      ∙ ap (λ regular. first_of (faults_by level face true regular)) has.regular

-- The table of a mesh at a depth, and a face of this level.
module _ (options : PatchOptions) (mesh : ObjMesh) (composed : ComposedChannel) (is : IsComposedOf mesh options.depth composed) where
  abbrev channel : Channel
  channel = positions_of mesh

  abbrev last : Level
  last = channel_level channel options.depth

  abbrev masks : List Mask
  masks = masks_of_patch options mesh

  abbrev causes : List Fault
  causes = place_faults last options.face

  failed-there : (fault : PatchFault) → IsPatchFault last options.face options.grid composed.table fault
      → IsFound (patch_fault_of (length last.polygons) options fault) (patch_refusal options mesh)
  failed-there NoFace found =
      refusal-of-cause mesh options.depth composed is masks Patch PatchEntries causes (Place (model.NoFace (length last.polygons))) (past-the-last last options.face found)
  failed-there NotRegular found =
      refusal-of-cause mesh options.depth composed is masks Patch PatchEntries causes (Place (model.NotRegular options.face)) (not-regular last options.face found.0 found.1)
  failed-there (Denominator row) found =
      denominator-failed mesh options.depth composed is masks Patch PatchEntries causes (no-fault last options.face found.0) row found.1.exists found.1.great
  failed-there TooManyEntries found = entries-failed mesh options.depth composed is masks Patch PatchEntries causes (no-fault last options.face found.0) found.1 found.2
  failed-there Memory found = tt

  -- the mesh is refused for the fault of the rows of the patch
  pub patch-failed : (fault : PatchFault) → IsPatchFault composed.level.level options.face options.grid composed.table fault
      → IsFound (patch_fault_of (length composed.level.level.polygons) options fault) (patch_refusal options mesh)
  patch-failed fault =
      subst
      (λ (level : Level). IsPatchFault level options.face options.grid composed.table fault → IsFound (patch_fault_of (length level.polygons) options fault) (patch_refusal options mesh))
      (sym is.composed.level_is) (failed-there fault)

  -- if there are such rows, the test of their numerators decides
  pub patch-tested : (table : Table) → IsPatchTable composed.level.level options.face options.grid composed.table table → (amount : ℕ) (r : Result Table FarFault)
      → amount ≡ max channel.greatest channel.common
      → MatchResult r (λ found. (found ≡ table) × IsTable table × (greatest_of table * amount ≤ number_bound))
      (λ fault. (fault_of fault ≡ Overflow Patch options.depth ValueOverflow) × IsTable table × (number_bound < greatest_of table * amount))
      → MatchResult r (ArePatchRows options mesh) (λ fault. IsFound (fault_of fault) (patch_refusal options mesh))
  patch-tested table patch =
      let here : IsPatchTable last options.face options.grid composed.table table =
      subst (λ level. IsPatchTable level options.face options.grid composed.table table) is.composed.level_is patch in
      rows-tested mesh options.depth composed is masks Patch PatchEntries causes (no-fault last options.face here.has) table here.rows
      (ArePatchRows options mesh) (λ good rows. record { good = good; rows = rows })
