-- The patch of a face of a level.
use Rattle.std.specs.Prelude.{ℕ, ◌≡◌, List, Option, None, Result, MatchResult, Vec}
use Rattle.std.specs.Global.{Global}
use Rattle.subdiv_model.specs.Base.{base_level}
use Rattle.subdiv_model.specs.Child.{refined_level}
use Rattle.subdiv_model.specs.Mask.{Mask}
use Rattle.subdiv_model.specs.ObjMesh.{ObjMesh}
use Rattle.subdiv_model.specs.Fault as model
use Rattle.subdiv_model.specs.Fault.{Fault, Place, TooLarge, PatchEntries, Overflow, Patch, DenominatorOverflow}
use Rattle.subdiv_model.specs.Patch.{patch_faults, patch_masks}
use Rattle.far_model.specs.Command.{PatchOptions}
use Rattle.far_model.specs.Answer.{positions_of}
use Rattle.stencil_apply.specs.Table.{Table}
use Rattle.patch_bspline.specs.declared.fault.PatchFault.{PatchFault}
use Rattle.patch_bspline.specs.declared.fault.PatchFault.TheVariants.{NoFace, NotRegular, Denominator, TooManyEntries, Memory}
use Rattle.far_fault.specs.View.{fault_of}
use Rattle.far_fault.specs.declared.fault.FarFault.{FarFault}
use Rattle.mesh_answers.specs.Refusals.{IsFound}
use Rattle.mesh_answers.specs.MaskTables.{IsMaskTable, refusal_behind_table}
use Rattle.far_text.specs.declared.reply.Reply.{Reply}
use Rattle.far_text.specs.declared.reply.Reply.TheVariants as variant
use Rattle.ratio128.specs.declared.point.Point3.{Point3}
use Rattle.ratio128.specs.declared.valued.Valued.{Valued}

-- the refusal of a mesh by the command for a patch
abbrev pub patch_refusal : PatchOptions → ObjMesh → Option Fault
patch_refusal options mesh = refusal_behind_table (patch_faults (positions_of mesh) options.depth options.face options.grid) mesh options.depth

-- the fault of a run for a fault of the rows of a patch, on a level with this number of faces
abbrev pub patch_fault_of : ℕ → PatchOptions → PatchFault → Fault
patch_fault_of count options NoFace = Place (model.NoFace count)
patch_fault_of count options NotRegular = Place (model.NotRegular options.face)
patch_fault_of count options (Denominator row) = Overflow Patch options.depth DenominatorOverflow
patch_fault_of count options TooManyEntries = TooLarge PatchEntries
patch_fault_of count options Memory = model.Memory

-- the masks of the patch
abbrev pub masks_of_patch : PatchOptions → ObjMesh → List Mask
masks_of_patch options mesh = patch_masks (refined_level (base_level mesh) options.depth) options.face options.grid

-- the mesh is not refused, and these are the rows of the patch
pub record ArePatchRows (options : PatchOptions) (mesh : ObjMesh) (table : Table) : Type 0 where
  pub good : patch_refusal options mesh ≡ None
  pub rows : IsMaskTable mesh options.depth (masks_of_patch options mesh) table

-- the rows of the patch, or the refusal of the mesh
abbrev pub IsPatchComposition : PatchOptions → ObjMesh → Result Table FarFault → Type 0
IsPatchComposition options mesh result = MatchResult result (ArePatchRows options mesh) (λ fault. IsFound (fault_of fault) (patch_refusal options mesh))

-- the reply with the points of a patch of a mesh
abbrev pub patch_reply : ObjMesh → ℕ → ℕ → Vec (Valued Point3) Global → Reply
patch_reply mesh face grid values = variant.Patch (record { face = face; grid = grid; values = values; common = mesh.common })
