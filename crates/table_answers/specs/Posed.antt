-- A posed mesh, and its state after frame lines.
-- Source: this profile.
use Rattle.std.specs.Prelude.{ℕ, ◌≡◌, ◌*◌, ◌^◌, ◌<◌, ◌≤◌, ℤ, List, length, map}
use Rattle.std.specs.List.{list_any}
use Rattle.subdiv_model.specs.Polygons.{is_among}
use Rattle.subdiv_model.specs.Base.{base_level}
use Rattle.subdiv_model.specs.Mask.{CatmullClark}
use Rattle.subdiv_model.specs.ObjMesh.{ObjMesh}
use Rattle.subdiv_model.specs.Refined.{refined_denominators, refined_values, control_values}
use Rattle.subdiv_model.specs.Support.{refined_supports}
use Rattle.subdiv_model.specs.Channel.{number_bound}
use Rattle.far_model.specs.Frames.{Frame, numbers_of, frame_at}
use Rattle.stencil_apply.specs.Table.{Table, greatest_of}
use Rattle.stencil_factory.specs.Rows.{supports_of, dens_of, row_values, AreSameValues}
use Rattle.stencil_session.specs.Session.{State, IsState}

-- a session, the common denominator of its controls, and the depth of its table
pub record Posed : Type 0 where
  pub session : State
  pub common : ℕ
  pub depth : ℕ

-- the table of a mesh at a depth
pub record IsTableOf (mesh : ObjMesh) (depth : ℕ) (table : Table) : Type 0 where
  pub controls : table.controls ≡ length mesh.points
  pub dens : dens_of table ≡ refined_denominators (base_level mesh) CatmullClark depth
  pub supports : supports_of table ≡ refined_supports (base_level mesh) CatmullClark depth
  pub values : (numbers : List ℤ) → length numbers ≡ length mesh.points
      → AreSameValues (refined_values (base_level mesh) CatmullClark (control_values numbers) depth) (row_values table numbers)

-- the session of this table with these control points now; the points that depend on moved ones are marked
pub record IsPosed (mesh : ObjMesh) (frame : Frame) (posed : Posed) : Type 0 where
  pub table : IsTableOf mesh posed.depth posed.session.table
  pub state : IsState posed.session
  pub controls : posed.session.controls ≡ map numbers_of frame.controls
  pub marks : posed.session.marks ≡ map (λ support. list_any (is_among support) frame.moved) (refined_supports (base_level mesh) CatmullClark posed.depth)
  pub common : posed.common ≡ mesh.common
  pub some : 0 < posed.common
  pub short : posed.common ≤ 10 ^ 37
  pub fits : greatest_of posed.session.table * posed.common ≤ number_bound

-- the mesh after frame lines
abbrev pub IsPosedAfter : ObjMesh → List (List (List ℕ)) → Posed → Type 0
IsPosedAfter mesh lines posed = IsPosed mesh (frame_at mesh lines) posed
