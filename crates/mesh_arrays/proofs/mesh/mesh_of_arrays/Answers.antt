use Rattle.std.proofs.Common.{rules, ◌≡◌, None, subst, sym}
use Rattle.mesh_arrays.specs.Faults.{bad_option, IsArraysFault}
use Rattle.mesh_arrays.proofs.MeshLemmas.{made, refused}
use Rattle.mesh_arrays.proofs.mesh.mesh_of_arrays.Goals as goal

pub returns-in-Ok : goal.returns-in-Ok
returns-in-Ok c =
    let none : bad_option c.args.arrays.now ≡ None = search rules in
    made c.args.arrays.now c.in_ok-parts.parts c.in-Ok.mesh none c.in_ok-parts.ensures c.in-Ok.ensures

pub returns-in-Err : goal.returns-in-Err
returns-in-Err c =
    let none : bad_option c.args.arrays.now ≡ None = search rules in
    subst (IsArraysFault c.args.arrays.now) (sym c.fault_of_parts.ensures) (refused c.args.arrays.now c.in_ok-parts.parts c.in-Err.fault none c.in_ok-parts.ensures c.in-Err.ensures)
