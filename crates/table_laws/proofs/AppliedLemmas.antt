-- The answer of `apply` if a mesh follows its own table.
use Rattle.std.proofs.Common.{◌≡◌, None, refl, ap, ◌∙◌, lit≤}
use Rattle.std.specs.List.{flat_map}
use Rattle.subdiv_model.specs.Base.{base_level}
use Rattle.subdiv_model.specs.Mask.{CatmullClark}
use Rattle.subdiv_model.specs.ReadObj.{obj_lines, lines_fault, read_obj_mesh}
use Rattle.subdiv_model.specs.Text.{point_line}
use Rattle.far_model.specs.Answer.{answer_of_apply, answer_of_stored_text, own_table, points_after}
use Rattle.far_model.specs.Command.{Apply}
use Rattle.far_model.specs.Refusal.{answer_unless}
use Rattle.far_model.specs.Stored.{control_fault, points_text}
use Rattle.obj_laws.proofs.ShortNumberLemmas.{positions-bounded, coordinates-short}
use Rattle.table_laws.specs.Applied.{TextOfMesh, mesh_of, table_then_mesh}
use Rattle.table_laws.proofs.CommonLemmas.{common-positive}
use Rattle.table_laws.proofs.EvaluatedLemmas.{points-same}
use Rattle.table_laws.proofs.FitLemmas.{is-composed, can-evaluate}
use Rattle.table_laws.proofs.OwnTableLemmas.{composed-stored}
use Rattle.table_laws.proofs.ReadLemmas.{table-read}

pub applied : (given : TextOfMesh) → answer_of_stored_text Apply (table_then_mesh given)
    ≡ record { text = flat_map (point_line None) (points_after (mesh_of given) given.depth); refusal = None }
applied given =
    let lines = obj_lines given.text in
    let mesh = read_obj_mesh given.text 0 in
    let own = own_table given.depth mesh in
    let stored = composed-stored given.depth 0 lines given.composed in
    let is = is-composed given.depth (lines_fault lines 0) mesh given.composed in
    let common = positions-bounded lines 0 is.read_well (lit≤ tt) in
    let points = coordinates-short given.text 0 is.read_well common in
    ap answer_of_apply (table-read own given.text stored)
    ∙ ap (λ fault. answer_unless (control_fault own fault mesh) (points_text own mesh)) is.read_well
    ∙ ap (λ fault. answer_unless fault (points_text own mesh)) (can-evaluate given.depth mesh is.channel common points)
    ∙ ap (λ text. record { text = text; refusal = None })
    (points-same (record {
      level = base_level mesh;
      scheme = CatmullClark;
      steps = given.depth;
      common = mesh.common;
      controls = mesh.points;
      one_each = refl;
      above_zero = common-positive lines;
      is_table = stored.is_table;
    }))
