use Rattle.far_model.specs.Answer.{composition_refusal, mesh_before_table, own_table}
use Rattle.far_model.specs.Stored.{mesh_part}
use Rattle.table_laws.proofs.OwnTableLemmas.{composed-stored}
use Rattle.table_laws.proofs.VerifiedLemmas.{agrees}
use Rattle.table_laws.proofs.verified.tables_of_meshes_are_verified.Goals as goal

pub returns : goal.returns
returns c = λ given. agrees (composition_refusal given.depth 0 (mesh_part given.bytes)) (own_table given.depth (mesh_before_table given.bytes)) given.bytes
    (record { composed = given.composed; stored = composed-stored given.depth 0 (mesh_part given.bytes) given.composed; text = given.own_text })
