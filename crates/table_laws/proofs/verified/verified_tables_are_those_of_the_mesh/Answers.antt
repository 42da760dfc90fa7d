use Rattle.far_model.specs.Answer.{composition_refusal, mesh_before_table, own_table}
use Rattle.far_model.specs.Stored.{mesh_part}
use Rattle.table_laws.proofs.VerifiedLemmas.{agreed}
use Rattle.table_laws.proofs.verified.verified_tables_are_those_of_the_mesh.Goals as goal

pub returns-clause-text : goal.returns-clause-text
returns-clause-text c = λ depth bytes none. (agreed (composition_refusal depth 0 (mesh_part bytes)) (own_table depth (mesh_before_table bytes)) bytes none).text

pub returns-clause-stored : goal.returns-clause-stored
returns-clause-stored c = λ depth bytes none. (agreed (composition_refusal depth 0 (mesh_part bytes)) (own_table depth (mesh_before_table bytes)) bytes none).stored

pub returns-clause-composed : goal.returns-clause-composed
returns-clause-composed c = λ depth bytes none. (agreed (composition_refusal depth 0 (mesh_part bytes)) (own_table depth (mesh_before_table bytes)) bytes none).composed
