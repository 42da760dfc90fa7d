-- What follows for the texts of stored tables from how they are read.
use Rattle.std.proofs.Common.{◌≡◌, ◌≢◌, ℕ, List, [], ◌++◌, ap, sym, ◌∙◌, append-nil, true≢false, Err, is_ok}
use Rattle.subdiv_model.specs.ReadTable.{Reading, read_table}
use Rattle.subdiv_model.specs.Table.{Table}
use Rattle.subdiv_model.specs.TableFault.{TableFault}
use Rattle.subdiv_model.specs.TableText.{text_of_table}
use Rattle.table_laws.specs.StoredTable.{IsStored}
use Rattle.table_laws.proofs.ReadLemmas.{table-read}
use Rattle.table_laws.proofs.BackLemmas.{ok-same}

-- a text that begins with that of another table is read as both
same-reading : (a b : Table) (rest : List ℕ) → IsStored a → IsStored b → text_of_table a ≡ text_of_table b ++ rest
    → ◌≡◌ {A = Reading} (record { table = a; rest = [] }) (record { table = b; rest = rest })
same-reading a b rest first second e =
    ok-same (record { table = a; rest = [] }) (record { table = b; rest = rest })
    (sym (table-read a [] first) ∙ ap read_table (append-nil (text_of_table a) ∙ e) ∙ table-read b rest second)

pub same-table : (a b : Table) (rest : List ℕ) → IsStored a → IsStored b → text_of_table a ≡ text_of_table b ++ rest → a ≡ b
same-table a b rest first second e = ap (λ (reading : Reading). reading.table) (same-reading a b rest first second e)

pub nothing-left : (a b : Table) (rest : List ℕ) → IsStored a → IsStored b → text_of_table a ≡ text_of_table b ++ rest → rest ≡ []
nothing-left a b rest first second e = sym (ap (λ (reading : Reading). reading.rest) (same-reading a b rest first second e))

pub no-table : (bytes : List ℕ) (fault : TableFault) → read_table bytes ≡ Err fault
    → (table : Table) (rest : List ℕ) → IsStored table → bytes ≢ text_of_table table ++ rest
no-table bytes fault refused table rest stored e =
    true≢false (sym (ap is_ok (table-read table rest stored)) ∙ ap is_ok (ap read_table (sym e) ∙ refused))
