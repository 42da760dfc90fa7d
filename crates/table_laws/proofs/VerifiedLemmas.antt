-- A stored table that is not refused is the one that it must be.
use Rattle.std.proofs.Common.{◌≡◌, ℕ, Bool, true, false, nat_eq, List, [], length, refl, ap, sym, ◌∙◌, append-nil, eqb-true, Some, None, Option, option_map, Result, Ok, Err, if◌then◌else◌}
use Rattle.std.specs.Option.{option_or}
use Rattle.subdiv_model.specs.Fault.{Fault, Differs}
use Rattle.subdiv_model.specs.ReadTable.{Reading, read_table}
use Rattle.subdiv_model.specs.Table.{Table}
use Rattle.subdiv_model.specs.TableFault.{TableFault}
use Rattle.subdiv_model.specs.TableText.{text_of_table}
use Rattle.far_model.specs.Refusal.{answer_unless}
use Rattle.far_model.specs.Stored.{mesh_part, table_part, first_difference, stored_fault, answer_of_stored_table}
use Rattle.table_laws.specs.StoredTable.{IsStored}
use Rattle.table_laws.specs.Verified.{agreement}
use Rattle.table_laws.proofs.ReadLemmas.{table-read}
use Rattle.table_laws.proofs.BackLemmas.{table-written}
use Rattle.table_laws.proofs.DifferenceLemmas.{difference-none}
use Rattle.table_laws.proofs.CommonLemmas.{no-some}
use Rattle.table_laws.proofs.NumberWordLemmas.{no-length}
use Rattle.table_laws.proofs.FitLemmas.{unrefused}

both-none : (first second : Option Fault) → option_or first second ≡ None → (first ≡ None) × (second ≡ None)
both-none None second none = (refl, none)
both-none (Some fault) second none = absurd (no-some none)

no-difference : (row : Option ℕ) → option_map Differs row ≡ None → row ≡ None
no-difference None none = refl
no-difference (Some row) none = absurd (no-some none)

-- a stored table without fault is the table of the mesh, with no bytes after it
own-reading : (lines : ℕ) (own : Table) (read : Result Reading TableFault) → stored_fault lines own read ≡ None → read ≡ Ok (record { table = own; rest = [] })
own-reading lines own (Err fault) none = absurd (no-some none)
own-reading lines own (Ok reading) none = here _ (nat_eq (length reading.rest) 0) refl none
  where
    here : (fault : Fault) (t : Bool) → nat_eq (length reading.rest) 0 ≡ t → (if t then option_map Differs (first_difference reading.table own) else Some fault) ≡ None
        → ◌≡◌ {A = Result Reading TableFault} (Ok reading) (Ok (record { table = own; rest = [] }))
    here fault true e none =
        let same = (difference-none reading.table own).0 (no-difference (first_difference reading.table own) none) in
        ap (λ (table : Table). Ok (record { table = table; rest = reading.rest })) same
        ∙ ap (λ (rest : List ℕ). Ok (record { table = own; rest = rest })) (no-length reading.rest (eqb-true (length reading.rest) 0 e))
    here fault false e none = absurd (no-some none)

-- what holds of a stored table that is not refused
pub record IsAgreed (refusal : Option Fault) (own : Table) (part : List ℕ) : Type 0 where
  pub composed : refusal ≡ None
  pub stored : IsStored own
  pub text : part ≡ text_of_table own

pub agreed : (refusal : Option Fault) (own : Table) (bytes : List ℕ) → (answer_of_stored_table refusal own bytes).refusal ≡ None → IsAgreed refusal own (table_part bytes)
agreed refusal own bytes none =
    let lines = length (mesh_part bytes) in
    let part = table_part bytes in
    let both = both-none refusal (stored_fault lines own (read_table part)) (unrefused (option_or refusal (stored_fault lines own (read_table part))) (agreement own) none) in
    let is = table-written part (record { table = own; rest = [] }) (own-reading lines own (read_table part) both.1) in
    record { composed = both.0; stored = is.stored; text = is.text ∙ append-nil (text_of_table own) }

-- the table of the mesh, with no bytes after it, has no fault
own-fault : (lines : ℕ) (own : Table) → stored_fault lines own (Ok (record { table = own; rest = [] })) ≡ None
own-fault lines own = ap (option_map Differs) ((difference-none own own).1 refl)

pub agrees : (refusal : Option Fault) (own : Table) (bytes : List ℕ) → IsAgreed refusal own (table_part bytes)
    → answer_of_stored_table refusal own bytes ≡ record { text = agreement own; refusal = None }
agrees refusal own bytes is =
    let lines = length (mesh_part bytes) in
    let read : read_table (table_part bytes) ≡ Ok (record { table = own; rest = [] }) =
    ap read_table (is.text ∙ sym (append-nil (text_of_table own))) ∙ table-read own [] is.stored in
    ap (λ fault. answer_unless (option_or fault (stored_fault lines own (read_table (table_part bytes)))) (agreement own)) is.composed
    ∙ ap (λ fault. answer_unless fault (agreement own)) (ap (stored_fault lines own) read ∙ own-fault lines own)
