-- The results of comparing a text with a table.
use Rattle.std.proofs.Common.{◌≡◌, ℕ, suc, ◌+◌, ◌≤◌, ◌⊎◌, inl, inr, Bool, true, false, nat_eq, nat_lt, List, [], length, drop, Option, Some, None, option_map, Result, Ok, Err, IsErr, IsErrAnd, MatchResult, arith, ap, sym, subst, ◌∙◌, append-nil, le-ltb, if◌then◌else◌}
use Rattle.std.proofs.lemmas.Bool.{cond-false}
use Rattle.std.proofs.lemmas.Bool.Decides.{nat_tests}
use Rattle.std.proofs.lemmas.List.{length-drop}
use Rattle.subdiv_model.specs.Fault.{Fault, Long, Table, Differs, Memory}
use Rattle.subdiv_model.specs.ReadTable.{Reading, read_table}
use Rattle.subdiv_model.specs.Table as tables
use Rattle.subdiv_model.specs.TableFault.{Form, TableFault}
use Rattle.subdiv_model.specs.TableText.{text_of_table}
use Rattle.far_model.specs.Stored.{first_difference, stored_fault}
use Rattle.table_laws.proofs.BackLemmas.{table-written}
use Rattle.table_laws.proofs.DifferenceLemmas.{difference-none}
use Rattle.table_file.specs.Read.{TableRead}
use Rattle.array_answers.specs.RecordBack.{IsRecordOf}
use Rattle.array_answers.specs.declared.record.FaultRecord.{FaultRecord}
use Rattle.table_arrays.specs.Texts.{IsReadOf, IsRefusedFor, read_refusal, reading_refusal, text_limit}
use Rattle.table_arrays.specs.Checked.{IsCompared, IsTextChecked, IsWhole, check_refusal}

-- the refusal is passed on
pub handed-on : {X : Type 0} (Good : X → Type 0) (Refused : FaultRecord → Type 0) (r : Result X FaultRecord) (found : FaultRecord) → IsErr r → IsErrAnd r (λ g. g ≡ found) → Refused found
    → MatchResult r Good Refused
handed-on Good Refused (Ok x) found err same refused = absurd (cc)
handed-on Good Refused (Err g) found err same refused = subst Refused (sym same) refused

-- the record of a refusal is that of another with the same claim
turned : (a b : Option Fault) (found : FaultRecord) → ((fault : Fault) → a ≡ Some fault → b ≡ Some fault) → IsRefusedFor a found → IsRefusedFor b found
turned a b found more refused = record { fault = refused.fault; is = by refused.is; recorded = refused.recorded }
  where
    by : (a ≡ Some refused.fault) ⊎ (refused.fault ≡ Memory) → (b ≡ Some refused.fault) ⊎ (refused.fault ≡ Memory)
    by (inl e) = inl (more refused.fault e)
    by (inr memory) = inr memory

-- a text that is refused when read is refused beside each table
pub read-refused : (text : List ℕ) (found : FaultRecord) → IsRefusedFor (read_refusal text) found → (own : tables.Table) → IsRefusedFor (check_refusal own text) found
read-refused text found refused own = turned (read_refusal text) (check_refusal own text) found (kept (nat_lt text_limit (length text)) (read_table text)) refused
  where
    no-some : {x : Fault} → None ≡ Some x → ⊥
    no-some e = cc

    kept : (long : Bool) (reading : Result Reading TableFault) (fault : Fault) → (if long then Some Long else reading_refusal reading) ≡ Some fault
        → (if long then Some Long else stored_fault 0 own reading) ≡ Some fault
    kept true reading fault e = e
    kept false (Ok reading) fault e = absurd (no-some e)
    kept false (Err bad) fault e =
        let line : 0 + bad.line ≡ bad.line = omega arith in
        ap (λ (n : ℕ). Some (Table (record { line = n; cause = bad.cause }))) line ∙ e

-- a text that is not too long is refused by its table
by-table : (own : tables.Table) (text : List ℕ) → length text ≤ text_limit → check_refusal own text ≡ stored_fault 0 own (read_table text)
by-table own text short = cond-false _ _ _ (le-ltb text_limit (length text) short)

-- other bytes follow those of the table
pub bytes-behind : (text : List ℕ) (read : TableRead) → IsReadOf text read → (line : ℕ) (found : FaultRecord) → nat_eq read.end (length text) ≡ false
    → line ≡ length read.table.rows + 2 → IsRecordOf found (Table (record { line = line; cause = Form })) → (own : tables.Table) → IsRefusedFor (check_refusal own text) found
bytes-behind text read is line found more behind recorded own =
    let within = is.table.1 in
    let long = length-drop read.end text in
    let some : nat_eq (length (drop read.end text)) 0 ≡ false = grind (arith, nat_tests) in
    let number : 0 + suc (suc (length read.table.rows)) ≡ line = omega (arith, behind) in
    record {
      fault = Table (record { line = line; cause = Form });
      is = inl (by-table own text is.short ∙ ap (stored_fault 0 own) is.table.0 ∙ cond-false _ _ _ some ∙ ap (λ (n : ℕ). Some (Table (record { line = n; cause = Form }))) number);
      recorded = recorded;
    }

-- a whole table is compared
pub compared : (own stored : tables.Table) (text : List ℕ) (r : Result ℕ FaultRecord) → IsWhole text stored
    → IsCompared stored own r
    → IsTextChecked own text r
compared own stored text (Ok rows) whole same =
    let is = table-written text (record { table = stored; rest = [] }) whole.read in
    record {
      short = whole.short;
      same = is.text ∙ append-nil (text_of_table stored) ∙ ap text_of_table ((difference-none stored own).0 same.0);
      count = same.1;
    }
compared own stored text (Err found) whole refused =
    turned (option_map Differs (first_difference stored own)) (check_refusal own text) found
    (λ fault e. by-table own text whole.short ∙ ap (stored_fault 0 own) whole.read ∙ e) refused
