-- The results of comparing a stored table with the table of the mesh before it.
use Rattle.std.proofs.Common.{◌≡◌, ℕ, suc, ◌+◌, ◌≤◌, Bool, false, cond, nat_eq, List, length, drop, Option, Some, None, option_map, Result, Ok, Err, IsErr, IsErrAnd, IfOk, MatchResult, arith, refl, ap, sym, subst, ◌∙◌}
use Rattle.std.specs.Option.{option_or}
use Rattle.std.proofs.lemmas.Bool.Decides.{nat_tests}
use Rattle.std.proofs.lemmas.List.{drop_all, length-drop}
use Rattle.subdiv_model.specs.Fault.{Fault, Usage, Read, Long, Obj, Mesh, TooLarge, Overflow, Limit, Place, Table, Differs, Controls, Write, Memory}
use Rattle.subdiv_model.specs.ObjMesh.{ObjMesh}
use Rattle.subdiv_model.specs.ReadObj.{mesh_of_lines, obj_lines}
use Rattle.subdiv_model.specs.ReadTable.{Reading, read_table}
use Rattle.subdiv_model.specs.Table as tables
use Rattle.subdiv_model.specs.TableFault.{Form, TableFault}
use Rattle.far_model.specs.Answer.{answer_of_verify, composition_refusal, mesh_before_table, own_table}
use Rattle.far_model.specs.Command.{Verify}
use Rattle.far_model.specs.Refusal.{Answer, answer_unless}
use Rattle.far_model.specs.Stored.{first_difference, line_count, mesh_part, stored_fault, table_fault_behind, table_part}
use Rattle.ratio128.specs.StepsTaken.{StepsTaken}
use Rattle.far_text.specs.Stored.{agreement_line}
use Rattle.far_text.specs.declared.reply.Reply.{Reply}
use Rattle.far_text.specs.declared.reply.Reply.TheVariants.{Agreement}
use Rattle.far_fault.specs.View.{fault_of}
use Rattle.far_fault.specs.declared.fault.FarFault.{FarFault}
use Rattle.channel_refine.specs.declared.compose.ComposedChannel.{ComposedChannel}
use Rattle.mesh_answers.specs.MeshText.{IsMeshText}
use Rattle.mesh_answers.specs.Refusals.{IsFound}
use Rattle.mesh_answers.specs.Tables.{IsComposedOf}
use Rattle.mesh_answers.proofs.TableLemmas.{table-own}
use Rattle.mesh_answers.proofs.TextLemmas.{composition-refusal}
use Rattle.mesh_answers.specs.StepCounts.{level_faces_to}
use Rattle.table_answers.specs.Answers.{HasNumbers, IsAnswerOf, IsOwn, IsReplyOf, IsWhole, compared, text_mesh}
use Rattle.table_answers.specs.Place.{IsTablePlace}
use Rattle.table_answers.specs.declared.place.TablePlace.{TablePlace}

-- a fault that is passed on is refused as before
pub handed-refusal : {X : Type 0} (P : X → Type 0) (r : Result X FarFault) (fault : FarFault) (refusal : Option Fault) → IsErr r → IsErrAnd r (λ g. g ≡ fault)
    → IsFound (fault_of fault) refusal → MatchResult r P (λ fault. IsFound (fault_of fault) refusal)
handed-refusal P (Ok x) fault refusal err same found = absurd (cc)
handed-refusal P (Err other) fault refusal err same found = subst (λ f. IsFound (fault_of f) refusal) (sym same) found

-- the bytes behind a table are empty, or they are not
module _ (text : List ℕ) (table : tables.Table) (end : ℕ) (within : end ≤ length text) (read : read_table text ≡ Ok (record { table = table; rest = drop end text })) where
  pub is-whole : end ≡ length text → IsWhole text table
  is-whole all = read ∙ ap (λ rest. Ok (record { table = table; rest = rest })) (drop_all end text (omega (arith, all)))

  more-fault : (lines : ℕ) (own : tables.Table) (rest : List ℕ) (empty : Bool) → nat_eq (length rest) 0 ≡ empty → empty ≡ false
      → stored_fault lines own (Ok (record { table = table; rest = rest })) ≡ Some (table_fault_behind lines (record { line = suc (line_count table); cause = Form }))
  more-fault lines own rest empty is none =
      ap (λ b. cond b (option_map Differs (first_difference table own)) (Some (table_fault_behind lines (record { line = suc (line_count table); cause = Form })))) (is ∙ none)

  -- the line behind the table's is bad
  pub refused-behind : (end ≡ length text → ⊥) → (lines line : ℕ) → line ≡ lines + length table.rows + 2 → (own : tables.Table)
      → stored_fault lines own (read_table text) ≡ Some (Table (record { line = line; cause = Form }))
  refused-behind more lines line is own =
      let some : nat_eq (length (drop end text)) 0 ≡ false = let long = length-drop end text in grind (arith, nat_tests) in
      let number : lines + suc (line_count table) ≡ line = omega (arith, is) in
      ap (stored_fault lines own) read
      ∙ more-fault lines own (drop end text) (nat_eq (length (drop end text)) 0) refl some
      ∙ ap (λ n. Some (Table (record { line = n; cause = Form }))) number

-- the answer to two tables
pub agrees : (stored own : tables.Table) → first_difference stored own ≡ None → IsReplyOf (compared stored own) (Agreement (length own.rows))
agrees stored own none =
    let same : compared stored own ≡ record { text = agreement_line (length own.rows); refusal = None } =
    ap (λ row. answer_unless (option_map Differs row) (agreement_line (length own.rows))) none in
    record { good = ap (λ (a : Answer). a.refusal) same; says = sym (ap (λ (a : Answer). a.text) same); put = tt }

pub differs : (stored own : tables.Table) (row : ℕ) → first_difference stored own ≡ Some row → (compared stored own).refusal ≡ Some (Differs row)
differs stored own row is = ap (λ found. (answer_unless (option_map Differs found) (agreement_line (length own.rows))).refusal) is

-- The mesh and the stored table of an input.
module _ (bytes : List ℕ) (depth : ℕ) (place : TablePlace) (at : IsTablePlace bytes place) where
  abbrev answer : Answer
  answer = answer_of_verify depth bytes

  abbrev own : tables.Table
  own = own_table depth (mesh_before_table bytes)

  abbrev fault-by : Option Fault → Result Reading TableFault → Option Fault
  fault-by refusal reading = option_or refusal (stored_fault (length (mesh_part bytes)) own reading)

  abbrev answer-by : Option Fault → Answer
  answer-by fault = answer_unless fault (agreement_line (length own.rows))

  unless-none : (fault : Option Fault) (text : List ℕ) → (answer_unless fault text).refusal ≡ fault
  unless-none None text = refl
  unless-none (Some fault) text = refl

  -- a refusal of the mesh is that of the input
  own-refused : (fault : Fault) (refusal : Option Fault) → IsFound fault refusal → (reading : Result Reading TableFault) → IsFound fault (answer-by (fault-by refusal reading)).refusal
  own-refused Memory refusal found reading = tt
  own-refused (Obj fault) refusal found reading = ap (λ r. (answer-by (fault-by r reading)).refusal) found
  own-refused (Mesh fault) refusal found reading = ap (λ r. (answer-by (fault-by r reading)).refusal) found
  own-refused (TooLarge counted) refusal found reading = ap (λ r. (answer-by (fault-by r reading)).refusal) found
  own-refused (Overflow track level kind) refusal found reading = ap (λ r. (answer-by (fault-by r reading)).refusal) found
  own-refused (Limit cause) refusal found reading = ap (λ r. (answer-by (fault-by r reading)).refusal) found
  own-refused (Place fault) refusal found reading = ap (λ r. (answer-by (fault-by r reading)).refusal) found
  own-refused (Table fault) refusal found reading = ap (λ r. (answer-by (fault-by r reading)).refusal) found
  own-refused (Differs row) refusal found reading = ap (λ r. (answer-by (fault-by r reading)).refusal) found
  own-refused (Controls count) refusal found reading = ap (λ r. (answer-by (fault-by r reading)).refusal) found
  own-refused (Usage word) refusal found reading = absurd found
  own-refused Read refusal found reading = absurd found
  own-refused Long refusal found reading = absurd found
  own-refused Write refusal found reading = absurd found

  pub mesh-refused : (text : List ℕ) (fault : FarFault) → obj_lines text ≡ mesh_part bytes → IsFound (fault_of fault) (composition_refusal depth 0 (obj_lines text)) → IsFound (fault_of fault) answer.refusal
  mesh-refused text fault lines found =
      own-refused (fault_of fault) (composition_refusal depth 0 (mesh_part bytes)) (subst (λ l. IsFound (fault_of fault) (composition_refusal depth 0 l)) lines found) (read_table (table_part bytes))

  -- without a refusal of the mesh the stored table decides
  module _ (text : List ℕ) (lines : obj_lines text ≡ mesh_part bytes) (table : tables.Table) (is : IsOwn text depth table) where
    none : composition_refusal depth 0 (mesh_part bytes) ≡ None
    none = ap (composition_refusal depth 0) (sym lines) ∙ is.good

    own-is : table ≡ own
    own-is = is.own ∙ ap (λ l. own_table depth (mesh_of l)) lines
      where
        mesh_of : List (List (List ℕ)) → ObjMesh
        mesh_of l = mesh_of_lines l 0

    answer-is : answer ≡ answer-by (stored_fault (length (mesh_part bytes)) own (read_table (table_part bytes)))
    answer-is = ap (λ r. answer-by (fault-by r (read_table (table_part bytes)))) none

    pub table-refused : (stored : List ℕ) (count : ℕ) (fault : FarFault) → stored ≡ table_part bytes → count ≡ length (mesh_part bytes)
        → ((other : tables.Table) → IsFound (fault_of fault) (stored_fault count other (read_table stored))) → IsFound (fault_of fault) answer.refusal
    table-refused stored count fault part many found =
        subst (λ (a : Answer). IsFound (fault_of fault) a.refusal) (sym answer-is)
        (subst (IsFound (fault_of fault)) (sym (unless-none (stored_fault (length (mesh_part bytes)) own (read_table (table_part bytes))) (agreement_line (length own.rows))))
        (subst (λ n. IsFound (fault_of fault) (stored_fault n own (read_table (table_part bytes)))) many
        (subst (λ t. IsFound (fault_of fault) (stored_fault count own (read_table t))) part (found own))))

    compared-is : (stored : List ℕ) (other : tables.Table) → stored ≡ table_part bytes → IsWhole stored other → answer ≡ compared other own
    compared-is stored other part whole =
        answer-is ∙ ap (λ reading. answer-by (stored_fault (length (mesh_part bytes)) own reading)) (ap read_table (sym part) ∙ whole)

    pub compared-answer : (stored : List ℕ) (other : tables.Table) (r : Result Reply FarFault) → stored ≡ table_part bytes → IsWhole stored other
        → IsAnswerOf (compared other table) r → IsAnswerOf answer r
    compared-answer stored other r part whole found =
        subst (λ a. IsAnswerOf a r) (ap (compared other) own-is ∙ sym (compared-is stored other part whole)) found

    pub agreement-rows : (r : Result Reply FarFault) → IfOk r (λ reply. reply ≡ Agreement (length table.rows)) → IfOk r (HasNumbers (Verify depth) bytes)
    agreement-rows r rows = subst (λ (t : tables.Table). IfOk r (λ reply. reply ≡ Agreement (length t.rows))) own-is rows

-- a fault has no numbers of a reply
pub no-numbers : {X : Type 0} (P : X → Type 0) (r : Result X FarFault) → IsErr r → IfOk r P
no-numbers P (Ok x) err = absurd (cc)
no-numbers P (Err fault) err = tt

-- The steps of a comparison are those of composing the table.
pub verify-steps : {T E : Type 0} (r : Result T E) (bytes text : List ℕ) (depth old new : ℕ) → obj_lines text ≡ mesh_part bytes → old ≤ new
    → new ≤ old + level_faces_to depth (text_mesh text) → StepsTaken r old new 0 (level_faces_to depth (mesh_before_table bytes))
verify-steps r bytes text depth old new lines later most = by r
  where
    limit : new ≤ old + level_faces_to depth (mesh_before_table bytes)
    limit = subst (λ l. new ≤ old + level_faces_to depth (mesh_of_lines l 0)) lines most

    by : {T E : Type 0} (r : Result T E) → StepsTaken r old new 0 (level_faces_to depth (mesh_before_table bytes))
    by (Ok x) = record { least = omega (arith, later); most = limit; later = later }
    by (Err e) = record { least = tt; most = limit; later = later }

-- The composed table of a mesh is its own.
module _ (text : List ℕ) (mesh : ObjMesh) (read : IsMeshText text 0 mesh) (depth : ℕ) where
  pub own-composed : (composed : ComposedChannel) → IsComposedOf mesh depth composed → IsOwn text depth composed.table
  own-composed composed is = record {
    good = composition-refusal depth 0 text mesh read ∙ is.good;
    own = table-own mesh depth composed is ∙ ap (own_table depth) read.mesh_is;
  }

  pub own-steps : {T E : Type 0} (r : Result T E) (old new : ℕ) → old ≤ new → new ≤ old + level_faces_to depth mesh → StepsTaken r old new 0 (level_faces_to depth (text_mesh text))
  own-steps r old new later most = by r
    where
      limit : new ≤ old + level_faces_to depth (text_mesh text)
      limit = subst (λ m. new ≤ old + level_faces_to depth m) read.mesh_is most

      by : {T E : Type 0} (r : Result T E) → StepsTaken r old new 0 (level_faces_to depth (text_mesh text))
      by (Ok x) = record { least = omega (arith, later); most = limit; later = later }
      by (Err e) = record { least = tt; most = limit; later = later }
