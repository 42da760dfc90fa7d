-- The results of evaluating a stored table over the points of the text behind it.
use Rattle.std.proofs.Common.{◌≡◌, ℕ, zero, suc, ◌+◌, ◌<◌, ◌≤◌, ℤ, pos, ◌+ℤ◌, ◌*ℤ◌, List, [], ◌∷◌, ◌++◌, map, get_or, Option, Some, None, Result, Ok, Err, IsErr, IsErrAnd, IsOkAnd, IfOk, OnOk, MatchResult, arith, refl, ap, sym, subst, ◌∙◌}
use Rattle.std.specs.List.{All, AllByRecursion, flat_map}
use Rattle.std.proofs.lemmas.List.Elements.{recursion_from_All}
use Rattle.subdiv_model.specs.Fault.{Fault}
use Rattle.subdiv_model.specs.ObjMesh.{ObjMesh}
use Rattle.subdiv_model.specs.ReadObj.{read_obj_fault, read_obj_mesh}
use Rattle.subdiv_model.specs.ReadTable.{Reading, read_table}
use Rattle.subdiv_model.specs.Refined.{over_common, point_value, points_of_coordinates}
use Rattle.subdiv_model.specs.Table.{Share, Row, Table, entries_of}
use Rattle.subdiv_model.specs.TableFault.{TableFault}
use Rattle.subdiv_model.specs.Text.{point_line}
use Rattle.subdiv_model.specs.Value.{Value}
use Rattle.far_model.specs.Answer.{answer_of_apply}
use Rattle.far_model.specs.Command.{Apply}
use Rattle.far_model.specs.Refusal.{Answer, answer_unless}
use Rattle.far_model.specs.Stored.{control_fault, points_text, row_value, sum_over, table_coordinates}
use Rattle.raw_mesh.specs.View as reader
use Rattle.ratio128.specs.StepsTaken.{StepsTaken}
use Rattle.ratio128.specs.declared.point.Point3.{Point3}
use Rattle.ratio128.specs.declared.valued.Valued.{Valued}
use Rattle.primvar_refine.specs.View.{rows_of}
use Rattle.stencil_factory.specs.Rows.{share_sum, row_values, AreSameValues}
use Rattle.channel_refine.specs.Evaluated.{CanEvaluate}
use Rattle.channel_refine.specs.Evaluated as evaluation
use Rattle.channel_refine.proofs.ValueLemmas.{dens-of-rows}
use Rattle.far_text.specs.Lines.{valued_line}
use Rattle.far_text.specs.Points.{CanBeWritten, HasDenominators, points_of}
use Rattle.far_text.specs.declared.reply.Reply.{Reply}
use Rattle.far_text.specs.declared.reply.Reply.TheVariants.{Points}
use Rattle.far_text.specs.declared.stored.TablePoints.{TablePoints}
use Rattle.far_text.proofs.SameTextLemmas.{points-same, written-denominators}
use Rattle.far_fault.specs.View.{fault_of}
use Rattle.far_fault.specs.declared.fault.FarFault.{FarFault}
use Rattle.mesh_answers.specs.Refusals.{IsFound}
use Rattle.mesh_answers.proofs.PointLemmas.{numbers}
use Rattle.mesh_answers.proofs.PointTableLemmas.{IsPointTable, can-evaluate-points, can-write, dens-are, same-as-values, value-denominators}
use Rattle.table_answers.specs.Answers.{IsAnswerOf, IsEvaluable, IsOver, IsOverRead, IsReplyOf, IsStoredAnswer, answer_behind, entries_read, evaluated}

pub unless-refusal : (fault : Option Fault) (text : List ℕ) → (answer_unless fault text).refusal ≡ fault
unless-refusal None text = refl
unless-refusal (Some fault) text = refl

-- the values of the rows are those of the definitions
sums-same : (controls : List ℤ) (shares : List Share) → sum_over controls shares ≡ share_sum controls shares
sums-same controls [] = refl
sums-same controls (share ∷ shares) = ap (λ sum. pos share.1 *ℤ get_or controls share.0 (pos 0) +ℤ sum) (sums-same controls shares)

abbrev values_by : List Row → List ℤ → List Value
values_by rows controls = map (λ row. row_value controls row) rows

values-same : (rows : List Row) (controls : List ℤ) → values_by rows controls ≡ map (λ row. record { num = share_sum controls row.shares; den = row.den }) rows
values-same [] controls = refl
values-same (row ∷ rows) controls =
    ap (λ n. record { num = n; den = row.den } ∷ values_by rows controls) (sums-same controls row.shares)
    ∙ ap (λ values. record { num = share_sum controls row.shares; den = row.den } ∷ values) (values-same rows controls)

values-above : (rows : List Row) (controls : List ℤ) → AllByRecursion (λ row. 0 < row.den) rows → (p : ℕ) → 0 < (point_value (values_by rows controls) p).den
values-above [] controls above p = omega arith
values-above (row ∷ rows) controls above zero = above.0
values-above (row ∷ rows) controls above (suc p) = values-above rows controls above.1 p

rows-over : (common : ℕ) (controls : List ℤ) (rows : List Row) → map (λ row. over_common common (row_value controls row)) rows ≡ map (over_common common) (values_by rows controls)
rows-over common controls [] = refl
rows-over common controls (row ∷ rows) = ap (λ values. over_common common (row_value controls row) ∷ values) (rows-over common controls rows)

-- A table that can be evaluated over the points of a mesh.
module _ (table : Table) (mesh : ObjMesh) (is : IsEvaluable table mesh) where
  abbrev value_of : List ℤ → List Value
  value_of controls = values_by table.rows controls

  same-values : (controls : List ℤ) → AreSameValues (value_of controls) (row_values table controls)
  same-values controls =
      subst (λ values. AreSameValues (value_of controls) values) (values-same table.rows controls)
      (record { count = refl; same = λ p h. refl })

  coordinates-are : (controls : List ℤ) → table_coordinates table mesh.common controls ≡ map (over_common mesh.common) (value_of controls)
  coordinates-are controls = rows-over mesh.common controls table.rows

  points-are : (xs ys zs : List ℤ) → flat_map (point_line None) (points_of_coordinates (table_coordinates table mesh.common xs) (table_coordinates table mesh.common ys) (table_coordinates table mesh.common zs))
      ≡ flat_map (point_line None) (points_of_coordinates (map (over_common mesh.common) (value_of xs)) (map (over_common mesh.common) (value_of ys)) (map (over_common mesh.common) (value_of zs)))
  points-are xs ys zs =
      let text : List Value → List Value → List Value → List ℕ = λ x y z. flat_map (point_line None) (points_of_coordinates x y z) in
      ap (λ x. text x (table_coordinates table mesh.common ys) (table_coordinates table mesh.common zs)) (coordinates-are xs)
      ∙ ap (λ y. text (map (over_common mesh.common) (value_of xs)) y (table_coordinates table mesh.common zs)) (coordinates-are ys)
      ∙ ap (λ z. text (map (over_common mesh.common) (value_of xs)) (map (over_common mesh.common) (value_of ys)) z) (coordinates-are zs)

  point-table : IsPointTable mesh value_of table
  point-table = record { controls = is.controls; same = λ controls each. same-values controls; made = is.made; fits = is.fits }

  above : (controls : List ℤ) (p : ℕ) → 0 < (point_value (value_of controls) p).den
  above controls p = values-above table.rows controls (recursion_from_All (λ row. 0 < row.den) table.rows (λ k d h. (is.made.rows k d h).positive)) p

  module _ (points : List Point3) (said : map reader.point_of points ≡ mesh.points) where
    pub evaluates : CanEvaluate table (map numbers points)
    evaluates = can-evaluate-points mesh value_of table point-table points said

    module _ (common : 0 < mesh.common) (values : List (Valued Point3)) (made : rows_of numbers values ≡ evaluation.evaluated table (map numbers points)) where
      written : All (CanBeWritten mesh.common) values
      written = can-write mesh value_of table point-table points said values made common

      lines-are : (list : List (Valued Point3)) → flat_map (valued_line None mesh.common) list ≡ flat_map (point_line None) (points_of mesh.common list)
      lines-are [] = refl
      lines-are (value ∷ list) = ap (λ lines. valued_line None mesh.common value ++ lines) (lines-are list)

      text-is : flat_map (valued_line None mesh.common) values ≡ points_text table mesh
      text-is =
          lines-are values
          ∙ sym (points-are (map (λ p. p.0) mesh.points) (map (λ p. p.1) mesh.points) (map (λ p. p.2) mesh.points)
          ∙ points-same None _ (points_of mesh.common values)
          (recursion_from_All HasDenominators _ (value-denominators mesh value_of table point-table points said values made above common))
          (recursion_from_All HasDenominators _ (written-denominators mesh.common values written))
          (same-as-values mesh value_of table point-table points said values made above))

      answer-is : evaluated table mesh ≡ record { text = points_text table mesh; refusal = None }
      answer-is = ap (λ fault. answer_unless fault (points_text table mesh)) is.good

      -- the points are over the denominators of the table and the common one of the mesh
      pub over-is : (reply : TablePoints) → reply.values.items ≡ values → reply.common ≡ mesh.common → IsOver table mesh (Points reply)
      over-is reply same over = (
        ap (λ list. map (λ value. value.den) list) same ∙ dens-of-rows numbers values ∙ dens-are mesh value_of table point-table points said values made,
        over,
      )

      pub reply-is : (reply : TablePoints) → reply.values.items ≡ values → reply.common ≡ mesh.common → IsReplyOf (evaluated table mesh) (Points reply)
      reply-is reply same over = record {
        good = ap (λ (a : Answer). a.refusal) answer-is;
        says =
            ap (λ list. flat_map (valued_line None reply.common) list) same
            ∙ ap (λ n. flat_map (valued_line None n) values) over
            ∙ text-is
            ∙ sym (ap (λ (a : Answer). a.text) answer-is);
        put = subst (λ n. All (CanBeWritten n) reply.values.items) (sym over) (subst (All (CanBeWritten mesh.common)) (sym same) written);
      }

-- if the values were found, they are the reply, with what they say of it
pub points-replied : {X E : Type 0} (Q : Reply → Type 0) (found : Result X E) (r : Result Reply E) (made : X → TablePoints) (P : X → Type 0)
    → MatchResult found (λ x. IsOkAnd r (λ reply. reply ≡ Points (made x))) (λ fault. r ≡ Err fault) → IfOk found P
    → ((x : X) → P x → Q (Points (made x))) → IfOk r Q
points-replied Q (Ok x) (Ok reply) made P same p answers = subst Q (sym same) (answers x p)
points-replied Q (Ok x) (Err fault) made P same p answers = absurd same
points-replied Q (Err fault) r made P same p answers = subst (λ r. IfOk r Q) (sym same) tt

-- the evaluation takes a step for each entry
pub points-taken : {X Y E : Type 0} (table : Table) (found : Result X E) (r : Result Y E) (Made : X → Y → Type 0) (old new : ℕ)
    → MatchResult found (λ x. IsOkAnd r (Made x)) (λ fault. r ≡ Err fault) → OnOk found (new ≡ old + entries_of table.rows)
    → new ≤ old + entries_of table.rows → old ≤ new → StepsTaken r old new (entries_of table.rows) (entries_of table.rows)
points-taken table (Ok x) (Ok y) Made old new made all most later = record { least = omega (arith, all); most = most; later = later }
points-taken table (Ok x) (Err fault) Made old new made all most later = absurd made
points-taken table (Err fault) r Made old new same all most later =
    subst (λ r. StepsTaken r old new (entries_of table.rows) (entries_of table.rows)) (sym same) (record { least = tt; most = most; later = later })

-- The answer for a text behind a table.
module _ (table : Table) (text : List ℕ) where
  pub text-refused : (fault : Fault) → IsFound fault (control_fault table (read_obj_fault text 0) (read_obj_mesh text 0)) → IsFound fault (answer_behind table text).refusal
  text-refused fault found = subst (IsFound fault) (sym (unless-refusal (control_fault table (read_obj_fault text 0) (read_obj_mesh text 0)) (points_text table (read_obj_mesh text 0)))) found

  pub text-evaluated : (mesh : ObjMesh) → read_obj_fault text 0 ≡ None → mesh ≡ read_obj_mesh text 0 → evaluated table mesh ≡ answer_behind table text
  text-evaluated mesh good same =
      ap (evaluated table) same
      ∙ sym (ap (λ fault. answer_unless (control_fault table fault (read_obj_mesh text 0)) (points_text table (read_obj_mesh text 0))) good)

-- The answer to an input is that to the text behind its table.
pub behind-table : (bytes : List ℕ) (table : Table) (rest text : List ℕ) (r : Result Reply FarFault) (old new : ℕ) → read_table bytes ≡ Ok (record { table = table; rest = rest }) → text ≡ rest
    → IsAnswerOf (answer_behind table text) r → IfOk r (IsOver table (read_obj_mesh text 0)) → StepsTaken r old new (entries_of table.rows) (entries_of table.rows)
    → IsStoredAnswer Apply bytes r old new
behind-table bytes table rest text r old new read same found over taken =
    let reading : Result Reading TableFault = Ok (record { table = table; rest = text }) in
    let here : read_table bytes ≡ reading = read ∙ ap (λ (t : List ℕ). Ok (record { table = table; rest = t })) (sym same) in
    record {
      reply = subst (λ x. IsAnswerOf (answer_of_apply x) r) (sym here) found;
      numbers = subst (λ x. IfOk r (IsOverRead x)) (sym here) over;
      steps = subst (λ x. StepsTaken r old new (entries_read x) (entries_read x)) (sym here) taken;
    }

-- an input that does not begin with a table is refused, in no step
pub no-table : (bytes : List ℕ) (r : Result Reply FarFault) (fault : FarFault) (steps : ℕ) → IsErr r → IsErrAnd r (λ g. g ≡ fault) → IsFound (fault_of fault) (answer_of_apply (read_table bytes)).refusal
    → IsStoredAnswer Apply bytes r steps steps
no-table bytes (Ok reply) fault steps err same found = absurd (cc)
no-table bytes (Err other) fault steps err same found = record {
  reply = subst (λ f. IsFound (fault_of f) (answer_of_apply (read_table bytes)).refusal) (sym same) found;
  numbers = tt;
  steps = record { least = tt; most = omega arith; later = omega arith };
}
