-- The result of writing the text of the rows of a table: it fits, or it is longer.
use Rattle.std.proofs.Common.{◌≡◌, ℕ, ◌-◌, ◌^◌, ◌<◌, ◌≤◌, Bool, true, false, nat_le, List, ◌++◌, length, take, drop, inl, inr, arith, append-nil, ap, sym, ◌∙◌, leb-true, if◌then◌else◌}
use Rattle.std.proofs.lemmas.Bool.{leb-false}
use Rattle.std.proofs.lemmas.List.{take_all, drop_all}
use Rattle.subdiv_model.specs.Table.{Table}
use Rattle.subdiv_model.specs.TableText.{text_of_table}
use Rattle.memory_streams.specs.Text.{IsStored, count_of}
use Rattle.array_answers.specs.declared.record.FaultRecord.{FaultRecord}
use Rattle.table_arrays.specs.Rows.{IsTableOf}
use Rattle.table_arrays.specs.declared.exact_rows.ExactRows.{ExactRows}
use Rattle.far_c.specs.Stored.{AnswersWrite, IsCut, IsWritten}

-- a text fits, or it is longer
fitting : (text old new : List ℕ) (written : ℕ) → length old < 2 ^ 64 - 1 → written ≡ count_of text → IsStored text old new → written ≤ length old
    → IsWritten text old new written
fitting text old new written short counted stored fits =
    let whole : written ≡ length text = omega arith in
    record {
      fits = omega arith;
      bytes = stored ∙ ap (λ front. front ++ drop (length text) old) (take_all (length old) text (omega arith));
      counted = whole;
    }

cut : (text old new : List ℕ) (written : ℕ) → written ≡ count_of text → IsStored text old new → length old < written → IsCut text old new written
cut text old new written counted stored more =
    let none = drop_all (length text) old (omega arith) in
    record {
      longer = omega arith;
      bytes = stored ∙ ap (λ rest. take (length old) text ++ rest) none ∙ append-nil (take (length old) text);
      counted = counted;
    }

pub write-answered : (rows : ExactRows) (fault : FaultRecord) (old new : List ℕ) (made : Table) (written : ℕ) (fits : Bool) (status : ℕ) → length old < 2 ^ 64 - 1
    → IsTableOf rows made → written ≡ count_of (text_of_table made) → IsStored (text_of_table made) old new → fits ≡ nat_le written (length old) → status ≡ (if fits then 0 else 1)
    → AnswersWrite rows status written old new fault
write-answered rows fault old new made written true status short is counted stored within done =
    inl (done, record { made = made; is = is; holds = fitting (text_of_table made) old new written short counted stored (leb-true written (length old) (sym within)) })
write-answered rows fault old new made written false status short is counted stored within done =
    inr (inl (done, record { made = made; is = is; holds = cut (text_of_table made) old new written counted stored (leb-false written (length old) (sym within)) }))
