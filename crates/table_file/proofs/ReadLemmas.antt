-- One row more of a table that is read.
use Rattle.std.proofs.Common.{◌≡◌, ℕ, suc, ◌+◌, ◌-◌, ◌<◌, List, [], ◌∷◌, ◌++◌, length, drop, Option, Some, None, Result, Err, MatchResult, option_map, arith, ap, sym, subst, ◌∙◌, length-append, if◌then◌else◌}
use Rattle.subdiv_model.specs.ReadTable.{Header, Reading, read_rows, next_row_cause, row_words_cause, reading_unless, row_of_words, spaced_words, first_words, behind_line}
use Rattle.subdiv_model.specs.Table.{Row, entries_of}
use Rattle.subdiv_model.specs.TableFault as model
use Rattle.table_file.specs.declared.fault.TableCause.{TableCause}
use Rattle.table_file.specs.declared.fault.TableReadFault.{TableReadFault}
use Rattle.table_file.specs.declared.rows.Rows.{Rows}
use Rattle.table_file.specs.Read.{TableRead, IsLine, IsReadUpTo, IsFaultOf}
use Rattle.table_file.specs.Rows.{AreRowsWith, IsRowRead, read_on}
use Rattle.table_file.specs.View.{cause_of}

-- nothing is wrong with the next row
read-more : (header : Header) (total left : ℕ) (rows : List Row) (bytes : List ℕ) → total ≡ suc left → next_row_cause header left rows bytes ≡ None →
    read_rows header total rows bytes ≡ read_rows header left (rows ++ row_of_words (first_words bytes) ∷ []) (behind_line bytes)
read-more header total left rows bytes e none =
    ap (λ n. read_rows header n rows bytes) e
    ∙ ap (λ cause. reading_unless (length rows + 2) cause (read_rows header left (rows ++ row_of_words (first_words bytes) ∷ []) (behind_line bytes))) none

-- the next row is bad
read-bad : (header : Header) (total left : ℕ) (rows : List Row) (bytes : List ℕ) (cause : model.TableCause) → total ≡ suc left → next_row_cause header left rows bytes ≡ Some cause →
    read_rows header total rows bytes ≡ Err (record { line = length rows + 2; cause = cause })
read-bad header total left rows bytes cause e bad =
    ap (λ n. read_rows header n rows bytes) e
    ∙ ap (λ found. reading_unless (length rows + 2) found (read_rows header left (rows ++ row_of_words (first_words bytes) ∷ []) (behind_line bytes))) bad

module _ (header : Header) (rows : Rows) (bytes line : List ℕ) (at next number left limit : ℕ) (found : Option TableCause) (is : IsLine bytes at line next)
    (count : length rows.builder.table.rows ≡ number) (more : number < header.rows) (limits : header.rows ≡ limit) (behind : left ≡ limit - number - 1)
    (cause : option_map cause_of found ≡ row_words_cause header left (entries_of rows.builder.table.rows) (spaced_words line)) where
  next-cause : next_row_cause header left rows.builder.table.rows (drop at bytes) ≡ option_map cause_of found
  next-cause =
      ap (λ b. if b then row_words_cause header left (entries_of rows.builder.table.rows) (first_words (drop at bytes)) else Some model.Form) is.closed
      ∙ ap (λ l. row_words_cause header left (entries_of rows.builder.table.rows) (spaced_words l)) (sym is.whole)
      ∙ sym cause

  total : header.rows - length rows.builder.table.rows ≡ suc left
  total = omega (arith, count, more, limits, behind)

  -- the line of the next row is bad
  pub line-bad : (bad : TableCause) → found ≡ Some bad → read_on header rows (drop at bytes) ≡ Err (record { line = number + 2; cause = cause_of bad })
  line-bad bad e =
      read-bad header (header.rows - length rows.builder.table.rows) left rows.builder.table.rows (drop at bytes) (cause_of bad) total (next-cause ∙ ap (option_map cause_of) e)
      ∙ ap (λ n. Err (record { line = n + 2; cause = cause_of bad })) count

  -- the line of the next row is good, and the row was added
  pub line-good : (new : Rows) → found ≡ None → AreRowsWith header rows new (row_of_words (spaced_words line)) → IsRowRead header bytes at rows new next
  line-good new e with_row =
      let grown : length new.builder.table.rows ≡ length rows.builder.table.rows + 1 =
      ap length with_row.rows ∙ length-append rows.builder.table.rows (row_of_words (spaced_words line) ∷ []) in
      record {
        same =
            read-more header (header.rows - length rows.builder.table.rows) left rows.builder.table.rows (drop at bytes) total (next-cause ∙ ap (option_map cause_of) e)
            ∙ ap (λ l. read_rows header left (rows.builder.table.rows ++ row_of_words (spaced_words l) ∷ []) (behind_line (drop at bytes))) (sym is.whole)
            ∙ ap (λ list. read_rows header left list (behind_line (drop at bytes))) (sym with_row.rows)
            ∙ ap (λ rest. read_rows header left new.builder.table.rows rest) (sym is.behind)
            ∙ ap (λ n. read_rows header n new.builder.table.rows (drop next bytes)) (omega (arith, total, grown));
        good = with_row.good;
        count = grown;
        inside = is.inside;
      }

-- before the first row all rows are still to be read
pub no-rows : (header : Header) (rows : Rows) (bytes : List ℕ) → rows.builder.table.rows ≡ [] → read_on header rows bytes ≡ read_rows header header.rows [] bytes
no-rows header rows bytes none =
    ap (λ list. read_rows header (header.rows - length list) list bytes) none
    ∙ ap (λ n. read_rows header n [] bytes) (omega arith)

-- a claim about a reading holds for an equal one
pub same-reading : (bytes : List ℕ) (a b : Result Reading model.TableFault) (result : Result TableRead TableReadFault) → a ≡ b →
    MatchResult result (λ found. IsReadUpTo a bytes found.table found.end) (λ fault. IsFaultOf a fault) →
    MatchResult result (λ found. IsReadUpTo b bytes found.table found.end) (λ fault. IsFaultOf b fault)
same-reading bytes a b result e h =
    subst (λ (r : Result Reading model.TableFault). MatchResult result (λ found. IsReadUpTo r bytes found.table found.end) (λ fault. IsFaultOf r fault)) e h
