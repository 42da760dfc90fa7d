-- The bytes that a stream has taken, the text that it has written, and its end.
use Rattle.std.specs.Prelude.{ℕ, ◌≡◌, ◌≢◌, ◌+◌, ◌≤◌, ◌⊎◌, true, false, List, ◌++◌, length, Option, Some, None}
use Rattle.far_io.specs.Bytes.{Rose, Took, TookPrefix, TookMore, Added, IsDry}
use Rattle.far_io.specs.declared.source.Source.{Ghosts as Source}
use Rattle.far_io.specs.declared.sink.Sink.{Ghosts as Sink}
use Rattle.subdiv_model.specs.Fault.{Fault, Usage, Read, Long, Write, Memory}
use Rattle.far_model.specs.Stream.{LineRule, answer_so_far, answer_of_lines}
use Rattle.far_model.specs.Answer.{byte_limit}
use Rattle.stream_laws.specs.Handled.{has_lf, are_lines, text_of_lines}
use Rattle.stream_laws.specs.Laws.{answer_with}

-- closed lines were taken from a source, with bytes after them; this number of bytes may still come
pub record TookLines {S : Type 0} (source : Source S) (s s' : S) (lines : List (List ℕ)) (pending : List ℕ) (allowed : ℕ) : Type 0 where
  pub closed : are_lines lines ≡ true
  pub took : Took (source.left s) (source.left s') (text_of_lines lines ++ pending)
  pub counted : allowed + length (text_of_lines lines ++ pending) ≡ byte_limit
  pub later : source.faults s ≤ source.faults s'

-- all bytes of a source were taken: closed lines, and a last line without a line feed
pub record TookAll {S : Type 0} (source : Source S) (s s' : S) (lines : List (List ℕ)) (last : List ℕ) : Type 0 where
  pub closed : are_lines lines ≡ true
  pub plain : has_lf last ≡ false
  pub took : Took (source.left s) (source.left s') (text_of_lines lines ++ last)
  pub dry : IsDry (source.left s')
  pub short : length (text_of_lines lines ++ last) ≤ byte_limit
  pub later : source.faults s ≤ source.faults s'

-- a text was appended to a sink
pub record IsWritten {K : Type 0} (sink : Sink K) (k k' : K) (text : List ℕ) : Type 0 where
  pub added : Added (sink.held k) (sink.held k') text
  pub later : sink.faults k ≤ sink.faults k'
  pub fixed : sink.fixed k' ≡ sink.fixed k

-- The end of a stream after it wrote a text, with any outcome but Write.
pub record IsEnd {S : Type 0} (source : Source S) (rule : LineRule) (s s' : S) (text : List ℕ) (outcome : Option Fault) : Type 0 where
  -- the text and the outcome are the answer to all bytes
  pub answer : (bytes : List ℕ) → source.left s ≡ Some bytes
      → (answer_of_lines rule byte_limit bytes ≡ answer_with text outcome) ⊎ ((outcome ≡ Some Read) ⊎ (outcome ≡ Some Memory))
  pub so_far : outcome ≡ Some Read → (bytes : List ℕ) × Took (source.left s) (source.left s') bytes × (answer_so_far rule bytes ≡ answer_with text None)
  pub read : outcome ≡ Some Read → Rose (source.faults s) (source.faults s')
  pub whole : outcome ≡ None → IsDry (source.left s')
  pub long : outcome ≡ Some Long → TookMore byte_limit (source.left s) (source.left s')
  pub not_usage : (word : ℕ) → outcome ≢ Some (Usage word)
  pub not_write : outcome ≢ Some Write
  pub taken : TookPrefix (source.left s) (source.left s')
  pub later : source.faults s ≤ source.faults s'
