-- The current line and the bytes read after it, in a buffer of fixed length.
use Rattle.std.specs.Prelude.{ℕ, ◌≡◌, ◌+◌, ◌-◌, ◌≤◌, List, ◌++◌, length, take, drop, Result, Ok, Err}
use Rattle.far_io.specs.Bytes.{Took, IsDry, Rose}
use Rattle.far_io.specs.Lines.{HasNoLf}
use Rattle.far_io.specs.declared.source.ReadFailed.{ReadFailed}
use Rattle.far_io.specs.declared.source.Source.{Ghosts}

-- The line, the pending bytes, and the sizes of the buffer.
pub record BufferedLine : Type 0 where
  pub line : List ℕ
  pub pending : List ℕ
  -- the length of the buffer
  pub room : ℕ
  -- how many free places follow the pending bytes
  pub space : ℕ

-- The `count` bytes from place `at` on.
abbrev pub part : ℕ → ℕ → List ℕ → List ℕ
part at count bytes = take count (drop at bytes)

-- The line and the pending bytes of a buffer, given the places where they begin and their lengths.
abbrev pub buffered : (bytes : List ℕ) → (all start size from count : ℕ) → BufferedLine
buffered bytes all start size from count = record {
  line = part start size bytes;
  pending = part from count bytes;
  room = all;
  space = all - (from + count);
}

-- Both parts lie inside the buffer, and the searched pending bytes contain no LF.
pub record IsPlaced (bytes : List ℕ) (start size from count searched : ℕ) : Type 0 where
  pub line_in : start + size ≤ length bytes
  pub pending_in : from + count ≤ length bytes
  pub known : searched ≤ count
  pub plain : HasNoLf (take searched (part from count bytes))

-- One read added its bytes behind the pending ones.
pub record FillsBy {S : Type 0} (source : Ghosts S) (old new : BufferedLine) (s s' : S) (most n : ℕ) : Type 0 where
  pub bytes : List ℕ
  pub count : length bytes ≡ n
  pub few : n ≤ most
  pub took : Took (source.left s) (source.left s') bytes
  pub kept : new.pending ≡ old.pending ++ bytes
  pub end : n ≡ 0 → IsDry (source.left s')

-- The result of one read: new pending bytes, or a failure that changed nothing.
abbrev pub Fills : {S : Type 0} → Ghosts S → BufferedLine → BufferedLine → S → S → ℕ → Result ℕ ReadFailed → Type 0
Fills source old new s s' most (Ok n) = FillsBy source old new s s' most n
Fills source old new s s' most (Err _) =
    (new.pending ≡ old.pending) × (source.left s' ≡ source.left s) × Rose (source.faults s) (source.faults s')
