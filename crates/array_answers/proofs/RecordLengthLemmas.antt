-- The line of a fault has at most 128 bytes.
use Rattle.std.proofs.Common.{ℕ, ◌+◌, ◌^◌, ◌<◌, ◌≤◌, List, ◌++◌, length, length-append, codes, arith, lit≤, subst}
use Rattle.std.proofs.lemmas.Fmt.{length-decimal-le}
use Rattle.number_laws.proofs.DecimalLemmas.{decimal-number_text}
use Rattle.subdiv_model.specs.NumberText.{number_text}
use Rattle.subdiv_model.specs.ObjFault.{ObjCause, BadNumeral, NumberRange, UnknownKeyword, Continuation, ShortLine, BadCorner, IndexRange, BadTag, TagIndex, SharpnessRange, MoveIndex, TooFine, LongLine}
use Rattle.subdiv_model.specs.MeshFault.{FaceTooSmall, RepeatedVertex, NonManifoldEdge, WindingClash, SplitVertex}
use Rattle.subdiv_model.specs.TableFault.{TableCause, Form, Range, Sum, Count}
use Rattle.subdiv_model.specs.Fault.{Points, Faces, FaceSize, Valence, LevelFaces, Entries, LimitEntries, PatchEntries, Track, Positions, Texture, LimitRows, Patch, Dart, SemiSharp, OverflowKind, ChaikinOverflow, TransitionOverflow, DenominatorOverflow, ValueOverflow, NoFace, NotRegular, NoCorner, IsHole, Fault, Usage, Read, Long, Obj, Mesh, TooLarge, Overflow, Limit, Place, Table, Differs, Controls, Write, Memory, cause_text, table_cause_text, track_text, kind_text, fault_text, fault_line}
use Rattle.array_answers.specs.RecordRange.{IsInRange}

number-short : (n : ℕ) → n < 2 ^ 64 → length (number_text n) ≤ 20
number-short n fits =
    let wide : n < 10 ^ 64 = omega arith in
    let digits : n < 10 ^ 20 = omega arith in
    subst (λ text. length text ≤ 20) (decimal-number_text n wide) (length-decimal-le 20 n (lit≤ tt) digits fits)

about : (before number after : List ℕ) → length number ≤ 20 → length before + length after ≤ 60 → length (before ++ (number ++ after)) ≤ 120
about before number after short words = omega (arith, length-append {A = ℕ})

about-two : (before first middle second after : List ℕ) → length first ≤ 20 → length second ≤ 20 → length before + length middle + length after ≤ 60
    → length (before ++ (first ++ (middle ++ (second ++ after)))) ≤ 120
about-two before first middle second after short also words = omega (arith, length-append {A = ℕ})

about-level : (before middle number after : List ℕ) → length number ≤ 20 → length before ≤ 20 → length middle + length after ≤ 60
    → length (before ++ (middle ++ (number ++ after))) ≤ 120
about-level before middle number after short named words = omega (arith, length-append {A = ℕ})

cause-short : (cause : ObjCause) → length (codes "line ") + length (codes ": " ++ cause_text cause) ≤ 60
cause-short BadNumeral = lit≤ tt
cause-short NumberRange = lit≤ tt
cause-short UnknownKeyword = lit≤ tt
cause-short Continuation = lit≤ tt
cause-short ShortLine = lit≤ tt
cause-short BadCorner = lit≤ tt
cause-short IndexRange = lit≤ tt
cause-short BadTag = lit≤ tt
cause-short TagIndex = lit≤ tt
cause-short SharpnessRange = lit≤ tt
cause-short MoveIndex = lit≤ tt
cause-short TooFine = lit≤ tt
cause-short LongLine = lit≤ tt

table-cause-short : (cause : TableCause) → length (codes "line ") + length (codes ": " ++ table_cause_text cause) ≤ 60
table-cause-short Form = lit≤ tt
table-cause-short Range = lit≤ tt
table-cause-short Sum = lit≤ tt
table-cause-short Count = lit≤ tt

track-short : (track : Track) → length (track_text track) ≤ 20
track-short Positions = lit≤ tt
track-short Texture = lit≤ tt
track-short LimitRows = lit≤ tt
track-short Patch = lit≤ tt

kind-short : (kind : OverflowKind) → length (codes " level ") + length (codes ": " ++ (kind_text kind ++ codes " overflow")) ≤ 60
kind-short ChaikinOverflow = lit≤ tt
kind-short TransitionOverflow = lit≤ tt
kind-short DenominatorOverflow = lit≤ tt
kind-short ValueOverflow = lit≤ tt

word-short : (n : ℕ) → n < 2 ^ 32 → length (number_text n) ≤ 20
word-short n fits = number-short n (omega arith)

text-short : (fault : Fault) → IsInRange fault → length (fault_text fault) ≤ 120
text-short (Usage word) fits = about (codes "word ") (number_text word) (codes " is not understood") (word-short word fits) (lit≤ tt)
text-short Read fits = lit≤ tt
text-short Long fits = lit≤ tt
text-short (Obj fault) fits = about (codes "line ") (number_text fault.line) (codes ": " ++ cause_text fault.cause) (word-short fault.line fits) (cause-short fault.cause)
text-short (Mesh (FaceTooSmall face)) fits = about (codes "face ") (number_text face) (codes " has fewer than three corners") (word-short face fits) (lit≤ tt)
text-short (Mesh (RepeatedVertex face)) fits = about (codes "face ") (number_text face) (codes " repeats a vertex") (word-short face fits) (lit≤ tt)
text-short (Mesh (NonManifoldEdge a b)) fits =
    about-two (codes "edge ") (number_text a) (codes " ") (number_text b) (codes " has more than two faces") (word-short a fits.0) (word-short b fits.1) (lit≤ tt)
text-short (Mesh (WindingClash a b)) fits =
    about-two (codes "edge ") (number_text a) (codes " ") (number_text b) (codes " is used twice in one direction") (word-short a fits.0) (word-short b fits.1) (lit≤ tt)
text-short (Mesh (SplitVertex v)) fits = about (codes "vertex ") (number_text v) (codes " joins more than one fan") (word-short v fits) (lit≤ tt)
text-short (TooLarge (Points count)) fits = omega (arith, length-append {A = ℕ} (codes "too many points: ") (number_text count), number-short count fits)
text-short (TooLarge (Faces count)) fits = omega (arith, length-append {A = ℕ} (codes "too many faces: ") (number_text count), number-short count fits)
text-short (TooLarge (FaceSize face size)) fits =
    about-two (codes "face ") (number_text face) (codes " has ") (number_text size) (codes " corners") (word-short face fits.0) (number-short size fits.1) (lit≤ tt)
text-short (TooLarge (Valence v count)) fits =
    about-two (codes "vertex ") (number_text v) (codes " has ") (number_text count) (codes " edges") (word-short v fits.0) (number-short count fits.1) (lit≤ tt)
text-short (TooLarge (LevelFaces level count)) fits =
    about-two (codes "level ") (number_text level) (codes " has ") (number_text count) (codes " faces") (word-short level fits.0) (number-short count fits.1) (lit≤ tt)
text-short (TooLarge (Entries level)) fits = about (codes "level ") (number_text level) (codes " has too many entries") (word-short level fits) (lit≤ tt)
text-short (TooLarge LimitEntries) fits = lit≤ tt
text-short (TooLarge PatchEntries) fits = lit≤ tt
text-short (Overflow track level kind) fits =
    about-level (track_text track) (codes " level ") (number_text level) (codes ": " ++ (kind_text kind ++ codes " overflow"))
    (word-short level fits) (track-short track) (kind-short kind)
text-short (Limit (Dart v)) fits = about (codes "vertex ") (number_text v) (codes " is a dart") (word-short v fits) (lit≤ tt)
text-short (Limit (SemiSharp v)) fits = about (codes "vertex ") (number_text v) (codes " is semi-sharp") (word-short v fits) (lit≤ tt)
text-short (Place (NoFace count)) fits = about (codes "there are ") (number_text count) (codes " faces") (word-short count fits) (lit≤ tt)
text-short (Place (NotRegular face)) fits = about (codes "face ") (number_text face) (codes " is not a regular inner face") (word-short face fits) (lit≤ tt)
text-short (Place (NoCorner count)) fits = about (codes "the face has ") (number_text count) (codes " corners") (word-short count fits) (lit≤ tt)
text-short (Place (IsHole face)) fits = about (codes "face ") (number_text face) (codes " is a hole") (word-short face fits) (lit≤ tt)
text-short (Table fault) fits = about (codes "line ") (number_text fault.line) (codes ": " ++ table_cause_text fault.cause) (word-short fault.line fits) (table-cause-short fault.cause)
text-short (Differs place) fits = about (codes "row ") (number_text place) (codes " differs") (word-short place fits) (lit≤ tt)
text-short (Controls count) fits = omega (arith, length-append {A = ℕ} (number_text count) (codes " control points given"), word-short count fits)
text-short Write fits = lit≤ tt
text-short Memory fits = lit≤ tt

around : (text : List ℕ) → length text ≤ 120 → length (codes "far: " ++ (text ++ codes "\n")) ≤ 128
around text short = omega (arith, length-append {A = ℕ} (codes "far: ") (text ++ codes "\n"), length-append {A = ℕ} text (codes "\n"))

pub line-short : (fault : Fault) → IsInRange fault → length (fault_line fault) ≤ 128
line-short fault fits = around (fault_text fault) (text-short fault fits)
