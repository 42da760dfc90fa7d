-- The number of corners of all faces together.
use Rattle.std.proofs.Common.{◌≡◌, ℕ, ◌+◌, ◌-◌, List, [], ◌∷◌, length, map, get_or, arith, ap, sym, ◌∙◌}
use Rattle.std.specs.List.{sum, sum_by, range_with_len}
use Rattle.std.proofs.lemmas.List.{get_or-map, get_or_default, length-map}
use Rattle.std.proofs.lemmas.Simd.{map-map}
use Rattle.std.proofs.lemmas.List.FromFn.{fill_by_all}
use Rattle.std.proofs.lemmas.List.Sums.{sum_by-cons, sum-map}
use Rattle.subdiv_model.specs.SparseText.{WrittenFace, WrittenLevel}
use Rattle.level_topology.specs.Packed.{pieces, Ascend}
use Rattle.level_topology.proofs.PieceLemmas.{gaps-pieces}
use Rattle.sparse_level.specs.Numbers.{NumberedFaces}
use Rattle.sparse_level.specs.Faces.{written_at, written_of}
use Rattle.sparse_level.specs.declared.kind.FaceKind.{FaceKind}

-- the pieces have the items between the first place and the last
pub pieces-count : (first : ℕ) (starts corners : List ℕ) → Ascend (first ∷ starts) (length corners) →
    sum_by length (pieces (first ∷ starts) corners) + first ≡ get_or (first ∷ starts) (length starts) 0
pieces-count first [] corners a = omega arith
pieces-count first (next ∷ starts) corners a =
    let here : next - first ≡ length (get_or (pieces (first ∷ next ∷ starts) corners) 0 []) = ap (λ (l : List ℕ). get_or l 0 0) (gaps-pieces (first ∷ next ∷ starts) corners a) in
    omega (arith, here, a.0, pieces-count next starts corners a.1, sum_by-cons length (get_or (pieces (first ∷ next ∷ starts) corners) 0 []) (pieces (next ∷ starts) corners))

-- the pieces of all places have the items between the first place and the last
pub all-pieces-count : (starts corners : List ℕ) (at first last : ℕ) → Ascend starts (length corners) → at ≡ length starts - 1 → first ≡ get_or starts 0 first → last ≡ get_or starts at last →
    sum_by length (pieces starts corners) + first ≡ last
all-pieces-count [] corners at first last a e f g = absurd a
all-pieces-count (start ∷ starts) corners at first last a e f g =
    let end : at ≡ length starts = omega (arith, e) in
    let ending : get_or (start ∷ starts) (length starts) last ≡ get_or (start ∷ starts) (length starts) 0 = get_or_default (start ∷ starts) (length starts) last 0 (omega arith) in
    omega (arith, pieces-count start starts corners a, f, g, ap (λ n. get_or (start ∷ starts) n last) end, ending)

-- the faces that are kept have the corners that are kept
pub corners-count : (kinds : List FaceKind) (numbers : List ℕ) (corners : NumberedFaces) (level : WrittenLevel) → written_of kinds numbers corners ≡ level →
    length corners.faces ≡ length kinds → sum_by length corners.faces ≡ sum_by (λ face. length face.corners) level.faces
corners-count kinds numbers corners level view listed =
    let n : ℕ = length kinds in
    let size : WrittenFace → ℕ = λ face. length face.corners in
    let sizes : map length corners.faces ≡ map (λ f. length (get_or corners.faces f [])) (range_with_len 0 n) =
    fill_by_all (λ f. length (get_or corners.faces f [])) (map length corners.faces) n 0 (length-map corners.faces length ∙ listed)
    (λ f h. get_or-map length corners.faces f [] 0 (omega (arith, h, listed))) in
    sym (sum-map length corners.faces) ∙ ap sum sizes ∙ ap sum (sym (map-map size (written_at kinds numbers corners) (range_with_len 0 n)))
    ∙ sum-map size (map (written_at kinds numbers corners) (range_with_len 0 n)) ∙ ap (λ (l : WrittenLevel). sum_by size l.faces) view
