-- The common denominator of a channel with one more line, and where it passes its bound.
use Rattle.std.proofs.Common.{◌≡◌, ℕ, zero, suc, ◌<◌, ◌≤◌, Bool, true, false, ◌&&◌, List, [], ◌∷◌, ◌++◌, length, length-append, map, take, get_or, append-nil, Some, None, arith, refl, ap, ◌∙◌, if◌then◌else◌}
use Rattle.std.specs.List.{AllByRecursion, filter, fold}
use Rattle.std.proofs.lemmas.List.{take-append-le}
use Rattle.std.proofs.lemmas.List.Elements.{filter-append}
use Rattle.std.proofs.lemmas.Nat.Gcd.{le_of_dvd}
use Rattle.std.proofs.Math.Seq.{take-length}
use Rattle.subdiv_model.specs.Multiples.{lcm_of}
use Rattle.subdiv_model.specs.ObjFault.{NumberRange}
use Rattle.subdiv_model.specs.ReadObj.{kept_coordinates, denominator_of, common_over, passes_bound, wide_fault, long_fault, has_long_number}
use Rattle.number_laws.proofs.MultipleLemmas.{fold-lcm-multiple, fold-lcm-positive}
use Rattle.obj_laws.proofs.ObjChannelLemmas.{common-more}
use Rattle.obj_tags.specs.Line.{Line}

-- a line of another kind, and one of the channel
pub channel-other : (kind : Line → Bool) (start : ℕ) (before : List Line) (line : Line) → kind line ≡ false
    → common_over start (filter kind (before ++ line ∷ [])) ≡ common_over start (filter kind before)
channel-other kind start before line other =
    ap (common_over start) (filter-append kind before (line ∷ []) ∙ none ∙ append-nil (filter kind before))
  where
    none : filter kind before ++ filter kind (line ∷ []) ≡ filter kind before ++ []
    none = rw other refl

pub channel-more : (kind : Line → Bool) (start : ℕ) (before : List Line) (line : Line) → kind line ≡ true
    → common_over start (filter kind (before ++ line ∷ [])) ≡ fold lcm_of (common_over start (filter kind before)) (map denominator_of (kept_coordinates line))
channel-more kind start before line is =
    ap (common_over start) (filter-append kind before (line ∷ []) ∙ one)
    ∙ common-more start (filter kind before) line
  where
    one : filter kind before ++ filter kind (line ∷ []) ≡ filter kind before ++ line ∷ []
    one = rw is refl

-- a common multiple is at least where it begins
pub fold-grows : (a : ℕ) (ds : List ℕ) → 0 < a → AllByRecursion (λ d. 0 < d) ds → a ≤ fold lcm_of a ds
fold-grows a ds h all = le_of_dvd (fold-lcm-positive a ds h all) (fold-lcm-multiple a ds)

-- the line at a place, and the lines up to it, among more lines
pub get-before : (before : List Line) (line : Line) (k : ℕ) → k < length before → get_or (before ++ line ∷ []) k [] ≡ get_or before k []
get-before [] line k h = absurd (omega arith)
get-before (l ∷ before) line zero h = refl
get-before (l ∷ before) line (suc k) h = get-before before line k (omega arith)

pub get-last : (before : List Line) (line : Line) → get_or (before ++ line ∷ []) (length before) [] ≡ line
get-last [] line = refl
get-last (l ∷ before) line = get-last before line

take-last : (before : List Line) (line : Line) → take (suc (length before)) (before ++ line ∷ []) ≡ before ++ line ∷ []
take-last before line =
    let size : suc (length before) ≡ length (before ++ line ∷ []) = omega (arith, length-append before (line ∷ [])) in
    ap (λ n. take n (before ++ line ∷ [])) size ∙ take-length (before ++ line ∷ [])

pub wide-before : (kind : Line → Bool) (start : ℕ) (before : List Line) (line : Line) (k : ℕ) → k < length before
    → wide_fault kind start (before ++ line ∷ []) k ≡ wide_fault kind start before k
wide-before kind start before line k h = rw (get-before before line k h, take-append-le (suc k) before (line ∷ []) (omega arith)) refl

pub wide-last : (kind : Line → Bool) (start : ℕ) (before : List Line) (line : Line)
    → wide_fault kind start (before ++ line ∷ []) (length before)
    ≡ (if kind line && passes_bound kind start (before ++ line ∷ []) then Some NumberRange else None)
wide-last kind start before line = rw (get-last before line, take-last before line) refl

pub long-before : (kind : Line → Bool) (common : ℕ) (before : List Line) (line : Line) (k : ℕ) → k < length before
    → long_fault kind common (before ++ line ∷ []) k ≡ long_fault kind common before k
long-before kind common before line k h = rw (get-before before line k h) refl

pub long-last : (kind : Line → Bool) (common : ℕ) (before : List Line) (line : Line)
    → long_fault kind common (before ++ line ∷ []) (length before)
    ≡ (if kind line && has_long_number common line then Some NumberRange else None)
long-last kind common before line = rw (get-last before line) refl
