-- One value written into a list, and the values made after it.
use Rattle.std.proofs.Common.{◌≡◌, ℕ, ◌+◌, ◌<◌, ◌≤◌, false, ℤ, List, [], length, take, get_or, slice_set, arith, refl, ap, sym, ◌∙◌, subst, inl, inr, ◌⊎◌}
use Rattle.std.specs.List.{sum_by}
use Rattle.std.proofs.lemmas.Bool.{cases_lt}
use Rattle.std.proofs.lemmas.List.{get_or-map, length-map, take_all, map-set, length-set, get_or-set_same, get_or-set_other}
use Rattle.std.proofs.lemmas.List.Sums.{sum_by_more}
use Rattle.subdiv_model.specs.Level.{Level}
use Rattle.subdiv_model.specs.Mask.{Scheme, face_mask}
use Rattle.level_topology.specs.Child.{PointOrigin, FromVertex, FromFace, FromEdge}
use Rattle.primvar_refine.specs.Rows.{Row, row_at}
use Rattle.primvar_refine.specs.View.{row_of, rows_of}
use Rattle.child_masks.specs.Masks.{mask_from, origin_at, is_from_face}
use Rattle.primvar_refine.specs.Made.{IsMade, IsPut, AreFacesMade, AreHiddenMade, KeepDens, terms_of_other}
use Rattle.ratio128.specs.declared.valued.Valued.{Valued}

abbrev blank : Row
blank = record { numbers = []; den = 1 }

-- the row of the value is there
pub put-there : {P : Type 0} (numbers : P → List ℤ) (made : List (Valued P)) (p : ℕ) (v : Valued P) → p < length made
    → row_at (rows_of numbers (slice_set made p v)) p ≡ row_of numbers v
put-there numbers made p v inside =
    ap (λ l. row_at l p) (map-set (row_of numbers) made p v)
    ∙ get_or-set_same (rows_of numbers made) p (row_of numbers v) blank (rw length-map inside)

-- the row of the value is there, and all other rows are unchanged
pub put-is : {P : Type 0} (numbers : P → List ℤ) (made : List (Valued P)) (p : ℕ) (v : Valued P) → p < length made
    → v.den ≡ (row_at (rows_of numbers made) p).den → IsPut (rows_of numbers made) p (rows_of numbers (slice_set made p v))
put-is numbers made p v inside same = record {
  count = ap length (map-set (row_of numbers) made p v) ∙ length-set (rows_of numbers made) p (row_of numbers v);
  den = ap (λ (r : Row). r.den) (put-there numbers made p v inside) ∙ same;
  others = λ q other. ap (λ l. row_at l q) (map-set (row_of numbers) made p v) ∙ get_or-set_other (rows_of numbers made) p q (row_of numbers v) blank other;
}

-- the denominator of a row is that of the value
pub den-there : {P : Type 0} (numbers : P → List ℤ) (made : List (Valued P)) (p : ℕ) (d : Valued P) → p < length made
    → (get_or made p d).den ≡ (row_at (rows_of numbers made) p).den
den-there numbers made p d inside = ap (λ (r : Row). r.den) (sym (get_or-map (row_of numbers) made p d blank inside))

-- below, at or above a place
apart : (q p : ℕ) → (q < p) ⊎ (p ≤ q) → (q < p) ⊎ ((q ≡ p) ⊎ (p < q))
apart q p (inl less) = inl less
apart q p (inr more_than) = inr (further (cases_lt p q))
  where
    further : (p < q) ⊎ (q ≤ p) → (q ≡ p) ⊎ (p < q)
    further (inl above) = inr above
    further (inr below) = inl (omega (arith, below, more_than))

-- the denominators stay as they were at the start
pub dens-put : (start before after : List Row) (p : ℕ) → KeepDens start before → IsPut before p after → KeepDens start after
dens-put start before after p keep put = record {
  count = put.count ∙ keep.count;
  dens = λ q. at q (apart q p (cases_lt q p));
}
  where
    at : (q : ℕ) → (q < p) ⊎ ((q ≡ p) ⊎ (p < q)) → (row_at after q).den ≡ (row_at start q).den
    at q (inl less) = ap (λ (r : Row). r.den) (put.others q (λ e. omega (arith, less, e))) ∙ keep.dens q
    at q (inr (inl same)) =
        ap (λ k. (row_at after k).den) same ∙ put.den ∙ ap (λ k. (row_at before k).den) (sym same) ∙ keep.dens q
    at q (inr (inr above)) = ap (λ (r : Row). r.den) (put.others q (λ e. omega (arith, above, e))) ∙ keep.dens q

-- the next point comes from a face
pub faces-put : (level : Level) (rows : List Row) (origins : List PointOrigin) (p f : ℕ) (before after : List Row) → origin_at origins p ≡ FromFace f
    → AreFacesMade level rows origins p before → IsPut before p after → IsMade level rows (face_mask level f) (row_at after p)
    → AreFacesMade level rows origins (p + 1) after
faces-put level rows origins p f before after is made put new = record { each = λ q g below inside from. at q g below inside from (cases_lt q p) }
  where
    face-number : (g : ℕ) → FromFace g ≡ FromFace f → g ≡ f
    face-number g e = cc

    at : (q g : ℕ) → q < p + 1 → q < length origins → origin_at origins q ≡ FromFace g → (q < p) ⊎ (p ≤ q) → IsMade level rows (face_mask level g) (row_at after q)
    at q g below inside from (inl less) =
        subst (IsMade level rows (face_mask level g)) (sym (put.others q (λ e. omega (arith, less, e)))) (made.each q g less inside from)
    at q g below inside from (inr more_than) =
        let same : q ≡ p = omega (arith, below, more_than) in
        let face : g ≡ f = face-number g (sym from ∙ ap (origin_at origins) same ∙ is) in
        subst (λ k. IsMade level rows (face_mask level k) (row_at after q)) (sym face)
        (subst (λ k. IsMade level rows (face_mask level f) (row_at after k)) (sym same) new)

-- or from no face
pub faces-pass : (level : Level) (rows : List Row) (origins : List PointOrigin) (p : ℕ) (made : List Row) → is_from_face (origin_at origins p) ≡ false
    → AreFacesMade level rows origins p made → AreFacesMade level rows origins (p + 1) made
faces-pass level rows origins p made other before = record { each = λ q g below inside from. at q g below inside from (cases_lt q p) }
  where
    different : (o : PointOrigin) (g : ℕ) → o ≡ FromFace g → is_from_face o ≡ false → ⊥
    different o g e n = grind (arith, ap is_from_face e, n)

    at : (q g : ℕ) → q < p + 1 → q < length origins → origin_at origins q ≡ FromFace g → (q < p) ⊎ (p ≤ q) → IsMade level rows (face_mask level g) (row_at made q)
    at q g below inside from (inl less) = before.each q g less inside from
    at q g below inside from (inr more_than) =
        let same : q ≡ p = omega (arith, below, more_than) in
        absurd (different (origin_at origins p) g (sym (ap (origin_at origins) same) ∙ from) other)

-- one more hidden face
pub hidden-put : (level : Level) (rows : List Row) (first i : ℕ) (hidden : List ℕ) (before after : List Row)
    → AreHiddenMade level rows first hidden i before → IsPut before (first + i) after → IsMade level rows (face_mask level (get_or hidden i 0)) (row_at after (first + i))
    → AreHiddenMade level rows first hidden (i + 1) after
hidden-put level rows first i hidden before after made put new = record { each = λ k below inside. at k below inside (cases_lt k i) }
  where
    at : (k : ℕ) → k < i + 1 → k < length hidden → (k < i) ⊎ (i ≤ k) → IsMade level rows (face_mask level (get_or hidden k 0)) (row_at after (first + k))
    at k below inside (inl less) =
        subst (IsMade level rows (face_mask level (get_or hidden k 0))) (sym (put.others (first + k) (λ e. omega (arith, less, e)))) (made.each k less inside)
    at k below inside (inr more_than) =
        let same : k ≡ i = omega (arith, below, more_than) in
        subst (λ n. IsMade level rows (face_mask level (get_or hidden n 0)) (row_at after (first + n))) (sym same) new

-- no face is made yet, and those of all points are
pub none-faces : (level : Level) (rows : List Row) (origins : List PointOrigin) (made : List Row) → AreFacesMade level rows origins 0 made
none-faces level rows origins made = record { each = λ p f below inside from. absurd (omega (arith, below)) }

pub faces-all : (level : Level) (rows : List Row) (origins : List PointOrigin) (p : ℕ) (made : List Row) → length origins ≤ p
    → AreFacesMade level rows origins p made → AreFacesMade level rows origins (length origins) made
faces-all level rows origins p made past are = record { each = λ q f below inside from. are.each q f (omega (arith, past, below)) inside from }

pub hidden-all : (level : Level) (rows : List Row) (first i : ℕ) (hidden : List ℕ) (made : List Row) → length hidden ≤ i
    → AreHiddenMade level rows first hidden i made → AreHiddenMade level rows first hidden (length hidden) made
hidden-all level rows first i hidden made past are = record { each = λ k below inside. are.each k (omega (arith, past, below)) inside }

-- rows before the first stay
pub kept-put : (first i : ℕ) (start before after : List Row) → ((q : ℕ) → q < first → row_at before q ≡ row_at start q) → IsPut before (first + i) after
    → (q : ℕ) → q < first → row_at after q ≡ row_at start q
kept-put first i start before after kept put q below = put.others q (λ e. omega (arith, below, e)) ∙ kept q below

-- the terms of one more point
pub terms-more : (terms : PointOrigin → ℕ) (origins : List PointOrigin) (p : ℕ) (origin : PointOrigin) → p < length origins → origin_at origins p ≡ origin
    → sum_by terms (take (p + 1) origins) ≡ sum_by terms (take p origins) + terms origin
terms-more terms origins p origin inside is =
    sum_by_more terms origins p (FromVertex 0) inside ∙ ap (λ o. sum_by terms (take p origins) + terms o) is

-- a place is within a list with as many values
pub still-inside : {P : Type 0} (numbers : P → List ℤ) (before after : List (Valued P)) (p : ℕ) → KeepDens (rows_of numbers before) (rows_of numbers after) → p < length before
    → p < length after
still-inside numbers before after p keep inside =
    let old = length-map before (row_of numbers) in
    let new = length-map after (row_of numbers) in
    omega (arith, keep.count, old, new, inside)

-- nothing is put yet
pub none-put : (rows : List Row) → KeepDens rows rows
none-put rows = record { count = refl; dens = λ p. refl }

pub none-hidden : (level : Level) (rows : List Row) (first : ℕ) (hidden : List ℕ) (made : List Row) → AreHiddenMade level rows first hidden 0 made
none-hidden level rows first hidden made = record { each = λ i below inside. absurd (omega (arith, below)) }

-- the terms of all points are counted in the end
pub terms-all : {X : Type 0} (terms : X → ℕ) (items : List X) (p : ℕ) → length items ≤ p → sum_by terms (take p items) ≡ sum_by terms items
terms-all terms items p past = ap (sum_by terms) (take_all p items past)

-- the row of a value is at its place
pub row-there : {P : Type 0} (numbers : P → List ℤ) (values : List (Valued P)) (p : ℕ) (v : Valued P) → p < length values → v ≡ get_or values p v
    → row_of numbers v ≡ row_at (rows_of numbers values) p
row-there numbers values p v inside is = ap (row_of numbers) is ∙ sym (get_or-map (row_of numbers) values p v blank inside)

-- a point that comes from no face takes the terms of its mask
pub other-terms : (level : Level) (scheme : Scheme) (origin : PointOrigin) → is_from_face origin ≡ false → length (mask_from level scheme origin).terms ≡ terms_of_other level scheme origin
other-terms level scheme (FromVertex v) other = refl
other-terms level scheme (FromFace f) other = absurd (cc)
other-terms level scheme (FromEdge e) other = refl
