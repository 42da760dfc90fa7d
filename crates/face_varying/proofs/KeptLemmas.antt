-- The points that are marked, of one corner and at the boundary of the cut mesh.
use Rattle.std.proofs.Common.{◌≡◌, ◌≢◌, ℕ, ◌+◌, ◌<◌, ◌≤◌, Bool, true, false, not, ◌&&◌, ◌||◌, nat_eq, min, List, [], ◌∷◌, ◌++◌, length, map, get_or, take, slice_set, append-nil, arith, refl, ap, sym, ◌∙◌, if◌then◌else◌}
use Rattle.std.specs.List.{filter, flat_map, list_any, count_by, sum_by, range_with_len, enumerate_from}
use Rattle.std.proofs.lemmas.Bool.Decides.{nat_tests}
use Rattle.std.proofs.lemmas.Bool.{eqb-true, eqb-false}
use Rattle.std.proofs.lemmas.List.{get_or-set_same, get_or-set_other, length-set, ext_get_or, map-append}
use Rattle.std.proofs.lemmas.List.FromFn.{map-range_with_len_more, length-map-range_with_len, get_or-map-range_with_len}
use Rattle.std.proofs.lemmas.List.Sums.{sum_by-cons, count_by_more_yes, count_by_more_no}
use Rattle.std.proofs.lemmas.Grind.{flat_map-append}
use Rattle.std.proofs.lemmas.Simd.{map-map}
use Rattle.number_laws.proofs.CountLemmas.{count-append}
use Rattle.subdiv_model.specs.Polygons.{Polygon, same_edge, polygon_at}
use Rattle.subdiv_model.specs.Edges.{first_named, has_end}
use Rattle.subdiv_model.specs.Level.{Level}
use Rattle.level_topology.specs.Topology.{face_edges_of, corner_after}
use Rattle.face_varying.specs.CornerPlaces.{start_of}
use Rattle.face_varying.specs.Kept.{side_from, first_ends, ends_at, ends_before, with_ends_of, with_ends}
use Rattle.face_varying.proofs.BuiltLemmas.{range-more}

-- marks that are those of a test at each place
pub marks-are : (test : ℕ → Bool) (count : ℕ) (marks : List Bool) → length marks ≡ count → ((p : ℕ) → p < count → get_or marks p false ≡ test p) → marks ≡ map test (range_with_len 0 count)
marks-are test count marks size each =
    ext_get_or false marks (map test (range_with_len 0 count)) (size ∙ sym (length-map-range_with_len test 0 count)) (λ p h.
    each p (omega (arith, h, size)) ∙ sym (get_or-map-range_with_len test 0 count p p false (omega (arith, h, size)) (omega arith)))

-- a corner counted at its point
pub counted-at : (counts : List ℕ) (point value p : ℕ) → value ≡ min (get_or counts point 0 + 1) 255 → p < length counts
    → get_or (slice_set counts point value) p 0 ≡ (if nat_eq p point then min (get_or counts p 0 + 1) 255 else get_or counts p 0)
counted-at counts point value p is inside = go (nat_eq p point) refl
  where
    go : (b : Bool) → nat_eq p point ≡ b → get_or (slice_set counts point value) p 0 ≡ (if nat_eq p point then min (get_or counts p 0 + 1) 255 else get_or counts p 0)
    go true e =
        let same : p ≡ point = eqb-true p point e in
        rw e
        (ap (λ (k : ℕ). get_or (slice_set counts point value) k 0) same ∙ get_or-set_same counts point value 0 (omega (arith, same, inside))
        ∙ is ∙ ap (λ (k : ℕ). min (get_or counts k 0 + 1) 255) (sym same))
    go false e = rw e (get_or-set_other counts point p value 0 (eqb-false p point e))

-- none is counted at a point that is not there
pub counted-nowhere : (counts : List ℕ) (point p : ℕ) → length counts ≤ point → p < length counts
    → get_or counts p 0 ≡ (if nat_eq p point then min (get_or counts p 0 + 1) 255 else get_or counts p 0)
counted-nowhere counts point p past inside = go (nat_eq p point) refl
  where
    go : (b : Bool) → nat_eq p point ≡ b → get_or counts p 0 ≡ (if nat_eq p point then min (get_or counts p 0 + 1) 255 else get_or counts p 0)
    go true e = absurd (omega (arith, eqb-true p point e, past, inside))
    go false e = rw e refl

-- one corner more is counted
pub counted-more : (numbers : List ℕ) (i p old new : ℕ) → i < length numbers → old ≡ min (count_by (nat_eq p) (take i numbers)) 255
    → new ≡ (if nat_eq p (get_or numbers i 0) then min (old + 1) 255 else old) → new ≡ min (count_by (nat_eq p) (take (i + 1) numbers)) 255
counted-more numbers i p old new inside before is = go (nat_eq p (get_or numbers i 0)) refl
  where
    chosen : Bool → ℕ
    chosen b = if b then min (old + 1) 255 else old

    go : (b : Bool) → nat_eq p (get_or numbers i 0) ≡ b → new ≡ min (count_by (nat_eq p) (take (i + 1) numbers)) 255
    go true e =
        let now : new ≡ min (old + 1) 255 = is ∙ ap chosen e in omega (arith, now, before, count_by_more_yes (nat_eq p) numbers i 0 inside e)
    go false e =
        let now : new ≡ old = is ∙ ap chosen e in omega (arith, now, before, count_by_more_no (nat_eq p) numbers i 0 inside e)

-- a count that became 255 is not one
one-below : (n : ℕ) → nat_eq (min n 255) 1 ≡ nat_eq n 1
one-below n = grind (arith, nat_tests)

-- the points whose counts are one
pub singles-are : (numbers counts : List ℕ) (marks : List Bool) (points : ℕ) → length marks ≡ points → ((p : ℕ) → p < points → get_or counts p 0 ≡ min (count_by (nat_eq p) numbers) 255) → ((p : ℕ) → p < points → get_or marks p false ≡ nat_eq (get_or counts p 0) 1)
    → marks ≡ map (λ p. nat_eq (count_by (nat_eq p) numbers) 1) (range_with_len 0 points)
singles-are numbers counts marks points size counted each = marks-are (λ p. nat_eq (count_by (nat_eq p) numbers) 1) points marks size (λ p h. each p h ∙ ap (λ (n : ℕ). nat_eq n 1) (counted p h) ∙ one-below (count_by (nat_eq p) numbers))

-- sides after sides
with-append : (some more : List ((ℕ × ℕ) × Bool)) (marks : List Bool) → with_ends (some ++ more) marks ≡ with_ends more (with_ends some marks)
with-append [] more marks = refl
with-append (side ∷ some) more marks = with-append some more (with_ends_of side marks)

-- a side with its mark
abbrev ends : ℕ → ℕ → Bool → (ℕ × ℕ) × Bool
ends start end is_apart = ((start, end), is_apart)

-- one side more of a face
pub ends-more : (apart : List Bool) (numbers : List ℕ) (start : ℕ) (edges : List ℕ) (c after first last : ℕ) (b : Bool) (old now new : List Bool) → first ≡ get_or numbers (start + c) 0 → after ≡ corner_after (length edges) c
    → last ≡ get_or numbers (start + after) 0 → b ≡ get_or apart (get_or edges c 0) false → now ≡ with_ends (first_ends apart numbers start edges c) old → new ≡ with_ends_of ((first, last), b) now
    → new ≡ with_ends (first_ends apart numbers start edges (c + 1)) old
ends-more apart numbers start edges c after first last b old now new is_first is_after is_last is_apart before is =
    let side : ℕ → (ℕ × ℕ) × Bool = λ k. (side_from numbers start (length edges) k, get_or apart (get_or edges k 0) false) in
    let ended : last ≡ get_or numbers (start + corner_after (length edges) c) 0 = is_last ∙ ap (λ (k : ℕ). get_or numbers (start + k) 0) is_after in
    is
    ∙ ap (λ (k : ℕ). with_ends_of (ends k last b) now) is_first
    ∙ ap (λ (k : ℕ). with_ends_of (ends (get_or numbers (start + c) 0) k b) now) ended
    ∙ ap (λ (a : Bool). with_ends_of (side_from numbers start (length edges) c, a) now) is_apart
    ∙ ap (with_ends_of (side c)) before
    ∙ sym (with-append (map side (range_with_len 0 c)) (side c ∷ []) old)
    ∙ ap (λ (sides : List ((ℕ × ℕ) × Bool)). with_ends sides old) (sym (map-range_with_len_more side 0 c c (omega arith)))

-- the sides of one face more
pub face-ends-more : (level : Level) (apart : List Bool) (numbers : List ℕ) (f start : ℕ) (edges : List ℕ) (old now new : List Bool) → start ≡ start_of level.polygons f → edges ≡ face_edges_of level.polygons (polygon_at level.polygons f)
    → now ≡ with_ends (ends_before level apart numbers f) old → new ≡ with_ends (first_ends apart numbers start edges (length edges)) now → new ≡ with_ends (ends_before level apart numbers (f + 1)) old
face-ends-more level apart numbers f start edges old now new is_start are_edges before is =
    let more : ends_before level apart numbers (f + 1) ≡ ends_before level apart numbers f ++ ends_at level apart numbers f =
    ap (flat_map (ends_at level apart numbers)) (range-more 0 f f (omega arith)) ∙ flat_map-append (ends_at level apart numbers) (range_with_len 0 f) (f ∷ [])
    ∙ ap (λ (sides : List ((ℕ × ℕ) × Bool)). ends_before level apart numbers f ++ sides) (append-nil (ends_at level apart numbers f)) in
    is
    ∙ ap (λ (n : ℕ). with_ends (first_ends apart numbers n edges (length edges)) now) is_start
    ∙ ap (λ (es : List ℕ). with_ends (first_ends apart numbers (start_of level.polygons f) es (length es)) now) are_edges
    ∙ ap (with_ends (ends_at level apart numbers f)) before
    ∙ sym (with-append (ends_before level apart numbers f) (ends_at level apart numbers f) old)
    ∙ ap (λ (sides : List ((ℕ × ℕ) × Bool)). with_ends sides old) (sym more)

-- the marks of a side keep the number of marks
one-length : (b : Bool) (first last : ℕ) (marks : List Bool) → length (with_ends_of ((first, last), b) marks) ≡ length marks
one-length true first last marks = length-set (slice_set marks first true) last true ∙ length-set marks first true
one-length false first last marks = refl

-- for each point still one
pub ends-length : (sides : List ((ℕ × ℕ) × Bool)) (marks : List Bool) → length (with_ends sides marks) ≡ length marks
ends-length [] marks = refl
ends-length (side ∷ sides) marks = ends-length sides (with_ends_of side marks) ∙ one-length side.1 side.0.0 side.0.1 marks

-- one mark more
set-mark : (marks : List Bool) (a p : ℕ) → p < length marks → get_or (slice_set marks a true) p false ≡ (nat_eq p a || get_or marks p false)
set-mark marks a p h = here (nat_eq p a) refl
  where
    here : (b : Bool) → nat_eq p a ≡ b → get_or (slice_set marks a true) p false ≡ (nat_eq p a || get_or marks p false)
    here true e =
        let same : p ≡ a = eqb-true p a e in
        ap (λ (k : ℕ). get_or (slice_set marks k true) p false) (sym same) ∙ get_or-set_same marks p true false h ∙ ap (λ (b : Bool). b || get_or marks p false) (sym e)
    here false e =
        let other : p ≢ a = λ same. absurd (grind (arith, nat_tests)) in
        get_or-set_other marks a p true false other ∙ ap (λ (b : Bool). b || get_or marks p false) (sym e)

-- the marks of one side more
one-mark : (b : Bool) (first last : ℕ) (marks : List Bool) (p : ℕ) → p < length marks → get_or (with_ends_of ((first, last), b) marks) p false ≡ (get_or marks p false || (b && has_end p (first, last)))
one-mark true first last marks p h =
    set-mark (slice_set marks first true) last p (omega (arith, h, length-set marks first true)) ∙ ap (λ (b : Bool). nat_eq p last || b) (set-mark marks first p h) ∙ turn (nat_eq p last) (nat_eq p first) (get_or marks p false)
  where
    turn : (a b c : Bool) → (a || (b || c)) ≡ (c || (b || a))
    turn a b c = grind (arith, nat_tests)
one-mark false first last marks p h = stays (get_or marks p false)
  where
    stays : (b : Bool) → b ≡ (b || false)
    stays true = refl
    stays false = refl

-- a point is marked as the end of a side that says so
pub ends-marked : (sides : List ((ℕ × ℕ) × Bool)) (marks : List Bool) (p : ℕ) → p < length marks → get_or (with_ends sides marks) p false ≡ (get_or marks p false || list_any (λ side. side.1 && has_end p side.0) sides)
ends-marked [] marks p h = stays (get_or marks p false)
  where
    stays : (b : Bool) → b ≡ (b || false)
    stays true = refl
    stays false = refl
ends-marked (side ∷ sides) marks p h =
    ends-marked sides (with_ends_of side marks) p (omega (arith, h, one-length side.1 side.0.0 side.0.1 marks))
    ∙ ap (λ (b : Bool). b || list_any (λ s. s.1 && has_end p s.0) sides) (one-mark side.1 side.0.0 side.0.1 marks p h)
    ∙ turn (get_or marks p false) (side.1 && has_end p side.0) (list_any (λ s. s.1 && has_end p s.0) sides)
  where
    turn : (a b c : Bool) → ((a || b) || c) ≡ (a || (b || c))
    turn true b c = refl
    turn false b c = refl

-- the numbers at all corners, counted face by face
pub corners-counted : {X : Type 0} (test : ℕ → Bool) (g : ℕ → ℕ → X) (number : X → ℕ) (place : ℕ) (faces : List Polygon)
    → count_by test (map number (flat_map (λ face. map (g face.0) face.1) (enumerate_from place faces))) ≡ sum_by (count_by test) (map (λ face. map (λ v. number (g face.0 v)) face.1) (enumerate_from place faces))
corners-counted test g number place [] = refl
corners-counted test g number place (face ∷ faces) =
    let rest = flat_map (λ face. map (g face.0) face.1) (enumerate_from (place + 1) faces) in
    ap (count_by test) (map-append number (map (g place) face) rest)
    ∙ count-append test (map number (map (g place) face)) (map number rest)
    ∙ ap (λ (xs : List ℕ). count_by test xs + count_by test (map number rest)) (map-map number (g place) face)
    ∙ ap (λ (n : ℕ). count_by test (map (λ v. number (g place v)) face) + n) (corners-counted test g number (place + 1) faces)
    ∙ sym (sum_by-cons (count_by test) (map (λ v. number (g place v)) face) (map (λ face. map (λ v. number (g face.0 v)) face.1) (enumerate_from (place + 1) faces)))

-- a property that both directions of an edge share holds for a side where it holds for an edge
other-sides : (q : ℕ × ℕ → Bool) (s : ℕ × ℕ) (edges : List (ℕ × ℕ)) → ((t : ℕ × ℕ) → same_edge s t ≡ true → q s ≡ q t) → q s ≡ false → list_any q (filter (λ t. not (same_edge s t)) edges) ≡ list_any q edges
other-sides q s [] alike none = refl
other-sides q s (t ∷ edges) alike none = here (same_edge s t) refl (other-sides q s edges alike none)
  where
    here : (b : Bool) → same_edge s t ≡ b → list_any q (filter (λ u. not (same_edge s u)) edges) ≡ list_any q edges → list_any q (filter (λ u. not (same_edge s u)) (t ∷ edges)) ≡ list_any q (t ∷ edges)
    here true e behind =
        let fails : q t ≡ false = sym (alike t e) ∙ none in
        rw (e, fails) behind
    here false e behind = rw e (ap (λ (b : Bool). q t || b) behind)

-- such a property holds for some side exactly where it holds for some edge
pub sides-edges : (q : ℕ × ℕ → Bool) (sides : List (ℕ × ℕ)) → ((s t : ℕ × ℕ) → same_edge s t ≡ true → q s ≡ q t) → list_any q (first_named sides) ≡ list_any q sides
sides-edges q [] alike = refl
sides-edges q (s ∷ sides) alike = here (q s) refl (sides-edges q sides alike)
  where
    here : (b : Bool) → q s ≡ b → list_any q (first_named sides) ≡ list_any q sides → list_any q (first_named (s ∷ sides)) ≡ list_any q (s ∷ sides)
    here true e behind = rw e refl
    here false e behind = ap (λ (b : Bool). q s || b) (other-sides q s (first_named sides) (λ t same. alike s t same) e ∙ behind)
