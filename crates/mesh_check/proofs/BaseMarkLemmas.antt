-- Marks at points, and how many corners are at each.
use Rattle.std.proofs.Common.{◌≡◌, ℕ, suc, ◌+◌, ◌-◌, ◌<◌, ◌≤◌, ◌^◌, Bool, true, false, nat_eq, List, [], ◌∷◌, ◌++◌, length, get_or, take, drop, slice_set, replicate, arith, refl, ap, sym, ◌∙◌, Some, append_assoc, get_or-set_other, if◌then◌else◌}
use Rattle.std.specs.List.{slice_get, filter, list_all, count_by, sum_by, range_with_len}
use Rattle.std.proofs.lemmas.Bool.Decides.{nat_tests}
use Rattle.std.proofs.lemmas.Bool.{and_parts, eqb-true}
use Rattle.std.proofs.lemmas.List.{drop_more, length-take, length-replicate, set-append_right}
use Rattle.std.proofs.lemmas.List.Sums.{count_by-le-length, count_by_more_yes, count_by_more_no, sum_by_more, sum_by_more_le_part, sum_by-cons}
use Rattle.std.proofs.lemmas.Grind.{get_or_default_zero, get_or-set_at}
use Rattle.std.proofs.lemmas.Option.{get_or_from_slice_get, slice_get_within}
use Rattle.number_laws.proofs.CountLemmas.{count-some, count-none}
use Rattle.subdiv_model.specs.Polygons.{Polygon, has_corner, is_distinct}
use Rattle.subdiv_model.specs.Lists.{places_from}
use Rattle.subdiv_model.specs.Manifold.{is_simple}
use Rattle.subdiv_model.specs.Base.{is_end_corner}
use Rattle.subdiv_model.specs.Boundary.{EdgeAndCorner}
use Rattle.mesh_laws.proofs.SideLemmas.{distinct-number-count}
use Rattle.level_topology.proofs.ListPlaceLemmas.{replicate-push}
use Rattle.mesh_check.specs.Base.{single_corners}

-- one mark more behind those that are set
pub marks-more : (v : ℕ) (start old : List Bool) → v < length start → old ≡ replicate v true ++ drop v start → slice_set old v true ≡ replicate (v + 1) true ++ drop (v + 1) start
marks-more v start old h is =
    let none : v - v ≡ 0 = omega arith in
    let front : replicate v true ++ slice_set (drop v start) 0 true ≡ replicate v true ++ true ∷ drop (v + 1) start =
    ap (λ (ms : List Bool). replicate v true ++ slice_set ms 0 true) (drop_more start v false h) in
    ap (λ (ms : List Bool). slice_set ms v true) is
    ∙ set-append_right (replicate v true) (drop v start) v v true (length-replicate v true) (omega arith)
    ∙ ap (λ k. replicate v true ++ slice_set (drop v start) k true) none
    ∙ front
    ∙ sym (append_assoc (replicate v true) (true ∷ []) (drop (v + 1) start))
    ∙ ap (λ (ms : List Bool). ms ++ drop (v + 1) start) (sym (replicate-push v true))

-- the count of a vertex is at most the corners so far
pub count-room : (face counts : List ℕ) (i v start now d : ℕ) → i < length face → v < length counts → start + length face < 2 ^ 32
    → now ≡ get_or counts v d → get_or counts v 0 ≡ start + count_by (nat_eq v) (take i face) → now + 1 < 2 ^ 32
count-room face counts i v start now d h there fits read is =
    omega (arith, read, get_or_default_zero counts v d there, is, count_by-le-length (nat_eq v) (take i face), length-take i face)

-- one corner more is counted at its vertex, and at no other
pub count-more : (face counts : List ℕ) (i v w start now d : ℕ) → i < length face → w ≡ get_or face i 0 → w < length counts
    → now ≡ get_or counts w d → get_or counts v 0 ≡ start + count_by (nat_eq v) (take i face) → get_or (slice_set counts w (now + 1)) v 0 ≡ start + count_by (nat_eq v) (take (i + 1) face)
count-more face counts i v w start now d h at there read is = go (nat_eq v w) refl
  where
    go : (b : Bool) → nat_eq v w ≡ b → get_or (slice_set counts w (now + 1)) v 0 ≡ start + count_by (nat_eq v) (take (i + 1) face)
    go true e =
        let same : v ≡ w = eqb-true v w e in
        omega (arith, is, read, get_or_default_zero counts w d there, ap (λ k. get_or counts k 0) same, get_or-set_at counts w v (now + 1) 0 same there, count_by_more_yes (nat_eq v) face i 0 h (ap (nat_eq v) (sym at) ∙ e))
    go false e =
        omega (arith, is, get_or-set_other counts w v (now + 1) 0 (λ k. grind (arith, nat_tests)), count_by_more_no (nat_eq v) face i 0 h (ap (nat_eq v) (sym at) ∙ e))

-- the counts stay small while all corners are few
pub counts-room : (polygons : List Polygon) (f v now : ℕ) (polygon : Polygon) → sum_by length polygons < 2 ^ 27 → slice_get polygons f ≡ Some polygon → now ≡ sum_by (count_by (nat_eq v)) (take f polygons) → now + length polygon < 2 ^ 32
counts-room polygons f v now polygon few at is =
    omega (arith, is, few, ap (λ (p : Polygon). length p) (get_or_from_slice_get polygons f polygon [] at), sum_by_more_le_part (count_by (nat_eq v)) length polygons f [] (slice_get_within polygons f polygon at) (count_by-le-length (nat_eq v)))

-- the corners of one face more
pub counts-more : (polygons : List Polygon) (f v old new : ℕ) (polygon : Polygon) → slice_get polygons f ≡ Some polygon → old ≡ sum_by (count_by (nat_eq v)) (take f polygons) → new ≡ old + count_by (nat_eq v) polygon → new ≡ sum_by (count_by (nat_eq v)) (take (f + 1) polygons)
counts-more polygons f v old new polygon at before after =
    omega (arith, before, after, ap (count_by (nat_eq v)) (get_or_from_slice_get polygons f polygon [] at), sum_by_more (count_by (nat_eq v)) polygons f [] (slice_get_within polygons f polygon at))

-- a simple face has a vertex once at most, so that its corners there are its faces
pub corners-faces : (v place : ℕ) (polygons : List Polygon) → list_all is_simple polygons ≡ true → length (places_from place (has_corner v) polygons) ≡ sum_by (count_by (nat_eq v)) polygons
corners-faces v place [] simple = refl
corners-faces v place (polygon ∷ polygons) simple =
    let parts = and_parts (is_simple polygon) (list_all is_simple polygons) simple in
    here (has_corner v polygon) refl (distinct-number-count v polygon (and_parts _ (is_distinct polygon) parts.0).1) (corners-faces v (place + 1) polygons parts.1)
  where
    here : (b : Bool) → has_corner v polygon ≡ b → count_by (nat_eq v) polygon ≤ 1 → length (places_from (place + 1) (has_corner v) polygons) ≡ sum_by (count_by (nat_eq v)) polygons
        → length (places_from place (has_corner v) (polygon ∷ polygons)) ≡ sum_by (count_by (nat_eq v)) (polygon ∷ polygons)
    here true h once behind = rw h (omega (arith, sum_by-cons (count_by (nat_eq v)) polygon polygons, count-some (nat_eq v) polygon h))
    here false h once behind = rw h (omega (arith, sum_by-cons (count_by (nat_eq v)) polygon polygons, count-none (nat_eq v) polygon h))

-- the places of items that pass are the numbers whose items pass
places-kept : (test : ℕ → Bool) (keep : ℕ → Bool) (place : ℕ) (counts : List ℕ) → ((i : ℕ) → i < length counts → test (get_or counts i 0) ≡ keep (place + i)) → places_from place test counts ≡ filter keep (range_with_len place (length counts))
places-kept test keep place [] same = refl
places-kept test keep place (n ∷ counts) same =
    let stay : place + 0 ≡ place = omega arith in
    let this : test n ≡ keep place = same 0 (omega arith) ∙ ap keep stay in
    let rest = places-kept test keep (place + 1) counts (λ i h. same (suc i) (omega arith) ∙ (let next : place + suc i ≡ place + 1 + i = omega arith in ap keep next)) in
    ap (λ b. if b then place ∷ places_from (place + 1) test counts else places_from (place + 1) test counts) this
    ∙ ap (λ ps. if keep place then place ∷ ps else ps) rest

-- the vertices with one corner are the corners of exactly one face
pub single-faces : (polygons : List Polygon) (points : ℕ) (counts : List ℕ) → list_all is_simple polygons ≡ true → length counts ≡ points → ((v : ℕ) → get_or counts v 0 ≡ sum_by (count_by (nat_eq v)) polygons)
    → single_corners counts ≡ filter (is_end_corner EdgeAndCorner polygons) (range_with_len 0 points)
single-faces polygons points counts simple size are =
    places-kept (λ count. nat_eq count 1) (is_end_corner EdgeAndCorner polygons) 0 counts (λ v h. let from : v ≡ 0 + v = omega arith in ap (λ n. nat_eq n 1) (are v ∙ sym (corners-faces v 0 polygons simple)) ∙ ap (is_end_corner EdgeAndCorner polygons) from)
    ∙ ap (λ n. filter (is_end_corner EdgeAndCorner polygons) (range_with_len 0 n)) size

-- no vertex is kept where none passes
pub none-kept : (keep : ℕ → Bool) (numbers : List ℕ) → ((v : ℕ) → keep v ≡ false) → filter keep numbers ≡ []
none-kept keep [] none = refl
none-kept keep (n ∷ numbers) none = ap (λ b. if b then n ∷ filter keep numbers else filter keep numbers) (none n) ∙ none-kept keep numbers none
