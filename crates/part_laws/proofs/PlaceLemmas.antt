-- The places of the child faces of a face in the next level.
use Rattle.std.proofs.Common.{◌≡◌, ℕ, zero, suc, ◌+◌, ◌-◌, ◌<◌, ◌≤◌, Bool, true, false, nat_eq, nat_lt, List, [], ◌∷◌, ◌++◌, length, map, get_or, take, arith, refl, ap, sym, ◌∙◌, subst, ◌⊎◌, inl, inr}
use Rattle.std.specs.List.{All, flat_map, sum_by, range_with_len, enumerate_from}
use Rattle.std.specs.List.Sorted.{IsStrictlyIncreasing}
use Rattle.std.proofs.lemmas.Bool.{cases_lt, lt-ltb, ltb-true}
use Rattle.std.proofs.lemmas.Bool.Decides.{nat_tests}
use Rattle.std.proofs.lemmas.List.{map-append, ext_get_or, get_or_append_left, get_or-append_right}
use Rattle.std.proofs.lemmas.List.FromFn.{length-range_with_len, get_or-range_with_len, length-map-range_with_len, get_or-map-range_with_len}
use Rattle.std.proofs.lemmas.List.Sums.{sum_by-cons, list_all-from_AllPass}
use Rattle.subdiv_model.specs.Lists.{last_of}
use Rattle.subdiv_model.specs.Polygons.{Polygon, sides_of, is_among, polygon_at}
use Rattle.subdiv_model.specs.Child.{face_point, child_face, child_faces_along, child_faces, child_polygons}
use Rattle.number_laws.proofs.ListLemmas.{any-flat_map}
use Rattle.mesh_laws.proofs.FanLemmas.{number-any}
use Rattle.mesh_laws.proofs.ChildPlaceLemmas.{IsChildOf, all-of}
use Rattle.level_laws.proofs.FaceLemmas.{sides_of-length, child_faces-length, child_polygons-length, child-stands}
use Rattle.part_laws.specs.Children.{children_of, children_in}
use Rattle.part_laws.proofs.ListLemmas.{joined-agree, mapped-joined}
use Rattle.part_laws.proofs.AscendingLemmas.{Ascends, lower}

-- the number of the first child face of a face
abbrev pub first_place : List Polygon → ℕ → ℕ
first_place polygons f = sum_by length (take f polygons)

pub first-next : (polygons : List Polygon) (f : ℕ) → f < length polygons → first_place polygons (suc f) ≡ first_place polygons f + length (polygon_at polygons f)
first-next [] f h = absurd (omega arith)
first-next (polygon ∷ polygons) zero h = omega (arith, sum_by-cons length polygon [])
first-next (polygon ∷ polygons) (suc f) h =
    let behind = first-next polygons f (omega arith) in
    omega (arith, behind, sum_by-cons length polygon (take (suc f) polygons), sum_by-cons length polygon (take f polygons))

first-up : (polygons : List Polygon) (f g : ℕ) → f ≤ g → first_place polygons f ≤ first_place polygons g
first-up [] zero zero h = omega arith
first-up [] zero (suc g) h = omega arith
first-up [] (suc f) zero h = omega arith
first-up [] (suc f) (suc g) h = omega arith
first-up (polygon ∷ polygons) zero g h = omega arith
first-up (polygon ∷ polygons) (suc f) zero h = absurd (omega arith)
first-up (polygon ∷ polygons) (suc f) (suc g) h =
    let behind = first-up polygons f g (omega arith) in
    omega (arith, behind, sum_by-cons length polygon (take f polygons), sum_by-cons length polygon (take g polygons))

first-end : (polygons : List Polygon) (f : ℕ) → first_place polygons f ≤ sum_by length polygons
first-end [] zero = omega arith
first-end [] (suc f) = omega arith
first-end (polygon ∷ polygons) zero = omega arith
first-end (polygon ∷ polygons) (suc f) =
    let behind = first-end polygons f in
    omega (arith, behind, sum_by-cons length polygon (take f polygons), sum_by-cons length polygon polygons)

-- the face and the corner of a child face
pub owner : (polygons : List Polygon) (n : ℕ) → n < sum_by length polygons → (g : ℕ) × (c : ℕ) × (g < length polygons) × (c < length (polygon_at polygons g)) × (n ≡ first_place polygons g + c)
owner [] n h = absurd (omega arith)
owner (polygon ∷ polygons) n h = go (cases_lt n (length polygon)) (λ m less. owner polygons m less)
  where
    go : (n < length polygon) ⊎ (length polygon ≤ n) → ((m : ℕ) → m < sum_by length polygons → (g : ℕ) × (c : ℕ) × (g < length polygons) × (c < length (polygon_at polygons g)) × (m ≡ first_place polygons g + c)) → (g : ℕ) × (c : ℕ) × (g < length (polygon ∷ polygons)) × (c < length (polygon_at (polygon ∷ polygons) g)) × (n ≡ first_place (polygon ∷ polygons) g + c)
    go (inl less) behind = (0, n, omega arith, less, omega arith)
    go (inr more) behind =
        let found = behind (n - length polygon) (omega (arith, h, more, sum_by-cons length polygon polygons)) in
        (suc found.0, found.1, omega (arith, found.2), found.3, omega (arith, more, found.4, sum_by-cons length polygon (take found.0 polygons)))

pub owner-below : (polygons : List Polygon) (g c : ℕ) → g < length polygons → c < length (polygon_at polygons g) → first_place polygons g + c < sum_by length polygons
owner-below polygons g c h k = omega (arith, k, first-next polygons g h, first-end polygons (suc g))

pub among-range : (a n m : ℕ) → a ≤ m → m < a + n → is_among (range_with_len a n) m ≡ true
among-range a zero m low high = absurd (omega arith)
among-range a (suc n) m low high = go (nat_eq m a) refl (λ l h. among-range (a + 1) n m l h)
  where
    go : (b : Bool) → nat_eq m a ≡ b → (a + 1 ≤ m → m < a + 1 + n → is_among (range_with_len (a + 1) n) m ≡ true) → is_among (range_with_len a (suc n)) m ≡ true
    go true e behind = rw e refl
    go false e behind = let rest = behind (grind (arith, nat_tests)) (omega arith) in rw e rest

-- the child faces of listed faces include the children of each
pub among-children : (polygons : List Polygon) (faces : List ℕ) (g c : ℕ) → c < length (polygon_at polygons g) → is_among faces g ≡ true → is_among (children_in polygons faces) (first_place polygons g + c) ≡ true
among-children polygons faces g c h there =
    let n = first_place polygons g + c in
    any-flat_map (nat_eq n) (children_of polygons) faces
    ∙ number-any (λ f. is_among (children_of polygons f) n) faces g (among-range (first_place polygons g) (length (polygon_at polygons g)) n (omega arith) (omega (arith, h))) there

-- the child faces of ascending faces ascend
range-ascends : (a c n b : ℕ) (rest : List ℕ) → a ≤ c → c + n ≤ b → Ascends (c + n) b rest → Ascends a b (range_with_len c n ++ rest)
range-ascends a c zero b rest low high up = lower (c + 0) a b rest (omega arith) up
range-ascends a c (suc n) b rest low high up =
    (low, omega arith, range-ascends (c + 1) (c + 1) n b rest (omega arith) (omega arith) (subst (λ m. Ascends m b rest) (let e : c + suc n ≡ c + 1 + n = omega arith in e) up))

pub children-ascend : (polygons : List Polygon) (a : ℕ) (faces : List ℕ) → Ascends a (length polygons) faces → Ascends (first_place polygons a) (sum_by length polygons) (children_in polygons faces)
children-ascend polygons a [] up = tt
children-ascend polygons a (f ∷ faces) up =
    let next = first-next polygons f up.1 in
    let e : first_place polygons (f + 1) ≡ first_place polygons f + length (polygon_at polygons f) = ap (first_place polygons) (let k : f + 1 ≡ suc f = omega arith in k) ∙ next in
    range-ascends (first_place polygons a) (first_place polygons f) (length (polygon_at polygons f)) (sum_by length polygons) (children_in polygons faces)
    (first-up polygons a f up.0) (omega (arith, next, first-end polygons (suc f)))
    (subst (λ m. Ascends m (sum_by length polygons) (children_in polygons faces)) e (children-ascend polygons (f + 1) faces up.2))

pub increasing : (a b : ℕ) (ns : List ℕ) → Ascends a b ns → IsStrictlyIncreasing ns
increasing a b [] up k h = absurd (omega arith)
increasing a b (n ∷ []) up k h = absurd (omega arith)
increasing a b (n ∷ (m ∷ ns)) up zero h = omega (arith, up.2.0)
increasing a b (n ∷ (m ∷ ns)) up (suc k) h =
    let next : suc k + 1 ≡ suc (k + 1) = omega arith in
    subst (λ i. get_or (n ∷ (m ∷ ns)) (suc k) 0 < get_or (n ∷ (m ∷ ns)) i 0) (sym next) (increasing (n + 1) b (m ∷ ns) up.2 k (omega arith))

pub bounded : (a b : ℕ) (ns : List ℕ) → Ascends a b ns → All (λ n. n < b) ns
bounded a b [] up k d h = absurd (omega arith)
bounded a b (n ∷ ns) up zero d h = up.1
bounded a b (n ∷ ns) up (suc k) d h = bounded (n + 1) b ns up.2 k d (omega arith)

-- what each face of a part gives, where another gives the same at its number
pub parts-in : {X Y : Type 0} (g : X → Y) (parts : ℕ → Polygon → List X) (others : ℕ → List Y) (place : ℕ) (some : List Polygon) (fs : List ℕ) → length some ≡ length fs → ((i : ℕ) → i < length some → map g (parts (place + i) (polygon_at some i)) ≡ others (get_or fs i 0)) → map g (flat_map (λ face. parts face.0 face.1) (enumerate_from place some)) ≡ flat_map others fs
parts-in g parts others place [] [] e same = refl
parts-in g parts others place [] (f ∷ fs) e same = absurd (omega arith)
parts-in g parts others place (polygon ∷ some) [] e same = absurd (omega arith)
parts-in g parts others place (polygon ∷ some) (f ∷ fs) e same =
    let first : map g (parts place polygon) ≡ others f = ap (λ n. map g (parts n polygon)) (let k : place ≡ place + 0 = omega arith in k) ∙ same 0 (omega arith) in
    let rest = parts-in g parts others (place + 1) some fs (omega (arith, e)) (λ i h. ap (λ n. map g (parts n (polygon_at some i))) (let k : place + 1 + i ≡ place + suc i = omega arith in k) ∙ same (suc i) (omega (arith, h))) in
    map-append g (parts place polygon) (flat_map (λ face. parts face.0 face.1) (enumerate_from (place + 1) some))
    ∙ ap (λ l. l ++ map g (flat_map (λ face. parts face.0 face.1) (enumerate_from (place + 1) some))) first
    ∙ ap (λ l. others f ++ l) rest

-- the child face of a face of a part at a corner has the number of that of its face at the same corner
pub places-in : (polygons some : List Polygon) (fs : List ℕ) → length some ≡ length fs → ((i : ℕ) → i < length some → length (polygon_at some i) ≡ length (polygon_at polygons (get_or fs i 0))) → (k c : ℕ) → k < length some → c < length (polygon_at some k) → get_or (children_in polygons fs) (first_place some k + c) 0 ≡ first_place polygons (get_or fs k 0) + c
places-in polygons [] fs many same k c h corner = absurd (omega arith)
places-in polygons (polygon ∷ some) [] many same k c h corner = absurd (omega arith)
places-in polygons (polygon ∷ some) (f ∷ fs) many same zero c h corner =
    let first = first_place polygons f in
    let n = length (polygon_at polygons f) in
    let long = same 0 (omega arith) in
    let inside : c < n = omega (arith, long, corner) in
    let start : first_place (polygon ∷ some) 0 + c ≡ c = omega arith in
    ap (λ i. get_or (children_in polygons (f ∷ fs)) i 0) start
    ∙ get_or_append_left (children_of polygons f) (children_in polygons fs) 0 c (omega (arith, inside, length-range_with_len first n))
    ∙ get_or-range_with_len first n c 0 inside
places-in polygons (polygon ∷ some) (f ∷ fs) many same (suc k) c h corner =
    let first = first_place polygons f in
    let n = length (polygon_at polygons f) in
    let long = same 0 (omega arith) in
    let sums = sum_by-cons length polygon (take k some) in
    let place = first_place (polygon ∷ some) (suc k) + c in
    let back : place - n ≡ first_place some k + c = omega (arith, long, sums) in
    get_or-append_right (children_of polygons f) (children_in polygons fs) n place 0 (length-range_with_len first n) (omega (arith, long, sums))
    ∙ ap (λ i. get_or (children_in polygons fs) i 0) back
    ∙ places-in polygons some fs (omega (arith, many)) (λ i l. same (suc i) (omega (arith, l))) k c (omega (arith, h)) corner

-- reading at the places of the child faces gives the items of each face
pub read-children : {Y : Type 0} (polygons : List Polygon) (others : ℕ → List Y) (read : ℕ → Y) → ((f : ℕ) → f < length polygons → others f ≡ map read (children_of polygons f)) → (fs : List ℕ) → All (λ f. f < length polygons) fs → flat_map others fs ≡ map read (children_in polygons fs)
read-children polygons others read same fs inside =
    joined-agree (λ f. nat_lt f (length polygons)) others (λ f. map read (children_of polygons f)) (λ f h. same f (ltb-true f (length polygons) h)) fs (list_all-from_AllPass (λ f. nat_lt f (length polygons)) fs (λ k d h. lt-ltb _ _ (inside k d h)))
    ∙ sym (mapped-joined read (children_of polygons) fs)

module _ (points : ℕ) (polygons : List Polygon) where
  along-place : (face : ℕ) (before : ℕ × ℕ) (sides : List (ℕ × ℕ)) (c : ℕ) → c < length sides → get_or (child_faces_along points polygons face before sides) c [] ≡ child_face points polygons face (get_or (before ∷ sides) c (0, 0)) (get_or sides c (0, 0))
  along-place face before [] c h = absurd (omega arith)
  along-place face before (side ∷ sides) zero h = refl
  along-place face before (side ∷ sides) (suc c) h = along-place face side sides c (omega arith)

  -- the child faces of a face are those at their places
  pub faces-read : (f : ℕ) → f < length polygons → child_faces points polygons f (polygon_at polygons f) ≡ map (polygon_at (child_polygons points polygons)) (children_of polygons f)
  faces-read f h =
      let polygon = polygon_at polygons f in
      let sides = sides_of polygon in
      let read = polygon_at (child_polygons points polygons) in
      let first = first_place polygons f in
      let many = child_faces-length points polygons f polygon in
      ext_get_or [] (child_faces points polygons f polygon) (map read (children_of polygons f)) (many ∙ sym (length-map-range_with_len read first (length polygon))) (λ c less.
      let below : c < length polygon = omega (arith, less, many) in
      along-place f (last_of (0, 0) sides) sides c (omega (arith, below, sides_of-length polygon))
      ∙ sym (child-stands points polygons f c h below)
      ∙ sym (get_or-map-range_with_len read first (length polygon) c (first + c) [] below refl))

  -- the child face at a place of a face is a child of it
  pub child-of-face : (g c : ℕ) → g < length polygons → c < length (polygon_at polygons g) → (v : ℕ) × IsChildOf points polygons g v (polygon_at (child_polygons points polygons) (first_place polygons g + c))
  child-of-face g c h k =
      let kids = child_polygons points polygons in
      let place = first_place polygons g + c in
      let below : place < length kids = omega (arith, owner-below polygons g c h k, child_polygons-length points polygons) in
      let found = all-of points polygons place [] below in
      let third : face_point points found.0 ≡ face_point points g = ap (λ q. get_or q 2 0) (sym found.2.is) ∙ ap (λ q. get_or q 2 0) (child-stands points polygons g c h k) in
      let e : found.0 ≡ g = omega (arith, third) in
      (found.1, subst (λ n. IsChildOf points polygons n found.1 (polygon_at kids place)) e found.2)
