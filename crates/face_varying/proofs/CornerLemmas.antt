-- The corners of all faces, one after another: a corner's place is how many corners the faces before its face have, and its place there.
use Rattle.std.proofs.Common.{◌≡◌, ℕ, zero, suc, ◌+◌, ◌-◌, ◌<◌, ◌≤◌, Bool, true, false, nat_lt, List, [], ◌∷◌, length, map, get_or, take, arith, refl, ap, ◌∙◌}
use Rattle.std.specs.List.{flat_map, sum_by, enumerate_from}
use Rattle.std.proofs.lemmas.Bool.{ltb-true, ltb-false}
use Rattle.std.proofs.lemmas.List.{length-append, length-map, get_or-map, get_or_append_left, get_or-append-add}
use Rattle.std.proofs.lemmas.List.Sums.{sum_by-cons}
use Rattle.std.proofs.Math.Seq.{take-length}
use Rattle.subdiv_model.specs.Polygons.{Polygon, polygon_at}
use Rattle.level_topology.specs.Packed.{gaps, Ascend}
use Rattle.face_varying.specs.CornerPlaces.{start_of}

-- the values of a function for each corner of each face; the first face has this number
abbrev pub from_corners : {X : Type 0} → (ℕ → ℕ → X) → ℕ → List Polygon → List X
from_corners g place faces = flat_map (λ face. map (g face.0) face.1) (enumerate_from place faces)

-- there is one value for each corner of each face
pub corners-length : {X : Type 0} (g : ℕ → ℕ → X) (place : ℕ) (faces : List Polygon) → length (from_corners g place faces) ≡ sum_by length faces
corners-length g place [] = refl
corners-length g place (face ∷ faces) =
    omega (arith, length-append (map (g place) face) (from_corners g (place + 1) faces), length-map face (g place), corners-length g (place + 1) faces, sum_by-cons length face faces)

corner-from : {X : Type 0} (g : ℕ → ℕ → X) (place : ℕ) (faces : List Polygon) (f c : ℕ) (d : X) → f < length faces → c < length (polygon_at faces f)
    → get_or (from_corners g place faces) (start_of faces f + c) d ≡ g (place + f) (get_or (polygon_at faces f) c 0)
corner-from g place [] f c d inside corner = absurd (omega arith)
corner-from g place (face ∷ faces) zero c d inside corner =
    let first : 0 + c ≡ c = omega arith in
    let number : place ≡ place + 0 = omega arith in
    let long : c < length (map (g place) face) = omega (arith, length-map face (g place)) in
    ap (λ k. get_or (from_corners g place (face ∷ faces)) k d) first
    ∙ get_or_append_left (map (g place) face) (from_corners g (place + 1) faces) d c long
    ∙ get_or-map (g place) face c 0 d corner
    ∙ ap (λ n. g n (get_or face c 0)) number
corner-from g place (face ∷ faces) (suc f) c d inside corner =
    let number : place + 1 + f ≡ place + suc f = omega arith in
    let behind : start_of (face ∷ faces) (suc f) + c ≡ length (map (g place) face) + (start_of faces f + c) = omega (arith, length-map face (g place), sum_by-cons length face (take f faces)) in
    ap (λ k. get_or (from_corners g place (face ∷ faces)) k d) behind
    ∙ get_or-append-add (map (g place) face) (from_corners g (place + 1) faces) (start_of faces f + c) d
    ∙ corner-from g (place + 1) faces f c d (omega arith) corner
    ∙ ap (λ n. g n (get_or (polygon_at faces f) c 0)) number

-- the list has the value for a corner at the place of the corner
pub place-of-corner : {X : Type 0} (g : ℕ → ℕ → X) (faces : List Polygon) (f c : ℕ) (d : X) → f < length faces → c < length (polygon_at faces f)
    → get_or (from_corners g 0 faces) (start_of faces f + c) d ≡ g f (get_or (polygon_at faces f) c 0)
place-of-corner g faces f c d inside corner =
    let number : 0 + f ≡ f = omega arith in
    corner-from g 0 faces f c d inside corner ∙ ap (λ n. g n (get_or (polygon_at faces f) c 0)) number

-- the corner of a face that has this place among all
pub record IsCornerAt (faces : List Polygon) (k : ℕ) : Type 0 where
  pub face : ℕ
  pub corner : ℕ
  pub exists : face < length faces
  pub within : corner < length (polygon_at faces face)
  pub place : k ≡ start_of faces face + corner

-- each place below the number of all corners is that of a corner
pub corner-of-place : (faces : List Polygon) (k : ℕ) → k < sum_by length faces → IsCornerAt faces k
corner-of-place [] k h = absurd (omega arith)
corner-of-place (face ∷ faces) k h = here (nat_lt k (length face)) refl (corner-of-place faces (k - length face))
  where
    here : (b : Bool) → nat_lt k (length face) ≡ b → (k - length face < sum_by length faces → IsCornerAt faces (k - length face)) → IsCornerAt (face ∷ faces) k
    here true e behind = record { face = 0; corner = k; exists = omega arith; within = ltb-true _ _ e; place = omega arith }
    here false e behind =
        let past : length face ≤ k = ltb-false _ _ e in
        let found = behind (omega (arith, sum_by-cons length face faces)) in
        record {
          face = suc found.face;
          corner = found.corner;
          exists = omega (arith, found.exists);
          within = found.within;
          place = omega (arith, found.place, sum_by-cons length face (take found.face faces));
        }

-- a corner's place is below the number of all corners
pub place-below : (faces : List Polygon) (f c : ℕ) → f < length faces → c < length (polygon_at faces f) → start_of faces f + c < sum_by length faces
place-below [] f c inside corner = absurd (omega arith)
place-below (face ∷ faces) zero c inside corner = omega (arith, sum_by-cons length face faces)
place-below (face ∷ faces) (suc f) c inside corner =
    omega (arith, place-below faces f c (omega arith) corner, sum_by-cons length face faces, sum_by-cons length face (take f faces))

-- no two corners have one place
pub place-once : (faces : List Polygon) (f c g d : ℕ) → f < length faces → c < length (polygon_at faces f) → g < length faces → d < length (polygon_at faces g)
    → start_of faces f + c ≡ start_of faces g + d → (f ≡ g) × (c ≡ d)
place-once [] f c g d inside corner inside_g corner_g e = absurd (omega arith)
place-once (face ∷ faces) zero c zero d inside corner inside_g corner_g e = (refl, omega arith)
place-once (face ∷ faces) zero c (suc g) d inside corner inside_g corner_g e = absurd (omega (arith, sum_by-cons length face (take g faces)))
place-once (face ∷ faces) (suc f) c zero d inside corner inside_g corner_g e = absurd (omega (arith, sum_by-cons length face (take f faces)))
place-once (face ∷ faces) (suc f) c (suc g) d inside corner inside_g corner_g e =
    let same = place-once faces f c g d (omega arith) corner (omega arith) corner_g (omega (arith, e, sum_by-cons length face (take f faces), sum_by-cons length face (take g faces))) in
    (ap suc same.0, same.1)

-- the corners of the next face come after those of a face
pub start-next : (faces : List Polygon) (f : ℕ) → f < length faces → start_of faces (f + 1) ≡ start_of faces f + length (polygon_at faces f)
start-next [] f inside = absurd (omega arith)
start-next (face ∷ faces) zero inside = omega (arith, sum_by-cons length face [])
start-next (face ∷ faces) (suc f) inside =
    let next : suc f + 1 ≡ suc (f + 1) = omega arith in
    ap (start_of (face ∷ faces)) next
    ∙ omega (arith, start-next faces f (omega arith), sum_by-cons length face (take (f + 1) faces), sum_by-cons length face (take f faces))

-- all faces have the corners before the end
pub start-all : (faces : List Polygon) → start_of faces (length faces) ≡ sum_by length faces
start-all faces = ap (sum_by length) (take-length faces)

starts-from : (s : ℕ) (starts : List ℕ) (faces : List Polygon) (end : ℕ) → gaps (s ∷ starts) ≡ map length faces → Ascend (s ∷ starts) end
    → (length starts ≡ length faces) × (s + sum_by length faces ≡ end) × ((f : ℕ) → f ≤ length faces → get_or (s ∷ starts) f 0 ≡ s + start_of faces f)
starts-from s [] [] end same a = (refl, omega (arith, a), only)
  where
    only : (f : ℕ) → f ≤ 0 → get_or (s ∷ []) f 0 ≡ s + start_of [] f
    only zero h = omega arith
    only (suc f) h = absurd (omega arith)
starts-from s [] (face ∷ faces) end same a = absurd (cc)
starts-from s (t ∷ starts) [] end same a = absurd (cc)
starts-from s (t ∷ starts) (face ∷ faces) end same a =
    let gap : t - s ≡ length face = cc in
    let rest : gaps (t ∷ starts) ≡ map length faces = cc in
    let after = starts-from t starts faces end rest a.1 in
    (ap suc after.0, omega (arith, after.1, gap, a.0, sum_by-cons length face faces), each gap after.2)
  where
    each : t - s ≡ length face → ((f : ℕ) → f ≤ length faces → get_or (t ∷ starts) f 0 ≡ t + start_of faces f) → (f : ℕ) → f ≤ length (face ∷ faces) → get_or (s ∷ (t ∷ starts)) f 0 ≡ s + start_of (face ∷ faces) f
    each gap after zero h = omega arith
    each gap after (suc f) h = omega (arith, after f (omega arith), gap, a.0, sum_by-cons length face (take f faces))

-- the starts of a level are those of its faces
pub start-at : (starts : List ℕ) (faces : List Polygon) → gaps starts ≡ map length faces → Ascend starts (sum_by length faces)
    → (length starts ≡ length faces + 1) × ((f : ℕ) → f ≤ length faces → get_or starts f 0 ≡ start_of faces f)
start-at [] faces same a = absurd a
start-at (s ∷ starts) faces same a =
    let from = starts-from s starts faces (sum_by length faces) same a in
    let first : s ≡ 0 = omega (arith, from.1) in
    (omega (arith, from.0), λ f h. omega (arith, from.2 f h, first))
