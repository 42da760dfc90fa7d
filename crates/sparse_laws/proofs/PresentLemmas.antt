-- The child faces at vertices of selected faces, in the next level of a part and in that of the whole.
use Rattle.std.proofs.Common.{◌≡◌, ℕ, zero, suc, ◌+◌, ◌<◌, Bool, true, nat_eq, nat_lt, List, [], ◌∷◌, length, map, get_or, arith, refl, ap, sym, ◌∙◌, subst}
use Rattle.std.specs.List.{filter, list_any, list_all, sum_by, range_with_len}
use Rattle.std.proofs.lemmas.Bool.{and_parts, lt-ltb, ltb-true}
use Rattle.std.proofs.lemmas.List.{length-map, get_or-map}
use Rattle.subdiv_model.specs.Lists.{places}
use Rattle.subdiv_model.specs.Polygons.{has_corner, is_among, is_over, polygon_at}
use Rattle.subdiv_model.specs.Level.{Level}
use Rattle.subdiv_model.specs.Sparse.{children_of as children_of_all, corners_of, parents_of, is_on}
use Rattle.mesh_laws.proofs.SideLemmas.{among-place}
use Rattle.mesh_laws.proofs.FanLemmas.{any-number, number-any}
use Rattle.mesh_laws.proofs.ClosedLemmas.{all-at}
use Rattle.part_laws.specs.Parts.{IsWholeAt, is_corner, face_in}
use Rattle.part_laws.specs.LevelParts.{IsLevelPart}
use Rattle.part_laws.specs.Children.{children_of, children_in}
use Rattle.part_laws.proofs.ListLemmas.{any-mapped, filter-mapped, map-agree, map-twice, all-filtered}
use Rattle.part_laws.proofs.TermLemmas.{all-true}
use Rattle.part_laws.proofs.AscendingLemmas.{Ascends, ascends, kept-of-all}
use Rattle.part_laws.proofs.RenamedLemmas.{corner-renamed, number-renamed}
use Rattle.part_laws.proofs.PartLemmas.{as-many, own-all, polygon-in}
use Rattle.part_laws.proofs.JoinLemmas.{corner-in}
use Rattle.part_laws.proofs.MaskLemmas.{faces-apart}
use Rattle.part_laws.proofs.SelfLemmas.{among-at}
use Rattle.part_laws.proofs.PlaceLemmas.{first_place, owner, owner-below, among-children, children-ascend, parts-in}
use Rattle.part_laws.proofs.ChildLemmas.{face-below}
use Rattle.sparse_laws.specs.NextSparse.{corner_places, next_places, vertex_at}
use Rattle.sparse_laws.proofs.SelectedLemmas.{among-all}
use Rattle.sparse_laws.proofs.NumberLemmas.{all-places, among-places, as-filter, corner-read, corners-length, is_place, parent-read, parents-length}

range-moved : (a b n : ℕ) → map (λ c. a + c) (range_with_len b n) ≡ range_with_len (a + b) n
range-moved a b zero = refl
range-moved a b (suc n) = ap (λ l. (a + b) ∷ l) (range-moved a (b + 1) n ∙ ap (λ k. range_with_len k n) (let e : a + (b + 1) ≡ a + b + 1 = omega arith in e))

-- A part of a level over points, with some of its faces, and these faces in the whole. The part has all faces at their vertices.
pub record Selection : Type 0 where
  pub name : ℕ → ℕ
  pub numbers : List ℕ
  pub part : Level
  pub whole : Level
  pub is : IsLevelPart name numbers part whole
  pub over : is_over part.point_count part.polygons ≡ true
  pub whole_over : is_over whole.point_count whole.polygons ≡ true
  pub some : List ℕ
  pub others : List ℕ
  pub same : map (face_in numbers) some ≡ others
  pub within : list_all (λ f. nat_lt f (length part.polygons)) some ≡ true
  pub has_all : (w : ℕ) → is_on part.polygons some w ≡ true → IsWholeAt numbers whole.polygons (name w)

module _ (s : Selection) where
  -- the number in the whole of the child face of a corner
  abbrev pub number_there : ℕ × ℕ → ℕ
  number_there place = first_place s.whole.polygons (face_in s.numbers place.0) + place.1

  corner-same : (w f : ℕ) → is_corner s.part.polygons w ≡ true → f < length s.part.polygons → has_corner (s.name w) (polygon_at s.whole.polygons (face_in s.numbers f)) ≡ has_corner w (polygon_at s.part.polygons f)
  corner-same w f there below =
      let own = all-at (list_all (is_corner s.part.polygons)) s.part.polygons f [] below (own-all s.name s.numbers s.part.polygons s.whole.polygons s.is.polygons) in
      ap (has_corner (s.name w)) (sym (polygon-in s.name s.numbers s.part.polygons s.whole.polygons s.is.polygons f below))
      ∙ corner-renamed s.name (is_corner s.part.polygons) s.is.polygons.apart w (polygon_at s.part.polygons f) there own

  pub on-same : (w : ℕ) → is_corner s.part.polygons w ≡ true → is_on s.whole.polygons s.others (s.name w) ≡ is_on s.part.polygons s.some w
  on-same w there =
      ap (list_any (λ f. has_corner (s.name w) (polygon_at s.whole.polygons f))) (sym s.same)
      ∙ any-mapped (λ f. nat_lt f (length s.part.polygons)) (face_in s.numbers) (λ f. has_corner w (polygon_at s.part.polygons f)) (λ f. has_corner (s.name w) (polygon_at s.whole.polygons f)) (λ f h. corner-same w f there (ltb-true f (length s.part.polygons) h)) s.some s.within

  long : (f : ℕ) → f < length s.part.polygons → length (polygon_at s.part.polygons f) ≡ length (polygon_at s.whole.polygons (face_in s.numbers f))
  long f below = sym (length-map (polygon_at s.part.polygons f) s.name) ∙ ap length (polygon-in s.name s.numbers s.part.polygons s.whole.polygons s.is.polygons f below)

  inside-there : (f : ℕ) → f < length s.part.polygons → face_in s.numbers f < length s.whole.polygons
  inside-there f below = face-below s.name s.numbers s.part s.whole s.is.polygons s.whole_over f below

  vertex-named : (f c : ℕ) → f < length s.part.polygons → c < length (polygon_at s.part.polygons f) → get_or (polygon_at s.whole.polygons (face_in s.numbers f)) c 0 ≡ s.name (vertex_at s.part.polygons (f, c))
  vertex-named f c h k =
      ap (λ q. get_or q c 0) (sym (polygon-in s.name s.numbers s.part.polygons s.whole.polygons s.is.polygons f h))
      ∙ get_or-map s.name (polygon_at s.part.polygons f) c 0 0 k

  pub vertex-corner : (f c : ℕ) → c < length (polygon_at s.part.polygons f) → is_corner s.part.polygons (vertex_at s.part.polygons (f, c)) ≡ true
  vertex-corner f c k = corner-in s.part.polygons (vertex_at s.part.polygons (f, c)) f (among-place (vertex_at s.part.polygons (f, c)) (polygon_at s.part.polygons f) c k refl)

  passes : (f c : ℕ) → f < length s.part.polygons → c < length (polygon_at s.part.polygons f) → is_on s.whole.polygons s.others (get_or (corners_of s.whole.polygons) (number_there (f, c)) 0) ≡ is_on s.part.polygons s.some (vertex_at s.part.polygons (f, c))
  passes f c h k =
      ap (is_on s.whole.polygons s.others) (corner-read s.whole.polygons (face_in s.numbers f) c (inside-there f h) (omega (arith, k, long f h)) ∙ vertex-named f c h k)
      ∙ on-same (vertex_at s.part.polygons (f, c)) (vertex-corner f c k)

  below-there : (f c : ℕ) → f < length s.part.polygons → c < length (polygon_at s.part.polygons f) → number_there (f, c) < sum_by length s.whole.polygons
  below-there f c h k = owner-below s.whole.polygons (face_in s.numbers f) c (inside-there f h) (omega (arith, k, long f h))

  -- the child of a face at a corner is present where the corner lies on a selected face
  pub present-at : (f c : ℕ) → f < length s.part.polygons → c < length (polygon_at s.part.polygons f) → is_among (places (is_on s.whole.polygons s.others) (corners_of s.whole.polygons)) (number_there (f, c)) ≡ is_on s.part.polygons s.some (vertex_at s.part.polygons (f, c))
  present-at f c h k =
      among-places (is_on s.whole.polygons s.others) 0 (number_there (f, c)) (corners_of s.whole.polygons) (omega (arith, below-there f c h k, corners-length s.whole.polygons))
      ∙ passes f c h k

  -- the children of selected faces are those of selected faces of the whole
  pub parent-at : (f c : ℕ) → f < length s.part.polygons → c < length (polygon_at s.part.polygons f) → is_among (children_of_all s.whole.polygons s.others) (number_there (f, c)) ≡ is_among s.some f
  parent-at f c h k =
      among-places (is_among s.others) 0 (number_there (f, c)) (parents_of s.whole.polygons) (omega (arith, below-there f c h k, parents-length s.whole.polygons))
      ∙ ap (is_among s.others) (parent-read s.whole.polygons (face_in s.numbers f) c (inside-there f h) (omega (arith, k, long f h)))
      ∙ ap (λ ns. is_among ns (face_in s.numbers f)) (sym s.same)
      ∙ any-mapped (λ j. nat_lt j (length s.part.polygons)) (face_in s.numbers) (nat_eq f) (nat_eq (face_in s.numbers f)) (λ j l. number-renamed (face_in s.numbers) (λ i. nat_lt i (length s.part.polygons)) (faces-apart s.name s.numbers s.part.polygons s.whole.polygons s.is.polygons) f j (lt-ltb _ _ h) l) s.some s.within

  named-whole : (v w : ℕ) → v ≡ s.name w → is_on s.part.polygons s.some w ≡ true → IsWholeAt s.numbers s.whole.polygons v
  named-whole v w e here g at = s.has_all w here g (ap (λ n. has_corner n (polygon_at s.whole.polygons g)) (sym e) ∙ at)

  -- each corner of a selected face of the whole is the name of one of the part, which has all faces there
  whole-from : (v : ℕ) → is_on s.whole.polygons s.others v ≡ true → IsWholeAt s.numbers s.whole.polygons v
  whole-from v on =
      let test : ℕ → Bool = λ f. has_corner v (polygon_at s.whole.polygons (face_in s.numbers f)) in
      let moved : list_any test s.some ≡ true =
      sym (any-mapped (λ f. true) (face_in s.numbers) test (λ f. has_corner v (polygon_at s.whole.polygons f)) (λ f h. refl) s.some (all-true s.some))
      ∙ ap (list_any (λ f. has_corner v (polygon_at s.whole.polygons f))) s.same ∙ on in
      let found = any-number test s.some moved in
      let f = found.0 in
      let h = ltb-true f (length s.part.polygons) (among-all (λ i. nat_lt i (length s.part.polygons)) s.some f found.2 s.within) in
      let place = among-at (polygon_at s.whole.polygons (face_in s.numbers f)) v found.1 in
      let c = place.0 in
      let k : c < length (polygon_at s.part.polygons f) = omega (arith, place.1, long f h) in
      let w = vertex_at s.part.polygons (f, c) in
      let e : v ≡ s.name w = place.2 ∙ vertex-named f c h k in
      let here : is_on s.part.polygons s.some w ≡ true = number-any (λ i. has_corner w (polygon_at s.part.polygons i)) s.some f (among-place w (polygon_at s.part.polygons f) c k refl) found.2 in
      named-whole v w e here

  children-as : children_in s.whole.polygons s.numbers ≡ map (number_there) (corner_places s.part.polygons)
  children-as =
      sym (parts-in number_there (λ f polygon. map (λ c. (f, c)) (range_with_len 0 (length polygon))) (children_of s.whole.polygons) 0 s.part.polygons s.numbers (as-many s.name s.numbers s.part.polygons s.whole.polygons s.is.polygons) (λ f h.
      let n = length (polygon_at s.part.polygons f) in
      let first = first_place s.whole.polygons (face_in s.numbers f) in
      map-twice (λ c. (0 + f, c)) number_there (range_with_len 0 n)
      ∙ ap (λ i. map (λ c. first_place s.whole.polygons (face_in s.numbers i) + c) (range_with_len 0 n)) (let e : 0 + f ≡ f = omega arith in e)
      ∙ range-moved first 0 n
      ∙ ap (λ i. range_with_len i n) (let e : first + 0 ≡ first = omega arith in e)
      ∙ ap (range_with_len first) (long f h)))

  -- the present faces of the whole are the child faces of the part at vertices of selected faces
  pub numbers-same : places (is_on s.whole.polygons s.others) (corners_of s.whole.polygons) ≡ map (number_there) (next_places s.part.polygons s.some)
  numbers-same =
      let corners = corners_of s.whole.polygons in
      let test : ℕ → Bool = λ i. is_on s.whole.polygons s.others (get_or corners i 0) in
      let all = sum_by length s.whole.polygons in
      let numbers = children_in s.whole.polygons s.numbers in
      let up : Ascends 0 (0 + all) numbers = subst (λ b. Ascends 0 b numbers) (let e : all ≡ 0 + all = omega arith in e) (children-ascend s.whole.polygons 0 s.numbers (ascends (length s.whole.polygons) s.numbers s.is.polygons.ascending s.is.polygons.inside)) in
      as-filter (is_on s.whole.polygons s.others) corners
      ∙ ap (λ n. filter test (range_with_len 0 n)) (corners-length s.whole.polygons)
      ∙ kept-of-all test 0 all numbers up (λ i low high passing. there i (omega (arith, high)) passing)
      ∙ ap (filter test) children-as
      ∙ filter-mapped (is_place s.part.polygons) number_there (λ place. is_on s.part.polygons s.some (vertex_at s.part.polygons place)) test (λ place h.
      let parts = and_parts (nat_lt place.0 (length s.part.polygons)) (nat_lt place.1 (length (polygon_at s.part.polygons place.0))) h in
      passes place.0 place.1 (ltb-true _ _ parts.0) (ltb-true _ _ parts.1)) (corner_places s.part.polygons) (all-places s.part.polygons)
    where
      there : (i : ℕ) → i < sum_by length s.whole.polygons → is_on s.whole.polygons s.others (get_or (corners_of s.whole.polygons) i 0) ≡ true → is_among (children_in s.whole.polygons s.numbers) i ≡ true
      there i high passing =
          let found = owner s.whole.polygons i high in
          let g = found.0 in
          let c = found.1 in
          let v = get_or (polygon_at s.whole.polygons g) c 0 in
          let on : is_on s.whole.polygons s.others v ≡ true =
          ap (is_on s.whole.polygons s.others) (sym (ap (λ n. get_or (corners_of s.whole.polygons) n 0) found.4 ∙ corner-read s.whole.polygons g c found.2 found.3)) ∙ passing in
          ap (is_among (children_in s.whole.polygons s.numbers)) found.4
          ∙ among-children s.whole.polygons s.numbers g c found.3 (whole-from v on g (among-place v (polygon_at s.whole.polygons g) c found.3 refl))

  -- a chosen place is one of the part, and its vertex lies on a selected face
  pub all-chosen : list_all (is_place s.part.polygons) (next_places s.part.polygons s.some) ≡ true
  all-chosen = all-filtered (λ place. is_on s.part.polygons s.some (vertex_at s.part.polygons place)) (is_place s.part.polygons) (corner_places s.part.polygons) (all-places s.part.polygons)

  pub parents-same : map (λ place. is_among s.some place.0) (next_places s.part.polygons s.some) ≡ map (is_among (children_of_all s.whole.polygons s.others)) (map (number_there) (next_places s.part.polygons s.some))
  parents-same =
      map-agree (is_place s.part.polygons) (λ place. is_among s.some place.0) (λ place. is_among (children_of_all s.whole.polygons s.others) (number_there place)) (λ place h.
      let parts = and_parts (nat_lt place.0 (length s.part.polygons)) (nat_lt place.1 (length (polygon_at s.part.polygons place.0))) h in
      sym (parent-at place.0 place.1 (ltb-true _ _ parts.0) (ltb-true _ _ parts.1))) (next_places s.part.polygons s.some) all-chosen
      ∙ sym (map-twice number_there (is_among (children_of_all s.whole.polygons s.others)) (next_places s.part.polygons s.some))
