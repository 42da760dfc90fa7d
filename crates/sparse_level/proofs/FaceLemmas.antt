-- The pieces of all corners are those of the faces, and faces are written face by face.
use Rattle.std.proofs.Common.{◌≡◌, ℕ, ◌+◌, ◌-◌, ◌<◌, ◌≤◌, ◌^◌, Bool, true, false, nat_eq, nat_lt, List, [], ◌∷◌, ◌++◌, length, map, take, drop, get_or, slice_range, arith, refl, ap, sym, ◌∙◌, subst, if◌then◌else◌}
use Rattle.std.specs.List.{All, list_all, position_or_len, range_with_len, sum_by}
use Rattle.std.proofs.lemmas.Grind.{common_steps, flat_map-append}
use Rattle.std.proofs.lemmas.List.{append_assoc, append-nil, get_or-map, length-append, length-map, map-append, take-map, drop-map, take_more}
use Rattle.std.proofs.lemmas.Bool.{ltb-true}
use Rattle.std.proofs.lemmas.List.FromFn.{fill_by_all, get_or-map-range_with_len, length-map-range_with_len, map-range_with_len_more}
use Rattle.std.proofs.lemmas.List.Sums.{sum_by-cons, AllPass-from_list_all}
use Rattle.subdiv_model.specs.Polygons.{Polygon, polygon_at, is_among}
use Rattle.subdiv_model.specs.Level.{Level}
use Rattle.subdiv_model.specs.Sparse.{corners_of}
use Rattle.subdiv_model.specs.SparseText as model
use Rattle.subdiv_model.specs.SparseText.{WrittenFace, WrittenLevel}
use Rattle.number_laws.proofs.CountLemmas.{all-flat_map}
use Rattle.level_laws.proofs.WellFormedLemmas.{first-of-six}
use Rattle.mesh_laws.proofs.FanLemmas.{places-at}
use Rattle.level_topology.specs.Topology.{Topology, IsTopology}
use Rattle.level_topology.specs.Packed.{pieces, gaps, Ascend}
use Rattle.level_topology.proofs.ListPlaceLemmas.{joined-length}
use Rattle.sparse_laws.specs.SparseLevels.{SparseLevel}
use Rattle.sparse_laws.specs.Written.{used_points, kind_in, written_in, written_here}
use Rattle.sparse_level.specs.Places.{marked}
use Rattle.sparse_level.specs.Numbers.{places_among, numbers_of, NumberedFaces, numbered, numbered_faces}
use Rattle.sparse_level.specs.Faces.{kind_of, written_at, written_of, face_at, IsWritten}
use Rattle.sparse_level.specs.declared.kind.FaceKind.{FaceKind}
use Rattle.sparse_level.specs.declared.kind.FaceKind.TheVariants.{Leaf}

-- a marked face is among those that are marked
pub marked-among : (marks : List Bool) (f : ℕ) → is_among (marked marks) f ≡ get_or marks f false
marked-among marks f = let same : f ≡ 0 + f = omega arith in ap (is_among (marked marks)) same ∙ places-at (λ mark. mark) false refl 0 f marks

-- the kind of an inner face that is no hole
pub inner-kind : (s : SparseLevel) (selected : List ℕ) (f : ℕ) (b : Bool) → get_or s.level.holes f false ≡ false → get_or s.inner f false ≡ true → is_among selected f ≡ b → (if b then model.SelectedFace else model.LeafFace) ≡ kind_in s selected f
inner-kind s selected f b hole inner is = rw (hole, inner, is) refl

range-append : {X : Type 0} (xs ys : List X) (a b : ℕ) → b ≤ length xs → slice_range (xs ++ ys) a b ≡ slice_range xs a b
range-append xs ys a b h = grind (arith, common_steps)

range-rest : {X : Type 0} (xs ys : List X) → slice_range (xs ++ ys) (length xs) (length xs + length ys) ≡ ys
range-rest xs ys = grind (arith, common_steps)

-- the places ascend by the sizes of the faces
starts-whole : (s : ℕ) (starts : List ℕ) (end : ℕ) (polygons : List Polygon) → gaps (s ∷ starts) ≡ map length polygons → Ascend (s ∷ starts) end → s + sum_by length polygons ≡ end
starts-whole s [] end [] g a = omega (arith, a)
starts-whole s [] end (p ∷ polygons) g a = absurd (cc)
starts-whole s (t ∷ starts) end [] g a = absurd (cc)
starts-whole s (t ∷ starts) end (p ∷ polygons) g a =
    let here : t - s ≡ length p = ap (λ (l : List ℕ). get_or l 0 0) g in
    let rest = starts-whole t starts end polygons (ap (drop 1) g) a.1 in
    omega (arith, here, rest, a.0, sum_by-cons length p polygons)

-- the places split the corners of all faces into faces
pieces-joined : (s : ℕ) (starts : List ℕ) (end : ℕ) (before : List ℕ) (polygons : List Polygon) → s ≡ length before → gaps (s ∷ starts) ≡ map length polygons → Ascend (s ∷ starts) end → pieces (s ∷ starts) (before ++ corners_of polygons) ≡ polygons
pieces-joined s [] end before [] e g a = refl
pieces-joined s [] end before (p ∷ polygons) e g a = absurd (cc)
pieces-joined s (t ∷ starts) end before [] e g a = absurd (cc)
pieces-joined s (t ∷ starts) end before (p ∷ polygons) e g a =
    let size : t - s ≡ length p = ap (λ (l : List ℕ). get_or l 0 0) g in
    let next : t ≡ length before + length p = omega (arith, size, a.0, e) in
    let whole : before ++ (p ++ corners_of polygons) ≡ (before ++ p) ++ corners_of polygons = sym (append_assoc before p (corners_of polygons)) in
    let end_is : t ≡ length (before ++ p) = next ∙ sym (length-append before p) in
    let here : slice_range ((before ++ p) ++ corners_of polygons) s t ≡ p =
    range-append (before ++ p) (corners_of polygons) s t (omega (arith, end_is)) ∙ ap (λ n. slice_range (before ++ p) n t) e ∙ ap (slice_range (before ++ p) (length before)) next ∙ range-rest before p in
    let rest = pieces-joined t starts end (before ++ p) polygons end_is (ap (drop 1) g) a.1 in
    ap (λ (l : List ℕ). slice_range l s t ∷ pieces (t ∷ starts) l) whole ∙ ap (λ (l : List ℕ). l ∷ pieces (t ∷ starts) ((before ++ p) ++ corners_of polygons)) here ∙ ap (λ (l : List Polygon). p ∷ l) rest

pieces-map : (g : ℕ → ℕ) (starts list : List ℕ) → pieces starts (map g list) ≡ map (map g) (pieces starts list)
pieces-map g [] list = refl
pieces-map g (a ∷ []) list = refl
pieces-map g (a ∷ (b ∷ starts)) list =
    let here : slice_range (map g list) a b ≡ map g (slice_range list a b) = ap (take (b - a)) (drop-map g a list) ∙ take-map g (b - a) (drop a list) in
    ap (λ (l : List ℕ). l ∷ pieces (b ∷ starts) (map g list)) here ∙ ap (λ (l : List Polygon). map g (slice_range list a b) ∷ l) (pieces-map g (b ∷ starts) list)

module _ (level : Level) (starts corners : List ℕ) (sizes : gaps starts ≡ map length level.polygons) (ascend : Ascend starts (sum_by length level.polygons)) (are : corners ≡ numbers_of (corners_of level.polygons)) where
  -- the pieces of the numbers of all corners are the numbers of each face's corners
  pieces-numbered : pieces starts corners ≡ map (places_among (used_points level)) level.polygons
  pieces-numbered = ap (pieces starts) are ∙ pieces-map (λ v. position_or_len (nat_eq v) (used_points level)) starts (corners_of level.polygons) ∙ ap (map (places_among (used_points level))) (split starts sizes ascend)
    where
      split : (starts : List ℕ) → gaps starts ≡ map length level.polygons → Ascend starts (sum_by length level.polygons) → pieces starts (corners_of level.polygons) ≡ level.polygons
      split [] g a = absurd a
      split (s ∷ starts) g a = let first = starts-whole s starts (sum_by length level.polygons) level.polygons g a in pieces-joined s starts (sum_by length level.polygons) [] level.polygons (omega (arith, first)) g a

  pub all-numbered-faces : (points : ℕ) → points ≡ length (used_points level) → numbered points (pieces starts corners) ≡ numbered_faces level
  all-numbered-faces points e = both e pieces-numbered
    where
      both : {p p' : ℕ} {fs fs' : List Polygon} → p ≡ p' → fs ≡ fs' → numbered p fs ≡ numbered p' fs'
      both e g = cc

  -- the places ascend to their end
  pub starts-ascend : Ascend starts (length corners)
  starts-ascend =
      let count : length corners ≡ sum_by length level.polygons = ap length are ∙ length-map (corners_of level.polygons) (λ v. position_or_len (nat_eq v) (used_points level)) ∙ joined-length level.polygons in
      subst (Ascend starts) (sym count) ascend

-- the corners are points, and few
module _ (t : Topology) (is : IsTopology t) where
  pub corners-below : All (λ v. v < t.level.point_count) (corners_of t.level.polygons)
  corners-below c d h =
      let inside : ℕ → Bool = λ v. nat_lt v t.level.point_count in
      let over : list_all inside (corners_of t.level.polygons) ≡ true = all-flat_map inside (λ polygon. polygon) t.level.polygons ∙ first-of-six _ _ _ _ _ _ is.formed in
      ltb-true _ _ (AllPass-from_list_all inside (corners_of t.level.polygons) over c d h)

  pub corners-few : length (corners_of t.level.polygons) ≤ 2 ^ 30
  corners-few = omega (arith, joined-length t.level.polygons, is.small.corners)

-- the corners of a face more
pub corners-more : (polygons : List Polygon) (f : ℕ) → f < length polygons → corners_of (take (f + 1) polygons) ≡ corners_of (take f polygons) ++ polygon_at polygons f
corners-more polygons f h =
    ap corners_of (take_more polygons f [] h) ∙ flat_map-append (λ polygon. polygon) (take f polygons) (polygon_at polygons f ∷ [])
    ∙ ap (λ (l : List ℕ). corners_of (take f polygons) ++ l) (append-nil (polygon_at polygons f))

-- the kind of a face more
pub kind-more : (at : ℕ → model.FaceKind) (kinds : List FaceKind) (kind : FaceKind) (f : ℕ) → map kind_of kinds ≡ map at (range_with_len 0 f) → kind_of kind ≡ at f → map kind_of (kinds ++ kind ∷ []) ≡ map at (range_with_len 0 (f + 1))
kind-more at kinds kind f are is =
    let zero_more : 0 + f ≡ f = omega arith in
    map-append kind_of kinds (kind ∷ []) ∙ ap (λ (l : List model.FaceKind). l ++ kind_of kind ∷ []) are ∙ ap (λ k. map at (range_with_len 0 f) ++ k ∷ []) is ∙ sym (map-range_with_len_more at 0 f f zero_more)

module _ (s : SparseLevel) (selected : List ℕ) (kinds : List FaceKind) (numbers : List ℕ) (corners : NumberedFaces) (kinds_are : map kind_of kinds ≡ map (kind_in s selected) (range_with_len 0 (length s.level.polygons))) (numbers_are : numbers ≡ s.numbers) (corners_are : corners ≡ numbered_faces s.level) where
  -- there is a kind for each face
  as-many-kinds : length kinds ≡ length s.level.polygons
  as-many-kinds = sym (length-map kinds kind_of) ∙ ap length kinds_are ∙ length-map-range_with_len (kind_in s selected) 0 (length s.level.polygons)

  as-many-corners : length corners.faces ≡ length s.level.polygons
  as-many-corners = ap (λ (n : NumberedFaces). length n.faces) corners_are ∙ length-map s.level.polygons (places_among (used_points s.level))

  -- there is a number and a list of corners for each face
  pub each-written : length s.numbers ≡ length s.level.polygons → length s.level.polygons ≤ 2 ^ 22 → IsWritten kinds numbers corners
  each-written listed few = record { numbers_listed = ap length numbers_are ∙ listed ∙ sym as-many-kinds; corners_listed = as-many-corners ∙ sym as-many-kinds; few = omega (arith, few, as-many-kinds) }

  kind-there : (f : ℕ) → f < length s.level.polygons → kind_of (get_or kinds f Leaf) ≡ kind_in s selected f
  kind-there f h =
      sym (get_or-map kind_of kinds f Leaf model.LeafFace (omega (arith, h, as-many-kinds))) ∙ ap (λ (l : List model.FaceKind). get_or l f model.LeafFace) kinds_are
      ∙ get_or-map-range_with_len (kind_in s selected) 0 (length s.level.polygons) f f model.LeafFace h (omega arith)

  corners-there : (f : ℕ) → f < length s.level.polygons → get_or corners.faces f [] ≡ places_among (used_points s.level) (polygon_at s.level.polygons f)
  corners-there f h = ap (λ (n : NumberedFaces). get_or n.faces f []) corners_are ∙ get_or-map (places_among (used_points s.level)) s.level.polygons f [] [] h

  face-there : (f : ℕ) → f < length s.level.polygons → written_at kinds numbers corners f ≡ written_in s selected f
  face-there f h = same (kind-there f h) (ap (λ (l : List ℕ). get_or l f 0) numbers_are) (corners-there f h)
    where
      same : {k k' : model.FaceKind} {n n' : ℕ} {c c' : Polygon} → k ≡ k' → n ≡ n' → c ≡ c' → ◌≡◌ {A = WrittenFace} (record { kind = k; number = n; corners = c }) (record { kind = k'; number = n'; corners = c' })
      same e g i = cc

  -- the kept faces are those that are written
  pub all-written : written_of kinds numbers corners ≡ written_here s selected
  all-written =
      let n : ℕ = length s.level.polygons in
      let all : map (written_at kinds numbers corners) (range_with_len 0 n) ≡ map (written_in s selected) (range_with_len 0 n) =
      fill_by_all (written_in s selected) (map (written_at kinds numbers corners) (range_with_len 0 n)) n (written_in s selected 0) (length-map-range_with_len (written_at kinds numbers corners) 0 n)
      (λ f h. get_or-map-range_with_len (written_at kinds numbers corners) 0 n f f (written_in s selected 0) h (omega arith) ∙ face-there f h) in
      let faces : map (written_at kinds numbers corners) (range_with_len 0 (length kinds)) ≡ map (written_in s selected) (range_with_len 0 n) = ap (λ k. map (written_at kinds numbers corners) (range_with_len 0 k)) as-many-kinds ∙ all in
      same (ap (λ (c : NumberedFaces). c.points) corners_are) faces
    where
      same : {p p' : ℕ} {fs fs' : List WrittenFace} → p ≡ p' → fs ≡ fs' → ◌≡◌ {A = model.WrittenLevel} (record { point_count = p; faces = fs }) (record { point_count = p'; faces = fs' })
      same e g = cc

module _ (kinds : List FaceKind) (numbers : List ℕ) (corners : NumberedFaces) where
  -- as many faces are written as there are kinds
  pub written-count : length (written_of kinds numbers corners).faces ≡ length kinds
  written-count = length-map-range_with_len (written_at kinds numbers corners) 0 (length kinds)

  -- a face of those that are written
  pub face-read : (level : WrittenLevel) (f : ℕ) → written_of kinds numbers corners ≡ level → f < length kinds → written_at kinds numbers corners f ≡ face_at level f
  face-read level f e h =
      sym (get_or-map-range_with_len (written_at kinds numbers corners) 0 (length kinds) f f (record { kind = model.LeafFace; number = 0; corners = [] }) h (omega arith))
      ∙ ap (λ (l : WrittenLevel). face_at l f) e

  pub face-within : (level : WrittenLevel) (f : ℕ) → written_of kinds numbers corners ≡ level → f < length level.faces → f < length kinds
  face-within level f e h = omega (arith, h, ap (λ (l : WrittenLevel). length l.faces) e, written-count)
