-- The text of a mesh with its tags is read without fault.
use Rattle.std.proofs.Common.{◌≡◌, ℕ, zero, suc, ◌+◌, ◌^◌, ◌<◌, ◌≤◌, ℤ, unsigned_abs, Bool, true, false, ◌&&◌, ◌||◌, nat_lt, nat_le, List, [], ◌∷◌, ◌++◌, length, map, take, get_or, None, Some, inl, inr, ◌⊎◌, arith, refl, ap, sym, subst, ◌∙◌, ⊎_elim}
use Rattle.std.specs.Prelude.{codes}
use Rattle.std.specs.List.{All, AllByRecursion, list_all, filter, range_with_len}
use Rattle.std.specs.Option.{option_or}
use Rattle.std.proofs.lemmas.Bool.{and_parts, cond-false}
use Rattle.std.proofs.lemmas.Bool.Decides.{nat_tests}
use Rattle.std.proofs.lemmas.List.{length-map}
use Rattle.std.proofs.lemmas.List.Elements.{recursion_from_All, All-from_recursion}
use Rattle.std.proofs.lemmas.List.Sums.{length-filter}
use Rattle.subdiv_model.specs.Polygons.{Polygon, is_over}
use Rattle.subdiv_model.specs.Edges.{all_sides, edges_of}
use Rattle.subdiv_model.specs.Sharpness.{Smooth, is_sharp, is_proper_sharpness}
use Rattle.subdiv_model.specs.Level.{Level, vertex_sharpness_of, is_hole, is_well_formed}
use Rattle.subdiv_model.specs.Edges.{edge_number}
use Rattle.subdiv_model.specs.Short.{IsShort, IsShortPoint, IsShortTexture}
use Rattle.subdiv_model.specs.Value.{Value}
use Rattle.subdiv_model.specs.Refined.{Point}
use Rattle.subdiv_model.specs.Text.{is_written_crease}
use Rattle.subdiv_model.specs.ObjLine.{is_vertex_line, is_face_line}
use Rattle.subdiv_model.specs.ObjFault.{NumberRange}
use Rattle.subdiv_model.specs.ObjWord.{Counts}
use Rattle.subdiv_model.specs.ReadObj.{obj_lines, is_texture_line, counts_of, line_fault, fault_at, first_bad_line, common_over, position_common, has_long_number, long_fault, late_fault, lesser_fault, first_late_fault, lines_fault, read_obj_fault, point_over, texture_over, texture_common_of, mesh_of_lines}
use Rattle.number_laws.proofs.ListLemmas.{all-kept}
use Rattle.mesh_laws.proofs.ChildCountLemmas.{is_inside, sides-inside}
use Rattle.mesh_laws.proofs.ClosedLemmas.{first_named-all}
use Rattle.mesh_laws.proofs.WalkLemmas.{range-all}
use Rattle.obj_laws.proofs.FirstFaultLemmas.{no-fault}
use Rattle.text_laws.specs.Laws.{words_of}
use Rattle.text_laws.specs.MeshLines.{mode_tag, method_tags, written_edges, written_vertices, written_holes}
use Rattle.text_laws.specs.ReadMesh.{HasDenominators, HasTextureDenominators, WrittenMesh, written_text, mesh_read, has_corners}
use Rattle.text_laws.specs.Readable.{is_short_point, is_short_texture, is_readable_sharpness, IsReadable}
use Rattle.text_laws.proofs.ListLemmas.{all-at}
use Rattle.text_laws.proofs.KeptLemmas.{Words, vertex_words, texture_words, crease_words, tag_words, hole_words, words_of_tags, all_words, vertices-kept, texture-kept, faces-kept, face_words}
use Rattle.text_laws.proofs.FaceLemmas.{kept-at}
use Rattle.text_laws.proofs.ReadMeshLemmas.{well-parts, points-counted, corner_words, plain_words, lines-read}
use Rattle.text_laws.proofs.GoodLineLemmas.{vertex-good, texture-good, face-good, mode-good, methods-good, crease-good, vertex_tag-good, hole-good}

-- what holds of each of two lists, of each that is made, and at a place

joined : {X : Type 0} (P : X → Type 0) (xs ys : List X) → AllByRecursion P xs → AllByRecursion P ys → AllByRecursion P (xs ++ ys)
joined P [] ys first second = second
joined P (x ∷ xs) ys first second = (first.0, joined P xs ys first.1 second)

made : {X Y : Type 0} (P : Y → Type 0) (keep : X → Bool) (make : X → Y) → ((x : X) → keep x ≡ true → P (make x)) → (xs : List X)
    → list_all keep xs ≡ true → AllByRecursion P (map make xs)
made P keep make each [] all = tt
made P keep make each (x ∷ xs) all =
    let parts = and_parts (keep x) (list_all keep xs) all in (each x parts.0, made P keep make each xs parts.1)

at-place : {X : Type 0} (P : X → Type 0) (d : X) (xs : List X) (i : ℕ) → AllByRecursion P xs → i < length xs → P (get_or xs i d)
at-place P d [] i all low = absurd (omega arith)
at-place P d (x ∷ xs) zero all low = all.0
at-place P d (x ∷ xs) (suc i) all low = at-place P d xs i all.1 (omega arith)

-- lines of points, texture values, faces and tags
module _ {Face : Type 0} (points : List Point) (texture : List (Value × Value)) (corners : Face → List (List ℕ)) (faces : List Face) (level : Level)
    (well : is_well_formed level ≡ true) (counted : length points ≡ level.point_count) (many : length faces ≡ length level.polygons) where
  abbrev lines : List Words
  lines = all_words points texture corners faces level

  abbrev whole : Counts
  whole = counts_of lines

  abbrev IsGood : Words → Type 0
  IsGood words = (before : Counts) → line_fault before whole words ≡ None

  pub point-count : whole.point_count ≡ level.point_count
  point-count = points-counted points texture corners faces level well counted

  face-count : whole.face_count ≡ length level.polygons
  face-count =
      sym (length-filter is_face_line lines)
      ∙ ap length (faces-kept points texture corners faces level)
      ∙ length-map faces (face_words points texture corners faces level)
      ∙ many

  points-good : (some : List Point) → AllByRecursion HasDenominators some → list_all is_short_point some ≡ true → AllByRecursion IsGood (map vertex_words some)
  points-good [] above short = tt
  points-good (point ∷ some) above short =
      let parts = and_parts (is_short_point point) (list_all is_short_point some) short in
      ((λ before. vertex-good before whole point above.0 parts.0), points-good some above.1 parts.1)

  texture-values-good : (some : List (Value × Value)) → AllByRecursion HasTextureDenominators some → list_all is_short_texture some ≡ true
      → AllByRecursion IsGood (map texture_words some)
  texture-values-good [] above short = tt
  texture-values-good (value ∷ some) above short =
      let parts = and_parts (is_short_texture value) (list_all is_short_texture some) short in
      ((λ before. texture-good before whole value above.0 parts.0), texture-values-good some above.1 parts.1)

  -- the ends of edges, the vertices and the holes are there
  edges-inside : list_all (is_inside whole.point_count) (written_edges level) ≡ true
  edges-inside =
      let over = ap (λ n. is_over n level.polygons) point-count ∙ (well-parts level well).over in
      all-kept (is_written_crease level) (is_inside whole.point_count) (edges_of level.polygons)
      (first_named-all (is_inside whole.point_count) (all_sides level.polygons) (sides-inside whole.point_count level.polygons over))

  vertices-inside : list_all (λ v. nat_lt v whole.point_count) (written_vertices level) ≡ true
  vertices-inside =
      all-kept (λ v. is_sharp (vertex_sharpness_of level v)) (λ v. nat_lt v whole.point_count) (range_with_len 0 level.point_count)
      (range-all (λ v. nat_lt v whole.point_count) 0 level.point_count (λ v low. below v whole.point_count level.point_count point-count low))
    where
      below : (v m n : ℕ) → m ≡ n → v < 0 + n → nat_lt v m ≡ true
      below v m n e low = grind (arith, nat_tests)

  holes-inside : list_all (λ f. nat_lt f whole.face_count) (written_holes level) ≡ true
  holes-inside =
      all-kept (is_hole level) (λ f. nat_lt f whole.face_count) (range_with_len 0 (length level.polygons))
      (range-all (λ f. nat_lt f whole.face_count) 0 (length level.polygons) (λ f low. below f whole.face_count (length level.polygons) face-count low))
    where
      below : (v m n : ℕ) → m ≡ n → v < 0 + n → nat_lt v m ≡ true
      below v m n e low = grind (arith, nat_tests)

  module _ (edges : list_all is_readable_sharpness level.edge_sharpness ≡ true) (vertices : list_all is_readable_sharpness level.vertex_sharpness ≡ true) where
    tags-good : AllByRecursion IsGood (words_of_tags level)
    tags-good =
        let is = well-parts level well in
        let creases = map (crease_words level) (written_edges level) in
        let corners = map (tag_words level) (written_vertices level) in
        let holes = map hole_words (written_holes level) in
        let methods = map words_of (method_tags level.method) in
        joined IsGood (words_of mode_tag ∷ []) (methods ++ (creases ++ (corners ++ holes))) ((λ before. mode-good before whole), tt)
        (joined IsGood methods (creases ++ (corners ++ holes)) (methods-good whole level.method)
        (joined IsGood creases (corners ++ holes)
        (made IsGood (is_inside whole.point_count) (crease_words level)
        (λ edge inside before.
        let ends = and_parts (nat_lt edge.0 whole.point_count) (nat_lt edge.1 whole.point_count) inside in
        crease-good before whole level edge ends.0 ends.1
        (all-at is_proper_sharpness Smooth level.edge_sharpness (edge_number level.polygons edge) is.edges refl)
        (all-at is_readable_sharpness Smooth level.edge_sharpness (edge_number level.polygons edge) edges refl))
        (written_edges level) edges-inside)
        (joined IsGood corners holes
        (made IsGood (λ v. nat_lt v whole.point_count) (tag_words level)
        (λ v inside before. vertex_tag-good before whole level v inside
        (all-at is_proper_sharpness Smooth level.vertex_sharpness v is.vertices refl)
        (all-at is_readable_sharpness Smooth level.vertex_sharpness v vertices refl))
        (written_vertices level) vertices-inside)
        (made IsGood (λ f. nat_lt f whole.face_count) hole_words (λ f inside before. hole-good before whole f inside) (written_holes level) holes-inside))))

    -- each line is good by itself, where those of faces are
    pub no-bad-line : All HasDenominators points → list_all is_short_point points ≡ true → All HasTextureDenominators texture
        → list_all is_short_texture texture ≡ true → AllByRecursion IsGood (map (face_words points texture corners faces level) faces)
        → first_bad_line lines ≡ None
    no-bad-line above short texture_above texture_short faces_good =
        let third = map (face_words points texture corners faces level) faces in
        let second = map texture_words texture in
        let good : AllByRecursion IsGood lines =
        joined IsGood (map vertex_words points) (second ++ (third ++ words_of_tags level)) (points-good points (recursion_from_All HasDenominators points above) short)
        (joined IsGood second (third ++ words_of_tags level)
        (texture-values-good texture (recursion_from_All HasTextureDenominators texture texture_above) texture_short)
        (joined IsGood third (words_of_tags level) faces_good tags-good)) in
        no-fault (fault_at lines) (length lines) (λ i low. at-place IsGood [] lines i good low (counts_of (take i lines)))

-- a channel whose common denominator and numbers are in range has no late fault
channel-good : (lines : List Words) (is_of : Words → Bool) (start : ℕ) → common_over start (filter is_of lines) ≤ 10 ^ 37
    → AllByRecursion (λ words. has_long_number (common_over start (filter is_of lines)) words ≡ false) (filter is_of lines) → late_fault is_of start lines ≡ None
channel-good lines is_of start few short =
    let common = common_over start (filter is_of lines) in
    cond-false _ _ _ (within common few)
    ∙ no-fault (long_fault is_of common lines) (length lines)
    (λ i low. ⊎_elim
    (λ (other : is_of (get_or lines i []) ≡ false). cond-false _ (Some NumberRange) None (ap (λ b. b && has_long_number common (get_or lines i [])) other))
    (λ (is : is_of (get_or lines i []) ≡ true).
    let fine = kept-at is_of (λ words. has_long_number common words ≡ false) [] lines i short low is in
    cond-false _ (Some NumberRange) None (both (is_of (get_or lines i [])) (has_long_number common (get_or lines i [])) fine))
    (turned (is_of (get_or lines i []))))
  where
    within : (n : ℕ) → n ≤ 10 ^ 37 → nat_lt (10 ^ 37) n ≡ false
    within n h = grind (arith, nat_tests)

    both : (b c : Bool) → c ≡ false → (b && c) ≡ false
    both true c e = e
    both false c e = refl

    turned : (b : Bool) → (b ≡ false) ⊎ (b ≡ true)
    turned true = inr refl
    turned false = inl refl

-- numbers that are not long
short-number : (n : ℤ) → IsShort n → nat_le (10 ^ 37) (unsigned_abs n) ≡ false
short-number n short = grind (arith, nat_tests)

short-lines : (common : ℕ) (points : List Point) → AllByRecursion IsShortPoint (map (point_over common) (map vertex_words points))
    → AllByRecursion (λ words. has_long_number common words ≡ false) (map vertex_words points)
short-lines common [] short = tt
short-lines common (point ∷ points) short =
    let numbers : ℤ × ℤ × ℤ = point_over common (vertex_words point) in
    (or-three (short-number numbers.0 short.0.0) (short-number numbers.1 short.0.1) (short-number numbers.2 short.0.2), short-lines common points short.1)
  where
    or-three : {a b c : Bool} → a ≡ false → b ≡ false → c ≡ false → (a || (b || (c || false))) ≡ false
    or-three p q r = rw (p, q, r) refl

short-texture : (common : ℕ) (texture : List (Value × Value)) → AllByRecursion IsShortTexture (map (texture_over common) (map texture_words texture))
    → AllByRecursion (λ words. has_long_number common words ≡ false) (map texture_words texture)
short-texture common [] short = tt
short-texture common (value ∷ texture) short =
    let numbers : ℤ × ℤ = texture_over common (texture_words value) in
    (or-two (short-number numbers.0 short.0.0) (short-number numbers.1 short.0.1), short-texture common texture short.1)
  where
    or-two : {a b : Bool} → a ≡ false → b ≡ false → (a || (b || false)) ≡ false
    or-two p q = rw (p, q) refl

-- the channels of lines with these points and these texture values
pub points-in-range : (lines : List Words) (points : List Point) (least : ℕ) → filter is_vertex_line lines ≡ map vertex_words points
    → position_common least lines ≤ 10 ^ 37 → All IsShortPoint (map (point_over (position_common least lines)) (filter is_vertex_line lines))
    → late_fault is_vertex_line (10 ^ least) lines ≡ None
points-in-range lines points least kept few numbers =
    let common : ℕ = position_common least lines in
    let short : AllByRecursion IsShortPoint (map (point_over common) (map vertex_words points)) =
    subst (λ some. AllByRecursion IsShortPoint (map (point_over common) some)) kept (recursion_from_All IsShortPoint (map (point_over common) (filter is_vertex_line lines)) numbers) in
    channel-good lines is_vertex_line (10 ^ least) few
    (subst (AllByRecursion (λ words. has_long_number common words ≡ false)) (sym kept) (short-lines common points short))

pub texture-in-range : (lines : List Words) (texture : List (Value × Value)) → filter is_texture_line lines ≡ map texture_words texture
    → texture_common_of lines ≤ 10 ^ 37 → All IsShortTexture (map (texture_over (texture_common_of lines)) (filter is_texture_line lines))
    → late_fault is_texture_line 1 lines ≡ None
texture-in-range lines texture kept few numbers =
    let common : ℕ = texture_common_of lines in
    let short : AllByRecursion IsShortTexture (map (texture_over common) (map texture_words texture)) =
    subst (λ some. AllByRecursion IsShortTexture (map (texture_over common) some)) kept (recursion_from_All IsShortTexture (map (texture_over common) (filter is_texture_line lines)) numbers) in
    channel-good lines is_texture_line 1 few
    (subst (AllByRecursion (λ words. has_long_number common words ≡ false)) (sym kept) (short-texture common texture short))

pub no-lines-fault : (lines : List Words) (least : ℕ) → first_bad_line lines ≡ None → late_fault is_vertex_line (10 ^ least) lines ≡ None
    → late_fault is_texture_line 1 lines ≡ None → lines_fault lines least ≡ None
no-lines-fault lines least bad first second =
    ap (λ fault. option_or fault (first_late_fault least lines)) bad
    ∙ ap (λ fault. lesser_fault fault (late_fault is_texture_line 1 lines)) first
    ∙ second

-- without texture

polygons-good : (counts : Counts) (some : List Polygon) → list_all has_corners some ≡ true → is_over counts.point_count some ≡ true
    → AllByRecursion (λ words. (before : Counts) → line_fault before counts words ≡ None) (map (λ polygon. codes "f" ∷ corner_words polygon) some)
polygons-good counts [] corners below = tt
polygons-good counts (polygon ∷ some) corners below =
    let first = and_parts (has_corners polygon) (list_all has_corners some) corners in
    let second = and_parts (list_all (λ v. nat_lt v counts.point_count) polygon) (is_over counts.point_count some) below in
    ((λ before. face-good before counts polygon first.0 second.0), polygons-good counts some first.1 second.1)

plain-lines-good : (points : List Point) (level : Level) (least : ℕ) → is_well_formed level ≡ true → length points ≡ level.point_count
    → All HasDenominators points → IsReadable level points (mesh_of_lines (plain_words points level) least)
    → lines_fault (plain_words points level) least ≡ None
plain-lines-good points level least well counted positive is =
    let lines = plain_words points level in
    let whole = counts_of lines in
    let none : filter is_texture_line lines ≡ [] = texture-kept points [] corner_words level.polygons level in
    let one : texture_common_of lines ≤ 10 ^ 37 = subst (λ some. common_over 1 some ≤ 10 ^ 37) (sym none) (omega arith) in
    let nothing : All IsShortTexture (map (texture_over (texture_common_of lines)) (filter is_texture_line lines)) =
    subst (λ some. All IsShortTexture (map (texture_over (texture_common_of lines)) some)) (sym none) (All-from_recursion IsShortTexture [] tt) in
    let over = ap (λ n. is_over n level.polygons) (point-count points [] corner_words level.polygons level well counted refl) ∙ (well-parts level well).over in
    no-lines-fault lines least
    (no-bad-line points [] corner_words level.polygons level well counted refl is.edges is.vertices positive is.values
    (All-from_recursion HasTextureDenominators [] tt) refl (polygons-good whole level.polygons is.corners over))
    (points-in-range lines points least (vertices-kept points [] corner_words level.polygons level) is.common is.numbers)
    (texture-in-range lines [] none one nothing)

pub read-without-fault : (mesh : WrittenMesh) (least : ℕ) → IsReadable mesh.level mesh.points (mesh_read mesh least) → read_obj_fault (written_text mesh) least ≡ None
read-without-fault mesh least is =
    let same : obj_lines (written_text mesh) ≡ plain_words mesh.points mesh.level = lines-read mesh in
    ap (λ lines. lines_fault lines least) same
    ∙ plain-lines-good mesh.points mesh.level least mesh.well_formed mesh.counted mesh.positive
    (subst (λ lines. IsReadable mesh.level mesh.points (mesh_of_lines lines least)) same is)
