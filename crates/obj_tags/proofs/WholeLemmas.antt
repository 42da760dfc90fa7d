-- Kept lines without a fault are whole: each number names an item that exists.
use Rattle.std.proofs.Common.{◌≡◌, ℕ, ◌+◌, ◌-◌, ◌*◌, ◌^◌, ◌<◌, ◌≤◌, Bool, true, false, ◌&&◌, nat_lt, List, [], ◌∷◌, length, map, take, get_or, None, arith, refl, ap, sym, subst, ◌∙◌, ⊎_elim}
use Rattle.std.specs.List.{All, sum_by, list_all, flat_map}
use Rattle.std.proofs.Math.Seq.{take-length}
use Rattle.std.proofs.lemmas.Bool.{and_parts, cases_Bool, ltb-true}
use Rattle.std.proofs.lemmas.List.Concat.{length-flat_map}
use Rattle.std.proofs.lemmas.List.Elements.{All-nil, All-cons}
use Rattle.std.proofs.lemmas.List.Folds.{list_all-map, fold-map}
use Rattle.subdiv_model.specs.Lists.{places}
use Rattle.subdiv_model.specs.ObjLine.{is_face_line}
use Rattle.subdiv_model.specs.ObjWord.{Counts, corner_fault, corner_point, has_texture_part}
use Rattle.subdiv_model.specs.ReadObj.{obj_lines, counts_of, values_of, corner_numbers, faces_of, fault_at, first_bad_line, is_texture_line}
use Rattle.obj_laws.proofs.FirstFaultLemmas.{each-good}
use Rattle.obj_laws.proofs.ObjGoodLemmas.{all-good, are-below, face-corners, texture-below}
use Rattle.obj_laws.proofs.ObjLineLemmas.{count-before}
use Rattle.obj_laws.proofs.ObjMeshLemmas.{AreGood, all-places, vertices-good, creases-good, corners-good, holes-good}
use Rattle.obj_laws.proofs.ObjSizeLemmas.{corners-bytes}
use Rattle.obj_tags.specs.Draft.{IsDraftOf, AreTags, textures_at}
use Rattle.obj_tags.specs.Face.{named_textures}
use Rattle.raw_mesh.specs.Mesh.{pieces, IsWhole}
use Rattle.obj_tags.specs.View as view
use Rattle.raw_mesh.specs.View.{crease_of, corner_tag_of}
use Rattle.obj_tags.specs.declared.draft.Draft.{Draft}
use Rattle.obj_tags.specs.declared.face.Counts as face
use Rattle.raw_mesh.specs.declared.tags.Crease.{Crease}
use Rattle.obj_tags.specs.declared.survey.Survey.{Survey}
use Rattle.obj_tags.proofs.KeepLemmas.{counts-kept, some-starts}
use Rattle.raw_mesh.proofs.PiecesLemmas.{length-pieces}
use Rattle.obj_tags.specs.Line.{Line}
use Rattle.number_laws.proofs.CountLemmas.{all-flat_map}

-- A test that all elements pass gives each its property.
all-from : {X : Type 0} (test : X → Bool) (P : X → Type 0) (xs : List X) → ((x : X) → test x ≡ true → P x) → list_all test xs ≡ true
    → All P xs
all-from test P [] sound h = All-nil P
all-from test P (x ∷ xs) sound h =
    let parts = and_parts (test x) (list_all test xs) h in
    All-cons P x xs (sound x parts.0) (all-from test P xs sound parts.1)

-- A test that the views of all elements pass gives each its property.
all-seen : {X Y : Type 0} (view : X → Y) (test : Y → Bool) (P : X → Type 0) (xs : List X) (ys : List Y) → map view xs ≡ ys
    → ((x : X) → test (view x) ≡ true → P x) → list_all test ys ≡ true → All P xs
all-seen view test P xs ys e sound h = all-from (λ x. test (view x)) P xs sound (sym (list_all-map test view xs) ∙ ap (list_all test) e ∙ h)

-- the numbers of all corners
abbrev pub face-places : List Line → List ℕ
face-places lines = places is_face_line lines

vertices-below : (lines : List Line) → AreGood lines
    → are-below (counts_of lines).point_count (flat_map (corner_numbers corner_point lines) (face-places lines)) ≡ true
vertices-below lines good =
    all-flat_map (λ v. nat_lt v (counts_of lines).point_count) (corner_numbers corner_point lines) (face-places lines)
    ∙ sym (list_all-map (are-below (counts_of lines).point_count) (corner_numbers corner_point lines) (face-places lines))
    ∙ vertices-good lines good

corner-texture-below : (b w : Counts) (first word : List ℕ) → b.texture_count ≤ w.texture_count → corner_fault b w first word ≡ None
    → are-below w.texture_count (named_textures b w word) ≡ true
corner-texture-below b w first word h fine =
    ⊎_elim
    (λ (has : has_texture_part word ≡ true). let below = texture-below b w first word h fine has in rw (has, below) refl)
    (λ (none : has_texture_part word ≡ false). rw none refl)
    (cases_Bool (has_texture_part word))

line-textures-below : (lines : List Line) → AreGood lines → (i : ℕ) → i < length lines → is_face_line (get_or lines i []) ≡ true
    → are-below (counts_of lines).texture_count (textures_at lines i) ≡ true
line-textures-below lines good i low is =
    let b = counts_of (take i lines) in
    let w = counts_of lines in
    let words = get_or lines i [] in
    all-flat_map (λ t. nat_lt t w.texture_count) (named_textures b w) (values_of words)
    ∙ all-good (corner_fault b w (get_or words 1 [])) (λ word. are-below w.texture_count (named_textures b w word))
    (λ word fine. corner-texture-below b w (get_or words 1 []) word (count-before is_texture_line lines i) fine)
    (values_of words) (face-corners b w words is (good i low))

textures-below : (lines : List Line) → AreGood lines
    → are-below (counts_of lines).texture_count (flat_map (textures_at lines) (face-places lines)) ≡ true
textures-below lines good =
    all-flat_map (λ t. nat_lt t (counts_of lines).texture_count) (textures_at lines) (face-places lines)
    ∙ all-places is_face_line (λ i. are-below (counts_of lines).texture_count (textures_at lines i)) [] lines (line-textures-below lines good)

-- numbers that pass the test are below
below-from : (n m : ℕ) (xs : List ℕ) → n ≡ m → are-below n xs ≡ true → All (λ v. v < m) xs
below-from n m xs e h = all-from (λ v. nat_lt v n) (λ v. v < m) xs (λ v less. let below = ltb-true v n less in omega (arith, e, below)) h

crease-sound : (n m : ℕ) (c : Crease) → n ≡ m → nat_lt c.a n && nat_lt c.b n ≡ true → (c.a < m) × (c.b < m)
crease-sound n m c e h =
    let parts = and_parts _ _ h in
    let first = ltb-true c.a n parts.0 in
    let second = ltb-true c.b n parts.1 in (omega (arith, e, first), omega (arith, e, second))

-- of two bytes for each corner, and one for each face
few-corners : (faces : List (List ℕ)) → 2 * sum_by length faces + length faces ≤ 2 ^ 28 → sum_by length faces < 2 ^ 27
few-corners [] h = omega arith
few-corners (face ∷ faces) h = omega (arith, h)

corners-sum : (lines : List Line)
    → length (flat_map (corner_numbers corner_point lines) (face-places lines)) ≡ sum_by length (faces_of lines)
corners-sum lines =
    length-flat_map (corner_numbers corner_point lines) (face-places lines)
    ∙ sym (fold-map (λ n face. n + length face) (corner_numbers corner_point lines) 0 (face-places lines))

-- the draft of all lines, without its lines
pub record OfAll (draft : Draft) (lines : List Line) : Type 0 where
  pub read : pieces draft.faces.starts.items draft.faces.corners.items ≡ faces_of lines
  pub corners : draft.faces.corners.items ≡ flat_map (corner_numbers corner_point lines) (face-places lines)
  pub texture : draft.faces.texture_corners.items ≡ flat_map (textures_at lines) (face-places lines)
  pub tags : AreTags draft.tags lines
  pub points : length draft.positions.points.items ≡ (counts_of lines).point_count
  pub values : length draft.texture.points.items ≡ (counts_of lines).texture_count
  pub faces : length draft.faces.starts.items ≡ (counts_of lines).face_count + 1

-- the draft of all lines
pub of-all : (found : Survey) (draft : Draft) (lines : List Line) → IsDraftOf found draft lines (length lines) → OfAll draft lines
of-all found draft lines is =
    let all : take (length lines) lines ≡ lines = take-length lines in
    let starts = draft.faces.starts.items in
    let some = some-starts starts (length draft.faces.corners.items) is.faces.ascend in
    let b : face.Counts = record { point_count = length draft.positions.points.items; texture_count = length draft.texture.points.items; face_count = length starts - 1 } in
    let counted : view.counts_of b ≡ counts_of lines = counts-kept found draft b lines (length lines) refl refl (omega (arith, some)) is ∙ ap counts_of all in
    let faces : length starts - 1 ≡ (counts_of lines).face_count = ap (λ (k : Counts). k.face_count) counted in
    record {
      read = is.faces.read ∙ ap (λ ls. map (corner_numbers corner_point lines) (face-places ls)) all;
      corners = is.faces.corners ∙ ap (λ ls. flat_map (corner_numbers corner_point lines) (face-places ls)) all;
      texture = is.faces.texture ∙ ap (λ ls. flat_map (textures_at lines) (face-places ls)) all;
      tags = subst (AreTags draft.tags) all is.tags;
      points = ap (λ (k : Counts). k.point_count) counted;
      values = ap (λ (k : Counts). k.texture_count) counted;
      faces = omega (arith, some, faces);
    }

-- is whole, where no line is bad
pub whole-draft : (found : Survey) (draft : Draft) (text : List ℕ) → length text ≤ 2 ^ 28 → IsDraftOf found draft (obj_lines text) (length (obj_lines text))
    → first_bad_line (obj_lines text) ≡ None
    → IsWhole (length draft.positions.points.items) (length draft.texture.points.items) false draft.faces draft.tags
whole-draft found draft text short is none =
    let lines = obj_lines text in
    let points = (counts_of lines).point_count in
    let all = of-all found draft lines is in
    let good : AreGood lines = each-good (fault_at lines) (length lines) none in
    let bytes : 2 * sum_by length (faces_of lines) + length (faces_of lines) ≤ length text = corners-bytes text 0 in
    let size : length draft.faces.corners.items ≡ sum_by length (faces_of lines) = ap length all.corners ∙ corners-sum lines in
    let polygons : length draft.faces.starts.items - 1 ≡ length (faces_of lines) = sym (length-pieces draft.faces.starts.items draft.faces.corners.items) ∙ ap length all.read in
    record {
      ascend = is.faces.ascend;
      few = omega (arith, polygons, bytes, short);
      short = omega (arith, size, few-corners (faces_of lines) (omega (arith, bytes, short)));
      same = λ e. cc;
      vertices = below-from points (length draft.positions.points.items) draft.faces.corners.items (sym all.points) (ap (are-below points) all.corners ∙ vertices-below lines good);
      texture = below-from (counts_of lines).texture_count (length draft.texture.points.items) draft.faces.texture_corners.items (sym all.values) (ap (are-below (counts_of lines).texture_count) all.texture ∙ textures-below lines good);
      crease_ends = all-seen crease_of (λ c. nat_lt c.0.0 points && nat_lt c.0.1 points) (λ c. (c.a < length draft.positions.points.items) × (c.b < length draft.positions.points.items)) draft.tags.creases.items _ all.tags.creases (λ c below. crease-sound points (length draft.positions.points.items) c (sym all.points) below) (creases-good lines good);
      corner_vertices = all-seen corner_tag_of (λ c. nat_lt c.0 points) (λ c. c.vertex < length draft.positions.points.items) draft.tags.corners.items _ all.tags.corners (λ c below. let less = ltb-true c.vertex points below in omega (arith, all.points, less)) (corners-good lines good);
      hole_faces = all-from (λ f. nat_lt f (counts_of lines).face_count) (λ f. f + 1 < length draft.faces.starts.items) draft.tags.holes.items (λ f below. let less = ltb-true f (counts_of lines).face_count below in omega (arith, all.faces, less)) (ap (are-below (counts_of lines).face_count) all.tags.holes ∙ holes-good lines good);
    }
