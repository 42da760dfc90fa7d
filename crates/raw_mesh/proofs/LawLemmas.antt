-- A mesh that is kept in whole lists has its numbers within the lists that they count.
use Rattle.std.proofs.Common.{◌≡◌, ℕ, ◌+◌, ◌-◌, ◌<◌, ◌≤◌, Bool, true, false, if◌then◌else◌, List, [], ◌∷◌, length, map, arith, refl, ap, sym, ◌∙◌, slice_range, drop, nat_lt}
use Rattle.std.specs.List.{All, sum_by}
use Rattle.std.proofs.lemmas.Bool.{and_parts, eqb-true}
use Rattle.std.proofs.lemmas.List.{length-map}
use Rattle.std.proofs.lemmas.List.Elements.{All-nil, All-cons, All-map, All-weaker, All-take, All-drop}
use Rattle.raw_mesh.specs.Mesh.{pieces, Ascend, names_all_texture, IsWhole, AreKept, mesh_of}
use Rattle.raw_mesh.specs.Laws.{IsWithin}
use Rattle.raw_mesh.specs.View.{point_of, texture_of, crease_of, corner_tag_of}
use Rattle.raw_mesh.specs.declared.mesh.Coordinates.{Coordinates}
use Rattle.raw_mesh.specs.declared.mesh.Faces.{Faces}
use Rattle.raw_mesh.specs.declared.tags.Tags.{Tags}
use Rattle.raw_mesh.proofs.PiecesLemmas.{length-pieces, sum_by-pieces, length-range, head_below}

-- A property of all elements of a list holds in each of its pieces.
pieces-all : (P : ℕ → Type 0) (starts xs : List ℕ) → All P xs → All (λ piece. All P piece) (pieces starts xs)
pieces-all P [] xs h = All-nil (λ piece. All P piece)
pieces-all P (a ∷ []) xs h = All-nil (λ piece. All P piece)
pieces-all P (a ∷ (b ∷ places)) xs h =
    All-cons (λ piece. All P piece) (slice_range xs a b) (pieces (b ∷ places) xs) (range-all xs a b h) (pieces-all P (b ∷ places) xs h)
  where
    range-all : (ys : List ℕ) (i j : ℕ) → All P ys → All P (slice_range ys i j)
    range-all ys i j all = All-take P (j - i) (drop i ys) (All-drop P i ys all)

-- The pieces have no more elements than the list.
pieces-short : (starts xs : List ℕ) → Ascend starts (length xs) → sum_by length (pieces starts xs) ≤ length xs
pieces-short [] xs h = absurd h
pieces-short (s ∷ starts) xs h = omega (arith, sum_by-pieces s starts xs h)

texture-all : (has : Bool) (P : ℕ → Type 0) (starts xs : List ℕ) → All P xs
    → All (λ piece. All P piece) (if has then pieces starts xs else [])
texture-all true P starts xs h = pieces-all P starts xs h
texture-all false P starts xs h = All-nil (λ piece. All P piece)

-- The lengths of the pieces depend only on the places.
pieces-lengths : (starts xs ys : List ℕ) → Ascend starts (length xs) → length xs ≡ length ys → map length (pieces starts xs) ≡ map length (pieces starts ys)
pieces-lengths [] xs ys h same = refl
pieces-lengths (a ∷ []) xs ys h same = refl
pieces-lengths (a ∷ (b ∷ places)) xs ys h same =
    let within : b ≤ length xs = head_below b places (length xs) h.1 in
    let long : length (slice_range xs a b) ≡ length (slice_range ys a b)
    = omega (arith, length-range xs a b h.0 within, length-range ys a b h.0 (omega (arith, within, same))) in
    ap (λ n. n ∷ map length (pieces (b ∷ places) xs)) long
    ∙ ap (λ ns. length (slice_range ys a b) ∷ ns) (pieces-lengths (b ∷ places) xs ys h.1 same)

-- With texture, each corner has a number.
texture-lengths : (has : Bool) (starts xs ys : List ℕ) → Ascend starts (length xs) → (has ≡ true → length ys ≡ length xs)
    → has ≡ true → map length (if has then pieces starts ys else []) ≡ map length (pieces starts xs)
texture-lengths true starts xs ys h same is = sym (pieces-lengths starts xs ys h (sym (same refl)))
texture-lengths false starts xs ys h same is = cc is

-- The bounds of a mesh follow from its lists.
pub within : (coordinates : Coordinates) (faces : Faces) (has_texture : Bool) (tags : Tags) → AreKept coordinates faces has_texture tags
    → IsWithin (mesh_of coordinates faces has_texture tags)
within coordinates faces has_texture tags are =
    let points = coordinates.points.items in
    let texture = coordinates.texture.items in
    let short = are.short in
    let whole = are.whole in
    let as_points : length (map point_of points) ≡ length points = length-map points point_of in
    let as_values : length (map texture_of texture) ≡ length texture = length-map texture texture_of in
    let as_faces = length-pieces faces.starts.items faces.corners.items in
    let polygons = pieces faces.starts.items faces.corners.items in
    record {
      common = short.scale.0;
      common_short = short.scale.1;
      texture_common = short.texture_scale.0;
      texture_common_short = short.texture_scale.1;
      points = short.points;
      texture = short.texture;
      faces = pieces-all (λ v. v < length (map point_of points)) faces.starts.items faces.corners.items (All-weaker (λ v. v < length points) (λ v. v < length (map point_of points)) (λ v h. omega (arith, h, as_points)) faces.corners.items whole.vertices);
      texture_corners = texture-all has_texture (λ t. t < length (map texture_of texture)) faces.starts.items faces.texture_corners.items (All-weaker (λ t. t < length texture) (λ t. t < length (map texture_of texture)) (λ t h. omega (arith, h, as_values)) faces.texture_corners.items whole.texture);
      textured = texture-lengths has_texture faces.starts.items faces.corners.items faces.texture_corners.items whole.ascend whole.same;
      creases = All-map (λ c. (c.0.0 < length (map point_of points)) × (c.0.1 < length (map point_of points))) crease_of tags.creases.items (All-weaker (λ c. (c.a < length points) × (c.b < length points)) (λ c. (c.a < length (map point_of points)) × (c.b < length (map point_of points))) (λ c h. (omega (arith, h.0, as_points), omega (arith, h.1, as_points))) tags.creases.items whole.crease_ends);
      corner_tags = All-map (λ c. c.0 < length (map point_of points)) corner_tag_of tags.corners.items (All-weaker (λ c. c.vertex < length points) (λ c. c.vertex < length (map point_of points)) (λ c h. omega (arith, h, as_points)) tags.corners.items whole.corner_vertices);
      holes = All-weaker (λ f. f + 1 < length faces.starts.items) (λ f. f < length polygons) (λ f h. omega (arith, h, as_faces)) tags.holes.items whole.hole_faces;
      few_corners = omega (arith, whole.short, pieces-short faces.starts.items faces.corners.items whole.ascend);
    }

-- lists that are whole are so beside whether all corners have a texture value
pub whole-mesh : (points values : ℕ) (has : Bool) (faces : Faces) (tags : Tags) → IsWhole points values false faces tags
    → has ≡ names_all_texture faces → IsWhole points values has faces tags
whole-mesh points values has faces tags whole e_has =
    record {
      ascend = whole.ascend;
      few = whole.few;
      short = whole.short;
      same = λ e. eqb-true _ _ (and_parts (nat_lt 1 (length faces.starts.items)) _ (sym e_has ∙ e)).1;
      vertices = whole.vertices;
      texture = whole.texture;
      crease_ends = whole.crease_ends;
      corner_vertices = whole.corner_vertices;
      hole_faces = whole.hole_faces;
    }
