-- Parts with which nothing is wrong are whole.
use Rattle.std.proofs.Common.{◌≡◌, ℕ, ◌+◌, ◌^◌, ◌<◌, ◌≤◌, Bool, true, false, ◌||◌, nat_lt, nat_le, nat_eq, unsigned_abs, List, [], ◌∷◌, length, sum, Option, Some, None, option_map, cond, arith, refl, ap, ◌∙◌}
use Rattle.std.specs.Option.{option_or}
use Rattle.std.specs.List.{All, position, position_or_len}
use Rattle.std.proofs.lemmas.Bool.{and_parts, eqb-true, ltb-true, ltb-false, leb-true}
use Rattle.std.proofs.lemmas.Bool.Decides.{nat_tests}
use Rattle.std.proofs.lemmas.List.Elements.{All-nil, All-cons, All-map}
use Rattle.ratio128.specs.declared.point.Point2.{Point2}
use Rattle.ratio128.specs.declared.point.Point3.{Point3}
use Rattle.raw_mesh.specs.Mesh.{AreShort, IsWhole, mesh_of_lists}
use Rattle.raw_mesh.specs.Parts.{bad_unless, is_scale, is_long, is_long_point, is_long_value, bad_coordinates, bad_counts, bad_corners, bad_part, mesh_of_parts}
use Rattle.subdiv_model.specs.Short.{IsShortPoint, IsShortTexture}
use Rattle.raw_mesh.specs.Starts.{starts_from}
use Rattle.raw_mesh.specs.View.{point_of, texture_of}
use Rattle.raw_mesh.specs.declared.fault.BadPart.{BadPart}
use Rattle.raw_mesh.specs.declared.fault.BadPart.TheVariants as bad
use Rattle.raw_mesh.specs.declared.mesh.Coordinates.{Coordinates}
use Rattle.raw_mesh.specs.declared.mesh.Faces.{Faces}
use Rattle.raw_mesh.specs.declared.parts.MeshParts.{MeshParts}
use Rattle.raw_mesh.proofs.StartLemmas.{ascend-starts, length-starts, pieces-starts}

-- nothing is wrong with either
pub or-none : {X : Type 0} (a b : Option X) → option_or a b ≡ None → (a ≡ None) × (b ≡ None)
or-none None b e = (refl, e)
or-none (Some x) b e = cc

pub map-none : {X Y : Type 0} (f : X → Y) (a : Option X) → option_map f a ≡ None → a ≡ None
map-none f None e = refl
map-none f (Some x) e = cc

pub unless-none : (test : Bool) (bad : BadPart) → bad_unless test bad ≡ None → test ≡ true
unless-none true bad e = refl
unless-none false bad e = cc

-- a list that has no first item which passes has none
none-passes : {X : Type 0} (test : X → Bool) (P : X → Type 0) (xs : List X) → ((x : X) → test x ≡ false → P x)
    → length xs ≤ position_or_len test xs → All P xs
none-passes test P [] sound h = All-nil P
none-passes test P (x ∷ xs) sound h = by (test x) refl (none-passes test P xs sound)
  where
    by : (passes : Bool) → test x ≡ passes → (length xs ≤ position_or_len test xs → All P xs) → All P (x ∷ xs)
    by true e rest = absurd (grind (arith, nat_tests, e, h))
    by false e rest = All-cons P x xs (sound x e) (rest (grind (arith, nat_tests, e, h)))

some-or : (test : Bool) (place : ℕ) → cond test (Some place) None ≡ None → test ≡ false
some-or true place e = cc
some-or false place e = refl

pub none-first : {X : Type 0} (test : X → Bool) (P : X → Type 0) (xs : List X) → ((x : X) → test x ≡ false → P x)
    → position test xs ≡ None → All P xs
none-first test P xs sound none =
    none-passes test P xs sound (ltb-false (position_or_len test xs) (length xs) (some-or _ _ none))

below-from : (count n : ℕ) → nat_le count n ≡ false → n < count
below-from count n e = grind (arith, nat_tests, e)

or-parts : (p q : Bool) → p || q ≡ false → (p ≡ false) × (q ≡ false)
or-parts false q e = (refl, e)
or-parts true q e = cc

both-below : (count a b : ℕ) → nat_le count a || nat_le count b ≡ false → (a < count) × (b < count)
both-below count a b e = let parts = or-parts (nat_le count a) (nat_le count b) e in (below-from count a parts.0, below-from count b parts.1)

scale-from : (scale : ℕ) → is_scale scale ≡ true → (0 < scale) × (scale ≤ 10 ^ 37)
scale-from scale e = let parts = and_parts (nat_lt 0 scale) (nat_le scale (10 ^ 37)) e in (ltb-true 0 scale parts.0, leb-true scale (10 ^ 37) parts.1)

point-short : (p : Point3) → is_long_point p ≡ false → IsShortPoint (point_of p)
point-short p e =
    let first = or-parts (is_long p.x) (is_long p.y || is_long p.z) e in
    let second = or-parts (is_long p.y) (is_long p.z) first.1 in
    (below-from (10 ^ 37) (unsigned_abs p.x) first.0, below-from (10 ^ 37) (unsigned_abs p.y) second.0, below-from (10 ^ 37) (unsigned_abs p.z) second.1)

value-short : (t : Point2) → is_long_value t ≡ false → IsShortTexture (texture_of t)
value-short t e =
    let parts = or-parts (is_long t.u) (is_long t.v) e in (below-from (10 ^ 37) (unsigned_abs t.u) parts.0, below-from (10 ^ 37) (unsigned_abs t.v) parts.1)

-- coordinates with which nothing is wrong
pub are-short : (coordinates : Coordinates) → bad_coordinates coordinates ≡ None → AreShort coordinates
are-short coordinates e =
    let first = or-none (bad_unless (is_scale coordinates.scale) bad.PointScale) _ e in
    let second = or-none (bad_unless (is_scale coordinates.texture_scale) bad.TextureScale) _ first.1 in
    let third = or-none (option_map bad.Point (position is_long_point coordinates.points.items)) _ second.1 in
    record {
      scale = scale-from coordinates.scale (unless-none _ _ first.0);
      texture_scale = scale-from coordinates.texture_scale (unless-none _ _ second.0);
      points = All-map IsShortPoint point_of coordinates.points.items (none-first is_long_point (λ p. IsShortPoint (point_of p)) coordinates.points.items point-short (map-none bad.Point _ third.0));
      texture = All-map IsShortTexture texture_of coordinates.texture.items (none-first is_long_value (λ t. IsShortTexture (texture_of t)) coordinates.texture.items value-short (map-none bad.TextureValue _ third.1));
    }

-- the coordinates of parts with which nothing is wrong
pub short-parts : (parts : MeshParts) → bad_part parts ≡ None → AreShort parts.coordinates
short-parts parts e = are-short parts.coordinates (or-none (bad_coordinates parts.coordinates) _ e).0

-- the corners of all faces are as many as the corners
pub sizes-sum : (parts : MeshParts) → bad_counts parts ≡ None
    → (length parts.face_sizes.items ≤ 2 ^ 28) × (length parts.corners.items < 2 ^ 27) × (sum parts.face_sizes.items ≡ length parts.corners.items)
sizes-sum parts e =
    let first = or-none (bad_unless (nat_le (length parts.face_sizes.items) (2 ^ 28)) bad.FaceCount) _ e in
    let second = or-none (bad_unless (nat_lt (length parts.corners.items) (2 ^ 27)) bad.CornerCount) _ first.1 in
    let third = or-none (bad_unless (nat_eq (sum parts.face_sizes.items) (length parts.corners.items)) bad.FaceSizes) _ second.1 in
    (leb-true _ _ (unless-none _ _ first.0), ltb-true _ _ (unless-none _ _ second.0), eqb-true _ _ (unless-none _ _ third.0))

-- fewer than 2^27 corners, so that where each face begins fits
pub few-corners : (parts : MeshParts) → bad_part parts ≡ None → sum parts.face_sizes.items < 2 ^ 27
few-corners parts e =
    let counts = sizes-sum parts (or-none (bad_counts parts) _ (or-none (bad_coordinates parts.coordinates) _ e).1).0 in
    omega (arith, counts.1, counts.2)

-- the lists of parts with which nothing is wrong are whole
pub whole-parts : (parts : MeshParts) (faces : Faces) → faces.starts.items ≡ starts_from 0 parts.face_sizes.items
    → faces.corners.items ≡ parts.corners.items → faces.texture_corners.items ≡ parts.texture_corners.items → bad_part parts ≡ None
    → IsWhole (length parts.coordinates.points.items) (length parts.coordinates.texture.items) false faces parts.tags
whole-parts parts faces starts corners texture e =
    let points = length parts.coordinates.points.items in
    let values = length parts.coordinates.texture.items in
    let sizes = parts.face_sizes.items in
    let after-coordinates = or-none (bad_coordinates parts.coordinates) _ e in
    let after-counts = or-none (bad_counts parts) _ after-coordinates.1 in
    let after-corners = or-none (bad_corners parts) _ after-counts.1 in
    let counts = sizes-sum parts after-counts.0 in
    let each = or-none (option_map bad.Corner (position (nat_le points) parts.corners.items)) _ after-corners.0 in
    let first = or-none (option_map bad.Crease (position (λ crease. nat_le points crease.a || nat_le points crease.b) parts.tags.creases.items)) _ after-corners.1 in
    let second = or-none (option_map bad.CornerTag (position (λ tag. nat_le points tag.vertex) parts.tags.corners.items)) _ first.1 in
    let long : length faces.starts.items ≡ length sizes + 1 = ap length starts ∙ length-starts 0 sizes in
    record {
      ascend = rw (starts, corners) (ascend-starts 0 sizes (length parts.corners.items) (omega (arith, counts.2)));
      few = omega (arith, long, counts.0);
      short = rw corners counts.1;
      same = λ e. cc;
      vertices = rw corners (none-first (nat_le points) (λ v. v < points) parts.corners.items (below-from points) (map-none bad.Corner _ each.0));
      texture = rw texture (none-first (nat_le values) (λ t. t < values) parts.texture_corners.items (below-from values) (map-none bad.TextureCorner _ each.1));
      crease_ends = none-first (λ crease. nat_le points crease.a || nat_le points crease.b) (λ c. (c.a < points) × (c.b < points)) parts.tags.creases.items (λ c. both-below points c.a c.b) (map-none bad.Crease _ first.0);
      corner_vertices = none-first (λ tag. nat_le points tag.vertex) (λ c. c.vertex < points) parts.tags.corners.items (λ c. below-from points c.vertex) (map-none bad.CornerTag _ second.0);
      hole_faces = none-first (nat_le (length sizes)) (λ f. f + 1 < length faces.starts.items) parts.tags.holes.items (λ f below. let less = below-from (length sizes) f below in omega (arith, less, long)) (map-none bad.Hole _ second.1);
    }

-- The mesh of these lists is the mesh of the parts.
pub mesh-parts : (parts : MeshParts) (faces : Faces) → faces.starts.items ≡ starts_from 0 parts.face_sizes.items
    → faces.corners.items ≡ parts.corners.items → faces.texture_corners.items ≡ parts.texture_corners.items
    → mesh_of_lists parts.coordinates faces parts.tags ≡ mesh_of_parts parts
mesh-parts parts faces starts corners texture =
    let some : nat_lt 1 (length (starts_from 0 parts.face_sizes.items)) ≡ nat_lt 0 (length parts.face_sizes.items) = grind (arith, nat_tests, length-starts 0 parts.face_sizes.items) in
    rw (starts, corners, texture, some, pieces-starts 0 parts.face_sizes.items parts.corners.items, pieces-starts 0 parts.face_sizes.items parts.texture_corners.items) refl
