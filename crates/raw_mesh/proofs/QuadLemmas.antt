-- Quads whose corners lie one after the other.
use Rattle.std.proofs.Common.{◌≡◌, ℕ, zero, suc, ◌+◌, ◌-◌, ◌*◌, ◌/◌, ◌%◌, ◌^◌, ◌<◌, ◌≤◌, false, List, [], ◌∷◌, length, map, take, drop, arith, refl, ap, sym, ◌∙◌, add-one}
use Rattle.std.specs.List.{All, range_with_len}
use Rattle.std.proofs.lemmas.List.{drop-drop, drop_all, length-drop}
use Rattle.std.proofs.lemmas.List.Elements.{All-nil}
use Rattle.std.proofs.lemmas.List.FromFn.{length-map-range_with_len}
use Rattle.std.proofs.Math.Nat.{div-add-mod}
use Rattle.ratio128.specs.declared.point.Point3.{Point3}
use Rattle.subdiv_model.specs.Short.{IsShortPoint, IsShortTexture}
use Rattle.raw_mesh.specs.Mesh.{pieces, Ascend, IsWhole, AreKept, mesh_of}
use Rattle.raw_mesh.specs.Made.{quads_of, ArePoints, AreQuads, AreCreases, mesh_of_quads}
use Rattle.raw_mesh.specs.View.{point_of}
use Rattle.raw_mesh.specs.declared.mesh.Coordinates.{Coordinates}
use Rattle.raw_mesh.specs.declared.tags.Crease.{Crease}
use Rattle.raw_mesh.proofs.PiecesLemmas.{join-cons}
use Rattle.raw_mesh.specs.declared.mesh.Faces.{Faces}
use Rattle.raw_mesh.specs.declared.tags.Tags.{Tags}

-- the next four corners are a face
first-quad : (xs : List ℕ) → 4 ≤ length xs → quads_of xs ≡ take 4 xs ∷ quads_of (drop 4 xs)
first-quad [] h = absurd (omega arith)
first-quad (a ∷ []) h = absurd (omega arith)
first-quad (a ∷ (b ∷ [])) h = absurd (omega arith)
first-quad (a ∷ (b ∷ (c ∷ []))) h = absurd (omega arith)
first-quad (a ∷ (b ∷ (c ∷ (d ∷ xs)))) h = refl

-- the pieces between the places of the quads from quad a on are the quads
pieces-from : (a n : ℕ) (xs : List ℕ) → length xs ≡ 4 * a + 4 * n
    → pieces (map (λ k. 4 * k) (range_with_len a (suc n))) xs ≡ quads_of (drop (4 * a) xs)
pieces-from a zero xs e = sym (ap quads_of (drop_all (4 * a) xs (omega (arith, e))))
pieces-from a (suc n) xs e =
    let four : 4 * (a + 1) - 4 * a ≡ 4 = omega arith in
    let next : 4 * a + 4 ≡ 4 * (a + 1) = omega arith in
    join-cons (ap (λ k. take k (drop (4 * a) xs)) four)
    (pieces-from (a + 1) n xs (omega (arith, e)) ∙ ap (λ k. quads_of (drop k xs)) (sym next) ∙ ap quads_of (sym (drop-drop 4 (4 * a) xs)))
    ∙ sym (first-quad (drop (4 * a) xs) (omega (arith, e, length-drop (4 * a) xs)))

-- the places of the quads ascend to the end of the corners
ascend-from : (a n end : ℕ) → end ≡ 4 * a + 4 * n → Ascend (map (λ k. 4 * k) (range_with_len a (suc n))) end
ascend-from a zero end e = omega (arith, e)
ascend-from a (suc n) end e = (omega arith, ascend-from (a + 1) n end (omega (arith, e)))

-- four corners for each quad
four-each : (corners : List ℕ) → length corners % 4 ≡ 0 → length corners ≡ 4 * 0 + 4 * (length corners / 4)
four-each corners fours = omega (arith, fours, div-add-mod (length corners) 4)

-- The places and the one after the last, written with a successor.
counted : (quads : ℕ) → map (λ k. 4 * k) (range_with_len 0 (quads + 1)) ≡ map (λ k. 4 * k) (range_with_len 0 (suc quads))
counted quads = ap (λ n. map (λ k. 4 * k) (range_with_len 0 n)) (add-one quads)

-- the lists of a mesh of quads with creases are whole
quads-whole : (points values : ℕ) (corners : List ℕ) (creases : List Crease) (faces : Faces) (tags : Tags) → AreQuads corners faces → AreCreases creases tags
    → length corners % 4 ≡ 0 → length corners < 2 ^ 27 → All (λ v. v < points) corners
    → All (λ c. (c.a < points) × (c.b < points)) creases → IsWhole points values false faces tags
quads-whole points values corners creases faces tags are only fours short vertices ends =
    let quads = length corners / 4 in
    let four = four-each corners fours in
    record {
      ascend = rw (are.starts, are.corners, counted quads) (ascend-from 0 quads (length corners) four);
      few = omega (arith, ap length are.starts, length-map-range_with_len (λ k. 4 * k) 0 (quads + 1), four, short);
      short = rw are.corners short;
      same = λ e. cc;
      vertices = rw are.corners vertices;
      texture = rw are.texture (All-nil (λ t. t < values));
      crease_ends = rw only.creases ends;
      corner_vertices = rw only.corners (All-nil _);
      hole_faces = rw only.holes (All-nil _);
    }

-- the lists of a mesh of quads are kept
pub quads-kept : (given : List Point3) (corners : List ℕ) (creases : List Crease) (coordinates : Coordinates) (faces : Faces) (tags : Tags)
    → ArePoints given coordinates → AreQuads corners faces → AreCreases creases tags → All IsShortPoint (map point_of given)
    → length corners % 4 ≡ 0 → length corners < 2 ^ 27 → All (λ v. v < length given) corners
    → All (λ c. (c.a < length given) × (c.b < length given)) creases → AreKept coordinates faces false tags
quads-kept given corners creases coordinates faces tags points are only small fours short vertices ends = record {
  short = record {
    scale = rw points.scale (omega arith, omega arith);
    texture_scale = rw points.texture_scale (omega arith, omega arith);
    points = rw points.points small;
    texture = rw points.texture (All-nil IsShortTexture);
  };
  whole = rw points.points (quads-whole (length given) (length coordinates.texture.items) corners creases faces tags are only fours short vertices ends);
}

-- The mesh of these lists is the mesh of the quads.
pub quads-mesh : (given : List Point3) (corners : List ℕ) (creases : List Crease) (coordinates : Coordinates) (faces : Faces) (tags : Tags)
    → ArePoints given coordinates → AreQuads corners faces → AreCreases creases tags → length corners % 4 ≡ 0
    → mesh_of coordinates faces false tags ≡ mesh_of_quads given corners creases
quads-mesh given corners creases coordinates faces tags points are only fours =
    let quads = length corners / 4 in
    rw (points.points, points.scale, points.texture, points.texture_scale, are.starts, are.corners, counted quads, pieces-from 0 quads corners (four-each corners fours), only.creases, only.corners, only.holes, only.boundary, only.method) refl
