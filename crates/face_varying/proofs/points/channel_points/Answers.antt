use Rattle.std.proofs.Common.{ℕ, ◌≡◌, ◌<◌, ◌≤◌, ◌+◌, ◌∙◌, ◌++◌, [], ℤ, List, length, map, get_or, take, drop, arith, ap, sym, refl}
use Rattle.std.proofs.lemmas.List.{take-append-drop, append-nil, length-map, map-append, length-append}
use Rattle.std.proofs.lemmas.Option.{get_or_from_slice_get}
use Rattle.subdiv_model.specs.Polygons.{Polygon, polygon_at, same_side}
use Rattle.subdiv_model.specs.Cut.{channel_point}
use Rattle.mesh_laws.proofs.SideLemmas.{same_side-refl}
use Rattle.mesh_laws.proofs.ChildClosedLemmas.{same-pair}
use Rattle.raw_mesh.specs.View.{texture_of}
use Rattle.face_varying.specs.Corners.{corner_points, corner_numbers}
use Rattle.face_varying.specs.FirstOnes.{first_ones}
use Rattle.face_varying.specs.TextureValues.{value_at, value_of}
use Rattle.face_varying.proofs.CornerLemmas.{corners-length}
use Rattle.face_varying.proofs.CornerValueLemmas.{corner-vertices, corner-values, as-many, as-long}
use Rattle.face_varying.proofs.CuttableLemmas.{same-faces}
use Rattle.face_varying.proofs.FirstOneLemmas.{first-ones-once}
use Rattle.face_varying.proofs.FirstOneStepLemmas.{joined_lists, face-round, first-ones-length, joined-drop, joined-end, lengths-drop}
use Rattle.face_varying.proofs.points.channel_points.Goals as goal

pub loop-f-init : goal.loop-f-init
loop-f-init c =
    let mesh = c.args.raw.now in
    record {
      vertices = rw c.new.ensures.items refl;
      values = rw (c.new-2.ensures.items, c.new.ensures.items) refl;
      left = ap length c.requires.numbers ∙ length-map (corner_points mesh) _ ∙ corners-length (channel_point mesh) 0 mesh.faces;
    }

pub split_at-requires : goal.split_at-requires
split_at-requires c =
    let mesh = c.args.raw.now in
    let f = c.loop-f.f in
    let faces : c.args.level.now.level.polygons ≡ mesh.faces = same-faces mesh c.args.level.now c.requires.cuttable in
    let inside : f < length mesh.faces = omega (arith, ap length faces, c.faces-f-end.ensures) in
    let face : c.face_vertices-vertices.result.now ≡ polygon_at mesh.faces f = c.face_vertices-vertices.ensures ∙ ap (λ (ps : List Polygon). polygon_at ps f) faces in
    omega (arith, ap length face, c.loop-f.invariant.left, lengths-drop mesh.faces f inside)

pub add_face-requires-clause-corners : goal.add_face-requires-clause-corners
add_face-requires-clause-corners c =
    let mesh = c.args.raw.now in
    let f = c.loop-f.f in
    let faces : c.args.level.now.level.polygons ≡ mesh.faces = same-faces mesh c.args.level.now c.requires.cuttable in
    let inside : f < length mesh.faces = omega (arith, ap length faces, c.faces-f-end.ensures) in
    let face : c.face_vertices-vertices.result.now ≡ polygon_at mesh.faces f = c.face_vertices-vertices.ensures ∙ ap (λ (ps : List Polygon). polygon_at ps f) faces in
    let corners : polygon_at mesh.texture_corners f ≡ c.texture_corners.result.now = get_or_from_slice_get mesh.texture_corners f c.texture_corners.result.now [] c.texture_corners.ensures in
    let long = as-long mesh c.args.level.now c.requires.cuttable f in
    omega (arith, ap length face, ap length corners, long, c.split_at.ensures.front_len, c.split_at.ensures.back_len)

pub add_face-requires-clause-within : goal.add_face-requires-clause-within
add_face-requires-clause-within c k d h =
    let mesh = c.args.raw.now in
    let f = c.loop-f.f in
    let faces : c.args.level.now.level.polygons ≡ mesh.faces = same-faces mesh c.args.level.now c.requires.cuttable in
    let inside : f < length mesh.texture_corners = omega (arith, ap length faces, c.faces-f-end.ensures, as-many mesh c.args.level.now c.requires.cuttable) in
    let corners : polygon_at mesh.texture_corners f ≡ c.texture_corners.result.now = get_or_from_slice_get mesh.texture_corners f c.texture_corners.result.now [] c.texture_corners.ensures in
    let all = c.requires.cuttable.within.texture_corners f [] inside in
    let below : get_or c.texture_corners.result.now k d < length mesh.texture = rw corners at all k d h in
    omega (arith, below, ap length c.texture.ensures, length-map c.texture.result.now texture_of)

pub loop-f-preserved : goal.loop-f-preserved
loop-f-preserved c =
    let mesh = c.args.raw.now in
    let f = c.loop-f.f in
    let rest : List ℕ = c.loop-f.rest.now in
    let own : List ℕ = c.split_at.result.0.now in
    let others : List ℕ = c.split_at.result.1.now in
    let polygon : List ℕ = c.face_vertices-vertices.result.now in
    let corners : List ℕ = c.texture_corners.result.now in
    let done = c.loop-f.points in
    let next = c.add_face.new.points in
    let count = length done.vertices.items in
    let faces : c.args.level.now.level.polygons ≡ mesh.faces = same-faces mesh c.args.level.now c.requires.cuttable in
    let inside : f < length mesh.faces = omega (arith, ap length faces, c.faces-f-end.ensures) in
    let face : polygon ≡ polygon_at mesh.faces f = c.face_vertices-vertices.ensures ∙ ap (λ (ps : List Polygon). polygon_at ps f) faces in
    let corners_are : polygon_at mesh.texture_corners f ≡ corners = get_or_from_slice_get mesh.texture_corners f corners [] c.texture_corners.ensures in
    let split : rest ≡ own ++ others = sym (ap (λ (ns : List ℕ). ns ++ others) c.split_at.ensures.front ∙ ap (λ (ns : List ℕ). take (length polygon) rest ++ ns) c.split_at.ensures.back ∙ take-append-drop (length polygon) rest) in
    let long : length own ≡ length polygon = omega (arith, c.split_at.ensures.front_len) in
    let added = first_ones count own polygon in
    let value = λ (t : ℕ). value_at mesh.texture t in
    let same_length : length corners ≡ length polygon = omega (arith, ap length face, ap length corners_are, as-long mesh c.args.level.now c.requires.cuttable f) in
    let values_split : map value (joined_lists (drop f mesh.texture_corners)) ≡ map value corners ++ map value (joined_lists (drop (f + 1) mesh.texture_corners)) =
    ap (map value) (joined-drop mesh.texture_corners f (omega (arith, inside, as-many mesh c.args.level.now c.requires.cuttable)) ∙ ap (λ (ts : List ℕ). ts ++ joined_lists (drop (f + 1) mesh.texture_corners)) corners_are) ∙ map-append value corners (joined_lists (drop (f + 1) mesh.texture_corners)) in
    let more : length next.vertices.items ≡ count + length added = ap length c.in_ok-add_face.ensures.vertices ∙ length-append done.vertices.items added in
    record {
      vertices =
          face-round done.vertices.items next.vertices.items count (length next.vertices.items) own others rest polygon (joined_lists (drop (f + 1) mesh.faces)) (joined_lists (drop f mesh.faces))
          split long (joined-drop mesh.faces f inside ∙ ap (λ (vs : List ℕ). vs ++ joined_lists (drop (f + 1) mesh.faces)) (sym face)) c.in_ok-add_face.ensures.vertices more
          ∙ c.loop-f.invariant.vertices;
      values =
          face-round (map texture_of done.values.items) (map texture_of next.values.items) count (length next.vertices.items) own others rest (map value corners) (map value (joined_lists (drop (f + 1) mesh.texture_corners))) (map value (joined_lists (drop f mesh.texture_corners)))
          split (omega (arith, long, same_length, length-map corners value)) values_split
          (c.in_ok-add_face.ensures.values ∙ ap (λ (texture : List (ℤ × ℤ)). map texture_of done.values.items ++ first_ones count own (map (value_at texture) corners)) c.texture.ensures)
          (omega (arith, more, first-ones-length count own polygon (map value corners) (omega (arith, same_length, length-map corners value))))
          ∙ c.loop-f.invariant.values;
      left = omega (arith, c.split_at.ensures.back_len, c.loop-f.invariant.left, lengths-drop mesh.faces f inside, ap length face);
    }

pub returns : goal.returns
returns c =
    let mesh = c.args.raw.now in
    let faces : c.args.level.now.level.polygons ≡ mesh.faces = same-faces mesh c.args.level.now c.requires.cuttable in
    let end : length mesh.faces ≤ c.loop-f.f = omega (arith, ap length faces, c.faces-f-end.ensures) in
    let done = c.loop-f.points in
    let count = length done.vertices.items in
    record {
      vertices =
          sym (append-nil done.vertices.items)
          ∙ ap (λ (vs : List ℕ). done.vertices.items ++ first_ones count c.loop-f.rest.now vs) (sym (joined-end mesh.faces c.loop-f.f end))
          ∙ c.loop-f.invariant.vertices
          ∙ ap (λ (ns : List ℕ). first_ones 0 ns (joined_lists mesh.faces)) c.requires.numbers
          ∙ ap (λ (vs : List ℕ). first_ones 0 (corner_numbers mesh) vs) (corner-vertices mesh)
          ∙ first-ones-once same_side same_side-refl same-pair (λ (point : ℕ × ℕ). point.0) (corner_points mesh);
      values =
          sym (append-nil (map texture_of done.values.items))
          ∙ ap (λ (ts : List ℕ). map texture_of done.values.items ++ first_ones count c.loop-f.rest.now (map (value_at mesh.texture) ts)) (sym (joined-end mesh.texture_corners c.loop-f.f (omega (arith, end, as-many mesh c.args.level.now c.requires.cuttable))))
          ∙ c.loop-f.invariant.values
          ∙ ap (λ (ns : List ℕ). first_ones 0 ns (map (value_at mesh.texture) (joined_lists mesh.texture_corners))) c.requires.numbers
          ∙ ap (λ (values : List (ℤ × ℤ)). first_ones 0 (corner_numbers mesh) values) (corner-values mesh c.args.level.now c.requires.cuttable)
          ∙ first-ones-once same_side same_side-refl same-pair (value_of mesh) (corner_points mesh);
    }
