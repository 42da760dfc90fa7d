use Rattle.std.proofs.Common.{ℕ, ◌≡◌, ◌+◌, ◌∙◌, nat_eq, ℤ, pos, List, length, map, get_or, arith, sym, refl, if◌then◌else◌}
use Rattle.std.proofs.lemmas.List.{length-map, get_or-map}
use Rattle.raw_mesh.specs.View.{texture_of}
use Rattle.face_varying.specs.TextureValues.{value_at}
use Rattle.face_varying.proofs.FirstOneStepLemmas.{corner-round, corners-end, counted}
use Rattle.face_varying.proofs.points.add_face.Goals as goal

pub loop-c-preserved : goal.loop-c-preserved
loop-c-preserved c =
    let i : ℕ = c.loop-c.c in
    let numbers : List ℕ = c.args.numbers.now in
    let vertices : List ℕ = c.args.vertices.now in
    let corners : List ℕ = c.args.corners.now in
    let texture : List (ℤ × ℤ) = map texture_of c.args.texture.now in
    let done = c.loop-c.points in
    let next = c.add_corner.new.points in
    let new = nat_eq (get_or numbers i 0) (length done.vertices.items) in
    let more : length next.vertices.items ≡ (if new then length done.vertices.items + 1 else length done.vertices.items) = counted done.vertices.items next.vertices.items new (get_or vertices i 0) c.in_ok-add_corner.ensures.vertices in
    record {
      vertices = corner-round done.vertices.items next.vertices.items (length done.vertices.items) (length next.vertices.items) (get_or numbers i 0) i (get_or vertices i 0) 0 numbers vertices c.loop-c-test.true (omega (arith, c.requires.vertices)) refl refl c.in_ok-add_corner.ensures.vertices more ∙ c.loop-c.invariant.vertices;
      values =
          corner-round (map texture_of done.values.items) (map texture_of next.values.items) (length done.vertices.items) (length next.vertices.items) (get_or numbers i 0) i (value_at texture (get_or corners i 0)) (pos 0, pos 0) numbers (map (value_at texture) corners)
          c.loop-c-test.true (omega (arith, c.requires.corners, length-map corners (value_at texture))) refl (sym (get_or-map (value_at texture) corners i 0 (pos 0, pos 0) (omega (arith, c.requires.corners)))) c.in_ok-add_corner.ensures.values more ∙ c.loop-c.invariant.values;
    }

pub returns : goal.returns
returns c = record {
  vertices = corners-end c.loop-c.points.vertices.items _ (length c.loop-c.points.vertices.items) c.loop-c.c _ c.args.vertices.now (omega arith) c.loop-c.invariant.vertices;
  values =
      corners-end (map texture_of c.loop-c.points.values.items) _ (length c.loop-c.points.vertices.items) c.loop-c.c _ (map (value_at (map texture_of c.args.texture.now)) c.args.corners.now)
      (omega (arith, length-map c.args.corners.now (value_at (map texture_of c.args.texture.now)))) c.loop-c.invariant.values;
}
