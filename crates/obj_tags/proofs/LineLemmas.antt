-- The keyword of a line.
use Rattle.std.proofs.Common.{◌≡◌, ℕ, false, List, refl}
use Rattle.subdiv_model.specs.ObjLine.{is_vertex_line, is_face_line}
use Rattle.subdiv_model.specs.ReadObj.{is_texture_line, is_tag_line, is_dropped_line, has_known_keyword}

-- a line with no keyword that is read is known where its rest is dropped
pub known_last : (words : List (List ℕ)) → is_vertex_line words ≡ false → is_texture_line words ≡ false → is_face_line words ≡ false
    → is_tag_line words ≡ false → has_known_keyword words ≡ is_dropped_line words
known_last words a b c d = rw (a, b, c, d) refl
