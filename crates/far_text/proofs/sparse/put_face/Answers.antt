use Rattle.std.proofs.Common.{◌++◌, ◌∷◌, codes, ap}
use Rattle.std.specs.List.{flat_map}
use Rattle.subdiv_model.specs.NumberText.{number_text}
use Rattle.subdiv_model.specs.SparseText.{kind_text}
use Rattle.sparse_level.specs.Faces.{face_at}
use Rattle.obj_out.proofs.PutsLemmas.{puts-after, puts-cut, puts-same}
use Rattle.far_text.specs.Lines.{corner_word}
use Rattle.far_text.proofs.SparseLemmas.{sparse-face-by-words}
use Rattle.far_text.proofs.sparse.put_face.Goals as goal

pub returns-in_err-put_kind : goal.returns-in_err-put_kind
returns-in_err-put_kind g c =
    let kind = ap (λ k. codes "f" ++ (32 ∷ kind_text k)) c.kind.ensures in
    puts-same (sparse-face-by-words (face_at c.args.level.now c.args.f))
    (puts-cut _ c.from_residual.ensures.0 (puts-same kind c.in_err-put_kind.ensures))

pub returns-in_err-put_number_after : goal.returns-in_err-put_number_after
returns-in_err-put_number_after g c =
    let kind = ap (λ k. codes "f" ++ (32 ∷ kind_text k)) c.kind.ensures in
    let number = ap (λ n. 32 ∷ number_text n) c.number.ensures in
    puts-same (sparse-face-by-words (face_at c.args.level.now c.args.f))
    (puts-after (puts-same kind c.in_ok-put_kind.ensures) (puts-cut _ c.from_residual-in_err-put_number_after.ensures.0 (puts-same number c.in_err-put_number_after.ensures)))

pub returns-in_err-put_corners : goal.returns-in_err-put_corners
returns-in_err-put_corners g c =
    let kind = ap (λ k. codes "f" ++ (32 ∷ kind_text k)) c.kind.ensures in
    let number = ap (λ n. 32 ∷ number_text n) c.number.ensures in
    let corners = ap (flat_map corner_word) c.corners.ensures in
    puts-same (sparse-face-by-words (face_at c.args.level.now c.args.f))
    (puts-after (puts-same kind c.in_ok-put_kind.ensures) (puts-after (puts-same number c.in_ok-put_number_after.ensures)
    (puts-cut _ c.from_residual-in_err-put_corners.ensures.0 (puts-same corners c.in_err-put_corners.ensures))))

pub returns : goal.returns
returns g c =
    let kind = ap (λ k. codes "f" ++ (32 ∷ kind_text k)) c.kind.ensures in
    let number = ap (λ n. 32 ∷ number_text n) c.number.ensures in
    let corners = ap (flat_map corner_word) c.corners.ensures in
    puts-same (sparse-face-by-words (face_at c.args.level.now c.args.f))
    (puts-after (puts-same kind c.in_ok-put_kind.ensures) (puts-after (puts-same number c.in_ok-put_number_after.ensures)
    (puts-after (puts-same corners c.in_ok-put_corners.ensures) c.put_byte.ensures)))
