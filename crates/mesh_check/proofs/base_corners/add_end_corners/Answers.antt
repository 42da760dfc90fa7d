use Rattle.std.proofs.Common.{ap, sym, ◌∙◌, refl, List, ℕ, false, length}
use Rattle.std.specs.List.{filter, range_with_len}
use Rattle.subdiv_model.specs.Base.{is_end_corner}
use Rattle.subdiv_model.specs.Boundary.{Boundary}
use Rattle.mesh_check.specs.Base.{infinite, single_corners, with_vertex_tags}
use Rattle.mesh_check.proofs.BaseFaceLemmas.{sound-simple}
use Rattle.mesh_check.proofs.BaseMarkLemmas.{single-faces, none-kept}
use Rattle.mesh_check.proofs.base_corners.add_end_corners.Goals as goal

pub returns-in_ok-counts-in-EdgeAndCorner : goal.returns-in_ok-counts-in-EdgeAndCorner
returns-in_ok-counts-in-EdgeAndCorner c =
    let mesh = c.args.raw.now in
    c.add_singles.ensures
    ∙ ap (λ (vs : List ℕ). with_vertex_tags (infinite vs) c.args.builder.now)
    (ap single_corners c.deref.ensures.value
    ∙ single-faces mesh.faces (length mesh.points) c.in_ok-counts-in-EdgeAndCorner.counts.items (sound-simple (length mesh.points) mesh.faces c.requires.fit.sound) c.in_ok-counts-in-EdgeAndCorner.ensures.size c.in_ok-counts-in-EdgeAndCorner.ensures.counts
    ∙ ap (λ (b : Boundary). filter (is_end_corner b mesh.faces) (range_with_len 0 (length mesh.points))) c.in-EdgeAndCorner.ensures)

pub returns-in-Hidden : goal.returns-in-Hidden
returns-in-Hidden c =
    let mesh = c.args.raw.now in
    sym (ap (λ (vs : List ℕ). with_vertex_tags (infinite vs) c.args.builder.now)
    (ap (λ (b : Boundary). filter (is_end_corner b mesh.faces) (range_with_len 0 (length mesh.points))) (sym c.in-Hidden.ensures)
    ∙ none-kept (λ _. false) (range_with_len 0 (length mesh.points)) (λ v. refl)))

pub returns-in-EdgeOnly : goal.returns-in-EdgeOnly
returns-in-EdgeOnly c =
    let mesh = c.args.raw.now in
    sym (ap (λ (vs : List ℕ). with_vertex_tags (infinite vs) c.args.builder.now)
    (ap (λ (b : Boundary). filter (is_end_corner b mesh.faces) (range_with_len 0 (length mesh.points))) (sym c.in-EdgeOnly.ensures)
    ∙ none-kept (λ _. false) (range_with_len 0 (length mesh.points)) (λ v. refl)))
