-- The terms of the code as those of the definitions.
use Rattle.std.proofs.Common.{◌≡◌, ℕ, ◌+◌, ◌<◌, List, [], length, get_or, arith, ap, sym, ◌∙◌, subst}
use Rattle.std.specs.List.{All}
use Rattle.std.proofs.lemmas.List.{get_or-map, length-map}
use Rattle.subdiv_model.specs.Mask as model
use Rattle.mask_rules.specs.View.{term_of, terms_of, source_of}
use Rattle.mask_rules.specs.declared.mask.Term.{Term}
use Rattle.primvar_refine.specs.Rows.{Row}
use Rattle.primvar_refine.specs.Sums.{HasRow}

-- a claim about each source, from the claim about its view
pub rows-there : (rows made : List Row) (places : List ℕ) (terms : List Term) → All (λ t. HasRow rows made places t.source) (terms_of terms)
    → All (λ t. HasRow rows made places (source_of t.at)) terms
rows-there rows made places terms h k d inside =
    subst (λ (t : model.Term). HasRow rows made places t.source) (get_or-map term_of terms k d (term_of d) inside) (h k (term_of d) (rw length-map inside))

-- a claim about each corner, from the claim about its view
pub corners-there : {X : Type 0} (values : List X) (rows : List Row) (corners : List ℕ) → length rows ≡ length values
    → All (λ t. HasRow rows [] [] t.source) (model.weigh_points 1 corners) → All (λ v. v < length values) corners
corners-there values rows corners same h k d inside =
    let seen : ℕ → model.Term = λ v. model.weigh 1 (model.OfPoint v) in
    let here : get_or corners k d < length rows =
    subst (λ (t : model.Term). HasRow rows [] [] t.source) (get_or-map seen corners k d (seen d) inside) (h k (seen d) (rw length-map inside)) in
    omega (arith, here, same)

-- as many terms as steps
pub count-seen : (terms : List Term) (n old new : ℕ) → length (terms_of terms) ≡ n → new ≡ old + length terms → new ≡ old + n
count-seen terms n old new e h = h ∙ ap (λ k. old + k) (sym (length-map terms term_of) ∙ e)

-- as many corners as steps
pub count-corners : (corners : List ℕ) (n old new : ℕ) → length (model.weigh_points 1 corners) ≡ n → new ≡ old + length corners → new ≡ old + n
count-corners corners n old new e h =
    let seen : ℕ → model.Term = λ v. model.weigh 1 (model.OfPoint v) in
    h ∙ ap (λ k. old + k) (sym (length-map corners seen) ∙ e)
