use Rattle.std.proofs.Common.{rules, ◌≡◌, ◌∙◌, ℕ, zero, suc, ◌*◌, ◌∷◌, map, replicate, refl, ap}
use Rattle.subdiv_model.specs.Sharpness.{Smooth}
use Rattle.sharpness_rules.specs.declared.sharpness.Sharpness.TheVariants as declared
use Rattle.sharpness_rules.specs.View.{sharpness_of}
use Rattle.child_slots.proofs.halves.half_table.Goals as goal

map-smooth : (k : ℕ) → map sharpness_of (replicate k declared.Smooth) ≡ replicate k Smooth
map-smooth zero = refl
map-smooth (suc k) = ap (λ xs. Smooth ∷ xs) (map-smooth k)

pub returns-clause-smooth : goal.returns-clause-smooth
returns-clause-smooth c =
    let filled : c.in_ok-vec.field-0.items ≡ replicate (2 * c.edges.result) declared.Smooth = search rules in
    ap (map sharpness_of) filled ∙ map-smooth (2 * c.edges.result) ∙ ap (λ n. replicate (2 * n) Smooth) c.edges.ensures
