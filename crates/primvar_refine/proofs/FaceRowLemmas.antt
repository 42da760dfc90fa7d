-- A row made from a face's mask is the row of the face.
use Rattle.std.proofs.Common.{◌≡◌, ℕ, pos, List, [], ◌∷◌, get_or, refl, ap, sym, ◌∙◌, subst}
use Rattle.std.specs.List.{AllByRecursion}
use Rattle.subdiv_model.specs.Level.{Level}
use Rattle.subdiv_model.specs.Value.{Value, weighted, sum_of_values}
use Rattle.subdiv_model.specs.Mask.{OfFace, Term, face_mask}
use Rattle.subdiv_model.specs.Refined.{mask_value, corner_value, source_value}
use Rattle.mask_laws.proofs.SumLemmas.{IsOver}
use Rattle.child_masks.proofs.SourceLemmas.{map-same, corners-only, corner-dens}
use Rattle.primvar_refine.specs.Rows.{Row, dens_of}
use Rattle.primvar_refine.specs.Made.{IsRowOf, IsMade}

module _ (level : Level) (f : ℕ) where
  -- the value of a face from those of its corners
  corner-values : (values : List Value) → mask_value (corner_value values) (face_mask level f) ≡ mask_value (source_value level values) (face_mask level f)
  corner-values values =
      let q = (face_mask level f).denominator in
      ap sum_of_values
      (map-same (λ t. weighted t.weight q (corner_value values t.source)) (λ t. weighted t.weight q (source_value level values t.source)) (face_mask level f).terms
      (same-terms q (face_mask level f).terms (corners-only level f (λ s. corner_value values s ≡ source_value level values s) (λ v. refl))))
    where
      same-terms : (q : ℕ) (terms : List Term) → AllByRecursion (λ t. corner_value values t.source ≡ source_value level values t.source) terms
          → AllByRecursion (λ t. weighted t.weight q (corner_value values t.source) ≡ weighted t.weight q (source_value level values t.source)) terms
      same-terms q [] h = tt
      same-terms q (t ∷ terms) h = (ap (weighted t.weight q) h.0, same-terms q terms h.1)

  -- a row made from a face's mask is the row of the face
  pub face-row : (rows : List Row) (row : Row) → IsMade level rows (face_mask level f) row → IsRowOf level rows (OfFace f) row
  face-row rows row made = record {
    den_is = made.den_is ∙ sym (corner-dens level f (dens_of rows));
    over = λ column values stand.
        subst (λ x. IsOver row.den x (get_or row.numbers column (pos 0))) (sym (corner-values values)) (made.over column values stand);
    within = made.within;
    alike = made.alike;
  }
