-- Kept masks, by their vertices.
use Rattle.std.specs.Prelude.{ℕ, zero, suc, ◌≡◌, ◌+◌, ◌≤◌, Option, Some, None, List, [], ◌∷◌, ◌++◌, length, map, get_or, slice_range}
use Rattle.std.specs.List.{AllByRecursion}
use Rattle.subdiv_model.specs.Mask.{Mask}
use Rattle.mask_rules.specs.declared.mask.Term.{Term}
use Rattle.mask_rules.specs.View.{terms_of}
use Rattle.child_masks.specs.declared.kept.Kept.{Kept}

-- for each vertex its mask, if it is kept, and the number of kept masks
pub record KeptList : Type 0 where
  pub masks : List (Option Mask)
  pub count : ℕ

abbrev pub mask_in : List Term → Kept → Mask
mask_in terms kept = record { terms = terms_of (slice_range terms kept.start kept.end); denominator = kept.denominator }

-- the mask at a place, counted from 1; the place 0 has none
abbrev pub mask_at : List Kept → List Term → ℕ → Option Mask
mask_at masks terms zero = None
mask_at masks terms (suc i) = Some (mask_in terms (get_or masks i (record { start = 0; end = 0; denominator = 0 })))

abbrev pub list_in : List ℕ → List Kept → List Term → KeptList
list_in places masks terms = record { masks = map (mask_at masks terms) places; count = length masks }

-- each place has a mask, and each mask its terms
pub record AreKept (places : List ℕ) (masks : List Kept) (terms : List Term) : Type 0 where
  pub placed : AllByRecursion (λ place. place ≤ length masks) places
  pub inside : AllByRecursion (λ kept. (kept.start ≤ kept.end) × (kept.end ≤ length terms)) masks

-- the list gets one mask at its end, and its terms after the others
pub record IsPushed (mask : Mask) (masks : List Kept) (terms : List Term) (new_masks : List Kept) (new_terms : List Term) : Type 0 where
  pub more : List Term
  pub terms_are : new_terms ≡ terms ++ more
  pub masks_are : new_masks ≡ masks ++ (record { start = length terms; end = length terms + length more; denominator = mask.denominator }) ∷ []
  pub mask_is : terms_of more ≡ mask.terms
