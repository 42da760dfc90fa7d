-- Masks whose points have their names and whose faces have their numbers in the whole.
use Rattle.std.specs.Prelude.{ℕ, List, map}
use Rattle.subdiv_model.specs.Mask.{SourcePoint, OfPoint, OfFace, Term, Mask, weigh}
use Rattle.part_laws.specs.Parts.{face_in}

-- a source with the name of its point or the number of its face in the whole
abbrev pub source_in : (ℕ → ℕ) → List ℕ → SourcePoint → SourcePoint
source_in name faces (OfPoint p) = OfPoint (name p)
source_in name faces (OfFace k) = OfFace (face_in faces k)

-- a term with its source in the whole
abbrev pub term_in : (ℕ → ℕ) → List ℕ → Term → Term
term_in name faces t = weigh t.weight (source_in name faces t.source)

-- the mask with the sources of the whole; its weights, their order and its denominator stay
abbrev pub mask_in : (ℕ → ℕ) → List ℕ → Mask → Mask
mask_in name faces mask = record { terms = map (term_in name faces) mask.terms; denominator = mask.denominator }
