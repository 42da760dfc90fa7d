-- The sources of masks are points and faces of the level, and the code's masks name those of the defined ones.
use Rattle.std.proofs.Common.{◌≡◌, ℕ, ◌<◌, true, List, length, get_or, ap, sym, ◌∙◌, subst}
use Rattle.std.specs.List.{All, list_all}
use Rattle.std.proofs.lemmas.Bool.{ltb-true}
use Rattle.std.proofs.lemmas.List.{length-map, get_or-map}
use Rattle.std.proofs.lemmas.List.Sums.{AllPass-from_list_all}
use Rattle.std.proofs.lemmas.List.Sorted.{list_any-IsPermutation, All-permutation, IsPermutation-sym}
use Rattle.std.specs.List.Sorted.{IsPermutation}
use Rattle.subdiv_model.specs.Edges.{edges_of}
use Rattle.subdiv_model.specs.Level.{Level}
use Rattle.subdiv_model.specs.Mask.{Scheme, SourcePoint, OfPoint, OfFace, Mask, has_source, same_source, is_source_of}
use Rattle.subdiv_model.specs.Mask as model
use Rattle.level_laws.proofs.WellFormedLemmas.{first-of-six}
use Rattle.sharpness_laws.specs.SameWeights.{is_joined}
use Rattle.sharpness_laws.proofs.TermOrderLemmas.{same_weights-permuted}
use Rattle.level_topology.specs.Topology.{Topology, IsTopology}
use Rattle.level_topology.specs.Child.{PointOrigin, IsOriginWithin}
use Rattle.mask_rules.specs.Masks.{IsMask}
use Rattle.mask_rules.specs.declared.mask.Term.{Term}
use Rattle.mask_rules.specs.View.{source_of, term_of, terms_of}
use Rattle.child_masks.specs.Masks.{mask_from}
use Rattle.child_masks.specs.Found.{IsAmong}
use Rattle.child_masks.proofs.SourceLemmas.{mask-inside}

-- the sources of the mask of a part of a level are points and faces of the level
pub part-sources : (t : Topology) (scheme : Scheme) (origin : PointOrigin) → IsTopology t
    → IsOriginWithin t.level.point_count (length t.level.polygons) (length (edges_of t.level.polygons)) origin
    → list_all (λ term. is_source_of t.level term.source) (mask_from t.level scheme origin).terms ≡ true
part-sources t scheme origin is below = mask-inside t.level (first-of-six _ _ _ _ _ _ is.formed) scheme origin below

-- a source of the level is among its points and faces
among-from : (level : Level) (points faces : ℕ) (source : SourcePoint) → points ≡ level.point_count → faces ≡ length level.polygons
    → is_source_of level source ≡ true → IsAmong points faces source
among-from level points faces (OfPoint v) e k h = subst (λ n. v < n) (sym e) (ltb-true _ _ h)
among-from level points faces (OfFace f) e k h = subst (λ n. f < n) (sym k) (ltb-true _ _ h)

-- an equal mask has the same terms in another order
permuted : (mask defined : Mask) → IsMask mask defined → is_joined defined ≡ true → IsPermutation mask.terms defined.terms
permuted mask defined is joined = same_weights-permuted mask defined is.joined joined is.same

-- an equal mask uses the same sources
pub sources-same : (mask defined : Mask) (source : SourcePoint) → IsMask mask defined → is_joined defined ≡ true
    → has_source mask.terms source ≡ has_source defined.terms source
sources-same mask defined source is joined =
    list_any-IsPermutation (λ (t : model.Term). same_source source t.source) mask.terms defined.terms (permuted mask defined is joined)

-- each of the code's terms uses a point or a face of the level
pub among-level : (level : Level) (points faces : ℕ) (mask defined : Mask) (terms : List Term) → IsMask mask defined → is_joined defined ≡ true
    → list_all (λ t. is_source_of level t.source) defined.terms ≡ true → terms_of terms ≡ mask.terms → points ≡ level.point_count → faces ≡ length level.polygons
    → All (λ t. IsAmong points faces (source_of t.at)) terms
among-level level points faces mask defined terms is joined sources e count number k d inside =
    among-from level points faces (source_of (get_or terms k d).at) count number here
  where
    test : model.Term → Type 0
    test t = is_source_of level t.source ≡ true

    all : All test mask.terms
    all =
        All-permutation test defined.terms mask.terms (IsPermutation-sym mask.terms defined.terms (permuted mask defined is joined))
        (λ i x below. AllPass-from_list_all (λ (t : model.Term). is_source_of level t.source) defined.terms sources i x below)

    listed : All test (terms_of terms)
    listed = subst (All test) (sym e) all

    here : is_source_of level (source_of (get_or terms k d).at) ≡ true
    here =
        ap (λ (t : model.Term). is_source_of level t.source) (sym (get_or-map term_of terms k d (term_of d) inside))
        ∙ listed k (term_of d) (subst (λ n. k < n) (sym (length-map terms term_of)) inside)
