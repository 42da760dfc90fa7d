-- The written faces of a sparse level and of its texture: both ascend by number, and a face of both has as many corners in both.
use Rattle.std.proofs.Common.{◌≡◌, ℕ, zero, suc, ◌+◌, Bool, true, false, nat_eq, List, [], ◌∷◌, length, map, get_or, Option, Some, None, option_map, IfSome, refl, ap, sym, subst, ◌∙◌}
use Rattle.std.specs.List.{AllByRecursion, find}
use Rattle.std.specs.List.Sorted.{IsStrictlyIncreasing}
use Rattle.std.proofs.lemmas.Bool.{eqb-true}
use Rattle.std.proofs.lemmas.List.{length-map}
use Rattle.std.proofs.lemmas.List.Elements.{All-from_recursion}
use Rattle.subdiv_model.specs.Polygons.{Polygon, polygon_at}
use Rattle.subdiv_model.specs.Level.{Level}
use Rattle.subdiv_model.specs.Child.{refined_level}
use Rattle.subdiv_model.specs.Sparse.{FacePredicate, corners_of, is_on, present, selected}
use Rattle.subdiv_model.specs.SparseText.{WrittenFace, written_face, written_level}
use Rattle.subdiv_model.specs.SparseTexture.{corners_of_face}
use Rattle.part_laws.proofs.PlaceLemmas.{increasing}
use Rattle.sparse_laws.proofs.InnerLemmas.{places-ascend, range-ascends}
use Rattle.far_text.specs.TexturedLines.{AreFacesAlike}

-- lists with the same numbers of corners have the same number at each place
sizes-at : (xs ys : List Polygon) → map length xs ≡ map length ys → (i : ℕ) → length (get_or xs i []) ≡ length (get_or ys i [])
sizes-at [] [] same i = refl
sizes-at [] (y ∷ ys) same i = absurd (cc)
sizes-at (x ∷ xs) [] same i = absurd (cc)
sizes-at (x ∷ xs) (y ∷ ys) same zero = ap (λ sizes. get_or sizes 0 0) same
sizes-at (x ∷ xs) (y ∷ ys) same (suc i) = sizes-at xs ys (ap (λ sizes. tail sizes) same) i
  where
    tail : List ℕ → List ℕ
    tail [] = []
    tail (size ∷ sizes) = sizes

weaker : (found : Option Polygon) (n m : ℕ) → n ≡ m → IfSome found (λ points. length points ≡ n) → IfSome found (λ points. length points ≡ m)
weaker None n m same is = tt
weaker (Some points) n m same is = is ∙ same

module _ (base : Level) (predicate : FacePredicate) (k : ℕ) where
  numbers-of : (faces : List ℕ) → map (λ face. face.number) (map (written_face base predicate k) faces) ≡ faces
  numbers-of [] = refl
  numbers-of (n ∷ faces) = ap (λ ns. n ∷ ns) (numbers-of faces)

  -- the corners of a face that is found by its number
  found-size : (faces : List ℕ) (n : ℕ) →
      IfSome (option_map (λ (face : WrittenFace). face.corners) (find (λ face. nat_eq n face.number) (map (written_face base predicate k) faces))) (λ points. length points ≡ length (polygon_at (refined_level base k).polygons n))
  found-size [] n = tt
  found-size (f ∷ faces) n = go (nat_eq n f) refl (found-size faces n)
    where
      go : (b : Bool) → nat_eq n f ≡ b →
          IfSome (option_map (λ (face : WrittenFace). face.corners) (find (λ face. nat_eq n face.number) (map (written_face base predicate k) faces))) (λ points. length points ≡ length (polygon_at (refined_level base k).polygons n)) →
          IfSome (option_map (λ (face : WrittenFace). face.corners) (find (λ face. nat_eq n face.number) (map (written_face base predicate k) (f ∷ faces)))) (λ points. length points ≡ length (polygon_at (refined_level base k).polygons n))
      go true e rest = rw e (length-map (polygon_at (refined_level base k).polygons f) _ ∙ ap (λ i. length (polygon_at (refined_level base k).polygons i)) (sym (eqb-true n f e)))
      go false e rest = rw e rest

-- the present faces ascend
present-ascends : (base : Level) (predicate : FacePredicate) (k : ℕ) → IsStrictlyIncreasing (present base predicate k)
present-ascends base predicate zero = increasing 0 (0 + length base.polygons) _ (range-ascends 0 (length base.polygons))
present-ascends base predicate (suc k) =
    let polygons = (refined_level base k).polygons in
    increasing 0 (0 + length (corners_of polygons)) _ (places-ascend (is_on polygons (selected base predicate k)) 0 (corners_of polygons))

written-ascends : (base : Level) (predicate : FacePredicate) (k : ℕ) → IsStrictlyIncreasing (map (λ face. face.number) (written_level base predicate k).faces)
written-ascends base predicate k = subst IsStrictlyIncreasing (sym (numbers-of base predicate k (present base predicate k))) (present-ascends base predicate k)

module _ (base cut : Level) (predicate texture_predicate : FacePredicate) (k : ℕ) (sizes : map length (refined_level cut k).polygons ≡ map length (refined_level base k).polygons) where
  alike-by : (faces : List ℕ) →
      AllByRecursion (λ (face : WrittenFace). IfSome (corners_of_face (written_level cut texture_predicate k) face.number) (λ points. length points ≡ length face.corners)) (map (written_face base predicate k) faces)
  alike-by [] = tt
  alike-by (n ∷ faces) = (
    weaker (corners_of_face (written_level cut texture_predicate k) n) _ _
        (sizes-at (refined_level cut k).polygons (refined_level base k).polygons sizes n ∙ sym (length-map (polygon_at (refined_level base k).polygons n) _))
        (found-size cut texture_predicate k (present cut texture_predicate k) n),
    alike-by faces,
  )

  pub faces-alike : AreFacesAlike (written_level base predicate k) (written_level cut texture_predicate k)
  faces-alike = record {
    ascending = written-ascends base predicate k;
    texture_ascending = written-ascends cut texture_predicate k;
    alike = All-from_recursion _ _ (alike-by (present base predicate k));
  }
