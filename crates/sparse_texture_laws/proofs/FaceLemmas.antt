-- Levels with the same faces refine to levels with the same faces.
use Rattle.std.proofs.Common.{◌≡◌, ℕ, zero, suc, ◌+◌, List, [], ◌∷◌, ◌++◌, length, map, get_or, replicate, drop, arith, refl, ap, sym, ◌∙◌, false}
use Rattle.std.specs.List.{flat_map, enumerate_from}
use Rattle.std.proofs.lemmas.List.{length-map, map-append}
use Rattle.subdiv_model.specs.Lists.{places, last_of}
use Rattle.subdiv_model.specs.Polygons.{Polygon, sides_of, is_among}
use Rattle.subdiv_model.specs.Level.{Level, is_hole}
use Rattle.subdiv_model.specs.Child.{child_faces, child_faces_along, child_level, refined_level}
use Rattle.subdiv_model.specs.Sparse.{children_of}
use Rattle.mesh_laws.proofs.ChildLemmas.{children_from}
use Rattle.level_laws.proofs.FaceLemmas.{sides_of-length}
use Rattle.sparse_texture_laws.specs.Cut.{HaveSameFaces}

-- a face of some corners has as many child faces, of four corners each
abbrev four_each : List ℕ → List ℕ
four_each sizes = flat_map (λ size. replicate size 4) sizes

module _ (points : ℕ) (polygons : List Polygon) where
  along-sizes : (face : ℕ) (before : ℕ × ℕ) (sides : List (ℕ × ℕ)) → map length (child_faces_along points polygons face before sides) ≡ replicate (length sides) 4
  along-sizes face before [] = refl
  along-sizes face before (side ∷ sides) = ap (λ sizes. 4 ∷ sizes) (along-sizes face side sides)

  children-sizes : (place : ℕ) (some : List Polygon) → map length (children_from points polygons place some) ≡ four_each (map length some)
  children-sizes place [] = refl
  children-sizes place (polygon ∷ some) =
      map-append length (child_faces points polygons place polygon) (children_from points polygons (place + 1) some)
      ∙ ap (λ sizes. sizes ++ map length (children_from points polygons (place + 1) some)) (along-sizes place (last_of (0, 0) (sides_of polygon)) (sides_of polygon) ∙ ap (λ n. replicate n 4) (sides_of-length polygon))
      ∙ ap (λ sizes. replicate (length polygon) 4 ++ sizes) (children-sizes (place + 1) some)

-- an item of each face, once for each of its corners
abbrev spread : {X : Type 0} → (ℕ → X) → ℕ → List Polygon → List X
spread f place polygons = flat_map (λ face. replicate (length face.1) (f face.0)) (enumerate_from place polygons)

spread-same : {X : Type 0} (f : ℕ → X) (place : ℕ) (some others : List Polygon) → map length some ≡ map length others → spread f place some ≡ spread f place others
spread-same f place [] [] e = refl
spread-same f place [] (other ∷ others) e = absurd (let long = ap length e in omega arith)
spread-same f place (polygon ∷ some) [] e = absurd (let long = ap length e in omega arith)
spread-same f place (polygon ∷ some) (other ∷ others) e =
    ap (λ n. replicate n (f place) ++ spread f (place + 1) some) (ap (λ l. get_or l 0 0) e)
    ∙ ap (λ l. replicate (length other) (f place) ++ l) (spread-same f (place + 1) some others (ap (drop 1) e))

pub children-same : (some others : List Polygon) (faces : List ℕ) → map length some ≡ map length others → children_of some faces ≡ children_of others faces
children-same some others faces e = ap (places (is_among faces)) (spread-same (λ face. face) 0 some others e)

-- both levels have as many faces
pub count-same : (base cut : Level) → HaveSameFaces base cut → length cut.polygons ≡ length base.polygons
count-same base cut same = sym (length-map cut.polygons length) ∙ ap length same.sizes ∙ length-map base.polygons length

pub next-same : (base cut : Level) → HaveSameFaces base cut → HaveSameFaces (child_level base) (child_level cut)
next-same base cut same = record {
  sizes =
      children-sizes cut.point_count cut.polygons 0 cut.polygons ∙ ap four_each same.sizes
      ∙ sym (children-sizes base.point_count base.polygons 0 base.polygons);
  holes = spread-same (is_hole cut) 0 cut.polygons base.polygons same.sizes ∙ ap (λ marks. spread (λ face. get_or marks face false) 0 base.polygons) same.holes;
}

pub after-same : (base cut : Level) → HaveSameFaces base cut → (k : ℕ) → HaveSameFaces (refined_level base k) (refined_level cut k)
after-same base cut same zero = same
after-same base cut same (suc k) = next-same (refined_level base k) (refined_level cut k) (after-same base cut same k)
