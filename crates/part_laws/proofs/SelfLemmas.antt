-- A level is a part of itself, and a part of a part is a part: their marks, their sharpness and where they are whole.
use Rattle.std.proofs.Common.{◌≡◌, ℕ, suc, ◌+◌, ◌<◌, Bool, true, false, nat_eq, List, [], ◌∷◌, length, map, get_or, arith, refl, ap, sym, ◌∙◌}
use Rattle.std.specs.List.{range_with_len}
use Rattle.std.proofs.lemmas.Bool.{eqb-true}
use Rattle.std.proofs.lemmas.List.{get_or-map, map-id}
use Rattle.std.proofs.lemmas.List.FromFn.{get_or-range_with_len, length-range_with_len}
use Rattle.subdiv_model.specs.Polygons.{Polygon, has_corner, is_among, polygon_at}
use Rattle.subdiv_model.specs.Level.{Level, is_hole}
use Rattle.mesh_laws.proofs.ChildCornerLemmas.{corner-place}
use Rattle.part_laws.specs.Parts.{IsPart, IsWholeAt, is_corner, renamed, face_in}
use Rattle.part_laws.specs.LevelParts.{IsLevelPart}
use Rattle.part_laws.proofs.ListLemmas.{map-agree}
use Rattle.part_laws.proofs.TermLemmas.{all-true}
use Rattle.part_laws.proofs.PartLemmas.{as-range, as-many}
use Rattle.part_laws.proofs.JoinLemmas.{joined, map-among, corner-unnamed, corners-named}
use Rattle.part_laws.proofs.PlaceLemmas.{among-range}
use Rattle.part_laws.proofs.NameLemmas.{edge-listed}

module _ (polygons : List Polygon) where
  number : (k : ℕ) → k < length polygons → face_in (range_with_len 0 (length polygons)) k ≡ k
  number k h = omega (arith, get_or-range_with_len 0 (length polygons) k 0 h)

  pub self : IsPart (λ p. p) (range_with_len 0 (length polygons)) polygons polygons
  self = record {
    ascending = λ k h.
        let below : k + 1 < length polygons = omega (arith, h, length-range_with_len 0 (length polygons)) in
        omega (arith, number k (omega (arith, below)), number (k + 1) below);
    inside = λ k d h.
        let below : k < length polygons = omega (arith, h, length-range_with_len 0 (length polygons)) in
        omega (arith, below, get_or-range_with_len 0 (length polygons) k d below);
    same = map-agree (λ polygon. true) (map (λ p. p)) (λ polygon. polygon) (λ polygon on. map-id polygon) polygons (all-true polygons) ∙ map-id polygons ∙ as-range polygons;
    apart = λ p q h k e. e;
  }

  pub self-whole : (v : ℕ) → IsWholeAt (range_with_len 0 (length polygons)) polygons v
  self-whole v f h = among-range 0 (length polygons) f (omega arith) (omega (arith, corner-place polygons f v h))

pub self-level : (level : Level) → IsLevelPart (λ p. p) (range_with_len 0 (length level.polygons)) level level
self-level level = record {
  polygons = self level.polygons;
  method = refl;
  holes = λ k h. ap (is_hole level) (sym (number level.polygons k h));
  edges = λ edge h. refl;
  vertices = λ p h. refl;
}

-- a part of a part
pub joined-level : (name other : ℕ → ℕ) (faces others : List ℕ) (part middle whole : Level) → IsLevelPart name faces part middle → IsLevelPart other others middle whole → IsLevelPart (λ p. other (name p)) (map (face_in others) faces) part whole
joined-level name other faces others part middle whole is in_whole = record {
  polygons = joined name other faces others part.polygons middle.polygons whole.polygons is.polygons in_whole.polygons;
  method = is.method ∙ in_whole.method;
  holes = λ k h.
      let below : k < length faces = omega (arith, h, as-many name faces part.polygons middle.polygons is.polygons) in
      is.holes k h ∙ in_whole.holes (face_in faces k) (is.polygons.inside k 0 below) ∙ ap (is_hole whole) (sym (get_or-map (face_in others) faces k 0 0 below));
  edges = λ edge h. is.edges edge h ∙ in_whole.edges (renamed name edge) (edge-listed name faces part middle is.polygons edge h);
  vertices = λ p h. is.vertices p h ∙ in_whole.vertices (name p) (corners-named name faces part.polygons middle.polygons is.polygons p h);
}

pub among-at : (ns : List ℕ) (n : ℕ) → is_among ns n ≡ true → (k : ℕ) × (k < length ns) × (n ≡ get_or ns k 0)
among-at [] n h = absurd (cc)
among-at (m ∷ ns) n h = go (nat_eq n m) refl (λ more. among-at ns n more)
  where
    go : (b : Bool) → nat_eq n m ≡ b → (is_among ns n ≡ true → (k : ℕ) × (k < length ns) × (n ≡ get_or ns k 0)) → (k : ℕ) × (k < length (m ∷ ns)) × (n ≡ get_or (m ∷ ns) k 0)
    go true e behind = (0, omega arith, eqb-true n m e)
    go false e behind = let found = behind (rw e at h) in (suc found.0, omega (arith, found.1), found.2)

-- a part of a part has all faces at a point where both parts have all
pub joined-whole : (other : ℕ → ℕ) (faces others : List ℕ) (middle whole : List Polygon) → IsPart other others middle whole → (v : ℕ) → is_corner middle v ≡ true → IsWholeAt faces middle v → IsWholeAt others whole (other v) → IsWholeAt (map (face_in others) faces) whole (other v)
joined-whole other faces others middle whole is v there all all_others f h =
    let found = among-at others f (all_others f h) in
    let below : found.0 < length middle = omega (arith, found.1, as-many other others middle whole is) in
    let here : has_corner (other v) (polygon_at whole (face_in others found.0)) ≡ true = ap (λ n. has_corner (other v) (polygon_at whole n)) (sym found.2) ∙ h in
    let inner = all found.0 (corner-unnamed other others middle whole is v found.0 there below here) in
    ap (is_among (map (face_in others) faces)) found.2 ∙ map-among (face_in others) found.0 faces inner
