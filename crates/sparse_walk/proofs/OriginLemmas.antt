-- The number and the vertices of a point of the next level, by where it comes from.
use Rattle.std.proofs.Common.{◌≡◌, ℕ, ◌-◌, ◌<◌, Bool, true, false, nat_lt, List, map, refl, sym, ◌∙◌, if◌then◌else◌}
use Rattle.std.specs.List.{list_any}
use Rattle.std.proofs.lemmas.Bool.{eqb-true, ltb-true}
use Rattle.subdiv_model.specs.Polygons.{is_among}
use Rattle.mesh_laws.proofs.FanLemmas.{any-number}
use Rattle.part_laws.proofs.ListLemmas.{any-mapped}
use Rattle.part_laws.proofs.TermLemmas.{all-true}
use Rattle.level_topology.specs.Child.{PointOrigin, FromVertex, FromFace, FromEdge, same_origin}
use Rattle.level_topology.specs.ChildTables.{numbered_origin}
use Rattle.child_masks.specs.Masks.{has_origin}

pub any-of-map : {X Y : Type 0} (f : X → Y) (test : Y → Bool) (xs : List X) → list_any test (map f xs) ≡ list_any (λ x. test (f x)) xs
any-of-map f test xs = any-mapped (λ x. true) f (λ x. test (f x)) test (λ x h. refl) xs (all-true xs)

-- one of the points comes from there
pub record ComesFrom (points faces : ℕ) (numbers : List ℕ) (origin : PointOrigin) : Type 0 where
  pub n : ℕ
  pub among : is_among numbers n ≡ true
  pub same : same_origin origin (numbered_origin points faces n) ≡ true

pub comes-from : (points faces : ℕ) (numbers : List ℕ) (origin : PointOrigin) → has_origin (map (numbered_origin points faces) numbers) origin ≡ true
    → ComesFrom points faces numbers origin
comes-from points faces numbers origin h =
    let found = any-number (λ n. same_origin origin (numbered_origin points faces n)) numbers (sym (any-of-map (numbered_origin points faces) (same_origin origin) numbers) ∙ h) in
    record { n = found.0; among = found.2; same = found.1 }

-- a point that comes from a vertex has its number
pub vertex-number : (points faces n v : ℕ) → same_origin (FromVertex v) (numbered_origin points faces n) ≡ true → (n < points) × (n ≡ v)
vertex-number points faces n v h = go (nat_lt n points) (nat_lt (n - points) faces) refl h
  where
    go : (a b : Bool) → nat_lt n points ≡ a → same_origin (FromVertex v) (if a then FromVertex n else (if b then FromFace (n - points) else FromEdge (n - points - faces))) ≡ true
        → (n < points) × (n ≡ v)
    go true b e h = (ltb-true n points e, sym (eqb-true v n h))
    go false true e h = absurd (cc)
    go false false e h = absurd (cc)

-- the number of a point that comes from an edge is above those of vertices and faces
pub record IsAtEdge (points faces n e : ℕ) : Type 0 where
  pub no_vertex : nat_lt n points ≡ false
  pub no_face : nat_lt (n - points) faces ≡ false
  pub number : n - points - faces ≡ e

pub edge-number : (points faces n e : ℕ) → same_origin (FromEdge e) (numbered_origin points faces n) ≡ true → IsAtEdge points faces n e
edge-number points faces n e h = go (nat_lt n points) (nat_lt (n - points) faces) refl refl h
  where
    go : (a b : Bool) → nat_lt n points ≡ a → nat_lt (n - points) faces ≡ b
        → same_origin (FromEdge e) (if a then FromVertex n else (if b then FromFace (n - points) else FromEdge (n - points - faces))) ≡ true → IsAtEdge points faces n e
    go true b p q h = absurd (cc)
    go false true p q h = absurd (cc)
    go false false p q h = record { no_vertex = p; no_face = q; number = sym (eqb-true e (n - points - faces) h) }
