-- The masks of child points, and those that are kept.
use Rattle.std.proofs.Common.{◌≡◌, ◌≢◌, inl, inr, ◌⊎◌, ℕ, zero, suc, ◌+◌, ◌<◌, ◌≤◌, Bool, true, false, ◌||◌, nat_eq, Option, Some, None, List, [], ◌∷◌, ◌++◌, length, take, get_or, set, arith, refl, ap, sym, ◌∙◌, subst}
use Rattle.std.proofs.lemmas.Bool.{eqb-true, eq-eqb}
use Rattle.std.proofs.lemmas.List.{take_more, length-append}
use Rattle.std.proofs.lemmas.List.Folds.{list_any-append}
use Rattle.subdiv_model.specs.Polygons.{polygon_at}
use Rattle.subdiv_model.specs.Level.{Level}
use Rattle.subdiv_model.specs.Mask.{Scheme, Mask, Term, weigh_points, vertex_mask}
use Rattle.sharpness_laws.specs.SameWeights.{is_joined}
use Rattle.sharpness_laws.proofs.MaskValueLemmas.{joined-mask_of}
use Rattle.level_topology.specs.Topology.{Topology, edge_at}
use Rattle.level_topology.specs.Child.{PointOrigin, FromVertex, FromFace, FromEdge, same_origin}
use Rattle.level_topology.proofs.ChildLemmas.{same_origin-true}
use Rattle.mask_rules.specs.Masks.{IsMask}
use Rattle.mask_rules.specs.Smooth.{IsPlainAt}
use Rattle.mask_rules.proofs.EqualLemmas.{joined-vertex_mask, joined-edge_mask}
use Rattle.child_masks.specs.Masks.{mask_from, has_origin}
use Rattle.child_masks.specs.Kept.{KeptList}
use Rattle.child_masks.specs.Found.{AreMarked, IsAdded}
use Rattle.child_masks.specs.declared.survey.Survey.{Survey}
use Rattle.child_masks.specs.MaskOf.{IsKeptFor, AreKeptFor, IsKeptNext}

-- each defined mask is joined
pub joined-from : (level : Level) (scheme : Scheme) (origin : PointOrigin) → is_joined (mask_from level scheme origin) ≡ true
joined-from level scheme (FromVertex v) = joined-vertex_mask level v scheme
joined-from level scheme (FromFace f) = joined-mask_of (weigh_points 1 (polygon_at level.polygons f)) (length (polygon_at level.polygons f))
joined-from level scheme (FromEdge e) = joined-edge_mask level (edge_at level.polygons e) scheme

-- one of two holds where either does
either : (a b : Bool) → (a || b) ≡ true → (a ≡ true) ⊎ (b ≡ true)
either true b h = inl refl
either false b h = inr h

or-none : (b : Bool) → (b || false) ≡ b
or-none true = refl
or-none false = refl

-- a vertex with a point among some more has one among the first or is that of the last
among-more : (origins : List PointOrigin) (origin : PointOrigin) (u : ℕ) → has_origin (origins ++ origin ∷ []) (FromVertex u) ≡ true
    → (has_origin origins (FromVertex u) ≡ true) ⊎ (FromVertex u ≡ origin)
among-more origins origin u has =
    elim (either _ _ (sym (list_any-append (same_origin (FromVertex u)) origins (origin ∷ [])) ∙ has)) [
      | inl h ↦ inl h
      | inr h ↦ inr (same_origin-true (FromVertex u) origin (sym (or-none (same_origin (FromVertex u) origin)) ∙ h))
    ]

vertex-number : (u v : ℕ) → FromVertex u ≡ FromVertex v → u ≡ v
vertex-number u v e = cc

module _ (parent : Topology) (scheme : Scheme) (origins : List PointOrigin) (p : ℕ) (inside : p < length origins) where
  next : (origin : PointOrigin) → get_or origins p (FromVertex 0) ≡ origin → take (p + 1) origins ≡ take p origins ++ origin ∷ []
  next origin e = take_more origins p (FromVertex 0) inside ∙ ap (λ o. take p origins ++ o ∷ []) e

  -- one vertex more
  pub kept-next : (v : ℕ) (old new : KeptList) → get_or origins p (FromVertex 0) ≡ FromVertex v → AreKeptFor parent scheme (take p origins) old
      → IsKeptNext parent scheme v old new → AreKeptFor parent scheme (take (p + 1) origins) new
  kept-next v old new e so_far is =
      subst (λ l. AreKeptFor parent scheme l new) (sym (next (FromVertex v) e)) (record {
        counted = is.counted ∙ so_far.counted;
        few = omega (arith, is.few, so_far.few, length-append (take p origins) (FromVertex v ∷ []));
        each = λ u has. at u has (nat_eq u v) refl;
      })
    where
      own : (u : ℕ) → u ≡ v → IsKeptFor parent scheme u (get_or new.masks u None)
      own u same = subst (λ n. IsKeptFor parent scheme n (get_or new.masks n None)) (sym same) is.own

      at : (u : ℕ) → has_origin (take p origins ++ FromVertex v ∷ []) (FromVertex u) ≡ true → (b : Bool) → nat_eq u v ≡ b → IsKeptFor parent scheme u (get_or new.masks u None)
      at u has true h = own u (eqb-true u v h)
      at u has false h =
          elim (among-more (take p origins) (FromVertex v) u has) [
            | inl before ↦ subst (IsKeptFor parent scheme u) (sym (is.others u (λ same. apart u same h))) (so_far.each u before)
            | inr same ↦ own u (vertex-number u v same)
          ]
        where
          apart : (u : ℕ) → u ≡ v → nat_eq u v ≡ false → ⊥
          apart u same different = wrong (nat_eq u v) (eq-eqb u v same) different
            where
              wrong : (b : Bool) → b ≡ true → b ≡ false → ⊥
              wrong true h k = cc
              wrong false h k = cc

  -- a point of another part
  pub kept-other : (origin : PointOrigin) (old new : KeptList) → get_or origins p (FromVertex 0) ≡ origin → ((u : ℕ) → FromVertex u ≡ origin → ⊥)
      → AreKeptFor parent scheme (take p origins) old → new ≡ old → AreKeptFor parent scheme (take (p + 1) origins) new
  kept-other origin old new e none so_far same =
      subst (AreKeptFor parent scheme (take (p + 1) origins)) (sym same)
      (subst (λ l. AreKeptFor parent scheme l old) (sym (next origin e)) (record {
        counted = so_far.counted;
        few = omega (arith, so_far.few, length-append (take p origins) (origin ∷ []));
        each = λ u has. elim (among-more (take p origins) origin u has) [
          | inl before ↦ so_far.each u before
          | inr own ↦ absurd (none u own)
        ];
      }))

pub not-edge : (e u : ℕ) → FromVertex u ≡ FromEdge e → ⊥
not-edge e u h = cc

pub not-face : (f u : ℕ) → FromVertex u ≡ FromFace f → ⊥
not-face f u h = cc

-- a place of a list with another item
set-own : {X : Type 0} (xs : List X) (i : ℕ) (x d : X) → i < length xs → get_or (set xs i x) i d ≡ x
set-own [] i x d h = absurd (omega arith)
set-own (y ∷ xs) zero x d h = refl
set-own (y ∷ xs) (suc i) x d h = set-own xs i x d (omega (arith, h))

set-other : {X : Type 0} (xs : List X) (i k : ℕ) (x d : X) → k ≢ i → get_or (set xs i x) k d ≡ get_or xs k d
set-other [] i k x d h = refl
set-other (y ∷ xs) zero zero x d h = absurd (h refl)
set-other (y ∷ xs) zero (suc k) x d h = refl
set-other (y ∷ xs) (suc i) zero x d h = refl
set-other (y ∷ xs) (suc i) (suc k) x d h = set-other xs i k x d (λ e. h (ap suc e))

length-set : {X : Type 0} (xs : List X) (i : ℕ) (x : X) → length (set xs i x) ≡ length xs
length-set [] i x = refl
length-set (y ∷ xs) zero x = refl
length-set (y ∷ xs) (suc i) x = ap suc (length-set xs i x)

-- the mask of a vertex is put, or that there is none
put-next : (parent : Topology) (scheme : Scheme) (v : ℕ) (old new : KeptList) (mask : Option Mask) (count : ℕ) → new ≡ record { masks = set old.masks v mask; count = count }
    → count ≤ old.count + 1 → v < length old.masks → IsKeptFor parent scheme v mask → IsKeptNext parent scheme v old new
put-next parent scheme v old new mask count e few inside is = subst (IsKeptNext parent scheme v old) (sym e) (record {
  counted = length-set old.masks v mask;
  few = few;
  own = subst (IsKeptFor parent scheme v) (sym (set-own old.masks v mask None inside)) is;
  others = λ u apart. set-other old.masks v u mask None apart;
})

pub left-next : (parent : Topology) (scheme : Scheme) (v : ℕ) (old some new : KeptList) → some ≡ old → new ≡ record { masks = set some.masks v None; count = some.count }
    → IsPlainAt parent scheme v → v < parent.level.point_count → length old.masks ≡ parent.level.point_count → IsKeptNext parent scheme v old new
left-next parent scheme v old some new same e plain inside count =
    put-next parent scheme v old new None old.count (e ∙ ap (λ (k : KeptList). record { masks = set k.masks v None; count = k.count }) same) (omega arith)
    (subst (λ n. v < n) (sym count) inside) plain

pub stored-next : (parent : Topology) (scheme : Scheme) (v : ℕ) (old some new : KeptList) (mask : Mask) → some ≡ old
    → new ≡ record { masks = set some.masks v (Some mask); count = some.count + 1 }
    → IsMask mask (vertex_mask parent.level scheme v) → v < parent.level.point_count → length old.masks ≡ parent.level.point_count → IsKeptNext parent scheme v old new
stored-next parent scheme v old some new mask same e is inside count =
    put-next parent scheme v old new (Some mask) (old.count + 1) (e ∙ ap (λ (k : KeptList). record { masks = set k.masks v (Some mask); count = k.count + 1 }) same) (omega arith)
    (subst (λ n. v < n) (sym count) inside) is

-- an addition to a survey holds still if only masks change
pub added-still : (den : ℕ) (terms : List Term) (old some new : Survey) → IsAdded den terms old some → new.faces.items ≡ some.faces.items → new.dens.items ≡ some.dens.items
    → new.named.items ≡ some.named.items → IsAdded den terms old new
added-still den terms old some new added faces dens named = record {
  positive = added.positive;
  faces = faces ∙ added.faces;
  dens = dens ∙ added.dens;
  named = subst (AreMarked old.named.items terms) (sym named) added.named;
}
