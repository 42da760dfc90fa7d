-- The row of a mask has a control point if the row of a point that the mask names has it.
use Rattle.std.proofs.Common.{◌≡◌, ℕ, zero, suc, ◌+◌, ◌<◌, Bool, true, false, ◌||◌, nat_eq, nat_lt, List, [], ◌∷◌, length, map, get_or, if◌then◌else◌, arith, refl, ap, sym, ◌∙◌}
use Rattle.std.specs.List.{AllByRecursion, count_by, filter, list_any, range_with_len}
use Rattle.std.proofs.Math.ListN.{get_or-map}
use Rattle.std.proofs.lemmas.Bool.{eqb-true, eq-eqb, false≢true}
use Rattle.std.proofs.lemmas.Bool.Decides.{nat_tests}
use Rattle.subdiv_model.specs.Polygons.{is_among, polygon_at}
use Rattle.subdiv_model.specs.Level.{Level}
use Rattle.subdiv_model.specs.Mask.{SourcePoint, OfPoint, OfFace, Term, Mask, weigh, weigh_points, weight_in, has_source, same_source, face_mask}
use Rattle.subdiv_model.specs.Support.{corner_support, source_support}
use Rattle.number_laws.proofs.CountLemmas.{count-cons, one-yes, one-no, any-weaker}
use Rattle.sharpness_laws.proofs.JoinedWeightLemmas.{source-eq, weight_in-mask_of, weight_in-cons}
use Rattle.mask_laws.proofs.JoinedLemmas.{joined-all}
use Rattle.mesh_laws.proofs.FanLemmas.{any-number, number-any}
use Rattle.stencil_laws.proofs.UnionLemmas.{among-union}
use Rattle.child_masks.proofs.DenLemmas.{some-place}
use Rattle.child_masks.proofs.OriginLemmas.{any-at}
use Rattle.stencil_apply.specs.Table.{Share, Row, Table, row_at}
use Rattle.stencil_factory.specs.Rows.{support_of, supports_of}
use Rattle.place_sums.specs.Sums.{shares_from}
use Rattle.stencil_factory.specs.Weights.{names_point, is_named}

-- two answers that follow from one another are the same
same-answer : (a b : Bool) → (a ≡ true → b ≡ true) → (b ≡ true → a ≡ true) → a ≡ b
same-answer true b h k = sym (h refl)
same-answer false true h k = k refl
same-answer false false h k = refl

-- a test over a list that is made of another
any-map : {X Y : Type 0} (test : Y → Bool) (f : X → Y) (xs : List X) → list_any test (map f xs) ≡ list_any (λ x. test (f x)) xs
any-map test f [] = refl
any-map test f (x ∷ xs) = ap (λ b. test (f x) || b) (any-map test f xs)

any-same : {X : Type 0} (p q : X → Bool) (xs : List X) → ((x : X) → p x ≡ q x) → list_any p xs ≡ list_any q xs
any-same p q [] h = refl
any-same p q (x ∷ xs) h = ap (λ b. b || list_any p xs) (h x) ∙ ap (λ b. q x || b) (any-same p q xs h)

-- A test that no element passes.
any-none : {X : Type 0} (test : X → Bool) (xs : List X) → AllByRecursion (λ x. test x ≡ false) xs → list_any test xs ≡ false
any-none test [] h = refl
any-none test (x ∷ xs) h = ap (λ b. b || list_any test xs) h.0 ∙ any-none test xs h.1

none-any : {X : Type 0} (test : X → Bool) (xs : List X) → list_any test xs ≡ false → AllByRecursion (λ x. test x ≡ false) xs
none-any test [] h = tt
none-any test (x ∷ xs) h = here (λ k. none-any test xs k) (test x) refl
  where
    here : (list_any test xs ≡ false → AllByRecursion (λ y. test y ≡ false) xs) → (b : Bool) → test x ≡ b → AllByRecursion (λ y. test y ≡ false) (x ∷ xs)
    here rest true e = absurd (false≢true (sym h ∙ ap (λ b. b || list_any test xs) e))
    here rest false e = (e, rest (sym (ap (λ b. b || list_any test xs) e) ∙ h))

module _ (level : Level) (passes : ℕ → Bool) where
  -- A point source passes if the point does. A face source passes if one of its corners does.
  abbrev at_corner : SourcePoint → Bool
  at_corner (OfPoint u) = passes u
  at_corner (OfFace f) = false

  abbrev at_source : SourcePoint → Bool
  at_source (OfPoint u) = passes u
  at_source (OfFace f) = list_any passes (polygon_at level.polygons f)

  -- a corner is a source of its face's mask
  corner-weight : (polygon : List ℕ) (u : ℕ) → is_among polygon u ≡ true → 0 < weight_in (weigh_points 1 polygon) (OfPoint u)
  corner-weight [] u h = absurd (false≢true h)
  corner-weight (w ∷ polygon) u h = here (λ k. corner-weight polygon u k) (nat_eq u w) refl
    where
      here : (is_among polygon u ≡ true → 0 < weight_in (weigh_points 1 polygon) (OfPoint u)) → (b : Bool) → nat_eq u w ≡ b → 0 < weight_in (weigh_points 1 (w ∷ polygon)) (OfPoint u)
      here behind true e =
          let more = weight_in-cons (weigh 1 (OfPoint w)) (weigh_points 1 polygon) (OfPoint u) in
          let one : ℕ = 1 in let own : (if nat_eq u w then one else 0) ≡ one = rw e refl in
          omega (arith, more, own)
      here behind false e =
          let rest : is_among polygon u ≡ true = sym (ap (λ b. b || is_among polygon u) e) ∙ h in
          let more = weight_in-cons (weigh 1 (OfPoint w)) (weigh_points 1 polygon) (OfPoint u) in
          omega (arith, more, behind rest)

  -- A source with a weight occurs in a term.
  weight-place : (terms : List Term) (s : SourcePoint) → 0 < weight_in terms s → has_source terms s ≡ true
  weight-place [] s h = absurd (omega (arith, h))
  weight-place (t ∷ terms) s h = here (λ k. weight-place terms s k) (same_source s t.source) refl
    where
      here : (0 < weight_in terms s → has_source terms s ≡ true) → (b : Bool) → same_source s t.source ≡ b → has_source (t ∷ terms) s ≡ true
      here behind true e = ap (λ b. b || has_source terms s) e
      here behind false e =
          let more = weight_in-cons t terms s in
          ap (λ b. b || has_source terms s) e ∙ behind (omega (arith, more, h, ap (λ b. if b then t.weight else 0) e))

  -- the sources of a face's mask are its corners
  corners-any : (f : ℕ) → list_any (λ t. at_corner t.source) (face_mask level f).terms ≡ list_any passes (polygon_at level.polygons f)
  corners-any f = same-answer _ _ forward back
    where
      polygon : List ℕ
      polygon = polygon_at level.polygons f

      spread : (vs : List ℕ) → AllByRecursion (λ v. passes v ≡ false) vs → AllByRecursion (λ (t : Term). at_corner t.source ≡ false) (weigh_points 1 vs)
      spread [] h = tt
      spread (v ∷ vs) h = (h.0, spread vs h.1)

      forward : list_any (λ t. at_corner t.source) (face_mask level f).terms ≡ true → list_any passes (polygon_at level.polygons f) ≡ true
      forward h = here (list_any passes (polygon_at level.polygons f)) refl
        where
          here : (b : Bool) → list_any passes (polygon_at level.polygons f) ≡ b → list_any passes (polygon_at level.polygons f) ≡ true
          here true e = e
          here false e =
              let none = joined-all (λ s. at_corner s ≡ false) (weigh_points 1 (polygon_at level.polygons f)) (length (polygon_at level.polygons f)) (spread (polygon_at level.polygons f) (none-any passes (polygon_at level.polygons f) e)) in
              absurd (false≢true (sym (any-none (λ (t : Term). at_corner t.source) (face_mask level f).terms none) ∙ h))

      back : list_any passes (polygon_at level.polygons f) ≡ true → list_any (λ t. at_corner t.source) (face_mask level f).terms ≡ true
      back h =
          let found = any-number passes (polygon_at level.polygons f) h in
          let weight = weight_in-mask_of (weigh_points 1 (polygon_at level.polygons f)) (length (polygon_at level.polygons f)) (OfPoint found.0) in
          let some : 0 < weight_in (face_mask level f).terms (OfPoint found.0) = omega (arith, weight, corner-weight (polygon_at level.polygons f) found.0 found.2) in
          any-weaker (λ (t : Term). same_source (OfPoint found.0) t.source) (λ t. at_corner t.source)
          (λ t e. ap at_corner (sym (source-eq (OfPoint found.0) t.source e)) ∙ found.1) (face_mask level f).terms (weight-place (face_mask level f).terms (OfPoint found.0) some)

  -- a point that passes and is named by a source
  named-passes : (n : ℕ) (s : SourcePoint) → passes n ≡ true → names_point level n s ≡ true → at_source s ≡ true
  named-passes n (OfPoint u) h e = ap passes (eqb-true u n e) ∙ h
  named-passes n (OfFace f) h e = number-any passes (polygon_at level.polygons f) n h e

  passes-named : (s : SourcePoint) → at_source s ≡ true → (n : ℕ) × (passes n ≡ true) × (names_point level n s ≡ true)
  passes-named (OfPoint u) h = (u, h, eq-eqb u u refl)
  passes-named (OfFace f) h = any-number passes (polygon_at level.polygons f) h

  -- A named point passes exactly if a source passes.
  pub named-any : (mask : Mask) (numbers : List ℕ) → ((v : ℕ) → is_among numbers v ≡ is_named level mask v) → list_any passes numbers ≡ list_any (λ t. at_source t.source) mask.terms
  named-any mask numbers named = same-answer _ _ forward back
    where
      forward : list_any passes numbers ≡ true → list_any (λ t. at_source t.source) mask.terms ≡ true
      forward h =
          let found = any-number passes numbers h in
          any-weaker (λ (t : Term). names_point level found.0 t.source) (λ t. at_source t.source)
          (λ t e. named-passes found.0 t.source found.1 e) mask.terms (sym (named found.0) ∙ found.2)

      back : list_any (λ t. at_source t.source) mask.terms ≡ true → list_any passes numbers ≡ true
      back h =
          let none : Term = record { source = OfPoint 0; weight = 0 } in
          let place = some-place (λ (t : Term). at_source t.source) mask.terms none h in
          let found = passes-named (get_or mask.terms place.at none).source place.passes in
          number-any passes numbers found.0 found.1
          (named found.0 ∙ any-at (λ (t : Term). names_point level found.0 t.source) mask.terms place.at none place.inside found.2)

-- whether the row of a point has a control point
abbrev pub has_control : Table → ℕ → ℕ → Bool
has_control table v u = is_among (support_of (row_at table u).shares) v

module _ (level : Level) (table : Table) (mask : Mask) (n v : ℕ) (inside : v < n) where
  row-support : (u : ℕ) → get_or (supports_of table) u [] ≡ support_of (row_at table u).shares
  row-support u = get_or-map (λ (row : Row). support_of row.shares) table.rows u (record { den = 1; shares = [] })

  corner-has : (s : SourcePoint) → is_among (corner_support (supports_of table) s) v ≡ at_corner level (has_control table v) s
  corner-has (OfPoint u) = ap (λ list. is_among list v) (row-support u)
  corner-has (OfFace f) = refl

  source-has : (s : SourcePoint) → is_among (source_support n level (supports_of table) s) v ≡ at_source level (has_control table v) s
  source-has (OfPoint u) = ap (λ list. is_among list v) (row-support u)
  source-has (OfFace f) =
      among-union n (map (λ (t : Term). corner_support (supports_of table) t.source) (face_mask level f).terms) v inside
      ∙ any-map (λ list. is_among list v) (λ (t : Term). corner_support (supports_of table) t.source) (face_mask level f).terms
      ∙ any-same (λ (t : Term). is_among (corner_support (supports_of table) t.source) v) (λ t. at_corner level (has_control table v) t.source) (face_mask level f).terms (λ t. corner-has t.source)
      ∙ corners-any level (has_control table v) f

  -- A source of the mask has the control point exactly if the row of a point that the mask names has it.
  pub points-have : (points : List ℕ) → ((u : ℕ) → is_among points u ≡ is_named level mask u)
      → list_any (λ list. is_among list v) (map (λ t. source_support n level (supports_of table) t.source) mask.terms) ≡ list_any (has_control table v) points
  points-have points named =
      any-map (λ list. is_among list v) (λ (t : Term). source_support n level (supports_of table) t.source) mask.terms
      ∙ any-same (λ (t : Term). is_among (source_support n level (supports_of table) t.source) v) (λ t. at_source level (has_control table v) t.source) mask.terms (λ t. source-has t.source)
      ∙ sym (named-any level (has_control table v) mask points named)

  -- A source of the mask has the control point exactly if the row of a weighted point has it.
  pub sources-have : (weights : List Share) → ((u : ℕ) → is_among (support_of weights) u ≡ is_named level mask u)
      → list_any (λ list. is_among list v) (map (λ t. source_support n level (supports_of table) t.source) mask.terms) ≡ list_any (λ w. is_among (support_of (row_at table w.0).shares) v) weights
  sources-have weights named = points-have (support_of weights) named ∙ any-map (has_control table v) (λ (w : Share). w.0) weights

-- The shares of the sums have the places that pass the test.
pub shares-kept : (test : ℕ → Bool) (a : ℕ) (sums : List ℕ) → ((k : ℕ) → k < length sums → test (a + k) ≡ nat_lt 0 (get_or sums k 0)) → support_of (shares_from a sums) ≡ filter test (range_with_len a (length sums))
shares-kept test a [] h = refl
shares-kept test a (zero ∷ sums) h =
    shares-kept test (a + 1) sums (λ k inside. ap test (next a k) ∙ h (suc k) (omega arith))
    ∙ ap (λ b. if b then a ∷ filter test (range_with_len (a + 1) (length sums)) else filter test (range_with_len (a + 1) (length sums))) (sym (ap test (same a) ∙ h 0 (omega arith)))
  where
    next : (a k : ℕ) → a + 1 + k ≡ a + suc k
    next a k = omega arith

    same : (a : ℕ) → a ≡ a + 0
    same a = omega arith
shares-kept test a (suc n ∷ sums) h =
    ap (λ rest. a ∷ rest) (shares-kept test (a + 1) sums (λ k inside. ap test (next a k) ∙ h (suc k) (omega arith)))
    ∙ ap (λ b. if b then a ∷ filter test (range_with_len (a + 1) (length sums)) else filter test (range_with_len (a + 1) (length sums))) (sym (ap test (same a) ∙ h 0 (omega arith) ∙ some n))
  where
    next : (a k : ℕ) → a + 1 + k ≡ a + suc k
    next a k = omega arith

    same : (a : ℕ) → a ≡ a + 0
    same a = omega arith

    some : (n : ℕ) → nat_lt 0 (suc n) ≡ true
    some n = grind (arith, nat_tests)

-- As many numbers pass as places do.
pub count-kept : (p test : ℕ → Bool) (a : ℕ) (xs : List ℕ) → ((k : ℕ) → k < length xs → test (a + k) ≡ p (get_or xs k 0)) → count_by p xs ≡ length (filter test (range_with_len a (length xs)))
count-kept p test a [] h = refl
count-kept p test a (x ∷ xs) h = here (count-kept p test (a + 1) xs (λ k inside. ap test (next a k) ∙ h (suc k) (omega arith))) (p x) refl
  where
    next : (a k : ℕ) → a + 1 + k ≡ a + suc k
    next a k = omega arith

    same : a ≡ a + 0
    same = omega arith

    own : test a ≡ p x
    own = ap test same ∙ h 0 (omega arith)

    here : count_by p xs ≡ length (filter test (range_with_len (a + 1) (length xs))) → (b : Bool) → p x ≡ b → count_by p (x ∷ xs) ≡ length (filter test (range_with_len a (length (x ∷ xs))))
    here rest true e =
        let passed : filter test (range_with_len a (length (x ∷ xs))) ≡ a ∷ filter test (range_with_len (a + 1) (length xs)) = rw (own ∙ e) refl in
        omega (arith, count-cons p x xs, one-yes (p x) e, rest, ap length passed)
    here rest false e =
        let passed : filter test (range_with_len a (length (x ∷ xs))) ≡ filter test (range_with_len (a + 1) (length xs)) = rw (own ∙ e) refl in
        omega (arith, count-cons p x xs, one-no (p x) e, rest, ap length passed)
