-- Where all masks are means, the shares of a point sum to its common denominator, and those of its support are above 0.
use Rattle.std.proofs.Common.{◌≡◌, ℕ, zero, suc, ◌+◌, ◌*◌, ◌/◌, ◌<◌, ◌≤◌, Bool, true, false, ◌&&◌, nat_eq, nat_lt, List, [], ◌∷◌, ◌++◌, length, map, get_or, arith, refl, ap, sym, ◌∙◌, ◌||◌, IsTrue, inl, inr, zero-add, subst}
use Rattle.std.specs.List.{AllByRecursion, count_by, list_any, list_all, sum_by, range_with_len}
use Rattle.std.specs.Int.{◌∣◌}
use Rattle.std.proofs.lemmas.Bool.{cases_lt, and_parts, and_from, or_cases, ltb-true, eqb-true, eq-eqb, lt-ltb, cond-true, false≢true}
use Rattle.std.proofs.lemmas.Bool.Decides.{nat_tests}
use Rattle.std.proofs.lemmas.List.{get_or_past}
use Rattle.std.proofs.lemmas.List.Sums.{sum_by-cons}
use Rattle.std.proofs.lemmas.List.Folds.{list_all-append, list_all-map}
use Rattle.std.proofs.lemmas.List.FromFn.{length-range_with_len, get_or-range_with_len}
use Rattle.std.proofs.Math.Nat.{div-mul_cancel}
use Rattle.subdiv_model.specs.Polygons.{is_among}
use Rattle.subdiv_model.specs.Edges.{edges_of}
use Rattle.subdiv_model.specs.Level.{Level}
use Rattle.subdiv_model.specs.Child.{refined_level}
use Rattle.subdiv_model.specs.Mask.{Scheme, SourcePoint, OfPoint, OfFace, Term, Mask, weigh_points, total_weight, is_mean, is_mean_of, is_source_of, has_means, face_mask, edge_mask, vertex_mask, child_masks}
use Rattle.subdiv_model.specs.Multiples.{lcm_of_all}
use Rattle.subdiv_model.specs.Refined.{mask_denominator, corner_denominator, source_denominator, refined_denominators}
use Rattle.subdiv_model.specs.Support.{mask_support, corner_support, source_support, refined_supports, stencil_numerator}
use Rattle.number_laws.proofs.CountLemmas.{count-cons, sum-plus, sum-zero, sum-agree}
use Rattle.number_laws.proofs.MultipleLemmas.{all-divide_lcm, lcm_of_all-positive, product-positive}
use Rattle.mesh_laws.proofs.ClosedLemmas.{all-at}
use Rattle.mask_laws.proofs.ListLemmas.{all-range}
use Rattle.mask_laws.proofs.SourceLemmas.{from-mask_of, from-points}
use Rattle.stencil_laws.proofs.UnionLemmas.{among-union, union-below}
use Rattle.stencil_laws.proofs.SupportLemmas.{length-child_masks, length-supports}
use Rattle.stencil_laws.proofs.RowLemmas.{term_row, mask_row, corner_row, source_row, refined_rows, own-share, one-denominator}
use Rattle.stencil_laws.proofs.ShareLemmas.{factors-positive, share-row}
use Rattle.stencil_laws.proofs.OutsideLemmas.{own-support}

-- the shares of n control points in a point sum to its denominator, and those of its support are above 0
record AreShares (n den : ℕ) (share : ℕ → ℕ) (support : List ℕ) : Type 0 where
  positive : 0 < den
  total : sum_by share (range_with_len 0 n) ≡ den
  each : (v : ℕ) → is_among support v ≡ true → (v < n) × (0 < share v)

sum-same : (f g : ℕ → ℕ) (xs : List ℕ) → ((x : ℕ) → f x ≡ g x) → sum_by f xs ≡ sum_by g xs
sum-same f g [] h = refl
sum-same f g (x ∷ xs) h = omega (arith, sum_by-cons f x xs, sum_by-cons g x xs, h x, sum-same f g xs h)

sum-times : (a : ℕ) (f : ℕ → ℕ) (xs : List ℕ) → sum_by (λ x. a * f x) xs ≡ a * sum_by f xs
sum-times a f [] = omega arith
sum-times a f (x ∷ xs) =
    sum_by-cons (λ y. a * f y) x xs ∙ ap (λ n. a * f x + n) (sum-times a f xs) ∙ distributed (f x) (sum_by f xs) ∙ ap (λ n. a * n) (sym (sum_by-cons f x xs))
  where
    distributed : (y z : ℕ) → a * y + a * z ≡ a * (y + z)
    distributed y z = omega arith

module _ (n : ℕ) (den : SourcePoint → ℕ) (row : ℕ → SourcePoint → ℕ) (support : SourcePoint → List ℕ) where
  abbrev HasShares : SourcePoint → Type 0
  HasShares s = AreShares n (den s) (λ v. row v s) (support s)

  abbrev IsTerm : Term → Type 0
  IsTerm t = (0 < t.weight) × HasShares t.source

  abbrev dens : List Term → List ℕ
  dens terms = map (λ t. den t.source) terms

  dens-positive : (terms : List Term) → AllByRecursion IsTerm terms → AllByRecursion (λ c. 0 < c) (dens terms)
  dens-positive [] h = tt
  dens-positive (t ∷ terms) h = (h.0.1.positive, dens-positive terms h.1)

  -- the shares of one term
  term-total : (m : ℕ) (t : Term) → IsTerm t → den t.source ∣ m → sum_by (λ v. term_row den m (row v) t) (range_with_len 0 n) ≡ t.weight * m
  term-total m t h d =
      sum-times t.weight (λ v. m / den t.source * row v t.source) (range_with_len 0 n)
      ∙ ap (λ k. t.weight * k) (sum-times (m / den t.source) (λ v. row v t.source) (range_with_len 0 n) ∙ ap (λ k. m / den t.source * k) h.1.total ∙ div-mul_cancel (den t.source) d)

  terms-total : (m : ℕ) (terms : List Term) → AllByRecursion IsTerm terms → AllByRecursion (λ c. c ∣ m) (dens terms) → sum_by (λ v. sum_by (term_row den m (row v)) terms) (range_with_len 0 n) ≡ total_weight terms * m
  terms-total m [] h d = sum-zero (λ v. 0) (λ v. refl) (range_with_len 0 n) ∙ omega arith
  terms-total m (t ∷ terms) h d =
      sum-same _ _ (range_with_len 0 n) (λ v. sum_by-cons (term_row den m (row v)) t terms)
      ∙ sum-plus (λ v. term_row den m (row v) t) (λ v. sum_by (term_row den m (row v)) terms) (range_with_len 0 n)
      ∙ ap (λ k. k + sum_by (λ v. sum_by (term_row den m (row v)) terms) (range_with_len 0 n)) (term-total m t h.0 d.0)
      ∙ ap (λ k. t.weight * m + k) (terms-total m terms h.1 d.1)
      ∙ joined t.weight (total_weight terms)
      ∙ ap (λ k. k * m) (sym (sum_by-cons (λ (u : Term). u.weight) t terms))
    where
      joined : (w total : ℕ) → w * m + total * m ≡ (w + total) * m
      joined w total = omega arith

  quotient-positive : (d m : ℕ) → d ∣ m → 0 < m → 0 < m / d
  quotient-positive d m h positive =
      let whole = div-mul_cancel d h in
      (factors-positive (m / d) d (omega arith)).0

  terms-above : (v m : ℕ) (terms : List Term) → 0 < m → AllByRecursion IsTerm terms → AllByRecursion (λ c. c ∣ m) (dens terms) → list_any (λ list. is_among list v) (map (λ t. support t.source) terms) ≡ true → 0 < sum_by (term_row den m (row v)) terms
  terms-above v m [] hm h d among = absurd (false≢true among)
  terms-above v m (t ∷ terms) hm h d among =
      let more = sum_by-cons (term_row den m (row v)) t terms in
      elim (or_cases (is_among (support t.source) v) (list_any (λ list. is_among list v) (map (λ u. support u.source) terms)) among) [
        | inl here ↦
            let above : 0 < term_row den m (row v) t = product-positive t.weight _ h.0.0 (product-positive (m / den t.source) (row v t.source) (quotient-positive (den t.source) m d.0 hm) (h.0.1.each v here).1) in
            omega (arith, more, above)
        | inr further ↦ omega (arith, more, terms-above v m terms hm h.1 d.1 further)
      ]

  mask-shares : (mask : Mask) → is_mean mask ≡ true → AllByRecursion IsTerm mask.terms → AreShares n (mask_denominator den mask) (λ v. mask_row den (row v) mask) (mask_support n support mask)
  mask-shares mask mean h =
      let parts = and_parts _ _ (and_parts _ _ mean).1 in
      let m = lcm_of_all (dens mask.terms) in
      let some = lcm_of_all-positive (dens mask.terms) (dens-positive mask.terms h) in
      let divides = all-divide_lcm (dens mask.terms) in
      record {
        positive = product-positive mask.denominator m (ltb-true 0 mask.denominator parts.1) some;
        total = terms-total m mask.terms h divides ∙ ap (λ q. q * m) (eqb-true (total_weight mask.terms) mask.denominator parts.0);
        each = λ v among.
            let lists = map (λ t. support t.source) mask.terms in
            let below = union-below n lists v among in
            (below, terms-above v m mask.terms some h divides (sym (among-union n lists v below) ∙ among));
      }

  -- sources that pass a test
  module _ (test : SourcePoint → Bool) (has : (s : SourcePoint) → test s ≡ true → HasShares s) where
    each-term : (terms : List Term) → list_all (λ t. nat_lt 0 t.weight) terms ≡ true → list_all (λ t. test t.source) terms ≡ true → AllByRecursion IsTerm terms
    each-term [] weights tests = tt
    each-term (t ∷ terms) weights tests =
        let weight = and_parts (nat_lt 0 t.weight) (list_all (λ u. nat_lt 0 u.weight) terms) weights in
        let passes = and_parts (test t.source) (list_all (λ u. test u.source) terms) tests in
        ((ltb-true 0 t.weight weight.0, has t.source passes.0), each-term terms weight.1 passes.1)

    mean-shares : (mask : Mask) → is_mean mask ≡ true → list_all (λ t. test t.source) mask.terms ≡ true → AreShares n (mask_denominator den mask) (λ v. mask_row den (row v) mask) (mask_support n support mask)
    mean-shares mask mean tests = mask-shares mask mean (each-term mask.terms (and_parts _ _ mean).0 tests)

    masks-shares : (masks : List Mask) (p : ℕ) → list_all (λ mask. is_mean mask && list_all (λ t. test t.source) mask.terms) masks ≡ true → p < length masks → AreShares n (get_or (map (mask_denominator den) masks) p 1) (λ v. get_or (map (mask_row den (row v)) masks) p 0) (get_or (map (mask_support n support) masks) p [])
    masks-shares [] p means inside = absurd (omega arith)
    masks-shares (mask ∷ masks) zero means inside =
        let here = and_parts _ _ (and_parts _ _ means).0 in mean-shares mask here.0 here.1
    masks-shares (mask ∷ masks) (suc p) means inside = masks-shares masks p (and_parts _ _ means).1 (omega arith)

-- The faces of a level whose masks are means.

face-mean : (level : Level) (scheme : Scheme) (f : ℕ) → has_means level scheme ≡ true → f < length level.polygons → is_mean_of level (face_mask level f) ≡ true
face-mean level scheme f means below =
    let vertices = map (vertex_mask level scheme) (range_with_len 0 level.point_count) in
    let numbers = range_with_len 0 (length level.polygons) in
    let faces = map (face_mask level) numbers in
    let edges = map (edge_mask level scheme) (edges_of level.polygons) in
    let placed : f < length numbers = omega (arith, length-range_with_len 0 (length level.polygons)) in
    let rest : list_all (is_mean_of level) (faces ++ edges) ≡ true = (and_parts _ _ (sym (list_all-append (is_mean_of level) vertices (faces ++ edges)) ∙ means)).1 in
    let here : list_all (is_mean_of level) faces ≡ true = (and_parts _ _ (sym (list_all-append (is_mean_of level) faces edges) ∙ rest)).0 in
    let each : list_all (λ g. is_mean_of level (face_mask level g)) numbers ≡ true = sym (list_all-map (is_mean_of level) (face_mask level) numbers) ∙ here in
    let number : get_or numbers f 0 ≡ f = get_or-range_with_len 0 (length level.polygons) f 0 below ∙ zero-add f in
    let P : ℕ → Type 0 = λ g. is_mean_of level (face_mask level g) ≡ true in
    subst P number (all-at (λ g. is_mean_of level (face_mask level g)) numbers f 0 placed each)

abbrev is_point : SourcePoint → Bool
is_point (OfPoint v) = true
is_point (OfFace f) = false

abbrev is_corner_of : Level → SourcePoint → Bool
is_corner_of level (OfPoint v) = nat_lt v level.point_count
is_corner_of level (OfFace f) = false

corner-of : (level : Level) (s : SourcePoint) → is_point s ≡ true → is_source_of level s ≡ true → is_corner_of level s ≡ true
corner-of level (OfPoint v) point inside = inside
corner-of level (OfFace f) point inside = absurd (false≢true point)

corners-of : (level : Level) (terms : List Term) → list_all (λ t. is_point t.source) terms ≡ true → list_all (λ t. is_source_of level t.source) terms ≡ true → list_all (λ t. is_corner_of level t.source) terms ≡ true
corners-of level [] points inside = refl
corners-of level (t ∷ terms) points inside =
    let point = and_parts (is_point t.source) (list_all (λ u. is_point u.source) terms) points in
    let source = and_parts (is_source_of level t.source) (list_all (λ u. is_source_of level u.source) terms) inside in
    and_from _ _ (corner-of level t.source point.0 source.0) (corners-of level terms point.1 source.1)

all-points : (corners : List ℕ) → list_all (λ v. is_point (OfPoint v)) corners ≡ true
all-points [] = refl
all-points (v ∷ corners) = all-points corners

module _ (n : ℕ) (level : Level) (scheme : Scheme) (means : has_means level scheme ≡ true) (dens : List ℕ) (rows : ℕ → List ℕ) (supports : List (List ℕ)) (each : (p : ℕ) → p < level.point_count → AreShares n (get_or dens p 1) (λ v. get_or (rows v) p 0) (get_or supports p [])) where
  corner-shares : (s : SourcePoint) → is_corner_of level s ≡ true → AreShares n (corner_denominator dens s) (λ v. corner_row (rows v) s) (corner_support supports s)
  corner-shares (OfPoint p) h = each p (ltb-true p level.point_count h)
  corner-shares (OfFace f) h = absurd (false≢true h)

  source-shares : (s : SourcePoint) → is_source_of level s ≡ true → AreShares n (source_denominator level dens s) (λ v. source_row level dens (rows v) s) (source_support n level supports s)
  source-shares (OfPoint p) h = each p (ltb-true p level.point_count h)
  source-shares (OfFace f) h =
      let mean = and_parts _ _ (face-mean level scheme f means (ltb-true f (length level.polygons) h)) in
      let corners = get_or level.polygons f [] in
      let points = from-mask_of is_point (weigh_points 1 corners) (length corners) (from-points is_point 1 corners (all-points corners)) in
      mean-shares n (corner_denominator dens) (λ v. corner_row (rows v)) (corner_support supports) (is_corner_of level) corner-shares (face_mask level f) mean.0 (corners-of level (face_mask level f).terms points mean.1)

-- The share of a control point in itself is 1.

count-none : (p a n : ℕ) → p < a → count_by (nat_eq p) (range_with_len a n) ≡ 0
count-none p a zero h = refl
count-none p a (suc n) h = grind (arith, nat_tests, count-cons (nat_eq p) a (range_with_len (a + 1) n), count-none p (a + 1) n)

count-one : (p a n : ℕ) → a ≤ p → p < a + n → count_by (nat_eq p) (range_with_len a n) ≡ 1
count-one p a zero low high = absurd (omega arith)
count-one p a (suc n) low high =
    grind (arith, nat_tests, count-cons (nat_eq p) a (range_with_len (a + 1) n), count-one p (a + 1) n, count-none p (a + 1) n)

control-shares : (level : Level) (scheme : Scheme) (p : ℕ) → p < level.point_count → AreShares level.point_count (get_or (refined_denominators level scheme 0) p 1) (λ v. get_or (refined_rows level scheme v 0) p 0) (get_or (refined_supports level scheme 0) p [])
control-shares level scheme p h =
    let n = level.point_count in
    let own = λ (v : ℕ). own-share n v p h in
    let one : get_or (refined_denominators level scheme 0) p 1 ≡ 1 = one-denominator n p in
    record {
      positive = omega (arith, one);
      total = sum-same _ _ (range_with_len 0 n) own ∙ count-one p 0 n (omega arith) (omega arith) ∙ sym one;
      each = λ v among.
          let here : nat_eq v p || false ≡ true = sym (ap (λ support. is_among support v) (own-support n p h)) ∙ among in
          let same : v ≡ p = grind (arith, nat_tests) in
          let share : get_or (refined_rows level scheme v 0) p 0 ≡ 1 = own v ∙ cond-true (nat_eq p v) 1 0 (eq-eqb p v (sym same)) in
          (omega arith, omega (arith, share));
    }

module _ (level : Level) (scheme : Scheme) where
  rows-shares : (k p : ℕ) → ((j : ℕ) → j < k → has_means (refined_level level j) scheme ≡ true) → p < (refined_level level k).point_count → AreShares level.point_count (get_or (refined_denominators level scheme k) p 1) (λ v. get_or (refined_rows level scheme v k) p 0) (get_or (refined_supports level scheme k) p [])
  rows-shares zero p means inside = control-shares level scheme p inside
  rows-shares (suc k) p means inside =
      let n = level.point_count in
      let here = refined_level level k in
      let dens = refined_denominators level scheme k in
      let rows = λ (v : ℕ). refined_rows level scheme v k in
      let supports = refined_supports level scheme k in
      masks-shares n (source_denominator here dens) (λ v. source_row here dens (rows v)) (source_support n here supports) (is_source_of here)
      (source-shares n here scheme (means k (omega arith)) dens rows supports (λ q below. rows-shares k q (λ j less. means j (omega arith)) below)) (child_masks here scheme) p (means k (omega arith)) (omega (arith, inside, length-child_masks here scheme))

  pub share-total : (k p : ℕ) → ((j : ℕ) → j < k → IsTrue (has_means (refined_level level j) scheme)) → p < (refined_level level k).point_count → sum_by (stencil_numerator level scheme k p) (range_with_len 0 level.point_count) ≡ get_or (refined_denominators level scheme k) p 1
  share-total k p means inside =
      let are = rows-shares k p means inside in
      let n = level.point_count in
      sum-agree (λ v. nat_lt v n) (stencil_numerator level scheme k p) (λ v. get_or (refined_rows level scheme v k) p 0) (λ v below. share-row level scheme k p v are.positive (ltb-true v n below)) (range_with_len 0 n)
      (all-range (λ v. nat_lt v n) 0 n (λ v low high. lt-ltb v n (omega arith)))
      ∙ are.total

  pub share-above : (k p v : ℕ) → ((j : ℕ) → j < k → IsTrue (has_means (refined_level level j) scheme)) → IsTrue (is_among (get_or (refined_supports level scheme k) p []) v) → 0 < stencil_numerator level scheme k p v
  share-above k p v means among =
      elim (cases_lt p (refined_level level k).point_count) [
        | inl inside ↦
            let are = rows-shares k p means inside in
            let own = are.each v among in
            let same = share-row level scheme k p v are.positive own.0 in
            omega (arith, same, own.1)
        | inr past ↦
            let none = get_or_past (refined_supports level scheme k) p [] (omega (arith, length-supports level scheme k)) in
            absurd (false≢true (sym (ap (λ support. is_among support v) none) ∙ among))
      ]
