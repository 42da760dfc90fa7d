-- No common denominator of a limit point passes the greatest denominator of a mask times a multiple of all denominators of the table.
use Rattle.std.proofs.Common.{◌≡◌, ℕ, zero, suc, ◌+◌, ◌*◌, ◌<◌, ◌≤◌, Bool, true, false, nat_le, max, List, [], ◌∷◌, ◌++◌, length, map, get_or, Option, Some, None, IfSome, IsNone, ◌↔◌, ◌⊎◌, inl, inr, arith, refl, ap, sym, subst, ◌∙◌}
use Rattle.std.specs.Int.{◌∣◌}
use Rattle.std.specs.List.{All, AllByRecursion, list_all, fold, range_with_len}
use Rattle.std.proofs.lemmas.Bool.{and_parts, cases_lt, false≢true}
use Rattle.std.proofs.lemmas.Bool.Decides.{nat_tests}
use Rattle.std.proofs.lemmas.List.{length-map, get_or-map, get_or_past}
use Rattle.std.proofs.lemmas.List.FromFn.{length-map-range_with_len, get_or-map-range_with_len, map-range_with_len_more}
use Rattle.std.proofs.lemmas.List.Elements.{All-from_recursion, recursion_from_All}
use Rattle.std.proofs.lemmas.List.Sums.{fold_push}
use Rattle.std.proofs.lemmas.Nat.{mul-le}
use Rattle.std.proofs.lemmas.Nat.Gcd.{le_of_dvd}
use Rattle.std.proofs.Math.Nat.{one-dvd}
use Rattle.subdiv_model.specs.Rule.{Rule, SmoothRule, DartRule, CreaseRule, CornerRule}
use Rattle.subdiv_model.specs.Level.{Level, vertex_sharpness_of, edges_at, ring_at}
use Rattle.subdiv_model.specs.Mask.{SourcePoint, OfPoint, OfFace, Term, Mask, mask_of, weigh, weigh_points, corner_mask, ends_at, other_end}
use Rattle.subdiv_model.specs.Multiples.{lcm_of_all}
use Rattle.subdiv_model.specs.Refined.{mask_denominator, source_denominator}
use Rattle.subdiv_model.specs.Channel.{number_bound}
use Rattle.subdiv_model.specs.Limit.{limit_of_rule, limit_mask, limit_masks, mask_or_itself, opposites_at, has_semi_sharp, lasting_rule}
use Rattle.number_laws.proofs.MultipleLemmas.{each-divides, lcm_of_all-positive, least-of-all, product-positive}
use Rattle.mask_laws.proofs.ListLemmas.{all-append}
use Rattle.mask_laws.proofs.SourceLemmas.{are_from, from-mask_of, from-points}
use Rattle.child_masks.specs.Survey.{within_bound}
use Rattle.child_masks.proofs.DenLemmas.{dens-positive}
use Rattle.child_masks.proofs.WithinLemmas.{within-some, within-zero}
use Rattle.stencil_apply.specs.Means.{word_bound}
use Rattle.stencil_apply.specs.Table.{Table, IsTable}
use Rattle.stencil_apply.proofs.RowLemmas.{each-le}
use Rattle.stencil_factory.specs.Rows.{dens_of}
use Rattle.stencil_factory.specs.MaskRows.{mask_dens, no_mask}
use Rattle.stencil_factory.proofs.SurveyLemmas.{point-dens}
use Rattle.limit_stencils.specs.Bound.{greatest_valence, mask_bound, within_word, denominator_bound}
use Rattle.limit_stencils.specs.Limits.{IsDenominatorBound}
use Rattle.limit_stencils.proofs.WeightLemmas.{mask-there}

-- Limit masks name points only, and their denominators have a bound.

abbrev is_point : SourcePoint → Bool
is_point (OfPoint v) = true
is_point (OfFace f) = false

all-points : (points : List ℕ) → list_all (λ v. is_point (OfPoint v)) points ≡ true
all-points [] = refl
all-points (v ∷ points) = all-points points

abbrev IsWithin : ℕ → Mask → Type 0
IsWithin most mask = (mask.denominator ≤ most) × (are_from is_point mask.terms ≡ true)

module _ (v most : ℕ) (ends opposites : List ℕ) (smooth : length ends * (length ends + 5) ≤ most) (crease : 6 ≤ most) where
  corner-within : IsWithin most (corner_mask v)
  corner-within = (omega (arith, crease), from-mask_of is_point (weigh 1 (OfPoint v) ∷ []) 1 refl)

  smooth-within : IsWithin most (mask_of (weigh (length ends * length ends) (OfPoint v) ∷ (weigh_points 4 ends ++ weigh_points 1 opposites)) (length ends * (length ends + 5)))
  smooth-within = (
    smooth,
    from-mask_of is_point (weigh (length ends * length ends) (OfPoint v) ∷ (weigh_points 4 ends ++ weigh_points 1 opposites)) (length ends * (length ends + 5))
        (all-append (λ t. is_point t.source) (weigh_points 4 ends) (weigh_points 1 opposites)
        (from-points is_point 4 ends (all-points ends)) (from-points is_point 1 opposites (all-points opposites))),
  )

  rule-within : (semi : Bool) (rule : Rule) → IsWithin most (mask_or_itself v (limit_of_rule v ends opposites semi rule))
  rule-within true SmoothRule = corner-within
  rule-within true DartRule = corner-within
  rule-within true (CreaseRule first second) = corner-within
  rule-within true CornerRule = corner-within
  rule-within false SmoothRule = smooth-within
  rule-within false DartRule = corner-within
  rule-within false (CreaseRule first second) =
      (crease, from-mask_of is_point (weigh 4 (OfPoint v) ∷ weigh_points 1 (get_or ends first 0 ∷ get_or ends second 0 ∷ [])) 6 refl)
  rule-within false CornerRule = corner-within

within-at : (level : Level) (v n most : ℕ) → length (edges_at level v) ≤ n → most ≡ max (n * (n + 5)) 6 → IsWithin most (limit_mask level v)
within-at level v n most few is =
    let count : length (ends_at level v) ≡ length (edges_at level v) = length-map (edges_at level v) (other_end v) in
    rule-within v most (ends_at level v) (opposites_at level v) (grown (length (ends_at level v)) n most (omega (arith, few, count)) (omega (arith, is))) (omega (arith, is))
    (has_semi_sharp (vertex_sharpness_of level v) (ring_at level v)) (lasting_rule (vertex_sharpness_of level v) (ring_at level v))
  where
    grown : (a n most : ℕ) → a ≤ n → n * (n + 5) ≤ most → a * (a + 5) ≤ most
    grown a n most le h = omega (arith, mul-le a (a + 5) n (n + 5) le (omega (arith, le)))

-- the denominator of a limit mask is below a bound from the greatest number of edges
pub mask-short : (level : Level) (v n most : ℕ) → length (edges_at level v) ≤ n → most ≡ max (n * (n + 5)) 6 → (limit_mask level v).denominator ≤ most
mask-short level v n most few is = (within-at level v n most few is).0

points-only : (level : Level) (v : ℕ) → are_from is_point (limit_mask level v).terms ≡ true
points-only level v = (within-at level v (length (edges_at level v)) (max (length (edges_at level v) * (length (edges_at level v) + 5)) 6) (omega arith) refl).1

-- A multiple of all denominators of points.
module _ (level : Level) (dens : List ℕ) (positive : All (λ den. 0 < den) dens) (common : ℕ) (some : 0 < common) (multiple : All (λ den. den ∣ common) dens) where
  abbrev of_source : SourcePoint → ℕ
  of_source = source_denominator level dens

  divides : (v : ℕ) → get_or dens v 1 ∣ common
  divides v = at (cases_lt v (length dens))
    where
      at : (v < length dens) ⊎ (length dens ≤ v) → get_or dens v 1 ∣ common
      at (inl inside) = multiple v 1 inside
      at (inr past) = subst (λ (den : ℕ). den ∣ common) (sym (get_or_past dens v 1 past)) (one-dvd common)

  all-positive : (terms : List Term) → are_from is_point terms ≡ true → AllByRecursion (λ den. 0 < den) (map (λ t. of_source t.source) terms)
  all-positive [] h = tt
  all-positive (t ∷ terms) h =
      let parts = and_parts (is_point t.source) (are_from is_point terms) h in (own t.source parts.0, all-positive terms parts.1)
    where
      own : (source : SourcePoint) → is_point source ≡ true → 0 < of_source source
      own (OfPoint v) k = dens-positive dens positive v
      own (OfFace f) k = absurd (false≢true k)

  all-divide : (terms : List Term) → are_from is_point terms ≡ true → AllByRecursion (λ den. den ∣ common) (map (λ t. of_source t.source) terms)
  all-divide [] h = tt
  all-divide (t ∷ terms) h =
      let parts = and_parts (is_point t.source) (are_from is_point terms) h in (own t.source parts.0, all-divide terms parts.1)
    where
      own : (source : SourcePoint) → is_point source ≡ true → of_source source ∣ common
      own (OfPoint v) k = divides v
      own (OfFace f) k = absurd (false≢true k)

  -- the common denominator of a mask over points
  mask-limited : (mask : Mask) (most : ℕ) → mask.denominator ≤ most → are_from is_point mask.terms ≡ true → mask_denominator of_source mask ≤ most * common
  mask-limited mask most short points =
      let numbers = map (λ t. of_source t.source) mask.terms in
      mul-le mask.denominator (lcm_of_all numbers) most common short
      (le_of_dvd some (least-of-all numbers common (All-from_recursion (λ den. 0 < den) numbers (all-positive mask.terms points))
      (All-from_recursion (λ den. den ∣ common) numbers (all-divide mask.terms points))))

-- the product of the greatest denominator of a mask and the least common multiple of the table's denominators
dens-limited : (level : Level) (table : Table) (common most : ℕ) → IsTable table → length table.rows ≡ level.point_count
    → 0 < common → common ≡ lcm_of_all (dens_of table) → ((v : ℕ) → v < level.point_count → (limit_mask level v).denominator ≤ most)
    → All (λ den. den ≤ most * common) (mask_dens level table (limit_masks level))
dens-limited level table common most is each some lcm short k d inside =
    let dens = dens_of table in
    let own = mask_denominator (source_denominator level dens) in
    let points : length (limit_masks level) ≡ level.point_count = length-map-range_with_len (limit_mask level) 0 level.point_count in
    let below : k < length (limit_masks level) = omega (arith, inside, length-map (limit_masks level) own) in
    let there : k < level.point_count = omega (arith, below, points) in
    let multiple : All (λ den. den ∣ common) dens = subst (λ n. All (λ den. den ∣ n) dens) (sym lcm) (each-divides dens) in
    subst (λ den. den ≤ most * common) (ap own (mask-there level k there) ∙ sym (get_or-map own (limit_masks level) k no_mask d below))
    (mask-limited level dens (point-dens table level is each).positive common some multiple (limit_mask level k) most (short k there) (points-only level k))

-- the greatest number of edges with a point more
pub valence-next : (level : Level) (v n next : ℕ) → n ≡ fold max 0 (map (λ u. length (edges_at level u)) (range_with_len 0 v)) → next ≡ max n (length (edges_at level v))
    → next ≡ fold max 0 (map (λ u. length (edges_at level u)) (range_with_len 0 (v + 1)))
valence-next level v n next so_far is =
    let count = λ (u : ℕ). length (edges_at level u) in
    is
    ∙ ap (λ m. max m (count v)) so_far
    ∙ sym (fold_push max 0 (map count (range_with_len 0 v)) (count v))
    ∙ ap (fold max 0) (sym (map-range_with_len_more count 0 v v (omega arith)))

-- the least common multiple of the denominators of a table
multiple-some : (level : Level) (table : Table) → IsTable table → length table.rows ≡ level.point_count → 0 < lcm_of_all (dens_of table)
multiple-some level table is each =
    let dens = dens_of table in lcm_of_all-positive dens (recursion_from_All (λ den. 0 < den) dens (point-dens table level is each).positive)

-- a product within a word or above it
product-word : (p : ℕ) (r : Option ℕ) → (IsNone r ↔ (word_bound < p)) → IfSome r (λ n. n ≡ p) → IfSome r (λ n. n ≤ word_bound) → r ≡ within_word p
product-word p None over is short = let above = over.0 refl in grind (arith, nat_tests)
product-word p (Some n) over is short = grind (arith, nat_tests)

-- a multiple above the bound of denominators makes a product above a word
over-word : (most multiple : ℕ) → 0 < most → number_bound < multiple → None ≡ within_word (most * multiple)
over-word zero multiple some over = absurd (omega arith)
over-word (suc most) multiple some over = sym (past (suc most * multiple) (omega (arith, over)))
  where
    past : (p : ℕ) → word_bound < p → within_word p ≡ None
    past p h = grind (arith, nat_tests)

module _ (level : Level) (table : Table) (is : IsTable table) (each : length table.rows ≡ level.point_count) where
  abbrev most : ℕ
  most = mask_bound (greatest_valence level)

  abbrev lcm : ℕ
  lcm = lcm_of_all (dens_of table)

  above-zero : 0 < most
  above-zero = omega arith

  -- there is no bound where the least common multiple is above that of denominators
  pub none-found : (dens : List ℕ) (common : ℕ) → dens ≡ dens_of table → common ≡ 0 → common ≡ within_bound (lcm_of_all dens)
      → None ≡ denominator_bound level (dens_of table)
  none-found dens common same none found =
      over-word most lcm above-zero (within-zero lcm (multiple-some level table is each) (sym none ∙ found ∙ ap (λ some. within_bound (lcm_of_all some)) same))

  -- the product, if it is at most 2^63 - 1
  pub product-found : (dens : List ℕ) (common bound : ℕ) (r : Option ℕ) → dens ≡ dens_of table → (common ≡ 0 → ⊥) → common ≡ within_bound (lcm_of_all dens) → bound ≡ most
      → (IsNone r ↔ (word_bound < bound * common)) → IfSome r (λ product. product ≡ bound * common) → IfSome r (λ product. product ≤ word_bound)
      → r ≡ denominator_bound level (dens_of table)
  product-found dens common bound r same other found bound_is over made word =
      let exact : common ≡ lcm = within-some common (lcm_of_all dens) (above common other) found ∙ ap lcm_of_all same in
      product-word (bound * common) r over made word ∙ ap within_word (ap (λ n. n * common) bound_is ∙ ap (λ n. most * n) exact)
    where
      above : (n : ℕ) → (n ≡ 0 → ⊥) → 0 < n
      above zero h = absurd (h refl)
      above (suc n) h = omega arith

  -- no point has more edges than the greatest number
  valence-within : (v : ℕ) → v < level.point_count → length (edges_at level v) ≤ greatest_valence level
  valence-within v inside =
      let count = λ (u : ℕ). length (edges_at level u) in
      let counts = map count (range_with_len 0 level.point_count) in
      subst (λ n. n ≤ greatest_valence level) (get_or-map-range_with_len count 0 level.point_count v v 0 inside (omega arith))
      (each-le 0 counts v 0 (omega (arith, inside, length-map-range_with_len count 0 level.point_count)))

  -- the defined number is a bound
  pub is-bound : (r : Option ℕ) → r ≡ denominator_bound level (dens_of table) → IfSome r (IsDenominatorBound level table)
  is-bound None found = tt
  is-bound (Some bound) found =
      let made : (bound ≡ most * lcm) × (bound ≤ word_bound) = taken bound (most * lcm) found in
      let some = multiple-some level table is each in
      record {
        some = subst (λ n. 0 < n) (sym made.0) (product-positive most lcm above-zero some);
        short = made.1;
        dens = subst (λ n. All (λ den. den ≤ n) (mask_dens level table (limit_masks level))) (sym made.0)
            (dens-limited level table lcm most is each some refl (λ v h. mask-short level v (greatest_valence level) most (valence-within v h) refl));
      }
    where
      taken : (n p : ℕ) → Some n ≡ within_word p → (n ≡ p) × (n ≤ word_bound)
      taken n p h = by_test (nat_le p word_bound) refl
        where
          by_test : (fits : Bool) → nat_le p word_bound ≡ fits → (n ≡ p) × (n ≤ word_bound)
          by_test true e = (grind (arith, nat_tests), grind (arith, nat_tests))
          by_test false e = absurd (grind (arith, nat_tests))
