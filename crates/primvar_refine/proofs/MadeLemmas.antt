-- The sum of a mask's terms has the value of the mask.
use Rattle.std.proofs.Common.{◌≡◌, ℕ, ◌+◌, ◌-◌, ◌*◌, ◌/◌, ◌<◌, ◌≤◌, ℤ, pos, ◌+ℤ◌, ◌*ℤ◌, List, [], ◌∷◌, length, map, get_or, max, true, nat_lt, IsTrue, arith, refl, ap, sym, ◌∙◌, subst}
use Rattle.std.specs.List.{All, AllByRecursion, fold}
use Rattle.std.specs.Int.{◌∣◌}
use Rattle.std.proofs.lemmas.Bool.{and_parts}
use Rattle.std.proofs.lemmas.Bool.Decides.{nat_tests}
use Rattle.std.proofs.lemmas.List.{get_or-map, length-map}
use Rattle.std.proofs.lemmas.List.Elements.{recursion_from_All, All-from_recursion}
use Rattle.std.specs.List.Sorted.{IsPermutation}
use Rattle.std.proofs.lemmas.List.Sorted.{IsPermutation-sym, length_permutation, All-permutation}
use Rattle.std.proofs.Math.IntN.{*ℤ_comm, +ℤ_idl}
use Rattle.std.proofs.Math.Nat.{mul-div_cancel_left, mul_assoc, mul_comm, mul-le-mul_left, lt-div-mul-add}
use Rattle.subdiv_model.specs.Level.{Level}
use Rattle.subdiv_model.specs.Multiples.{lcm_of_all}
use Rattle.subdiv_model.specs.Value.{Value}
use Rattle.subdiv_model.specs.Mask.{SourcePoint, OfPoint, Term, Mask, total_weight, is_mean}
use Rattle.subdiv_model.specs.Refined.{mask_value, point_value, source_value, source_denominator}
use Rattle.number_laws.proofs.MultipleLemmas.{all-divide_lcm, lcm_of_all-positive}
use Rattle.number_width.specs.declared.width.Width.{Width}
use Rattle.sharpness_laws.specs.SameWeights.{is_joined}
use Rattle.sharpness_laws.proofs.TermOrderLemmas.{same_weights-permuted}
use Rattle.sharpness_laws.proofs.MaskValueLemmas.{same-value, same-denominator}
use Rattle.mask_laws.proofs.SumLemmas.{weighted_sum, IsOver, over-multiple, terms-over}
use Rattle.ratio128.specs.Numbers.{zeros, greatest_amount}
use Rattle.mask_rules.specs.Masks.{IsMask}
use Rattle.child_masks.proofs.MeanLemmas.{mean-positive, mean-total}
use Rattle.child_masks.proofs.SourceLemmas.{test-at}
use Rattle.primvar_refine.specs.Rows.{Row, row_at, dens_of, StandFor, AreWithin, AreGood, least_bound, rounded_up}
use Rattle.primvar_refine.specs.Width.{sum_bound}
use Rattle.primvar_refine.specs.Sums.{source_row, HasRow, term_sums, IsSummand, CanSum}
use Rattle.primvar_refine.specs.Made.{IsRowOf, IsMade, CanMake}
use Rattle.ratio128.proofs.AmountLemmas.{IsWithin-zeros, greatest-within, length-zeros}
use Rattle.primvar_refine.proofs.TermSumLemmas.{term_sums-at, term_sums-within, length-term_sums, zeros-at}

-- a point's own row
pub point-row : (level : Level) (rows : List Row) (v : ℕ) → AreGood rows → v < length rows → IsRowOf level rows (OfPoint v) (row_at rows v)
point-row level rows v good inside =
    let blank : Row = record { numbers = []; den = 1 } in
    record {
      den_is = sym (get_or-map (λ (r : Row). r.den) rows v blank 1 inside);
      over = λ column values stand. turned (point_value values v) (get_or (row_at rows v).numbers column (pos 0)) (row_at rows v).den (stand.same v inside);
      within = λ most within. within v blank inside;
      alike = good.alike v blank inside;
    }
  where
    turned : (x : Value) (n : ℤ) (c : ℕ) → x.num *ℤ pos c ≡ n *ℤ pos x.den → IsOver c x n
    turned x n c e = *ℤ_comm (pos c) x.num ∙ e ∙ *ℤ_comm n (pos x.den)

-- no value passes the least bound
pub all-below-fold : (numbers : List ℕ) (start : ℕ) → (start ≤ fold max start numbers) × AllByRecursion (λ n. n ≤ fold max start numbers) numbers
all-below-fold [] start = (omega arith, tt)
all-below-fold (n ∷ numbers) start =
    let rest = all-below-fold numbers (max start n) in
    let most = rest.0 in (omega (arith, most), (omega (arith, most), rest.1))

-- a fraction is at most the whole number that it is rounded up to
rounded-above : (a d : ℕ) → 0 < d → a ≤ d * rounded_up a d
rounded-above a d h =
    let above = lt-div-mul-add {a = a + (d - 1)} {b = d} h in
    let turned : rounded_up a d * d ≡ d * rounded_up a d = mul_comm (rounded_up a d) d in
    bound a d (rounded_up a d * d) (d * rounded_up a d) h above turned
  where
    bound : (a d x y : ℕ) → 0 < d → a + (d - 1) < x + d → x ≡ y → a ≤ y
    bound a d x y h k e = omega (arith, h, k, e)

-- the least bound bounds all values
pub least-bounds : (rows : List Row) → AreGood rows → AreWithin (least_bound rows) rows
least-bounds rows good = λ v d inside.
    let up : Row → ℕ = λ r. rounded_up (greatest_amount r.numbers) r.den in
    let below = All-from_recursion (λ n. n ≤ least_bound rows) (map up rows) (all-below-fold (map up rows) 0).1 in
    let here : up (get_or rows v d) ≤ least_bound rows =
    subst (λ n. n ≤ least_bound rows) (get_or-map up rows v d 0 inside) (below v 0 (rw length-map inside)) in
    let r = get_or rows v d in
    let above = rounded-above (greatest_amount r.numbers) r.den (good.positive v d inside) in
    let more = mul-le-mul_left r.den here in
    omega (arith, above, more)

module _ (level : Level) (rows : List Row) (good : AreGood rows) (mask : Mask) (mean : IsTrue (is_mean mask)) (row : SourcePoint → Row)
    (held : AllByRecursion (λ t. IsRowOf level rows t.source (row t.source)) mask.terms) where
  abbrev den_of : Term → ℕ
  den_of t = source_denominator level (dens_of rows) t.source

  -- the least common multiple of the denominators
  abbrev pub multiple : ℕ
  multiple = lcm_of_all (map (λ t. den_of t) mask.terms)

  -- each denominator divides a common multiple
  each-divides : (m : ℕ) (terms : List Term) → AllByRecursion (λ t. IsRowOf level rows t.source (row t.source)) terms
      → AllByRecursion (λ a. a ∣ m) (map (λ t. den_of t) terms) → AllByRecursion (λ t. (row t.source).den ∣ m) terms
  each-divides m [] h d = tt
  each-divides m (t ∷ terms) h d = (subst (λ a. a ∣ m) (sym h.0.den_is) d.0, each-divides m terms h.1 d.1)

  -- each denominator divides the least common multiple
  divides : AllByRecursion (λ t. (row t.source).den ∣ multiple) mask.terms
  divides = each-divides multiple mask.terms held (all-divide_lcm (map (λ t. den_of t) mask.terms))

  module _ (zero : List ℤ) (wide : length zero ≡ length (row_at rows 0).numbers) where
    abbrev start : List ℤ
    start = zeros zero

    long : length start ≡ length (row_at rows 0).numbers
    long = length-zeros zero ∙ wide

    -- all sources have as many numbers
    each-alike : (terms : List Term) → AllByRecursion (λ t. IsRowOf level rows t.source (row t.source)) terms
        → AllByRecursion (λ t. length (row t.source).numbers ≡ length start) terms
    each-alike [] h = tt
    each-alike (t ∷ terms) h = (h.0.alike ∙ sym long, each-alike terms h.1)

    -- each source is whole over the common multiple
    each-over : (column : ℕ) (values : List Value) → StandFor rows column values → (terms : List Term)
        → AllByRecursion (λ t. IsRowOf level rows t.source (row t.source)) terms → AllByRecursion (λ t. (row t.source).den ∣ multiple) terms
        → AllByRecursion (λ t. IsOver multiple (source_value level values t.source) (pos (multiple / (row t.source).den) *ℤ get_or (row t.source).numbers column (pos 0))) terms
    each-over column values stand [] h d = tt
    each-over column values stand (t ∷ terms) h d = (
      over-multiple (row t.source).den multiple (source_value level values t.source) (get_or (row t.source).numbers column (pos 0)) d.0 (h.0.over column values stand),
      each-over column values stand terms h.1 d.1,
    )

    -- each source is whole over the common multiple and within its bound
    each-within : (most : ℕ) → AreWithin most rows → (terms : List Term) → AllByRecursion (λ t. IsRowOf level rows t.source (row t.source)) terms
        → AllByRecursion (λ t. (row t.source).den ∣ multiple) terms
        → AllByRecursion (λ t. ((row t.source).den ∣ multiple) × (greatest_amount (row t.source).numbers ≤ (row t.source).den * most)) terms
    each-within most within [] h d = tt
    each-within most within (t ∷ terms) h d = ((d.0, h.0.within most within), each-within most within terms h.1 d.1)

    -- the sum of the terms is the value of the mask
    pub sum-made : IsMade level rows mask (record { numbers = term_sums multiple row start mask.terms; den = mask.denominator * multiple })
    sum-made = record {
      den_is = refl;
      over = λ column values stand.
          terms-over mask.denominator multiple (source_value level values)
          (λ s. pos (multiple / (row s).den) *ℤ get_or (row s).numbers column (pos 0)) mask.terms (each-over column values stand mask.terms held divides)
          ∙ ap (λ z. pos (mask_value (source_value level values) mask).den *ℤ z)
          (sym (term_sums-at multiple row column start mask.terms (each-alike mask.terms held)
          ∙ ap (λ z. z +ℤ weighted_sum (λ s. pos (multiple / (row s).den) *ℤ get_or (row s).numbers column (pos 0)) mask.terms) (zeros-at zero column)
          ∙ +ℤ_idl (weighted_sum (λ s. pos (multiple / (row s).den) *ℤ get_or (row s).numbers column (pos 0)) mask.terms)));
      within = λ most within.
          subst (λ n. greatest_amount (term_sums multiple row start mask.terms) ≤ n) (amount most)
          (greatest-within (0 + total_weight mask.terms * (multiple * most)) _
          (term_sums-within multiple row most 0 start mask.terms (IsWithin-zeros 0 zero) (each-within most within mask.terms held divides)));
      alike = length-term_sums multiple row start mask.terms ∙ long;
    }
      where
        amount : (most : ℕ) → 0 + total_weight mask.terms * (multiple * most) ≡ mask.denominator * multiple * most
        amount most =
            let none : 0 + total_weight mask.terms * (multiple * most) ≡ total_weight mask.terms * (multiple * most) = omega arith in
            none ∙ ap (λ n. n * (multiple * most)) (mean-total mask mean) ∙ sym (mul_assoc mask.denominator multiple most)

  -- the terms can be summed if the denominator and all amounts over it are short
  module _ (width : Width) (short : mask.denominator * multiple ≤ sum_bound width) (kept : mask.denominator * multiple * least_bound rows ≤ sum_bound width)
      (joined : IsTrue (is_joined mask)) (positive : AllByRecursion (λ t. 0 < (row t.source).den) mask.terms) where
    each-summand : (terms : List Term) → AllByRecursion (λ t. IsRowOf level rows t.source (row t.source)) terms → AllByRecursion (λ t. (row t.source).den ∣ multiple) terms
        → AllByRecursion (λ t. 0 < (row t.source).den) terms
        → AllByRecursion (λ t. IsSummand multiple (least_bound rows) (length (row_at rows 0).numbers) (row t.source)) terms
    each-summand [] h d p = tt
    each-summand (t ∷ terms) h d p = (
      record {
        positive = p.0;
        divides = d.0;
        within = h.0.within (least_bound rows) (least-bounds rows good);
        alike = h.0.alike;
      },
      each-summand terms h.1 d.1 p.1,
    )

    -- the denominators are above 0
    each-positive : (terms : List Term) → AllByRecursion (λ t. IsRowOf level rows t.source (row t.source)) terms → AllByRecursion (λ t. 0 < (row t.source).den) terms
        → AllByRecursion (λ a. 0 < a) (map (λ t. den_of t) terms)
    each-positive [] h p = tt
    each-positive (t ∷ terms) h p = (subst (λ a. 0 < a) h.0.den_is p.0, each-positive terms h.1 p.1)

    -- the weights are above 0
    weighed-terms : All (λ t. 0 < t.weight) mask.terms
    weighed-terms = λ i d inside. above (get_or mask.terms i d).weight (test-at (λ t. nat_lt 0 t.weight) mask.terms i d (and_parts _ _ joined).1 inside)
      where
        above : (w : ℕ) → nat_lt 0 w ≡ true → 0 < w
        above w e = grind (arith, nat_tests, e)

    -- the terms can be summed
    pub can-sum : CanSum width multiple (least_bound rows) (length (row_at rows 0).numbers) row mask.terms
    can-sum = record {
      each = All-from_recursion _ mask.terms (each-summand mask.terms held divides positive);
      weighed = weighed-terms;
      some = lcm_of_all-positive (map (λ t. den_of t) mask.terms) (each-positive mask.terms held positive);
      short = subst (λ n. n * multiple ≤ sum_bound width) (sym (mean-total mask mean)) short;
      kept =
          subst (λ n. n ≤ sum_bound width)
          (mul_assoc mask.denominator multiple (least_bound rows) ∙ ap (λ n. n * (multiple * least_bound rows)) (sym (mean-total mask mean))) kept;
    }

-- a mask of the code and the one of the definitions that it is have one value
pub made-as : (level : Level) (rows : List Row) (mask defined : Mask) (row : Row) → IsMask mask defined → IsTrue (is_joined defined)
    → IsMade level rows mask row → IsMade level rows defined row
made-as level rows mask defined row is joined made = record {
  den_is = made.den_is ∙ same-denominator mask defined is.joined joined is.same (source_denominator level (dens_of rows));
  over = λ column values stand.
      subst (λ x. IsOver row.den x (get_or row.numbers column (pos 0))) (same-value mask defined is.joined joined is.same (source_value level values))
      (made.over column values stand);
  within = made.within;
  alike = made.alike;
}

-- A mask of the code over the denominator of the defined one.
module _ (width : Width) (level : Level) (rows made : List Row) (places : List ℕ) (mask defined : Mask) (den : ℕ) (is : IsMask mask defined) (joined : IsTrue (is_joined defined))
    (can : CanMake width level rows made places defined den) where
  abbrev own : SourcePoint → Row
  own = source_row rows made places

  -- the terms are those of the defined mask in some order
  same-terms : IsPermutation defined.terms mask.terms
  same-terms = IsPermutation-sym mask.terms defined.terms (same_weights-permuted mask defined is.joined joined is.same)

  -- each source has a row
  pub terms-there : All (λ t. HasRow rows made places t.source) mask.terms
  terms-there = All-permutation (λ t. HasRow rows made places t.source) defined.terms mask.terms same-terms can.sources.there

  -- each source has a row of its own
  held : AllByRecursion (λ t. IsRowOf level rows t.source (own t.source)) mask.terms
  held = recursion_from_All _ mask.terms (All-permutation (λ t. IsRowOf level rows t.source (own t.source)) defined.terms mask.terms same-terms can.sources.held)

  -- over a denominator above 0
  positive : AllByRecursion (λ t. 0 < (own t.source).den) mask.terms
  positive = recursion_from_All _ mask.terms (All-permutation (λ t. 0 < (own t.source).den) defined.terms mask.terms same-terms can.sources.positive)

  abbrev common : ℕ
  common = multiple level rows can.good mask is.mean own held

  -- the denominator by the mask of the code
  den-here : den ≡ mask.denominator * common
  den-here = can.den_is ∙ sym (same-denominator mask defined is.joined joined is.same (source_denominator level (dens_of rows)))

  -- the multiple for the weights by the mask of the code
  common-is : common ≡ den / mask.denominator
  common-is = sym (ap (λ n. n / mask.denominator) den-here ∙ mul-div_cancel_left common (mean-positive mask is.mean))

  -- the terms can be summed
  pub terms-can : CanSum width (den / mask.denominator) (least_bound rows) (length (row_at rows 0).numbers) own mask.terms
  terms-can =
      subst (λ m. CanSum width m (least_bound rows) (length (row_at rows 0).numbers) own mask.terms) common-is
      (can-sum level rows can.good mask is.mean own held width (subst (λ n. n ≤ sum_bound width) den-here can.short)
      (subst (λ n. n * least_bound rows ≤ sum_bound width) den-here can.kept) is.joined positive)

  -- the sum has the value of the defined mask
  pub terms-made : (like : List ℤ) → length like ≡ length (row_at rows 0).numbers
      → IsMade level rows defined (record { numbers = term_sums (den / mask.denominator) own (zeros like) mask.terms; den = den })
  terms-made like wide =
      made-as level rows mask defined _ is joined
      (subst (λ m. IsMade level rows mask (record { numbers = term_sums m own (zeros like) mask.terms; den = den })) common-is
      (subst (λ n. IsMade level rows mask (record { numbers = term_sums common own (zeros like) mask.terms; den = n })) (sym den-here)
      (sum-made level rows can.good mask is.mean own held like wide)))

  -- in as many terms
  pub terms-count : length mask.terms ≡ length defined.terms
  terms-count = length_permutation defined.terms mask.terms same-terms

  -- the sum of terms that are those of the mask, over m
  module _ (terms : List Term) (terms_are : terms ≡ mask.terms) (q m : ℕ) (q_is : q ≡ mask.denominator) (m_is : m ≡ den / q)
      (like : List ℤ) (wide : length like ≡ length (row_at rows 0).numbers) where
    m-here : den / mask.denominator ≡ m
    m-here = ap (λ n. den / n) (sym q_is) ∙ sym m_is

    -- each source has a row
    pub given-there : All (λ t. HasRow rows made places t.source) terms
    given-there = subst (λ l. All (λ (t : Term). HasRow rows made places t.source) l) (sym terms_are) terms-there

    -- the given terms can be summed
    pub given-can : CanSum width m (least_bound rows) (length like) own terms
    given-can =
        subst (λ l. CanSum width m (least_bound rows) (length like) own l) (sym terms_are)
        (subst (λ n. CanSum width m (least_bound rows) n own mask.terms) (sym wide)
        (subst (λ n. CanSum width n (least_bound rows) (length (row_at rows 0).numbers) own mask.terms) m-here terms-can))

    -- the sum has the value of the defined mask
    pub given-made : (numbers : List ℤ) → numbers ≡ term_sums m own (zeros like) terms → IsMade level rows defined (record { numbers = numbers; den = den })
    given-made numbers are =
        subst (λ l. IsMade level rows defined (record { numbers = l; den = den }))
        (ap (λ n. term_sums n own (zeros like) mask.terms) m-here ∙ ap (λ l. term_sums m own (zeros like) l) (sym terms_are) ∙ sym are)
        (terms-made like wide)

    -- the given terms are as many as those of the defined mask
    pub given-count : length terms ≡ length defined.terms
    given-count = ap length terms_are ∙ terms-count
