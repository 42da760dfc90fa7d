-- The levels of a channel from 0 on. Each comes from the one before it.
use Rattle.std.proofs.Common.{◌≡◌, ℕ, zero, suc, ◌+◌, ◌-◌, ◌*◌, ◌<◌, ◌≤◌, Bool, true, false, nat_lt, max, pos, ◌*ℤ◌, List, [], ◌∷◌, length, map, get_or, replicate, arith, refl, ap, sym, ◌∙◌, subst}
use Rattle.std.specs.List.{All, AllByRecursion, sum_by, range_with_len}
use Rattle.std.proofs.Math.Nat.{mul-le-mul_left}
use Rattle.std.proofs.lemmas.Bool.Decides.{nat_tests}
use Rattle.std.proofs.lemmas.List.{length-map}
use Rattle.std.proofs.lemmas.List.Sums.{sum_by-append, sum_by-cons}
use Rattle.std.proofs.lemmas.List.Elements.{recursion_from_All}
use Rattle.subdiv_model.specs.Level.{Level}
use Rattle.subdiv_model.specs.Child.{refined_level}
use Rattle.subdiv_model.specs.Mask.{Scheme, child_masks, mask_terms}
use Rattle.subdiv_model.specs.Value.{IsSameValue}
use Rattle.subdiv_model.specs.Refined.{mask_value, source_value, point_value, child_values, refined_values, control_values}
use Rattle.subdiv_model.specs.Channel.{Channel, Values, number_bound, denominators_after, whole_levels}
use Rattle.ratio128.specs.Numbers.{greatest_amount}
use Rattle.level_topology.specs.Topology.{Topology, IsTopology}
use Rattle.level_topology.specs.Child.{ChildTopology}
use Rattle.uniform_refiner.specs.Refined.{IsRefined}
use Rattle.level_walk.proofs.UniformLevelLemmas as series
use Rattle.primvar_refine.specs.Rows.{Row, row_at, dens_of, value_at, StandFor, AreWithin, greatest_of}
use Rattle.channel_refine.specs.Base.{IsBase}
use Rattle.channel_refine.specs.Refined.{AreControls, IsRefinedTo, column_of, terms_to}
use Rattle.channel_refine.specs.Step.{AreValues, AreCarried}
use Rattle.channel_refine.proofs.FaultLemmas.{HasNoFault, no-faults}
use Rattle.channel_refine.proofs.FirstLemmas as first
use Rattle.level_walk.proofs.OriginLemmas.{count-masks, range-append}
use Rattle.level_walk.proofs.UniformMaskLemmas.{masks-are}
use Rattle.channel_refine.proofs.DenominatorLemmas.{IsSound, all-positive, each-below}
use Rattle.channel_refine.proofs.UniformLemmas.{AreNextNumbers, next-numbers}
use Rattle.channel_refine.proofs.ValueLemmas.{from-dens, kept, alike-own, times}

-- the level after k steps with its values; no number of the levels so far passes its bound
pub record IsReached (channel : Channel) (controls : List Row) (k : ℕ) (t : Topology) (rows : List Row) : Type 0 where
  pub base : IsSound channel.base
  pub level : series.IsReached channel.base k t
  pub complete : t.complete ≡ replicate t.level.point_count true
  pub none : (j : ℕ) → j < k → HasNoFault Values (whole_levels channel) j
  pub dens : dens_of rows ≡ denominators_after channel k
  pub values : (column : ℕ) → StandFor rows column (refined_values channel.base channel.scheme (control_values (column_of column controls)) k)
  pub within : AreWithin channel.greatest rows
  pub each : length rows ≡ t.level.point_count
  pub grown : length controls ≤ length rows
  pub alike : All (λ row. length row.numbers ≡ length (row_at controls 0).numbers) rows
  pub positive : All (λ row. 0 < row.den) rows
  pub short : All (λ row. row.den ≤ number_bound) rows
  pub products : All (λ row. row.den * max channel.greatest channel.common ≤ number_bound) rows

plus-one : (k : ℕ) → k + 1 ≡ suc k
plus-one k = omega arith

-- a fact about k levels and about the next is one about k + 1 levels
pub none-more : (P : ℕ → Type 0) (k : ℕ) → ((j : ℕ) → j < k → P j) → P k → (j : ℕ) → j < k + 1 → P j
none-more P k before here j h = go (nat_lt j k) refl
  where
    go : (b : Bool) → nat_lt j k ≡ b → P j
    go true e = before j (grind (arith, nat_tests))
    go false e = let same : k ≡ j = grind (arith, nat_tests) in subst P same here

-- Level 0.

pub sound-base : (base : Topology) (level : Level) → IsTopology base → IsBase base → base.level ≡ level → IsSound level
sound-base base level is of same = subst IsSound same (record { formed = is.formed; manifold = of.manifold; boundary = of.boundary })

ones : (rows : List Row) (a n : ℕ) → length rows ≡ n → AllByRecursion (λ row. row.den ≡ 1) rows → dens_of rows ≡ map (λ v. 1) (range_with_len a n)
ones [] a zero count all = refl
ones [] a (suc n) count all = absurd (omega (arith, count))
ones (row ∷ rows) a zero count all = absurd (omega (arith, count))
ones (row ∷ rows) a (suc n) count all = ap (λ d. d ∷ dens_of rows) all.0 ∙ ap (λ dens. 1 ∷ dens) (ones rows (a + 1) n (omega (arith, count)) all.1)

same-control : (rows : List Row) (column p : ℕ) → AllByRecursion (λ row. row.den ≡ 1) rows → p < length rows
    → IsSameValue (point_value (control_values (column_of column rows)) p) (value_at rows column p)
same-control [] column p all h = absurd (omega (arith, h))
same-control (row ∷ rows) column zero all h = ap (λ d. get_or row.numbers column (pos 0) *ℤ pos d) all.0
same-control (row ∷ rows) column (suc p) all h = same-control rows column p all.1 (omega (arith, h))

pub reached-none : (channel : Channel) (base : Topology) (controls : List Row) → IsTopology base → IsBase base → base.level ≡ channel.base
    → max channel.greatest channel.common ≤ number_bound → AreControls channel controls → IsReached channel controls 0 base controls
reached-none channel base controls is level here short are =
    let whole = recursion_from_All (λ row. row.den ≡ 1) controls are.whole in
    record {
      base = sound-base base channel.base is level here;
      level = record { level = here; made = λ j h. absurd (omega (arith, h)) };
      complete = level.complete;
      none = λ j h. absurd (omega (arith, h));
      dens = ones controls 0 channel.base.point_count are.each whole;
      values = λ column. record {
        count = length-map (column_of column controls) (λ n. record { num = n; den = 1 }) ∙ length-map controls (λ row. get_or row.numbers column (pos 0));
        same = λ p h. same-control controls column p whole h;
      };
      within = are.within;
      each = are.each ∙ ap (λ (level : Level). level.point_count) (sym here);
      grown = omega arith;
      alike = are.alike;
      positive = λ k d h. omega (arith, are.whole k d h);
      short = λ k d h. omega (arith, are.whole k d h);
      products = λ k d h. products (get_or controls k d).den (max channel.greatest channel.common) (are.whole k d h) short;
    }
  where
    products : (den most : ℕ) → den ≡ 1 → most ≤ number_bound → den * most ≤ number_bound
    products den most one h = subst (λ n. n * most ≤ number_bound) (sym one) (omega (arith, h))

first-alike : (controls rows : List Row) → length controls ≤ length rows → All (λ row. length row.numbers ≡ length (row_at controls 0).numbers) rows
    → length (row_at rows 0).numbers ≡ length (row_at controls 0).numbers
first-alike [] [] h all = refl
first-alike (c ∷ controls) [] h all = absurd (omega (arith, h))
first-alike controls (row ∷ rows) h all = all 0 row (omega arith)

-- every point of the next level is complete
pub complete-next : (t next : Topology) (child : ChildTopology) → IsRefined t child → next ≡ child.topology → next.complete ≡ replicate next.level.point_count true
complete-next t next child refined same =
    subst (λ (some : Topology). some.complete ≡ replicate some.level.point_count true) (sym same)
    (refined.uniform.complete ∙ ap (λ (level : Level). replicate level.point_count true) (sym refined.uniform.level))

module _ (channel : Channel) (controls : List Row) (k : ℕ) (t : Topology) (rows : List Row) (is : IsReached channel controls k t rows) where
  -- these values can be carried on
  pub reached-values : AreValues (max channel.greatest channel.common) t rows
  reached-values = record {
    each = is.each;
    good = record {
      positive = is.positive;
      short = is.short;
      kept = λ j d h. kept (greatest_amount (get_or rows j d).numbers) (get_or rows j d).den channel.greatest (max channel.greatest channel.common) number_bound (is.within j d h) (omega arith) (is.products j d h);
      alike = alike-own rows (length (row_at controls 0).numbers) is.alike;
    };
    within = λ j d h. below (greatest_amount (get_or rows j d).numbers) (get_or rows j d).den channel.greatest (max channel.greatest channel.common) (is.within j d h) (omega arith);
  }
    where
      below : (amount den greatest most : ℕ) → amount ≤ den * greatest → greatest ≤ most → amount ≤ den * most
      below amount den greatest most h more = omega (arith, h, mul-le-mul_left den more)

  -- these are the last level and its values
  pub reached-end : IsRefinedTo Values channel controls k (record { level = t; rows = rows })
  reached-end = record {
    fine = λ track. no-faults Values tt (whole_levels channel) track k is.none;
    few = λ j h. (is.level.made j h).few;
    level_is = is.level.level;
    complete = is.complete;
    dens = is.dens;
    values = is.values;
    within = is.within;
    short = is.products;
    positive = is.positive;
    alike = is.alike;
  }

  -- one more level
  module _ (next : Topology) (next_rows : List Row) (child : ChildTopology) (refined : IsRefined t child) (same : next ≡ child.topology)
      (step : AreCarried (max channel.greatest channel.common) t.level channel.scheme child.origins rows next_rows) where
    numbers : AreNextNumbers (max channel.greatest channel.common) t.level channel.scheme (dens_of rows) (dens_of next_rows)
    numbers = next-numbers t child refined (max channel.greatest channel.common) channel.scheme (dens_of rows) (dens_of next_rows) step.refined.fine step.refined.dens step.refined.short step.fits

    next-dens : dens_of next_rows ≡ denominators_after channel (suc k)
    next-dens = numbers.dens_are ∙ sym (first.dens-after Values tt channel k is.none t.level is.level.level (dens_of rows) is.dens)

    next-values : (column : ℕ) → StandFor next_rows column (child_values t.level channel.scheme (refined_values channel.base channel.scheme (control_values (column_of column controls)) k))
    next-values column =
        let before = refined_values channel.base channel.scheme (control_values (column_of column controls)) k in
        subst (λ masks. StandFor next_rows column (map (mask_value (source_value t.level before)) masks)) (masks-are t child refined channel.scheme)
        (step.refined.values column before (is.values column))

    next-each : length next_rows ≡ next.level.point_count
    next-each =
        sym (length-map next_rows (λ row. row.den)) ∙ ap length numbers.dens_are ∙ length-map (child_masks t.level channel.scheme) _ ∙ count-masks t.level channel.scheme
        ∙ ap (λ (level : Level). level.point_count) (sym refined.uniform.level) ∙ ap (λ (t : Topology). t.level.point_count) (sym same)

    pub reached-next : IsReached channel controls (k + 1) next next_rows
    reached-next = record {
      base = is.base;
      level = series.reached-next channel.base k t next child is.level refined same;
      complete = complete-next t next child refined same;
      none = none-more (HasNoFault Values (whole_levels channel)) k is.none (first.none-here Values tt channel k is.none t.level is.level.level (dens_of rows) is.dens (dens_of next_rows) numbers refl);
      dens = next-dens ∙ ap (denominators_after channel) (sym (plus-one k));
      values = λ column.
          subst (λ n. StandFor next_rows column (refined_values channel.base channel.scheme (control_values (column_of column controls)) n)) (sym (plus-one k))
          (subst (λ level. StandFor next_rows column (child_values level channel.scheme (refined_values channel.base channel.scheme (control_values (column_of column controls)) k))) is.level.level
          (next-values column));
      within = step.refined.within channel.greatest is.within;
      each = next-each;
      grown = omega (arith, is.grown, is.each, next-each, ap (λ (level : Level). level.point_count) refined.uniform.level, ap (λ (t : Topology). t.level.point_count) same);
      alike = λ j d h. step.refined.alike j d h ∙ first-alike controls rows is.grown is.alike;
      positive = from-dens (λ n. 0 < n) next_rows (subst (AllByRecursion (λ n. 0 < n)) (sym next-dens) (all-positive channel.base channel.scheme (suc k) is.base));
      short = from-dens (λ n. n ≤ number_bound) next_rows (recursion_from_All (λ n. n ≤ number_bound) (dens_of next_rows) step.refined.short);
      products = λ j d h. times (get_or next_rows j d).den (greatest_of (dens_of next_rows)) (max channel.greatest channel.common)
          (from-dens (λ n. n ≤ greatest_of (dens_of next_rows)) next_rows (each-below (dens_of next_rows) 1) j d h) step.fits;
    }

-- The terms of one more level; more levels have no fewer terms.

pub terms-next : (base : Level) (scheme : Scheme) (k : ℕ) → terms_to base scheme (k + 1) ≡ terms_to base scheme k + mask_terms (refined_level base k) scheme
terms-next base scheme k =
    let terms : ℕ → ℕ = λ n. mask_terms (refined_level base n) scheme in
    let first : 0 + k ≡ k = omega arith in
    let last = sum_by-cons terms (0 + k) [] in
    let here = ap terms first in
    omega (arith, ap (sum_by terms) (range-append 0 k 1), sum_by-append terms (range_with_len 0 k) (range_with_len (0 + k) 1), last, here)

pub terms-within : (base : Level) (scheme : Scheme) (k depth : ℕ) → k ≤ depth → terms_to base scheme k ≤ terms_to base scheme depth
terms-within base scheme k depth h =
    let terms : ℕ → ℕ = λ n. mask_terms (refined_level base n) scheme in
    let whole : k + (depth - k) ≡ depth = omega (arith, h) in
    omega (arith, ap (terms_to base scheme) whole, ap (sum_by terms) (range-append 0 k (depth - k)), sum_by-append terms (range_with_len 0 k) (range_with_len (0 + k) (depth - k)))
