-- The row of a mask from the weights that a caller gave for it, if its denominator is within a bound.
use Rattle.std.proofs.Common.{◌≡◌, ℕ, zero, suc, ◌*◌, ◌/◌, ◌<◌, ◌≤◌, List, length, map, get_or, replicate, arith, refl, ap, sym, ◌∙◌, subst, Option, Some, None, unwrap_or, IfSome}
use Rattle.std.proofs.Math.Nat.{mul-div_cancel_left}
use Rattle.subdiv_model.specs.Level.{Level}
use Rattle.subdiv_model.specs.Multiples.{lcm_of_all}
use Rattle.subdiv_model.specs.Mask.{Mask}
use Rattle.subdiv_model.specs.Refined.{mask_denominator, source_denominator}
use Rattle.subdiv_model.specs.Channel.{number_bound}
use Rattle.child_masks.specs.Survey.{within_bound}
use Rattle.child_masks.specs.Found.{ArePointDenominators}
use Rattle.child_masks.proofs.WithinLemmas.{within-some}
use Rattle.stencil_apply.specs.Table.{Share, Table, IsTable}
use Rattle.stencil_factory.specs.Rows.{support_of, dens_of}
use Rattle.place_sums.specs.Sums.{shares_from}
use Rattle.stencil_factory.specs.Weights.{AreWeights}
use Rattle.stencil_factory.specs.Composing.{added_rows, CanAddRows, IsComposedRow}
use Rattle.stencil_factory.specs.MaskRows.{AreWeightsOf}
use Rattle.stencil_factory.specs.Joined.{terms_of_shares, amounts_of, weighing}
use Rattle.stencil_factory.proofs.SurveyLemmas.{point-dens}
use Rattle.stencil_factory.proofs.RowLemmas.{can-add, composed}
use Rattle.stencil_factory.proofs.PutLemmas.{put-positive, put-den, put-amounts}

-- A product that a call returned as within its bound, above 0.
pub found-product : (o : Option ℕ) (den a b bound : ℕ) → den ≡ unwrap_or o 0 → IfSome o (λ p. p ≡ a * b) → IfSome o (λ p. p ≤ bound) → (den ≡ 0 → ⊥)
    → (0 < den) × (den ≡ a * b) × (den ≤ bound)
found-product (Some p) den a b bound e h k some = (omega (arith, some), e ∙ h, subst (λ n. n ≤ bound) (sym e) k)
found-product None den a b bound e h k some = absurd (some e)

module _ (level : Level) (mask put : Mask) (are : AreWeightsOf level.point_count mask put) (raw : List Share) (raw_are : terms_of_shares raw ≡ put.terms)
    (table : Table) (is : IsTable table) (each : length table.rows ≡ level.point_count)
    (m : ℕ) (m_is : m ≡ within_bound (lcm_of_all (map (λ v. get_or (dens_of table) v 1) (support_of (weighing raw)))))
    (den : ℕ) (some : 0 < den) (den_is : den ≡ put.denominator * m) (short : den ≤ number_bound) where
  abbrev amounts : List Share
  amounts = amounts_of (dens_of table) m (weighing raw)

  abbrev own_den : ℕ
  own_den = mask_denominator (source_denominator level (dens_of table)) mask

  points : ArePointDenominators level (dens_of table)
  points = point-dens table level is each

  m-some : 0 < m
  m-some = above put.denominator m (subst (λ n. 0 < n) den_is some)
    where
      above : (q n : ℕ) → 0 < q * n → 0 < n
      above q zero h = let none : q * 0 ≡ 0 = omega arith in absurd (omega (arith, h, none))
      above q (suc n) h = omega arith

  den-is : den ≡ own_den
  den-is = den_is ∙ ap (λ n. put.denominator * n) (within-some m _ m-some m_is) ∙ put-den level mask put are raw raw_are (dens_of table) points

  m-over : m ≡ den / put.denominator
  m-over = sym (ap (λ n. n / put.denominator) den_is ∙ mul-div_cancel_left m (put-positive level mask put are raw raw_are))

  weights : AreWeights level (dens_of table) mask amounts
  weights = put-amounts level mask put are raw raw_are (dens_of table) points den den-is short m m-over (replicate level.point_count 0) refl

  own-short : own_den ≤ number_bound
  own-short = subst (λ n. n ≤ number_bound) den-is short

  -- the rows of the points can be added
  pub narrow-can : (most : ℕ) → den ≤ most → CanAddRows most table amounts (replicate table.controls 0)
  narrow-can most fits = can-add level table mask amounts is each weights own-short most (subst (λ n. n ≤ most) den-is fits)

  -- The sums give the row of the mask.
  pub narrow-row : (start sums : List ℕ) (shares : List Share) → start ≡ replicate table.controls 0 → sums ≡ added_rows table amounts start → shares ≡ shares_from 0 sums
      → IsComposedRow level table mask (record { den = den; shares = shares })
  narrow-row start sums shares clear added taken =
      composed level table mask amounts is each weights own-short shares den
      (taken ∙ ap (shares_from 0) (added ∙ ap (added_rows table amounts) clear)) den-is (subst (λ n. 0 < n) den-is some)
