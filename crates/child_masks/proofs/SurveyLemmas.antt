-- The survey of all child points.
use Rattle.std.proofs.Common.{arith, ◌≡◌, ◌≢◌, ℕ, ◌<◌, ◌≤◌, List, length, take, get_or, ap, ◌∙◌, subst}
use Rattle.std.proofs.lemmas.List.{take_all, length-map, length-take}
use Rattle.subdiv_model.specs.Mask.{Scheme}
use Rattle.subdiv_model.specs.Refined.{mask_denominator, source_denominator}
use Rattle.level_topology.specs.Topology.{Topology}
use Rattle.level_topology.specs.Child.{PointOrigin}
use Rattle.child_masks.specs.declared.survey.Survey.{Survey}
use Rattle.child_masks.specs.Masks.{mask_from, masks_from, HasNoTransition, IsFirstDenominator, dens_from}
use Rattle.child_masks.specs.Survey.{within_bound, IsSurvey}
use Rattle.child_masks.specs.Found.{IsSurveyOf}
use Rattle.child_masks.proofs.FoundLemmas.{short-all, found-all, first-over}

module _ (parent : Topology) (scheme : Scheme) (origins : List PointOrigin) (dens : List ℕ) (p : ℕ) (survey : Survey) (past : length origins ≤ p)
    (so_far : IsSurveyOf parent scheme (take p origins) dens survey) where
  -- no point is left
  all : IsSurveyOf parent scheme origins dens survey
  all = subst (λ xs. IsSurveyOf parent scheme xs dens survey) (take_all p origins past) so_far

  -- if no denominator is 0, the survey is whole
  pub survey-whole : ((q : ℕ) → q < length survey.dens.items → get_or survey.dens.items q 1 ≢ 0) → IsSurvey parent scheme origins dens survey
  survey-whole none =
      let ds = dens_from parent.level scheme dens origins in
      record {
        dens = found-all ds survey.dens.items all.positive all.found none;
        fine = all.fine;
        short = short-all ds survey.dens.items all.positive all.found none;
        face_count = all.face.count;
        faces = all.face.each;
        named_count = all.named_count;
        named = all.named;
        masks = all.masks;
      }

  -- if one is 0, the first such point has a denominator above the bound
  pub survey-over : (q : ℕ) → q < length survey.dens.items → get_or survey.dens.items q 1 ≡ 0 → ((r : ℕ) → r < q → get_or survey.dens.items r 1 ≢ 0)
      → HasNoTransition parent.level scheme origins × IsFirstDenominator (dens_from parent.level scheme dens origins) q
  survey-over q inside none before = (all.fine, first-over (dens_from parent.level scheme dens origins) survey.dens.items all.positive all.found q inside none before)

-- there is at most one denominator for each point
pub survey-short : (parent : Topology) (scheme : Scheme) (origins : List PointOrigin) (dens : List ℕ) (p : ℕ) (survey : Survey) → IsSurveyOf parent scheme (take p origins) dens survey
    → length survey.dens.items ≤ length origins
survey-short parent scheme origins dens p survey is =
    let points = take p origins in
    let masks = length-map points (mask_from parent.level scheme) in
    let found = length-map (masks_from parent.level scheme points) (mask_denominator (source_denominator parent.level dens)) in
    let kept = length-map (dens_from parent.level scheme dens points) within_bound in
    omega (arith, ap length is.found, masks, found, kept, length-take p origins)

-- a whole survey has one denominator for each point
pub survey-count : (parent : Topology) (scheme : Scheme) (origins : List PointOrigin) (dens : List ℕ) (survey : Survey) → IsSurvey parent scheme origins dens survey
    → length survey.dens.items ≡ length origins
survey-count parent scheme origins dens survey is =
    ap length is.dens ∙ length-map (masks_from parent.level scheme origins) (mask_denominator (source_denominator parent.level dens)) ∙ length-map origins (mask_from parent.level scheme)
