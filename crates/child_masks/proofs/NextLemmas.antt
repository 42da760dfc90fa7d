-- A survey before and after one child point more.
use Rattle.std.proofs.Common.{◌≡◌, ℕ, ◌+◌, ◌<◌, ◌^◌, List, length, take, get_or, arith, sym}
use Rattle.std.proofs.lemmas.List.{length-take}
use Rattle.subdiv_model.specs.Mask.{Scheme}
use Rattle.level_topology.specs.Topology.{Topology}
use Rattle.level_topology.specs.Child.{PointOrigin, FromVertex, FromFace, FromEdge}
use Rattle.child_masks.specs.declared.survey.Survey.{Survey}
use Rattle.child_masks.specs.MaskOf.{AreKeptFor, AreKeptWith}
use Rattle.child_masks.specs.Found.{ArePointDenominators, IsPointAdded, CanAdd, IsSurveyOf}
use Rattle.child_masks.proofs.MaskLemmas.{kept-next, kept-other, not-edge, not-face}
use Rattle.child_masks.proofs.PointLemmas.{survey-next}

module _ (parent : Topology) (scheme : Scheme) (origins : List PointOrigin) (dens : List ℕ) (p : ℕ) (old : Survey) (inside : p < length origins)
    (so_far : IsSurveyOf parent scheme (take p origins) dens old) where
  -- the survey of the points so far takes one more
  pub can-add : ArePointDenominators parent.level dens → length origins < 2 ^ 32 → CanAdd parent dens old
  can-add points short = record {
    points = points;
    faces = so_far.face;
    marks = so_far.named_count;
    kept = so_far.masks.counted;
    few = omega (arith, so_far.masks.few, length-take p origins, inside, short);
  }

  -- the new survey is that of the points with one more
  pub survey-more : (origin : PointOrigin) (new : Survey) → origin ≡ get_or origins p (FromVertex 0) → IsPointAdded parent scheme dens origin old new
      → IsSurveyOf parent scheme (take (p + 1) origins) dens new
  survey-more origin new e is = survey-next parent scheme origins dens p origin old new inside (sym e) so_far is.added is.fine (kept origin (sym e) is.kept)
    where
      kept : (origin : PointOrigin) → get_or origins p (FromVertex 0) ≡ origin → AreKeptWith parent scheme origin old.masks new.masks
          → AreKeptFor parent scheme (take (p + 1) origins) new.masks
      kept (FromVertex v) e is = kept-next parent scheme origins p inside v old.masks new.masks e so_far.masks is
      kept (FromFace f) e is = kept-other parent scheme origins p inside (FromFace f) old.masks new.masks e (not-face f) so_far.masks is
      kept (FromEdge d) e is = kept-other parent scheme origins p inside (FromEdge d) old.masks new.masks e (not-edge d) so_far.masks is
