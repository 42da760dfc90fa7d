-- Joined weights of points as the mask of a row: the points they name, and their amounts.
use Rattle.std.proofs.Common.{◌≡◌, ℕ, ◌+◌, ◌*◌, ◌/◌, ◌<◌, ◌≤◌, ◌||◌, nat_eq, List, [], ◌∷◌, length, map, get_or, replicate, arith, refl, ap, sym, ◌∙◌, subst}
use Rattle.std.specs.List.{AllByRecursion, list_any}
use Rattle.std.proofs.lemmas.Bool.Decides.{nat_tests}
use Rattle.std.proofs.lemmas.List.Elements.{recursion_from_All}
use Rattle.subdiv_model.specs.Polygons.{is_among}
use Rattle.subdiv_model.specs.Level.{Level}
use Rattle.subdiv_model.specs.Multiples.{lcm_of_all}
use Rattle.subdiv_model.specs.Mask.{Mask}
use Rattle.subdiv_model.specs.Refined.{mask_denominator, source_denominator}
use Rattle.subdiv_model.specs.Channel.{number_bound}
use Rattle.sharpness_laws.proofs.MaskValueLemmas.{same-denominator}
use Rattle.child_masks.specs.Found.{ArePointDenominators}
use Rattle.child_masks.proofs.MeanLemmas.{mean-positive}
use Rattle.stencil_apply.specs.Table.{Share}
use Rattle.stencil_factory.specs.Rows.{support_of}
use Rattle.place_sums.specs.Sums.{added_shares}
use Rattle.stencil_factory.specs.Weights.{names_point, is_named}
use Rattle.stencil_factory.specs.Flat.{flat_shares, CanAddAll, IsWeighed}
use Rattle.stencil_factory.specs.PlaceSet.{Places, with_places}
use Rattle.stencil_factory.specs.Named.{AreNamed}
use Rattle.stencil_factory.specs.Joined.{terms_of_shares, mask_of_shares, amounts_of, AreJoined}
use Rattle.stencil_factory.proofs.WeighingLemmas.{same-multiple}
use Rattle.stencil_factory.proofs.PlaceSetLemmas.{count-places, mark-places, among-places}
use Rattle.stencil_factory.proofs.NameLemmas.{names-same, none-before}
use Rattle.stencil_factory.proofs.WeightLemmas.{IsKnown}
use Rattle.stencil_factory.proofs.KnownLemmas.{given-can, given-weighed}

-- the points are those that the terms name
points-named : (level : Level) (v : ℕ) (shares : List Share) → is_among (support_of shares) v ≡ list_any (λ t. names_point level v t.source) (terms_of_shares shares)
points-named level v [] = refl
points-named level v (share ∷ shares) = ap (λ b. b || is_among (support_of shares) v) (flipped v share.0) ∙ ap (λ b. nat_eq share.0 v || b) (points-named level v shares)
  where
    flipped : (a b : ℕ) → nat_eq a b ≡ nat_eq b a
    flipped a b = grind (arith, nat_tests)

-- the amounts of the terms are those of the points
amounts-flat : (level : Level) (dens : List ℕ) (m : ℕ) (shares : List Share) → flat_shares level dens [] m (terms_of_shares shares) ≡ amounts_of dens m shares
amounts-flat level dens m [] = refl
amounts-flat level dens m (share ∷ shares) = ap (λ (l : List Share). (share.0, share.1 * (m / get_or dens share.0 1)) ∷ l) (amounts-flat level dens m shares)

-- their denominators are those of the points
dens-read : (level : Level) (dens : List ℕ) (shares : List Share) → map (λ t. source_denominator level dens t.source) (terms_of_shares shares) ≡ map (λ v. get_or dens v 1) (support_of shares)
dens-read level dens [] = refl
dens-read level dens (share ∷ shares) = ap (λ l. get_or dens share.0 1 ∷ l) (dens-read level dens shares)

module _ (level : Level) (mask : Mask) (q : ℕ) (shares : List Share) (are : AreJoined level.point_count mask q shares) where
  -- The points of the joined weights are the points that the mask names.
  pub joined-names : (v : ℕ) → is_among (support_of shares) v ≡ is_named level mask v
  joined-names v = points-named level v shares ∙ names-same level (mask_of_shares q shares) mask v are.same are.joined

  -- The set after all points of the weights were added.
  pub joined-named : (points : List ℕ) → ((v : ℕ) → is_among points v ≡ is_among (support_of shares) v) → (old start new : Places) → old.count ≡ level.point_count → start ≡ record { count = old.count; mark = old.mark + 1; members = [] }
      → new ≡ with_places points start → AreNamed level mask (old.mark + 1) new
  joined-named points points_are old start new count started added = record {
    count = ap (λ (p : Places). p.count) added ∙ count-places points start ∙ ap (λ (p : Places). p.count) started ∙ count;
    mark = ap (λ (p : Places). p.mark) added ∙ mark-places points start ∙ ap (λ (p : Places). p.mark) started;
    named = λ v.
        ap (λ (p : Places). is_among p.members v) added ∙ among-places v points start
        ∙ ap (λ b. b || is_among points v) (none-before start v (ap (λ (p : Places). p.members) started))
        ∙ points_are v ∙ joined-names v;
  }

  -- The common denominator depends only on the set of the points.
  pub joined-den : (dens : List ℕ) → ((v : ℕ) → 0 < get_or dens v 1) → (points : List ℕ) → ((v : ℕ) → is_among points v ≡ is_among (support_of shares) v)
      → q * lcm_of_all (map (λ v. get_or dens v 1) points) ≡ mask_denominator (source_denominator level dens) mask
  joined-den dens positive points points_are =
      ap (λ n. q * n) (same-multiple (λ v. get_or dens v 1) positive points (support_of shares) points_are) ∙ ap (λ l. q * lcm_of_all l) (sym (dens-read level dens shares))
      ∙ same-denominator (mask_of_shares q shares) mask are.same.joined are.joined are.same.same (source_denominator level dens)

  pub joined-positive : 0 < q
  joined-positive = mean-positive (mask_of_shares q shares) are.same.mean

  -- weights over the common denominator
  module _ (dens : List ℕ) (points : ArePointDenominators level dens) (den : ℕ) (den_is : den ≡ mask_denominator (source_denominator level dens) mask) (short : den ≤ number_bound)
      (m : ℕ) (m_is : m ≡ den / q) (start : List ℕ) (clear : start ≡ replicate level.point_count 0) where
    known : AllByRecursion (λ t. IsKnown level dens [] t.source) (terms_of_shares shares)
    known = each shares (recursion_from_All (λ (share : Share). share.0 < level.point_count) shares are.inside)
      where
        each : (list : List Share) → AllByRecursion (λ share. share.0 < level.point_count) list → AllByRecursion (λ t. IsKnown level dens [] t.source) (terms_of_shares list)
        each [] h = tt
        each (share ∷ list) h =
            let inside : share.0 < length dens = subst (λ n. share.0 < n) (sym points.count) h.0 in
            ((points.positive share.0 1 inside, λ m some short divides. (inside, divides)), each list h.1)

    pub joined-can : (most : ℕ) → den ≤ most → CanAddAll most (amounts_of dens m shares) start
    joined-can most fits =
        subst (λ l. CanAddAll most l start) (amounts-flat level dens m shares)
        (given-can level dens [] points (mask_of_shares q shares) mask are.same are.joined known den den_is short (terms_of_shares shares) refl q m refl m_is start clear most fits)

    pub joined-weighed : (new : List ℕ) → new ≡ added_shares 1 (amounts_of dens m shares) start → IsWeighed level dens mask new
    joined-weighed new added =
        given-weighed level dens [] points (mask_of_shares q shares) mask are.same are.joined known den den_is short (terms_of_shares shares) refl q m refl m_is start clear new
        (added ∙ ap (λ l. added_shares 1 l start) (sym (amounts-flat level dens m shares)))
