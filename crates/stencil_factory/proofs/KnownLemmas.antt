-- The sources of a mask have denominators by a level and its survey. The masks of the code have the weights of the defined masks.
use Rattle.std.proofs.Common.{◌≡◌, ℕ, ◌*◌, ◌/◌, ◌<◌, ◌≤◌, true, List, [], ◌∷◌, length, get_or, replicate, refl, ap, sym, ◌∙◌, subst, Result, Ok, Err, OnOk}
use Rattle.std.specs.List.{AllByRecursion, list_all}
use Rattle.std.specs.Int.{◌∣◌}
use Rattle.std.proofs.lemmas.Bool.{ltb-true}
use Rattle.std.proofs.lemmas.List.{get_or_default}
use Rattle.std.proofs.lemmas.List.Elements.{recursion_from_All}
use Rattle.std.proofs.lemmas.List.Sums.{AllPass-from_list_all}
use Rattle.std.proofs.lemmas.List.Sorted.{list_any-IsPermutation, All-permutation, IsPermutation-sym}
use Rattle.std.proofs.lemmas.Nat.Gcd.{le_of_dvd}
use Rattle.std.proofs.Math.Nat.{mul-div_cancel_left, le_trans}
use Rattle.subdiv_model.specs.Polygons.{polygon_at}
use Rattle.subdiv_model.specs.Edges.{edges_of}
use Rattle.subdiv_model.specs.Level.{Level}
use Rattle.subdiv_model.specs.Mask.{Scheme, SourcePoint, OfPoint, OfFace, Term, Mask, weigh_points, is_source_of}
use Rattle.subdiv_model.specs.Refined.{mask_value, mask_denominator, source_value, source_denominator}
use Rattle.subdiv_model.specs.Channel.{number_bound}
use Rattle.sharpness_laws.specs.SameWeights.{is_joined}
use Rattle.sharpness_laws.proofs.TermOrderLemmas.{same_weights-permuted}
use Rattle.sharpness_laws.proofs.MaskValueLemmas.{same-value, same-denominator}
use Rattle.mask_laws.proofs.SumLemmas.{IsOver}
use Rattle.level_topology.specs.Topology.{Topology, IsTopology}
use Rattle.level_topology.specs.Child.{PointOrigin, IsOriginWithin}
use Rattle.mask_rules.specs.Masks.{IsMask}
use Rattle.mask_rules.proofs.EdgeLemmas.{face-mask}
use Rattle.child_masks.specs.Masks.{mask_from}
use Rattle.child_masks.specs.Found.{ArePointDenominators, AreFaceDenominators}
use Rattle.child_masks.proofs.WithinLemmas.{within-kept}
use Rattle.child_masks.proofs.FaceLemmas.{face-corners, face-same}
use Rattle.child_masks.proofs.AmongLemmas.{part-sources}
use Rattle.child_masks.proofs.AddLemmas.{have-denominators}
use Rattle.child_masks.proofs.MeanLemmas.{mean-positive}
use Rattle.child_masks.proofs.OriginLemmas.{some-corners}
use Rattle.stencil_apply.specs.Table.{Share}
use Rattle.stencil_factory.specs.Rows.{share_sum}
use Rattle.place_sums.specs.Sums.{added_shares}
use Rattle.stencil_factory.specs.Weights.{names_point, AreWeights}
use Rattle.stencil_factory.specs.Flat.{corner_shares, flat_shares, CanAddAll, CanWeighTerm, IsWeighed}
use Rattle.stencil_factory.proofs.WeightLemmas.{IsKnown, common, mask-weigh, mask-can, mask-weighed}

-- each point and each face of a level is known
module _ (t : Topology) (is : IsTopology t) (dens faces : List ℕ) (points : ArePointDenominators t.level dens) (known : AreFaceDenominators t.level dens faces) where
  known-source : (s : SourcePoint) → is_source_of t.level s ≡ true → IsKnown t.level dens faces s
  known-source (OfPoint v) h =
      let inside : v < length dens = subst (λ n. v < n) (sym points.count) (ltb-true _ _ h) in
      (points.positive v 1 inside, λ m some short divides. (inside, divides))
  known-source (OfFace f) h =
      let below : f < length t.level.polygons = ltb-true _ _ h in
      let listed : f < length faces = subst (λ n. f < n) (sym known.count) below in
      let polygon = polygon_at t.level.polygons f in
      let mask = face-mask t.level f (length polygon) is.simple below refl in (
        (have-denominators t dens faces is points known).positive (OfFace f) listed,
        λ m some short divides.
            let kept : source_denominator t.level dens (OfFace f) ≤ number_bound = le_trans (le_of_dvd some divides) short in
            let own : get_or faces f 1 ≡ source_denominator t.level dens (OfFace f) = get_or_default faces f 1 0 listed ∙ known.each f below ∙ within-kept _ kept in (
              record {
                known = below;
                listed = listed;
                some = some-corners t is f below;
                inside = recursion_from_All (λ v. v < length dens) polygon (face-corners t is f below dens points);
                den = own ∙ sym (face-same t.level f (length polygon) dens mask);
                mask = mask;
              },
              subst (λ n. n ∣ m) (sym own) divides,
            ),
      )

  -- Each source of a mask of the code is known.
  known-sources : (mask defined : Mask) → IsMask mask defined → is_joined defined ≡ true → list_all (λ s. is_source_of t.level s.source) defined.terms ≡ true
      → AllByRecursion (λ s. IsKnown t.level dens faces s.source) mask.terms
  known-sources mask defined same joined sources =
      each mask.terms
      (recursion_from_All (λ s. is_source_of t.level s.source ≡ true) mask.terms
      (All-permutation (λ (s : Term). is_source_of t.level s.source ≡ true) defined.terms mask.terms
      (IsPermutation-sym mask.terms defined.terms (same_weights-permuted mask defined same.joined joined same.same))
      (λ i x below. AllPass-from_list_all (λ (s : Term). is_source_of t.level s.source) defined.terms sources i x below)))
    where
      each : (terms : List Term) → AllByRecursion (λ s. is_source_of t.level s.source ≡ true) terms → AllByRecursion (λ s. IsKnown t.level dens faces s.source) terms
      each [] h = tt
      each (s ∷ terms) h = (known-source s.source h.0, each terms h.1)

-- The corners of a face are known.
pub known-corners : (level : Level) (dens faces : List ℕ) → ArePointDenominators level dens → (corners : List ℕ) → AllByRecursion (λ v. v < length dens) corners
    → AllByRecursion (λ s. IsKnown level dens faces s.source) (weigh_points 1 corners)
known-corners level dens faces points [] h = tt
known-corners level dens faces points (v ∷ corners) h =
    ((points.positive v 1 h.0, λ m some short divides. (h.0, divides)), known-corners level dens faces points corners h.1)

-- the corners of a face with a weight of 1 each
pub flat-corners : (level : Level) (dens faces : List ℕ) (m : ℕ) (corners : List ℕ) → flat_shares level dens faces m (weigh_points 1 corners) ≡ corner_shares dens 1 m corners
flat-corners level dens faces m [] = refl
flat-corners level dens faces m (v ∷ corners) = ap (λ l. (v, 1 * (m / get_or dens v 1)) ∷ l) (flat-corners level dens faces m corners)

-- A mask of the code over the denominator of the defined one.
module _ (level : Level) (dens faces : List ℕ) (points : ArePointDenominators level dens) (mask defined : Mask) (is : IsMask mask defined) (joined : is_joined defined ≡ true)
    (known : AllByRecursion (λ t. IsKnown level dens faces t.source) mask.terms) (den : ℕ) (den_is : den ≡ mask_denominator (source_denominator level dens) defined)
    (short : den ≤ number_bound) where
  same-den : mask_denominator (source_denominator level dens) mask ≡ mask_denominator (source_denominator level dens) defined
  same-den = same-denominator mask defined is.joined joined is.same (source_denominator level dens)

  short-here : mask_denominator (source_denominator level dens) mask ≤ number_bound
  short-here = subst (λ n. n ≤ number_bound) (den_is ∙ sym same-den) short

  -- the weights of one are those of the other
  same-weights : (shares : List Share) → AreWeights level dens mask shares → AreWeights level dens defined shares
  same-weights shares h = record {
    inside = h.inside;
    each = h.each;
    total = h.total ∙ same-den;
    named = λ v.
        h.named v
        ∙ list_any-IsPermutation (λ (t : Term). names_point level v t.source) mask.terms defined.terms (same_weights-permuted mask defined is.joined joined is.same);
    value = λ numbers values long same.
        subst (λ x. IsOver (mask_denominator (source_denominator level dens) defined) x (share_sum numbers shares))
        (same-value mask defined is.joined joined is.same (source_value level values))
        (subst (λ n. IsOver n (mask_value (source_value level values) mask) (share_sum numbers shares)) same-den (h.value numbers values long same));
  }

  abbrev m_of : ℕ
  m_of = common level dens faces points mask is.mean known short-here

  module _ (terms : List Term) (terms_are : terms ≡ mask.terms) (q m : ℕ) (q_is : q ≡ mask.denominator) (m_is : m ≡ den / q)
      (start : List ℕ) (clear : start ≡ replicate level.point_count 0) where
    -- the multiple by which its weights are taken
    m-here : m_of ≡ m
    m-here =
        sym (m_is ∙ ap (λ n. den / n) q_is ∙ ap (λ n. n / mask.denominator) (den_is ∙ sym same-den) ∙ mul-div_cancel_left m_of (mean-positive mask is.mean))

    flat-here : flat_shares level dens faces m_of mask.terms ≡ flat_shares level dens faces m terms
    flat-here = ap (λ n. flat_shares level dens faces n mask.terms) m-here ∙ ap (flat_shares level dens faces m) (sym terms_are)

    -- each term can be weighed
    given-weigh : AllByRecursion (CanWeighTerm level dens faces m) terms
    given-weigh =
        subst (AllByRecursion (CanWeighTerm level dens faces m)) (sym terms_are)
        (subst (λ n. AllByRecursion (CanWeighTerm level dens faces n) mask.terms) m-here (mask-weigh level dens faces points mask is.mean known short-here))

    -- all amounts can be added
    pub given-can : (most : ℕ) → den ≤ most → CanAddAll most (flat_shares level dens faces m terms) start
    given-can most fits =
        subst (CanAddAll most (flat_shares level dens faces m terms)) (sym clear)
        (subst (λ l. CanAddAll most l (replicate level.point_count 0)) flat-here
        (mask-can level dens faces points mask is.mean known short-here most (subst (λ n. n ≤ most) (den_is ∙ sym same-den) fits)))

    -- The sums are the weights of the defined mask.
    pub given-weighed : (new : List ℕ) → new ≡ added_shares 1 (flat_shares level dens faces m terms) start → IsWeighed level dens defined new
    given-weighed new added =
        let weighed = mask-weighed level dens faces points mask is.mean known short-here in
        subst (IsWeighed level dens defined)
        (ap (λ l. added_shares 1 l (replicate level.point_count 0)) flat-here ∙ ap (added_shares 1 (flat_shares level dens faces m terms)) (sym clear) ∙ sym added)
        (record { count = weighed.count; weights = λ shares of. same-weights shares (weighed.weights shares of) })

-- The mask of a vertex, edge or face of a level, over its common denominator.
module _ (t : Topology) (is : IsTopology t) (scheme : Scheme) (origin : PointOrigin)
    (below : IsOriginWithin t.level.point_count (length t.level.polygons) (length (edges_of t.level.polygons)) origin)
    (dens faces : List ℕ) (points : ArePointDenominators t.level dens) (found : AreFaceDenominators t.level dens faces)
    (mask : Mask) (same : IsMask mask (mask_from t.level scheme origin)) (joined : is_joined (mask_from t.level scheme origin) ≡ true)
    (den : ℕ) (den_is : den ≡ mask_denominator (source_denominator t.level dens) (mask_from t.level scheme origin)) (short : den ≤ number_bound)
    (terms : List Term) (terms_are : terms ≡ mask.terms) (q m : ℕ) (q_is : q ≡ mask.denominator) (m_is : m ≡ den / q)
    (start : List ℕ) (clear : start ≡ replicate t.level.point_count 0) where
  known : AllByRecursion (λ s. IsKnown t.level dens faces s.source) mask.terms
  known = known-sources t is dens faces points found mask (mask_from t.level scheme origin) same joined (part-sources t scheme origin is below)

  -- each term can be weighed
  pub part-weigh : AllByRecursion (CanWeighTerm t.level dens faces m) terms
  part-weigh = given-weigh t.level dens faces points mask (mask_from t.level scheme origin) same joined known den den_is short terms terms_are q m q_is m_is start clear

  -- all amounts can be added
  pub part-can : (most : ℕ) → den ≤ most → CanAddAll most (flat_shares t.level dens faces m terms) start
  part-can = given-can t.level dens faces points mask (mask_from t.level scheme origin) same joined known den den_is short terms terms_are q m q_is m_is start clear

  -- The sums are the weights of the mask.
  pub part-weighed : (new : List ℕ) → new ≡ added_shares 1 (flat_shares t.level dens faces m terms) start → IsWeighed t.level dens (mask_from t.level scheme origin) new
  part-weighed = given-weighed t.level dens faces points mask (mask_from t.level scheme origin) same joined known den den_is short terms terms_are q m q_is m_is start clear

-- A weaker claim on an `Ok` follows from a stronger one.
pub ok-weaker : {X E : Type 0} (r : Result X E) (P Q : Type 0) → (P → Q) → OnOk r P → OnOk r Q
ok-weaker (Ok x) P Q f h = f h
ok-weaker (Err e) P Q f h = h
