-- The conditions and results of the steps of a sparse refinement, for some selected faces.
use Rattle.std.proofs.Common.{◌≡◌, ℕ, ◌+◌, ◌<◌, Bool, true, false, nat_eq, nat_lt, List, length, map, get_or, Result, Ok, Err, IfOk, IsErr, IsErrAnd, MatchResult, arith, ap, sym, ◌∙◌, subst}
use Rattle.std.specs.List.{All, list_all, position_or_len, range_with_len}
use Rattle.std.proofs.lemmas.Bool.{and_parts}
use Rattle.std.proofs.lemmas.List.{length-map}
use Rattle.std.proofs.lemmas.List.FromFn.{get_or-map-range_with_len, length-map-range_with_len}
use Rattle.part_laws.specs.LevelParts.{IsLevelPart}
use Rattle.subdiv_model.specs.Polygons.{is_among}
use Rattle.subdiv_model.specs.Feature.{FaceFacts}
use Rattle.subdiv_model.specs.Level.{Level}
use Rattle.subdiv_model.specs.Sparse.{is_on}
use Rattle.subdiv_model.specs.Child.{child_level, child_points}
use Rattle.level_topology.specs.Topology.{Topology, IsTopology}
use Rattle.level_topology.specs.Child.{ChildTopology, PointOrigin, IsChild, child_of}
use Rattle.level_topology.specs.ChildTables.{numbered_origin, origin_of, place_of}
use Rattle.level_topology.specs.declared.child_origin.FacePlace.{FacePlace}
use Rattle.level_topology.specs.declared.child_origin.Origin.{Origin}
use Rattle.child_slots.specs.HalfTable.{AreAllHalves}
use Rattle.child_slots.specs.Parts.{IsPart, part}
use Rattle.child_slots.proofs.SlotLemmas.{over-of}
use Rattle.sparse_refiner.specs.Shapes.{AreMarks, AreNames, children_at, name_in}
use Rattle.sparse_laws.specs.NextSparse.{IsNextSparse, has_all_faces, uniform_child}
use Rattle.sparse_laws.specs.Selected.{is_selected_in}
use Rattle.sparse_laws.specs.Laws.{SparseRefinement}
use Rattle.sparse_laws.proofs.SelectedLemmas.{set-within}
use Rattle.sparse_laws.proofs.NextSparseLemmas.{next-sparse}
use Rattle.sparse_level.specs.Places.{AreWithin, marked, marks_on, points_at}
use Rattle.sparse_level.specs.View.{SparseTopology, SparseChild, IsSparseTopology, level_of, next_of, sparse_child, sparse_topology}
use Rattle.uniform_refiner.specs.declared.fault.RefineFault.{RefineFault}
use Rattle.uniform_refiner.specs.declared.fault.RefineFault.TheVariants.{TooLarge, Chaikin, Memory}
use Rattle.subdiv_model.specs.Sharpness.{Sharpness}
use Rattle.sparse_refiner.specs.declared.places.PresentPlaces.{PresentPlaces}
use Rattle.sparse_refiner.specs.Made.{AreFine, AreInnerMarks, ArePresent, IsHalvesFault, IsMade, IsMadeRefusal, IsNextLevel, IsNextStep, origins_in, places_in, points_in, selected_by}
use Rattle.sparse_refiner.specs.Refined.{IsNextOf, IsRefined, IsRefusal, SparseOf, chosen, places_for}
use Rattle.sparse_level.proofs.NextPointLemmas.{places-within, points-next}
use Rattle.sparse_level.proofs.PartOfPlacesLemmas.{inner-marks, part-of-places, point-own, point-place, point-there, points-at-most, points-below}
use Rattle.sparse_level.proofs.SelectLemmas.{selected-marked}
use Rattle.sparse_refiner.proofs.SelfLemmas.{marked-within}
use Rattle.sparse_refiner.proofs.PointLemmas.{on-point, point-on}
use Rattle.sparse_refiner.proofs.MarkLemmas.{marks-are, on-complete}
use Rattle.sparse_refiner.proofs.OriginLemmas.{next-child, place-at}
use Rattle.sparse_refiner.proofs.LevelLemmas.{next_inner, next_numbers, next-is, next-sparse-topology}

-- there is a mark for each vertex
pub on-long : (level : Level) (selected : List ℕ) (on : List Bool) → on ≡ marks_on level selected → length on ≡ level.point_count
on-long level selected on e = ap length e ∙ length-map-range_with_len (is_on level.polygons selected) 0 level.point_count

same-topology : {t t' : Topology} {numbers numbers' : List ℕ} {inner inner' : List Bool} {depth depth' : ℕ} → t ≡ t' → numbers ≡ numbers' → inner ≡ inner' → depth ≡ depth' → sparse_topology t numbers inner depth ≡ sparse_topology t' numbers' inner' depth'
same-topology a b c d = cc

module _ (s : SparseTopology) (whole : IsTopology s.topology) (present : PresentPlaces) (are : ArePresent s present) where
  abbrev some : List ℕ
  some = selected_by present

  abbrev t : Topology
  t = s.topology

  pub within : list_all (λ f. nat_lt f (length s.topology.level.polygons)) (selected_by present) ≡ true
  within = marked-within present.selected.items (length s.topology.level.polygons) are.inner.count

  pub are-within : AreWithin s.topology.level (map place_of present.places.items)
  are-within = subst (AreWithin t.level) (sym are.places) (places-within t.level some)

  -- each place is on a face
  pub faces-marked : (i : ℕ) → i < length present.places.items → (get_or (map place_of present.places.items) i (0, 0)).0 < length present.selected.items
  faces-marked i h =
      let inside : i < length (places_in t some) = omega (arith, h, length-map present.places.items place_of, ap length are.places) in
      let at = place-at t whole some within i inside in
      omega (arith, at.is_face, are.inner.count, ap (λ (xs : List (ℕ × ℕ)). (get_or xs i (0, 0)).0) are.places)

  -- the points that are numbered
  pub points-of : (points : List ℕ) → points ≡ points_at s.topology.level (map place_of present.places.items) → points ≡ points_in s.topology (selected_by present)
  points-of points e = e ∙ ap (points_at t.level) are.places ∙ points-next t.level some

  module _ (points : List ℕ) (so : points ≡ points_in s.topology (selected_by present)) where
    abbrev number : List ℕ → ℕ → ℕ
    number ns n = position_or_len (nat_eq n) ns

    at-places : points ≡ points_at s.topology.level (places_in s.topology (selected_by present))
    at-places = so ∙ sym (points-next t.level some)

    pub is-part : IsPart s.topology.level.point_count s.topology.level.polygons (part (map place_of present.places.items) (is_among points) (λ n. position_or_len (nat_eq n) points))
    is-part =
        subst (λ (xs : List (ℕ × ℕ)). IsPart t.level.point_count t.level.polygons (part xs (is_among points) (number points))) (sym are.places) (part-of-places t.level some points at-places)

    pub are-below : All (λ n. n < child_points s.topology.level.point_count s.topology.level.polygons) points
    are-below = points-below t whole (places_in t some) points at-places (places-within t.level some)

    pub are-names : AreNames (is_among points) (λ n. position_or_len (nat_eq n) points) points
    are-names = record {
      there = point-there t.level (places_in t some) points at-places;
      own = point-own t.level (places_in t some) points at-places;
      listed = point-place t.level (places_in t some) points at-places;
      few = omega (arith, points-at-most t.level (places_in t some) points at-places, are.few);
    }

    pub are-marks : IsSparseTopology s → (marks : List Bool) → marks ≡ map (has_all_faces s.topology.level (selected_by present)) points → AreMarks s.topology.level (children_at s.topology.level.polygons (map place_of present.places.items)) points marks
    are-marks is marks m = marks-are t whole some within (on-complete s is present.selected.items are.inner) points (map place_of present.places.items) marks so are.places m

    pub level-made : (next : Topology) (marks : List Bool) → marks ≡ map (has_all_faces s.topology.level (selected_by present)) points → IsLevelPart (name_in points) (children_at s.topology.level.polygons (map place_of present.places.items)) next.level (child_level s.topology.level) → next.level.point_count ≡ length points → next.complete ≡ marks → IsNextLevel s.topology (selected_by present) next
    level-made next marks m is count complete = record {
      part = subst (λ (ns : List ℕ). IsLevelPart (name_in ns) (children_at t.level.polygons (places_in t some)) next.level (child_level t.level)) so
          (subst (λ (xs : List (ℕ × ℕ)). IsLevelPart (name_in points) (children_at t.level.polygons xs) next.level (child_level t.level)) are.places is);
      points = count ∙ ap length so;
      complete = complete ∙ m ∙ ap (map (has_all_faces t.level some)) so;
    }

    -- halves overflow at a vertex on a selected face
    pub halves-fault : (fault : RefineFault) → IsHalvesFault s.topology points fault → IsMadeRefusal s.topology (selected_by present) fault
    halves-fault (TooLarge count) h = absurd h
    halves-fault (Chaikin v) o = record {
      few = are.few;
      overflows = record {
        exists = o.exists;
        on = point-on t.level (over-of t whole) some within v o.exists (ap (λ (ns : List ℕ). is_among ns v) (sym so) ∙ o.there);
        overflows = o.overflows;
      };
      first = λ u less on. o.first u less (ap (λ (ns : List ℕ). is_among ns u) so ∙ on-point t.level (over-of t whole) some within u on);
    }
    halves-fault Memory h = tt

    -- or at none
    pub are-fine : (halves : List Sharpness) → AreAllHalves s.topology (is_among points) halves → AreFine s.topology (selected_by present)
    are-fine halves h v exists on = h.fine v exists (ap (λ (ns : List ℕ). is_among ns v) so ∙ on-point t.level (over-of t whole) some within v on)

  -- the next level as a child
  pub is-child : (next : Topology) → IsTopology next → IsNextLevel s.topology (selected_by present) next → (origins : List PointOrigin) → origins ≡ origins_in s.topology (selected_by present) → IsChild s.topology next origins (map place_of present.places.items)
  is-child next next_whole made origins e =
      subst (λ (os : List PointOrigin). IsChild t next os (map place_of present.places.items)) (sym e)
      (subst (λ (xs : List (ℕ × ℕ)). IsChild t next (origins_in t some) xs) (sym are.places) (next-child t whole some within next made (over-of next next_whole)))

  module _ (is : IsSparseTopology s) (next : Topology) (next_whole : IsTopology next) (made : IsNextLevel s.topology (selected_by present) next) (child : ChildTopology) (numbers : List ℕ) (inner : List Bool) (depth : ℕ)
      (joined : child ≡ child_of s.topology next (origins_in s.topology (selected_by present)) (places_in s.topology (selected_by present)))
      (n : numbers ≡ map (uniform_child (level_of s)) (map place_of present.places.items))
      (i : inner ≡ map (λ place. get_or present.selected.items place.0 false) (map place_of present.places.items))
      (d : depth ≡ s.depth + 1) where
    topology-is : child.topology ≡ next
    topology-is = ap (λ (k : ChildTopology). k.topology) joined

    inner-are : inner ≡ next_inner s whole is some within
    inner-are =
        i ∙ ap (map (λ (place : ℕ × ℕ). get_or present.selected.items place.0 false)) are.places
        ∙ inner-marks present.selected.items (places_in t some)

    same : sparse_topology child.topology numbers inner depth ≡ sparse_topology next (next_numbers s whole is some within) (next_inner s whole is some within) (s.depth + 1)
    same = same-topology topology-is (n ∙ ap (map (uniform_child (level_of s))) are.places) inner-are d

    pub step-topology : s.depth < 10 → IsSparseTopology (sparse_topology child.topology numbers inner depth)
    step-topology shallow = subst IsSparseTopology (sym same) (next-sparse-topology s whole is some within next next_whole made shallow)

    pub step-is : (step : SparseChild) → step ≡ sparse_child child present.selected.items numbers inner depth → IsNextStep s (selected_by present) step
    step-is step e = subst (IsNextStep s some) (sym e) (record {
      next = subst (λ (k : SparseTopology). IsNextSparse (level_of s) some (level_of k)) (sym same) (next-is s whole is some within next next_whole made);
      of = joined ∙ ap (λ (k : Topology). child_of t k (origins_in t some) (places_in t some)) (sym topology-is);
    })

-- the points are those of the whole next level
pub below-at : (s : SparseTopology) (level : Topology) → level ≡ s.topology → IsTopology level → (present : PresentPlaces) → ArePresent s present → (points : List ℕ) → points ≡ points_in s.topology (selected_by present) → (named : List ℕ) → named ≡ points → All (λ k. k < child_points level.level.point_count level.level.polygons) named
below-at s level same known present are points so named n =
    subst (λ (t : Topology). All (λ k. k < child_points t.level.point_count t.level.polygons) named) (sym same)
    (subst (λ (ns : List ℕ). All (λ k. k < child_points s.topology.level.point_count s.topology.level.polygons) ns) (sym n) (are-below s (subst IsTopology same known) present are points so))

-- the conditions and results for the level, the places and the points as the code reads them
module _ (s : SparseTopology) (level : Topology) (same : level ≡ s.topology) (known : IsTopology level) (present : PresentPlaces) (are : ArePresent s present) (places : List FacePlace) (read : places ≡ present.places.items) where
  abbrev whole : IsTopology s.topology
  whole = subst IsTopology same known

  pub within-at : AreWithin level.level (map place_of places)
  within-at = subst (λ (t : Topology). AreWithin t.level (map place_of places)) (sym same) (subst (λ (xs : List FacePlace). AreWithin s.topology.level (map place_of xs)) (sym read) (are-within s whole present are))

  pub marked-faces-at : (marks : List Bool) → marks ≡ present.selected.items → (i : ℕ) → i < length places → (get_or (map place_of places) i (0, 0)).0 < length marks
  marked-faces-at marks m i h =
      let known_there = faces-marked s whole present are i (omega (arith, h, ap length read)) in
      omega (arith, known_there, ap length m, ap (λ (xs : List FacePlace). (get_or (map place_of xs) i (0, 0)).0) read)

  pub child-at : (next : Topology) → IsTopology next → IsNextLevel s.topology (selected_by present) next → (points named : List ℕ) → points ≡ points_in s.topology (selected_by present) → named ≡ points
      → (origins : List Origin) → map origin_of origins ≡ map (numbered_origin level.level.point_count (length level.level.polygons)) named → IsChild level next (map origin_of origins) (map place_of places)
  child-at next next_whole made points named so n origins o =
      subst (λ (t : Topology). IsChild t next (map origin_of origins) (map place_of places)) (sym same)
      (subst (λ (xs : List FacePlace). IsChild s.topology next (map origin_of origins) (map place_of xs)) (sym read)
      (is-child s whole present are next next_whole made (map origin_of origins)
      (o ∙ ap (map (numbered_origin level.level.point_count (length level.level.polygons))) (n ∙ so) ∙ ap (λ (t : Topology). map (numbered_origin t.level.point_count (length t.level.polygons)) (points_in s.topology (selected_by present))) same)))

  module _ (points : List ℕ) (so : points ≡ points_in s.topology (selected_by present)) where
    pub part-at : IsPart level.level.point_count level.level.polygons (part (map place_of places) (is_among points) (λ n. position_or_len (nat_eq n) points))
    part-at =
        subst (λ (t : Topology). IsPart t.level.point_count t.level.polygons (part (map place_of places) (is_among points) (λ n. position_or_len (nat_eq n) points))) (sym same)
        (subst (λ (xs : List FacePlace). IsPart s.topology.level.point_count s.topology.level.polygons (part (map place_of xs) (is_among points) (λ n. position_or_len (nat_eq n) points))) (sym read)
        (is-part s whole present are points so))

    module _ (named : List ℕ) (n : named ≡ points) where
      pub names-at : AreNames (is_among points) (λ k. position_or_len (nat_eq k) points) named
      names-at = subst (λ (ns : List ℕ). AreNames (is_among points) (λ k. position_or_len (nat_eq k) points) ns) (sym n) (are-names s whole present are points so)

      module _ (marks : List Bool) (m : marks ≡ map (has_all_faces s.topology.level (selected_by present)) points) where
        pub marks-at : IsSparseTopology s → AreMarks level.level (children_at level.level.polygons (map place_of places)) named marks
        marks-at is =
            subst (λ (t : Topology). AreMarks t.level (children_at t.level.polygons (map place_of places)) named marks) (sym same)
            (subst (λ (xs : List FacePlace). AreMarks s.topology.level (children_at s.topology.level.polygons (map place_of xs)) named marks) (sym read)
            (subst (λ (ns : List ℕ). AreMarks s.topology.level (children_at s.topology.level.polygons (map place_of present.places.items)) ns marks) (sym n) (are-marks s whole present are points so is marks m)))

        pub level-at : {E : Type 0} (r : Result Topology E) → IfOk r (λ next. IsLevelPart (name_in named) (children_at level.level.polygons (map place_of places)) next.level (child_level level.level)) → IfOk r (λ next. next.level.point_count ≡ length named) → IfOk r (λ next. next.complete ≡ marks)
            → IfOk r (IsNextLevel s.topology (selected_by present))
        level-at (Err e) is count complete = tt
        level-at (Ok next) is count complete =
            level-made s whole present are points so next marks m
            (subst (λ (ns : List ℕ). IsLevelPart (name_in ns) (children_at s.topology.level.polygons (map place_of present.places.items)) next.level (child_level s.topology.level)) n
            (subst (λ (xs : List FacePlace). IsLevelPart (name_in named) (children_at s.topology.level.polygons (map place_of xs)) next.level (child_level s.topology.level)) read
            (subst (λ (t : Topology). IsLevelPart (name_in named) (children_at t.level.polygons (map place_of places)) next.level (child_level t.level)) same is)))
            (count ∙ ap length n) complete

  -- the points that are numbered of them
  pub points-at : (points : List ℕ) → points ≡ points_at level.level (map place_of places) → points ≡ points_in s.topology (selected_by present)
  points-at points e = points-of s whole present are points (e ∙ ap (λ (t : Topology). points_at t.level (map place_of places)) same ∙ ap (λ (xs : List FacePlace). points_at s.topology.level (map place_of xs)) read)

-- a fault is handed on as it came
pub handed-on : {A E : Type 0} (P : A → Type 0) (Q : E → Type 0) (r : Result A E) (f : E) → IsErr r → IsErrAnd r (λ g. g ≡ f) → Q f → MatchResult r P Q
handed-on P Q (Ok x) f err same q = absurd same
handed-on P Q (Err g) f err same q = subst Q (sym same) q

module _ (test : FaceFacts → Bool) (s : SparseTopology) (marks : List Bool) (so : marks ≡ map (is_selected_in test (level_of s)) (range_with_len 0 (length s.topology.level.polygons))) where
  -- the faces that are marked are selected, and so inner
  pub marks-inner : AreInnerMarks s marks
  marks-inner = record {
    count = ap length so ∙ length-map-range_with_len (is_selected_in test (level_of s)) 0 (length s.topology.level.polygons);
    inner = λ f mark.
        let count = ap length so ∙ length-map-range_with_len (is_selected_in test (level_of s)) 0 (length s.topology.level.polygons) in
        let inside : f < length s.topology.level.polygons = omega (arith, set-within marks f mark, count) in
        let passes : is_selected_in test (level_of s) f ≡ true = sym (get_or-map-range_with_len (is_selected_in test (level_of s)) 0 (length s.topology.level.polygons) f f false inside (omega arith)) ∙ ap (λ (bs : List Bool). get_or bs f false) (sym so) ∙ mark in
        (and_parts (get_or s.inner f false) _ passes).0;
  }

  marked-are : marked marks ≡ chosen test s
  marked-are = ap marked so ∙ selected-marked test (level_of s)

  pub refined-is : (step : SparseChild) → IsMade s (marked marks) step → step.selected ≡ marks → IsRefined test s step
  refined-is step made selected =
      let is = subst (λ (ns : List ℕ). IsMade s ns step) marked-are made in
      record {
        next = is.is_next.next;
        selected = selected ∙ so;
        of = is.is_next.of;
        few = is.few;
        fine = is.fine;
      }

  pub refusal-is : (fault : RefineFault) → IsMadeRefusal s.topology (marked marks) fault → IsRefusal test s fault
  refusal-is fault h = go fault (subst (λ (ns : List ℕ). IsMadeRefusal s.topology ns fault) marked-are h)
    where
      go : (fault : RefineFault) → IsMadeRefusal s.topology (chosen test s) fault → IsRefusal test s fault
      go (TooLarge count) h = h
      go (Chaikin v) h = record { few = h.few; overflows = h.overflows; first = h.first }
      go Memory h = tt

  pub answer-is : (r : Result SparseChild RefineFault) → MatchResult r (IsMade s (marked marks)) (IsMadeRefusal s.topology (marked marks)) → IfOk r (λ step. step.selected ≡ marks) → MatchResult r (IsRefined test s) (IsRefusal test s)
  answer-is (Ok step) made selected = refined-is step made selected
  answer-is (Err fault) made selected = refusal-is fault made

  -- a step for each new face
  pub steps-are : (present : PresentPlaces) → present.selected.items ≡ marks → ArePresent s present → length present.places.items ≡ length (places_for test s)
  steps-are present e are =
      omega (arith, length-map present.places.items place_of, ap length are.places, ap (λ (ns : List ℕ). length (places_in s.topology ns)) (ap marked e ∙ marked-are))

-- the next level is that of the definitions
pub next-of-is : {test : FaceFacts → Bool} {s : SparseTopology} (of : SparseOf test s) (step : SparseChild) → IsRefined test s step → IsNextOf of step
next-of-is {test} {s} of step is =
    let kept : SparseRefinement = record { base = of.base; predicate = of.predicate; sparse = level_of s; over = of.over; is = of.is } in
    next-sparse kept (record { by = record { test = test; agrees = of.agrees }; next = level_of (next_of step); is_next = is.next })

pub next-answer : {test : FaceFacts → Bool} {s : SparseTopology} (of : SparseOf test s) (r : Result SparseChild RefineFault) → MatchResult r (IsRefined test s) (IsRefusal test s) → IfOk r (IsNextOf of)
next-answer of (Ok step) is = next-of-is of step is
next-answer of (Err fault) is = tt
