-- The conditions for the value of each point hold.
use Rattle.std.proofs.Common.{◌≡◌, ◌≢◌, ℕ, ◌+◌, ◌-◌, ◌*◌, ◌<◌, ◌≤◌, Bool, true, false, nat_lt, ℤ, List, [], ◌∷◌, length, map, get_or, arith, refl, ap, sym, ◌∙◌, subst, inl, inr, ◌⊎◌, length-append}
use Rattle.std.specs.List.{All, AllByRecursion, list_any}
use Rattle.std.proofs.lemmas.Bool.{cases_lt}
use Rattle.std.proofs.lemmas.Bool.Decides.{nat_tests}
use Rattle.std.proofs.lemmas.List.{get_or-map, length-map, get_or_append_left, get_or-append-add}
use Rattle.std.proofs.lemmas.List.Elements.{All-from_recursion}
use Rattle.subdiv_model.specs.Edges.{edges_of}
use Rattle.subdiv_model.specs.Level.{Level}
use Rattle.subdiv_model.specs.Mask.{Scheme, CatmullClark, SourcePoint, OfPoint, OfFace, Term, Mask, same_source, has_source, is_source_of, face_mask}
use Rattle.subdiv_model.specs.Refined.{mask_denominator, source_denominator}
use Rattle.number_width.specs.declared.width.Width.{Width}
use Rattle.sharpness_laws.proofs.JoinedWeightLemmas.{source-refl}
use Rattle.mask_laws.proofs.ListLemmas.{each-passes}
use Rattle.level_topology.specs.Topology.{Topology, IsTopology}
use Rattle.level_topology.specs.Child.{PointOrigin, FromVertex, FromFace, IsOriginWithin, ChildTopology, HasParent}
use Rattle.primvar_refine.specs.Rows.{Row, row_at, dens_of, AreGood, least_bound}
use Rattle.primvar_refine.specs.Width.{sum_bound}
use Rattle.ratio128.specs.declared.valued.Valued.{Valued}
use Rattle.primvar_refine.specs.View.{row_of, rows_of}
use Rattle.child_masks.specs.Masks.{mask_from, masks_from, origin_at, is_from_face}
use Rattle.primvar_refine.specs.Sums.{source_row, HasRow}
use Rattle.primvar_refine.specs.Made.{IsRowOf, IsMade, AreHeld, CanMake, IsPut, CanMakeFaces, AreFacesMade, AreOthersMade, AreHiddenMade, KeepDens}
use Rattle.primvar_refine.specs.Places.{all_origins}
use Rattle.primvar_refine.specs.Ready.{IsReady, AreAllMade}
use Rattle.child_masks.proofs.DenLemmas.{face-positive}
use Rattle.primvar_refine.proofs.SurveyLemmas.{good-positive}
use Rattle.primvar_refine.proofs.MadeLemmas.{point-row}
use Rattle.child_masks.proofs.SourceLemmas.{mask-inside, corners-only, test-at}
use Rattle.primvar_refine.proofs.FaceRowLemmas.{face-row}
use Rattle.child_masks.proofs.OriginLemmas.{any-at, some-corners, is-over, origin-within}

abbrev blank : Row
blank = record { numbers = []; den = 1 }

-- a source has its own row
record Holds (level : Level) (rows made : List Row) (places : List ℕ) (s : SourcePoint) : Type 0 where
  there : HasRow rows made places s
  held : IsRowOf level rows s (source_row rows made places s)
  positive : 0 < (source_row rows made places s).den

-- all sources of terms
hold-all : (level : Level) (rows made : List Row) (places : List ℕ) (terms : List Term) → All (λ t. Holds level rows made places t.source) terms
    → AreHeld level rows made places terms
hold-all level rows made places terms h = record {
  there = λ i d inside. (h i d inside).there;
  held = λ i d inside. (h i d inside).held;
  positive = λ i d inside. (h i d inside).positive;
}

-- a point of the level
point-held : (level : Level) (rows made : List Row) (places : List ℕ) (v : ℕ) → AreGood rows → length rows ≡ level.point_count → nat_lt v level.point_count ≡ true
    → Holds level rows made places (OfPoint v)
point-held level rows made places v good count h =
    let below : v < length rows = lower v (length rows) (ap (nat_lt v) count ∙ h) in
    record {
      there = below;
      held = point-row level rows v good below;
      positive = good.positive v blank below;
    }
  where
    lower : (a b : ℕ) → nat_lt a b ≡ true → a < b
    lower a b e = grind (arith, nat_tests, e)

-- the corners of a face
pub face-can : (width : Width) (parent : Topology) (rows : List Row) (f den : ℕ) → IsTopology parent → AreGood rows → length rows ≡ parent.level.point_count → f < length parent.level.polygons
    → den ≡ mask_denominator (source_denominator parent.level (dens_of rows)) (face_mask parent.level f) → den ≤ sum_bound width → den * least_bound rows ≤ sum_bound width
    → CanMake width parent.level rows [] [] (face_mask parent.level f) den
face-can width parent rows f den is good count inside den_is short kept = record {
  good = good;
  den_is = den_is;
  short = short;
  kept = kept;
  sources =
      hold-all parent.level rows [] [] (face_mask parent.level f).terms
      (All-from_recursion _ (face_mask parent.level f).terms (both (face_mask parent.level f).terms
      (each-passes (λ (t : Term). is_source_of parent.level t.source) (face_mask parent.level f).terms (mask-inside parent.level (is-over parent is) CatmullClark (FromFace f) inside))
      (corners-only parent.level f (λ s. is_source_of parent.level s ≡ true → Holds parent.level rows [] [] s)
      (λ v h. point-held parent.level rows [] [] v good count h))));
}
  where
    both : (terms : List Term) → AllByRecursion (λ t. is_source_of parent.level t.source ≡ true) terms
        → AllByRecursion (λ t. is_source_of parent.level t.source ≡ true → Holds parent.level rows [] [] t.source) terms
        → AllByRecursion (λ t. Holds parent.level rows [] [] t.source) terms
    both [] p q = tt
    both (t ∷ terms) p q = (q.0 p.0, both terms p.1 q.1)

module _ (width : Width) (parent : Topology) (child : ChildTopology) (scheme : Scheme) (rows : List Row) (named : List Bool) (hidden places : List ℕ) (is : IsTopology parent) where
  abbrev all : List PointOrigin
  all = all_origins child.origins hidden

  abbrev Ready : List Row → Type 0
  Ready made = IsReady width parent child scheme rows named hidden places made

  -- some mask names a source of a point's mask
  named-at : (p f : ℕ) → p < length child.origins → has_source (mask_from parent.level scheme (origin_at child.origins p)).terms (OfFace f) ≡ true
      → list_any (λ mask. has_source mask.terms (OfFace f)) (masks_from parent.level scheme child.origins) ≡ true
  named-at p f inside h =
      let none : Mask = record { terms = []; denominator = 0 } in
      let here : get_or (masks_from parent.level scheme child.origins) p none ≡ mask_from parent.level scheme (origin_at child.origins p) =
      get_or-map (mask_from parent.level scheme) child.origins p (FromVertex 0) none inside in
      any-at (λ mask. has_source mask.terms (OfFace f)) (masks_from parent.level scheme child.origins) p none (rw length-map inside)
      (ap (λ (m : Mask). has_source m.terms (OfFace f)) here ∙ h)

  module _ (made : List Row) (ready : Ready made) (faces : AreFacesMade parent.level rows all (length all) made) where
    face-held : (f : ℕ) → f < length parent.level.polygons → get_or named f false ≡ true → Holds parent.level rows made places (OfFace f)
    face-held f inside name =
        let at = ready.find.each f inside in
        let p = get_or places f 0 in
        let row = face-row parent.level f rows (row_at made p) (faces.each p f (at.inside name) (at.inside name) (at.there name)) in
        let some = face-positive parent.level (dens_of rows) f (good-positive rows ready.good) (some-corners parent is f inside) in
        let den = (faces.each p f (at.inside name) (at.inside name) (at.there name)).den_is in
        record {
          there = (omega (arith, inside, ready.find.counted), omega (arith, at.inside name, ready.each));
          held = row;
          positive = omega (arith, some, den);
        }

    -- any source of a point that is named
    source-held : (p : ℕ) → p < length child.origins → (s : SourcePoint) → is_source_of parent.level s ≡ true
        → has_source (mask_from parent.level scheme (origin_at child.origins p)).terms s ≡ true → Holds parent.level rows made places s
    source-held p inside (OfPoint v) within has = point-held parent.level rows made places v ready.good ready.counted within
    source-held p inside (OfFace f) within has =
        let below : f < length parent.level.polygons = lower f (length parent.level.polygons) within in
        face-held f below (ready.names.each f below ∙ named-at p f inside has)
      where
        lower : (a b : ℕ) → nat_lt a b ≡ true → a < b
        lower a b e = grind (arith, nat_tests, e)

    -- all sources of a point's mask
    all-held : (p : ℕ) → p < length child.origins → IsOriginWithin parent.level.point_count (length parent.level.polygons) (length (edges_of parent.level.polygons)) (origin_at child.origins p)
        → AreHeld parent.level rows made places (mask_from parent.level scheme (origin_at child.origins p)).terms
    all-held p inside within =
        let terms = (mask_from parent.level scheme (origin_at child.origins p)).terms in
        let passed = mask-inside parent.level (is-over parent is) scheme (origin_at child.origins p) within in
        hold-all parent.level rows made places terms
        (λ i d below. source-held p inside (get_or terms i d).source
        (test-at (λ (t : Term). is_source_of parent.level t.source) terms i d passed below)
        (any-at (λ (t : Term). same_source (get_or terms i d).source t.source) terms i d below (source-refl (get_or terms i d).source)))

    -- the mask of each point can be summed
    pub all-can : (p : ℕ) → p < length child.origins → IsOriginWithin parent.level.point_count (length parent.level.polygons) (length (edges_of parent.level.polygons)) (origin_at child.origins p)
        → CanMake width parent.level rows made places (mask_from parent.level scheme (origin_at child.origins p)) (row_at made p).den
    all-can p inside within =
        let among : p < length all = omega (arith, inside, length-append child.origins (map FromFace hidden)) in
        let same : origin_at all p ≡ origin_at child.origins p = get_or_append_left child.origins (map FromFace hidden) (FromVertex 0) p inside in
        record {
          good = ready.good;
          den_is = ready.dens.are p among ∙ ap (λ o. mask_denominator (source_denominator parent.level (dens_of rows)) (mask_from parent.level scheme o)) same;
          short = ready.dens.short p among;
          kept = ready.dens.kept p among;
          sources = all-held p inside within;
        }

-- denominators that stay are as good
pub ready-kept : (width : Width) (parent : Topology) (child : ChildTopology) (scheme : Scheme) (rows : List Row) (named : List Bool) (hidden places : List ℕ) (before after : List Row)
    → IsReady width parent child scheme rows named hidden places before → KeepDens before after → IsReady width parent child scheme rows named hidden places after
ready-kept width parent child scheme rows named hidden places before after ready keep = record {
  can = ready.can;
  allowed = ready.allowed;
  good = ready.good;
  counted = ready.counted;
  names = ready.names;
  find = ready.find;
  inside = ready.inside;
  each = keep.count ∙ ready.each;
  dens = record {
    are = λ p inside. keep.dens p ∙ ready.dens.are p inside;
    short = λ p inside. subst (λ n. n ≤ sum_bound width) (sym (keep.dens p)) (ready.dens.short p inside);
    kept = λ p inside. subst (λ n. n * least_bound rows ≤ sum_bound width) (sym (keep.dens p)) (ready.dens.kept p inside);
  };
}

-- the values of faces stay where that of a point is put that comes from none
pub faces-stay : (level : Level) (rows : List Row) (origins : List PointOrigin) (hidden : List ℕ) (count p : ℕ) (before after : List Row) (origin : PointOrigin)
    → origin ≡ origin_at origins p → p < length origins → (is_from_face origin ≡ true → after ≡ before) → IsPut before p after
    → AreFacesMade level rows (all_origins origins hidden) count before → AreFacesMade level rows (all_origins origins hidden) count after
faces-stay level rows origins hidden count p before after origin e inside same put faces = at (is_from_face origin) refl
  where
    different : (o : PointOrigin) (f : ℕ) → o ≡ FromFace f → is_from_face o ≡ false → ⊥
    different o f e n = grind (arith, ap is_from_face e, n)

    at : (b : Bool) → is_from_face origin ≡ b → AreFacesMade level rows (all_origins origins hidden) count after
    at true h = subst (λ l. AreFacesMade level rows (all_origins origins hidden) count l) (sym (same h)) faces
    at false h = record {
      each = λ q f below there from.
          let here : origin_at (all_origins origins hidden) p ≡ origin_at origins p = get_or_append_left origins (map FromFace hidden) (FromVertex 0) p inside in
          let apart : q ≢ p = λ k. different origin f (e ∙ sym here ∙ ap (origin_at (all_origins origins hidden)) (sym k) ∙ from) h in
          subst (IsMade level rows (face_mask level f)) (sym (put.others q apart)) (faces.each q f below there from);
    }

-- one more point
pub others-put : (level : Level) (scheme : Scheme) (rows : List Row) (origins : List PointOrigin) (p : ℕ) (before after : List Row) (origin : PointOrigin)
    → origin ≡ origin_at origins p → IsPut before p after
    → (is_from_face origin ≡ false → IsMade level rows (mask_from level scheme origin) (row_at after p))
    → AreOthersMade level scheme rows origins p before → AreOthersMade level scheme rows origins (p + 1) after
others-put level scheme rows origins p before after origin e put new made = record { each = λ q below inside other. at q below inside other (cases_lt q p) }
  where
    at : (q : ℕ) → q < p + 1 → q < length origins → is_from_face (origin_at origins q) ≡ false → (q < p) ⊎ (p ≤ q)
        → IsMade level rows (mask_from level scheme (origin_at origins q)) (row_at after q)
    at q below inside other (inl less) =
        subst (IsMade level rows (mask_from level scheme (origin_at origins q))) (sym (put.others q (λ k. omega (arith, less, k)))) (made.each q less inside other)
    at q below inside other (inr more_than) =
        let same : q ≡ p = omega (arith, below, more_than) in
        let is : origin_at origins q ≡ origin = ap (origin_at origins) same ∙ sym e in
        subst (λ o. IsMade level rows (mask_from level scheme o) (row_at after q)) (sym is)
        (subst (λ k. IsMade level rows (mask_from level scheme origin) (row_at after k)) (sym same) (new (ap is_from_face (sym is) ∙ other)))

-- the conditions for the faces of child points and for the hidden ones
module _ (width : Width) (parent : Topology) (child : ChildTopology) (scheme : Scheme) (rows : List Row) (named : List Bool) (hidden places : List ℕ) (made : List Row)
    (is : IsTopology parent) (ready : IsReady width parent child scheme rows named hidden places made) where
  abbrev all-of : List PointOrigin
  all-of = all_origins child.origins hidden

  -- a face with a place
  face-at : (p f : ℕ) → p < length all-of → origin_at all-of p ≡ FromFace f → f < length parent.level.polygons
      → CanMake width parent.level rows [] [] (face_mask parent.level f) (row_at made p).den
  face-at p f among from inside =
      face-can width parent rows f (row_at made p).den is ready.good ready.counted inside
      (ready.dens.are p among ∙ ap (λ o. mask_denominator (source_denominator parent.level (dens_of rows)) (mask_from parent.level scheme o)) from)
      (ready.dens.short p among) (ready.dens.kept p among)

  -- the faces of child points
  pub faces-can : HasParent child → CanMakeFaces width parent.level rows child.origins made
  faces-can has p f inside from =
      let among : p < length all-of = omega (arith, inside, length-append child.origins (map FromFace hidden)) in
      let same : origin_at all-of p ≡ origin_at child.origins p = get_or_append_left child.origins (map FromFace hidden) (FromVertex 0) p inside in
      let Within : PointOrigin → Type 0 = IsOriginWithin parent.level.point_count (length parent.level.polygons) (length (edges_of parent.level.polygons)) in
      let below : f < length parent.level.polygons = subst Within from (origin-within parent child scheme has ready.can p inside) in
      face-at p f among (same ∙ from) below

  -- the list has a place for each child point
  pub child-fits : length child.origins ≤ length made
  child-fits = omega (arith, ready.each, length-append child.origins (map FromFace hidden))

  -- the hidden faces come after the child points
  origin-of-hidden : (i : ℕ) → i < length hidden → origin_at all-of (length child.origins + i) ≡ FromFace (get_or hidden i 0)
  origin-of-hidden i inside =
      get_or-append-add child.origins (map FromFace hidden) i (FromVertex 0) ∙ get_or-map FromFace hidden i 0 (FromVertex 0) inside

  -- the hidden faces can be summed
  pub hidden-can : (i : ℕ) → i < length hidden → CanMake width parent.level rows [] [] (face_mask parent.level (get_or hidden i 0)) (row_at made (length child.origins + i)).den
  hidden-can i inside =
      face-at (length child.origins + i) (get_or hidden i 0)
      (omega (arith, inside, length-append child.origins (map FromFace hidden), length-map hidden FromFace)) (origin-of-hidden i inside) (ready.inside i 0 inside)

-- the values of faces and of hidden faces are those of all faces
pub faces-together : (parent : Topology) (child : ChildTopology) (rows : List Row) (hidden : List ℕ) (before after : List Row)
    → AreFacesMade parent.level rows child.origins (length child.origins) before
    → ((q : ℕ) → q < length child.origins → row_at after q ≡ row_at before q)
    → AreHiddenMade parent.level rows (length child.origins) hidden (length hidden) after
    → AreFacesMade parent.level rows (all_origins child.origins hidden) (length (all_origins child.origins hidden)) after
faces-together parent child rows hidden before after faces kept others = record { each = λ p f below inside from. at p f inside from (cases_lt p (length child.origins)) }
  where
    face-number : (f g : ℕ) → FromFace g ≡ FromFace f → g ≡ f
    face-number f g e = cc

    at : (p f : ℕ) → p < length (all_origins child.origins hidden) → origin_at (all_origins child.origins hidden) p ≡ FromFace f → (p < length child.origins) ⊎ (length child.origins ≤ p)
        → IsMade parent.level rows (face_mask parent.level f) (row_at after p)
    at p f inside from (inl first) =
        let same : origin_at (all_origins child.origins hidden) p ≡ origin_at child.origins p = get_or_append_left child.origins (map FromFace hidden) (FromVertex 0) p first in
        subst (IsMade parent.level rows (face_mask parent.level f)) (sym (kept p first)) (faces.each p f first first (sym same ∙ from))
    at p f inside from (inr past) =
        let i : ℕ = p - length child.origins in
        let place : p ≡ length child.origins + i = omega (arith, past) in
        let below : i < length hidden = omega (arith, place, inside, length-append child.origins (map FromFace hidden), length-map hidden FromFace) in
        let own : origin_at (all_origins child.origins hidden) (length child.origins + i) ≡ FromFace (get_or hidden i 0) =
        get_or-append-add child.origins (map FromFace hidden) i (FromVertex 0) ∙ get_or-map FromFace hidden i 0 (FromVertex 0) below in
        let face : get_or hidden i 0 ≡ f = face-number f (get_or hidden i 0) (sym own ∙ ap (origin_at (all_origins child.origins hidden)) (sym place) ∙ from) in
        subst (λ k. IsMade parent.level rows (face_mask parent.level k) (row_at after p)) face
        (subst (λ q. IsMade parent.level rows (face_mask parent.level (get_or hidden i 0)) (row_at after q)) (sym place) (others.each i below below))

-- denominators that stay twice
pub keeps : (first second third : List Row) → KeepDens first second → KeepDens second third → KeepDens first third
keeps first second third p q = record { count = q.count ∙ p.count; dens = λ k. q.dens k ∙ p.dens k }

-- a hidden face can be summed, for a list and a first place that equal these
pub first-hidden-can : (width : Width) (parent : Topology) (child : ChildTopology) (scheme : Scheme) (rows : List Row) (named : List Bool) (hidden places : List ℕ) (before after : List Row)
    → IsTopology parent → IsReady width parent child scheme rows named hidden places before → KeepDens before after
    → (list : List ℕ) (first : ℕ) → list ≡ hidden → first ≡ length child.origins
    → (i : ℕ) → i < length list → CanMake width parent.level rows [] [] (face_mask parent.level (get_or list i 0)) (row_at after (first + i)).den
first-hidden-can width parent child scheme rows named hidden places before after is ready keep list first same at =
    subst (λ l. (i : ℕ) → i < length l → CanMake width parent.level rows [] [] (face_mask parent.level (get_or l i 0)) (row_at after (first + i)).den) (sym same)
    (subst (λ n. (i : ℕ) → i < length hidden → CanMake width parent.level rows [] [] (face_mask parent.level (get_or hidden i 0)) (row_at after (n + i)).den) (sym at)
    (hidden-can width parent child scheme rows named hidden places after is (ready-kept width parent child scheme rows named hidden places before after ready keep)))

-- the values of all faces
pub first-together : (parent : Topology) (child : ChildTopology) (rows : List Row) (hidden : List ℕ) (before after : List Row)
    (list : List ℕ) (first : ℕ) → list ≡ hidden → first ≡ length child.origins
    → AreFacesMade parent.level rows child.origins (length child.origins) before
    → ((q : ℕ) → q < first → row_at after q ≡ row_at before q)
    → AreHiddenMade parent.level rows first list (length list) after
    → AreFacesMade parent.level rows (all_origins child.origins hidden) (length (all_origins child.origins hidden)) after
first-together parent child rows hidden before after list first same at faces kept others =
    faces-together parent child rows hidden before after faces
    (subst (λ n. (q : ℕ) → q < n → row_at after q ≡ row_at before q) at kept)
    (subst (λ l. AreHiddenMade parent.level rows (length child.origins) l (length l) after) same
    (subst (λ n. AreHiddenMade parent.level rows n list (length list) after) at others))

-- the place of a child point is there
pub point-inside : {P : Type 0} (numbers : P → List ℤ) (width : Width) (parent : Topology) (child : ChildTopology) (scheme : Scheme) (rows : List Row) (named : List Bool) (hidden places : List ℕ)
    (before after : List (Valued P)) (p : ℕ) → IsReady width parent child scheme rows named hidden places (rows_of numbers before)
    → KeepDens (rows_of numbers before) (rows_of numbers after) → p < length child.origins → p < length after
point-inside numbers width parent child scheme rows named hidden places before after p ready keep inside =
    let all = length-append child.origins (map FromFace hidden) in
    let new = length-map after (row_of numbers) in
    omega (arith, keep.count, ready.each, all, new, inside)

-- no value is made yet, and those of all points are
pub none-made : (level : Level) (scheme : Scheme) (rows : List Row) (origins : List PointOrigin) (made : List Row) → AreOthersMade level scheme rows origins 0 made
none-made level scheme rows origins made = record { each = λ p below inside other. absurd (omega (arith, below)) }

pub others-all : (level : Level) (scheme : Scheme) (rows : List Row) (origins : List PointOrigin) (p : ℕ) (made : List Row) → length origins ≤ p
    → AreOthersMade level scheme rows origins p made → AreOthersMade level scheme rows origins (length origins) made
others-all level scheme rows origins p made past are = record { each = λ q below inside other. are.each q (omega (arith, past, below)) inside other }

-- the values of all points
pub all-made : (parent : Topology) (child : ChildTopology) (scheme : Scheme) (rows : List Row) (hidden : List ℕ) (made : List Row)
    → AreFacesMade parent.level rows (all_origins child.origins hidden) (length (all_origins child.origins hidden)) made
    → AreOthersMade parent.level scheme rows child.origins (length child.origins) made → AreAllMade parent child scheme rows hidden made
all-made parent child scheme rows hidden made faces others = record { faces = faces; others = others }

-- the list has places for the hidden faces after the child points
pub hidden-len : {P : Type 0} (numbers : P → List ℤ) (width : Width) (parent : Topology) (child : ChildTopology) (scheme : Scheme) (rows : List Row) (named : List Bool) (hidden places : List ℕ)
    (before after : List (Valued P)) (list : List ℕ) (first : ℕ) → IsReady width parent child scheme rows named hidden places (rows_of numbers before)
    → KeepDens (rows_of numbers before) (rows_of numbers after) → list ≡ hidden → first ≡ length child.origins → first + length list ≡ length after
hidden-len numbers width parent child scheme rows named hidden places before after list first ready keep same at =
    let all = length-append child.origins (map FromFace hidden) in
    let faces = length-map hidden FromFace in
    let new = length-map after (row_of numbers) in
    omega (arith, keep.count, ready.each, all, faces, new, ap length same, at)
