-- Marks at places: how many of them are new, and which places have them.
use Rattle.std.proofs.Common.{◌≡◌, ℕ, zero, suc, ◌+◌, ◌-◌, ◌<◌, ◌≤◌, false, ◌||◌, nat_eq, List, [], ◌∷◌, length, map, get_or, set, take, drop, arith, refl, ap, sym, ◌∙◌, subst, inl, inr}
use Rattle.std.specs.List.{All, AllByRecursion, count_by, list_any, filter, range_with_len}
use Rattle.std.proofs.Math.Bool.{or_assoc, or-false}
use Rattle.std.proofs.lemmas.Bool.{cases_eq}
use Rattle.std.proofs.lemmas.Bool.Decides.{nat_tests}
use Rattle.std.proofs.lemmas.List.{get_or-set_same, get_or-set_other, length-set}
use Rattle.std.proofs.lemmas.List.Elements.{All-map, recursion_from_All, All-from_recursion}
use Rattle.std.proofs.lemmas.List.FromFn.{length-range_with_len}
use Rattle.std.proofs.lemmas.List.Sums.{length-filter, count_by-le-length}
use Rattle.number_laws.proofs.CountLemmas.{count-cons, one-no}
use Rattle.subdiv_model.specs.Polygons.{is_among}
use Rattle.subdiv_model.specs.Level.{Level}
use Rattle.subdiv_model.specs.Mask.{SourcePoint, Term, Mask}
use Rattle.subdiv_model.specs.Support.{mask_support, source_support}
use Rattle.stencil_apply.specs.Table.{Share, Table, IsTable, row_at}
use Rattle.stencil_factory.specs.Rows.{support_of, supports_of}
use Rattle.stencil_factory.specs.Weights.{is_named}
use Rattle.stencil_factory.specs.Marks.{marked_all, marked_rows, AreMarks}
use Rattle.stencil_factory.proofs.AddedLemmas.{first-and-others}
use Rattle.stencil_factory.proofs.RowSumLemmas.{row-is}
use Rattle.stencil_factory.proofs.SupportLemmas.{has_control, points-have, count-kept}

pub length-marked_all : (mark : ℕ) (places marks : List ℕ) → length (marked_all mark places marks) ≡ length marks
length-marked_all mark [] marks = refl
length-marked_all mark (place ∷ places) marks = length-marked_all mark places (set marks place mark) ∙ length-set marks place mark

pub length-marked_rows : (table : Table) (mark : ℕ) (points : List ℕ) (marks : List ℕ) → length (marked_rows table mark points marks) ≡ length marks
length-marked_rows table mark [] marks = refl
length-marked_rows table mark (point ∷ points) marks =
    length-marked_rows table mark points (marked_all mark (support_of (row_at table point).shares) marks)
    ∙ length-marked_all mark (support_of (row_at table point).shares) marks

-- a place has the mark where it had, or where it is one of the places
pub set-at : (mark place v : ℕ) (marks : List ℕ) → place < length marks → nat_eq mark (get_or (set marks place mark) v 0) ≡ (nat_eq mark (get_or marks v 0) || nat_eq v place)
set-at mark place v marks inside = elim (cases_eq v place) [
  | inl same ↦ both (get_or (set marks place mark) v 0) (get_or marks v 0) (subst (λ w. get_or (set marks place mark) w 0 ≡ mark) (sym same) (get_or-set_same marks place mark 0 inside)) same
  | inr other ↦ ap (nat_eq mark) (get_or-set_other marks place v mark 0 other) ∙ neither (get_or marks v 0) other
]
  where
    both : (a b : ℕ) → a ≡ mark → v ≡ place → nat_eq mark a ≡ (nat_eq mark b || nat_eq v place)
    both a b e same = grind (arith, nat_tests, e, same)

    neither : (b : ℕ) → (v ≡ place → ⊥) → nat_eq mark b ≡ (nat_eq mark b || nat_eq v place)
    neither b other = grind (arith, nat_tests, other)

marked-at : (mark v : ℕ) (places marks : List ℕ) → AllByRecursion (λ place. place < length marks) places
    → nat_eq mark (get_or (marked_all mark places marks) v 0) ≡ (nat_eq mark (get_or marks v 0) || is_among places v)
marked-at mark v [] marks inside = sym (or-false (nat_eq mark (get_or marks v 0)))
marked-at mark v (place ∷ places) marks inside =
    marked-at mark v places (set marks place mark) (subst (λ n. AllByRecursion (λ p. p < n) places) (sym (length-set marks place mark)) inside.1)
    ∙ ap (λ b. b || is_among places v) (set-at mark place v marks inside.0)
    ∙ or_assoc (nat_eq mark (get_or marks v 0)) (nat_eq v place) (is_among places v)

-- no mark is greater than the new one
pub All-set : (most mark place : ℕ) (marks : List ℕ) → mark ≤ most → AllByRecursion (λ m. m ≤ most) marks → AllByRecursion (λ m. m ≤ most) (set marks place mark)
All-set most mark place [] h all = tt
All-set most mark zero (m ∷ marks) h all = (h, all.1)
All-set most mark (suc place) (m ∷ marks) h all = (all.0, All-set most mark place marks h all.1)

marked-below : (most mark : ℕ) (places marks : List ℕ) → mark ≤ most → AllByRecursion (λ m. m ≤ most) marks → AllByRecursion (λ m. m ≤ most) (marked_all mark places marks)
marked-below most mark [] marks h all = all
marked-below most mark (place ∷ places) marks h all = marked-below most mark places (set marks place mark) h (All-set most mark place marks h all)

rows-below : (table : Table) (most mark : ℕ) (points : List ℕ) (marks : List ℕ) → mark ≤ most → AllByRecursion (λ m. m ≤ most) marks → AllByRecursion (λ m. m ≤ most) (marked_rows table mark points marks)
rows-below table most mark [] marks h all = all
rows-below table most mark (point ∷ points) marks h all =
    rows-below table most mark points (marked_all mark (support_of (row_at table point).shares) marks) h (marked-below most mark (support_of (row_at table point).shares) marks h all)

-- no place has a mark that is greater than all
none-marked : (most : ℕ) (marks : List ℕ) → AllByRecursion (λ m. m ≤ most) marks → count_by (nat_eq (most + 1)) marks ≡ 0
none-marked most [] all = refl
none-marked most (m ∷ marks) all =
    let other : nat_eq (most + 1) m ≡ false = differs m all.0 in
    omega (arith, count-cons (nat_eq (most + 1)) m marks, one-no (nat_eq (most + 1) m) other, none-marked most marks all.1)
  where
    differs : (m : ℕ) → m ≤ most → nat_eq (most + 1) m ≡ false
    differs m h = grind (arith, nat_tests, h)

pub at-none : (most v : ℕ) (marks : List ℕ) → AllByRecursion (λ m. m ≤ most) marks → nat_eq (most + 1) (get_or marks v 0) ≡ false
at-none most v marks all = differs (get_or marks v 0) (at v marks all)
  where
    at : (v : ℕ) (ms : List ℕ) → AllByRecursion (λ m. m ≤ most) ms → get_or ms v 0 ≤ most
    at v [] all = omega arith
    at zero (m ∷ ms) all = all.0
    at (suc v) (m ∷ ms) all = at v ms all.1

    differs : (m : ℕ) → m ≤ most → nat_eq (most + 1) m ≡ false
    differs m h = grind (arith, nat_tests, h)

module _ (table : Table) (is : IsTable table) where
  -- the controls of a row have marks
  row-places : (u : ℕ) (marks : List ℕ) → u < length table.rows → length marks ≡ table.controls → All (λ place. place < length marks) (support_of (row_at table u).shares)
  row-places u marks h same =
      All-map (λ place. place < length marks) (λ (share : Share). share.0) (row_at table u).shares
      (subst (λ n. All (λ (share : Share). share.0 < n) (row_at table u).shares) (sym same) (row-is table is u h).inside)

  -- a place has the mark where it had, or where one of the rows has it
  rows-at : (mark v : ℕ) (points : List ℕ) (marks : List ℕ) → AllByRecursion (λ point. point < length table.rows) points → length marks ≡ table.controls
      → nat_eq mark (get_or (marked_rows table mark points marks) v 0) ≡ (nat_eq mark (get_or marks v 0) || list_any (has_control table v) points)
  rows-at mark v [] marks inside same = sym (or-false (nat_eq mark (get_or marks v 0)))
  rows-at mark v (point ∷ points) marks inside same =
      let places = support_of (row_at table point).shares in
      rows-at mark v points (marked_all mark places marks) inside.1 (length-marked_all mark places marks ∙ same)
      ∙ ap (λ b. b || list_any (has_control table v) points)
      (marked-at mark v places marks (recursion_from_All (λ place. place < length marks) places (row-places point marks inside.0 same)))
      ∙ or_assoc (nat_eq mark (get_or marks v 0)) (is_among places v) (list_any (has_control table v) points)

  -- a round of the loop over points
  module _ (mark : ℕ) (points marks : List ℕ) (some : 1 ≤ length points) (inside : All (λ point. point < length table.rows) points) (same : length marks ≡ table.controls) where
    abbrev point : ℕ
    point = get_or points 0 0

    abbrev others : List ℕ
    others = take (length points - 1) (drop 1 points)

    pub round-others : All (λ point. point < length table.rows) others
    round-others =
        All-from_recursion (λ v. v < length table.rows) others
        (subst (AllByRecursion (λ v. v < length table.rows)) (first-and-others points 0 some) (recursion_from_All (λ v. v < length table.rows) points inside)).1

    module _ (places : List ℕ) (places_are : places ≡ map (λ share. share.0) (row_at table point).shares) where
      pub round-places : All (λ place. place < length marks) places
      round-places = subst (All (λ place. place < length marks)) (sym places_are) (row-places point marks (inside 0 0 (omega (arith, some))) same)

      module _ (after whole : List ℕ) (e : after ≡ marked_all mark places marks) where
        pub round-marked : marked_rows table mark points marks ≡ whole → marked_rows table mark others after ≡ whole
        round-marked all =
            ap (marked_rows table mark others) (e ∙ ap (λ ps. marked_all mark ps marks) places_are)
            ∙ ap (λ l. marked_rows table mark l marks) (sym (first-and-others points 0 some))
            ∙ all

        pub round-length : length after ≡ table.controls
        round-length = ap length e ∙ length-marked_all mark places marks ∙ same

  -- the fresh marks of a row are the controls of its mask
  module _ (level : Level) (mask : Mask) (points : List ℕ) (inside : All (λ point. point < length table.rows) points)
      (named : (v : ℕ) → is_among points v ≡ is_named level mask v) (most : ℕ) (old : List ℕ) (marks : AreMarks table.controls most old) where
    abbrev support : List ℕ
    support = mask_support table.controls (source_support table.controls level (supports_of table)) mask

    old-below : AllByRecursion (λ m. m ≤ most) old
    old-below = recursion_from_All (λ m. m ≤ most) old marks.below

    pub marks-after : (new : List ℕ) → new ≡ marked_rows table (most + 1) points old → AreMarks table.controls (most + 1) new
    marks-after new e = subst (AreMarks table.controls (most + 1)) (sym e) (record {
      count = length-marked_rows table (most + 1) points old ∙ marks.count;
      below =
          All-from_recursion (λ m. m ≤ most + 1) (marked_rows table (most + 1) points old)
          (rows-below table (most + 1) (most + 1) points old (omega arith) (looser old old-below));
    })
      where
        looser : (ms : List ℕ) → AllByRecursion (λ m. m ≤ most) ms → AllByRecursion (λ m. m ≤ most + 1) ms
        looser [] all = tt
        looser (m ∷ ms) all = (omega (arith, all.0), looser ms all.1)

    pub fresh-marks : (count : ℕ) (new : List ℕ) → new ≡ marked_rows table (most + 1) points old → count + count_by (nat_eq (most + 1)) old ≡ count_by (nat_eq (most + 1)) new → count ≡ length support
    fresh-marks count new e fresh =
        let lists = map (λ (t : Term). source_support table.controls level (supports_of table) t.source) mask.terms in
        let all = marked_rows table (most + 1) points old in
        let long : length all ≡ table.controls = length-marked_rows table (most + 1) points old ∙ marks.count in
        let kept = count-kept (nat_eq (most + 1)) (λ control. list_any (λ list. is_among list control) lists) 0 all
        (λ k there.
        let below : k < table.controls = omega (arith, long, there) in
        let from : 0 + k ≡ k = omega arith in
        ap (λ v. list_any (λ list. is_among list v) lists) from
        ∙ points-have level table mask table.controls k below points named
        ∙ sym (rows-at (most + 1) k points old (recursion_from_All (λ point. point < length table.rows) points inside) marks.count ∙ ap (λ b. b || list_any (has_control table k) points) (at-none most k old old-below))) in
        let sized = ap (λ n. length (filter (λ control. list_any (λ list. is_among list control) lists) (range_with_len 0 n))) long in
        omega (arith, fresh, none-marked most old old-below, ap (count_by (nat_eq (most + 1))) e, kept, sized)

-- The points that the body reads from the set are the points that the mask names.
pub read-named : (level : Level) (mask : Mask) (members read : List ℕ) → read ≡ members → ((v : ℕ) → is_among members v ≡ is_named level mask v) → (v : ℕ) → is_among read v ≡ is_named level mask v
read-named level mask members read e named v = ap (λ l. is_among l v) e ∙ named v

-- a support has no more controls than there are
pub support-few : (controls : ℕ) (support : SourcePoint → List ℕ) (mask : Mask) → length (mask_support controls support mask) ≤ controls
support-few controls support mask =
    let test = λ (control : ℕ). list_any (λ list. is_among list control) (map (λ (t : Term). support t.source) mask.terms) in
    omega (arith, length-filter test (range_with_len 0 controls), count_by-le-length test (range_with_len 0 controls), length-range_with_len 0 controls)
