-- The map of level 0 is that of the definitions, and each step of growth keeps this.
use Rattle.std.proofs.Common.{◌≡◌, ℕ, suc, ◌+◌, ◌*◌, ◌<◌, ◌≤◌, Bool, true, false, nat_le, nat_lt, List, [], ◌∷◌, ◌++◌, length, get_or, map, Option, Some, None, if◌then◌else◌, arith, refl, ap, sym, ◌∙◌, subst}
use Rattle.std.specs.List.{position_or_len}
use Rattle.std.proofs.lemmas.Bool.Decides.{nat_tests}
use Rattle.std.proofs.lemmas.List.{length-map, get_or-map, get_or_push, get_or_append_left, length_push, same_lists}
use Rattle.std.proofs.lemmas.List.FromFn.{get_or-map-range_with_len, length-map-range_with_len}
use Rattle.subdiv_model.specs.Polygons.{polygon_at, is_among}
use Rattle.subdiv_model.specs.Level.{Level}
use Rattle.subdiv_model.specs.Child.{refined_level}
use Rattle.subdiv_model.specs.Sparse.{FacePredicate, child_number, selected, present}
use Rattle.patch_map.specs.Map.{MapLevel, LevelMap, Rises, first_at, firsts_of, grown, map_level, map_of_base, starts_of}
use Rattle.patch_map.specs.Is.{IsAfter, IsMapOf, first_in}
use Rattle.patch_map.proofs.PresentLemmas.{first-up, present-below, present-up, start-after}

-- the map of level 0
pub base-map : (base : Level) (predicate : FacePredicate) → IsMapOf base predicate 0 (map_of_base base.polygons)
base-map base predicate = record { sizes = refl; starts = refl; count = refl; each = λ k d h. absurd (omega (arith, h)) }

module _ (base : Level) (predicate : FacePredicate) (depth : ℕ) (levels : LevelMap) (is : IsMapOf base predicate depth levels) where
  -- the map has the faces of level 0
  pub map-faces : length levels.sizes ≡ length base.polygons
  map-faces = ap length is.sizes ∙ length-map base.polygons length

  pub map-size : (face : ℕ) → face < length base.polygons → get_or levels.sizes face 0 ≡ length (polygon_at base.polygons face)
  map-size face h = ap (λ sizes. get_or sizes face 0) is.sizes ∙ get_or-map length base.polygons face [] 0 h

  pub starts-many : length levels.starts ≡ length (present base predicate depth)
  starts-many = ap length is.starts ∙ length-map (present base predicate depth) (λ f. child_number (refined_level base depth).polygons (f, 0))

  pub start-at : (i : ℕ) → i < length (present base predicate depth) → get_or levels.starts i 0 ≡ child_number (refined_level base depth).polygons (get_or (present base predicate depth) i 0, 0)
  start-at i h = ap (λ starts. get_or starts i 0) is.starts ∙ get_or-map (λ f. child_number (refined_level base depth).polygons (f, 0)) (present base predicate depth) i 0 0 h

  -- the numbers of the last level's first children never decrease
  pub starts-rise : Rises levels.starts
  starts-rise i j less h = go (nat_lt i j) refl
    where
      go : (b : Bool) → nat_lt i j ≡ b → get_or levels.starts i 0 ≤ get_or levels.starts j 0
      go true e =
          let below : i < j = grind (arith, nat_tests) in
          let inside : j < length (present base predicate depth) = omega (arith, h, starts-many) in
          let up = first-up (refined_level base depth).polygons (get_or (present base predicate depth) i 0) (get_or (present base predicate depth) j 0) (omega (arith, present-up base predicate depth i j below inside)) in
          omega (arith, up, start-at i (omega (arith, below, inside)), start-at j inside)
      go false e =
          let same : i ≡ j = grind (arith, nat_tests) in
          omega (arith, ap (λ k. get_or levels.starts k 0) same)

  module _ (marks : List Bool) (chosen : marks ≡ map (is_among (selected base predicate depth)) (present base predicate depth)) (numbers : List ℕ) (next : numbers ≡ present base predicate (suc depth)) where
    -- the places of the first children
    pub firsts-are : firsts_of marks levels.starts numbers ≡ map (first_in base predicate depth) (present base predicate depth)
    firsts-are =
        let many = length-map-range_with_len (first_at marks levels.starts numbers) 0 (length levels.starts) in
        let count = length-map (present base predicate depth) (first_in base predicate depth) in
        same_lists (firsts_of marks levels.starts numbers) (map (first_in base predicate depth) (present base predicate depth)) (many ∙ starts-many ∙ sym count)
        (λ k d h. let below : k < length (present base predicate depth) = omega (arith, h, many, starts-many) in at k d below)
      where
        at : (k : ℕ) (d : Option ℕ) → k < length (present base predicate depth) → get_or (firsts_of marks levels.starts numbers) k d ≡ get_or (map (first_in base predicate depth) (present base predicate depth)) k d
        at k d h =
            let mark : get_or marks k false ≡ is_among (selected base predicate depth) (get_or (present base predicate depth) k 0) =
            ap (λ ms. get_or ms k false) chosen ∙ get_or-map (is_among (selected base predicate depth)) (present base predicate depth) k 0 false h in
            get_or-map-range_with_len (first_at marks levels.starts numbers) 0 (length levels.starts) k k d (omega (arith, h, starts-many)) (omega arith)
            ∙ same (get_or (present base predicate depth) k 0) (get_or marks k false) (get_or levels.starts k 0) mark (start-at k h)
            ∙ sym (get_or-map (first_in base predicate depth) (present base predicate depth) k 0 d h)
          where
            same : (n : ℕ) (mark : Bool) (start : ℕ) → mark ≡ is_among (selected base predicate depth) n → start ≡ child_number (refined_level base depth).polygons (n, 0)
                → (if mark then Some (position_or_len (nat_le start) numbers) else None) ≡ first_in base predicate depth n
            same n mark start e f = rw (e, f, next) refl

    starts-next : map (λ n. 4 * n) numbers ≡ starts_of (refined_level base (suc depth)).polygons (present base predicate (suc depth))
    starts-next =
        let there = present base predicate (suc depth) in
        let start : ℕ → ℕ = λ f. child_number (refined_level base (suc depth)).polygons (f, 0) in
        ap (map (λ n. 4 * n)) next
        ∙ same_lists (map (λ n. 4 * n) there) (map start there) (length-map there (λ n. 4 * n) ∙ sym (length-map there start)) (λ k d h.
        let inside : k < length there = omega (arith, h, length-map there (λ n. 4 * n)) in
        get_or-map (λ n. 4 * n) there k 0 d inside
        ∙ sym (start-after base predicate depth (get_or there k 0) (present-below base predicate (suc depth) k 0 inside))
        ∙ sym (get_or-map start there k 0 d inside))

    after-next : IsAfter base predicate depth (map_level (suc depth) (firsts_of marks levels.starts numbers) numbers)
    after-next = record { depth_is = refl; firsts = firsts-are; numbers = next }

    -- one more level
    pub map-grown : (deeper : ℕ) → deeper ≡ suc depth → IsMapOf base predicate (suc depth) (grown levels marks deeper numbers)
    map-grown deeper same = subst (λ n. IsMapOf base predicate (suc depth) (grown levels marks n numbers)) (sym same) (record {
      sizes = is.sizes;
      starts = starts-next;
      count = length_push levels.levels level ∙ (let e : length levels.levels + 1 ≡ suc depth = omega (arith, is.count) in e);
      each = λ k d h. each k d h (nat_lt k depth) refl;
    })
      where
        level : MapLevel
        level = map_level (suc depth) (firsts_of marks levels.starts numbers) numbers

        each : (k : ℕ) (d : MapLevel) → k < suc depth → (b : Bool) → nat_lt k depth ≡ b → IsAfter base predicate k (get_or (levels.levels ++ level ∷ []) k d)
        each k d h true e =
            let below : k < depth = grind (arith, nat_tests) in
            subst (IsAfter base predicate k) (sym (get_or_append_left levels.levels (level ∷ []) d k (omega (arith, below, is.count)))) (is.each k d below)
        each k d h false e =
            let same : k ≡ depth = grind (arith, nat_tests) in
            subst (IsAfter base predicate k) (sym (get_or_push levels.levels level d k (is.count ∙ sym same))) (subst (λ n. IsAfter base predicate n level) (sym same) after-next)
