-- What masks make of the values, denominators and supports of a part's points, they make of those of the whole.
use Rattle.std.proofs.Common.{◌≡◌, ℕ, ◌+◌, ◌-◌, ◌*◌, ◌<◌, pos, Bool, true, nat_lt, List, [], ◌++◌, length, map, get_or, arith, refl, ap, sym, ◌∙◌}
use Rattle.std.specs.List.{list_any, range_with_len}
use Rattle.std.proofs.lemmas.Bool.{ltb-true}
use Rattle.std.proofs.Math.ListN.{get_or-map as get_or-mapped}
use Rattle.std.proofs.lemmas.List.{map-id, length-append, length-map, get_or-map, get_or_append_left, get_or-append_right}
use Rattle.std.proofs.lemmas.List.FromFn.{length-map-range_with_len, get_or-map-range_with_len}
use Rattle.subdiv_model.specs.Polygons.{Polygon, same_edge, has_edge, sides_of, polygon_at, is_over}
use Rattle.subdiv_model.specs.Edges.{edges_of, edge_number}
use Rattle.subdiv_model.specs.Level.{Level}
use Rattle.subdiv_model.specs.Child.{face_point, edge_point}
use Rattle.subdiv_model.specs.Mask.{Scheme, SourcePoint, OfPoint, OfFace, Mask, mask_of, face_mask, edge_mask, vertex_mask, child_masks}
use Rattle.subdiv_model.specs.Multiples.{lcm_of_all}
use Rattle.subdiv_model.specs.Value.{Value, whole_value, weighted, sum_of_values}
use Rattle.subdiv_model.specs.Refined.{mask_value, point_value, corner_value, source_value, child_values, mask_denominator, corner_denominator, source_denominator, child_denominators}
use Rattle.subdiv_model.specs.Support.{union_of, mask_support, corner_support, source_support, child_supports}
use Rattle.number_laws.proofs.CountLemmas.{any-weaker}
use Rattle.mesh_laws.proofs.SideLemmas.{same_edge-trans}
use Rattle.mesh_laws.proofs.EdgeLemmas.{position-within, any-alike}
use Rattle.mesh_laws.proofs.ChildCornerLemmas.{corner-point}
use Rattle.part_laws.specs.Parts.{IsWholeAt, IsWholeAlong, is_corner, renamed, face_in}
use Rattle.part_laws.specs.LevelParts.{IsLevelPart, LevelPart}
use Rattle.part_laws.specs.Masks.{source_in, term_in, mask_in}
use Rattle.part_laws.specs.Children.{IsOverPoints, edge_at, child_name, name_next}
use Rattle.part_laws.specs.Values.{NextPoint, Old, NewOfFace, NewOfEdge, number_of, SharedItems}
use Rattle.part_laws.proofs.ListLemmas.{map-agree, map-twice}
use Rattle.part_laws.proofs.TermLemmas.{is_own, IsMaskIn}
use Rattle.part_laws.proofs.MaskLemmas.{face-mask-in, edge-mask-in, vertex-mask-in}
use Rattle.part_laws.proofs.JoinLemmas.{corner-of}
use Rattle.part_laws.proofs.NameLemmas.{same-edge-at, same-renamed, edge-there, edge-listed, name-old, name-face, name-edge}
use Rattle.part_laws.proofs.ChildLemmas.{name-below, face-below}

-- an edge along which a polygon has the same edge
along-alike : (s t : ℕ × ℕ) (polygon : Polygon) → same_edge t s ≡ true → has_edge s polygon ≡ true → has_edge t polygon ≡ true
along-alike s t polygon h there = any-weaker (same_edge s) (same_edge t) (λ u k. same_edge-trans t s u h k) (sides_of polygon) there

-- A function of the masks of a level, by the kinds of points.
module _ {X : Type 0} (level : Level) (scheme : Scheme) (f : Mask → X) (d : X) where
  many : length (map (vertex_mask level scheme) (range_with_len 0 level.point_count)) ≡ level.point_count
  many = length-map-range_with_len (vertex_mask level scheme) 0 level.point_count

  pub made-old : (p : ℕ) → p < level.point_count → get_or (map f (child_masks level scheme)) p d ≡ f (vertex_mask level scheme p)
  made-old p h =
      let old = map (vertex_mask level scheme) (range_with_len 0 level.point_count) in
      let mid = map (face_mask level) (range_with_len 0 (length level.polygons)) in
      let new = map (edge_mask level scheme) (edges_of level.polygons) in
      let e = vertex_mask level scheme p in
      get_or-map f (old ++ (mid ++ new)) p e d (omega (arith, h, many, length-append old (mid ++ new)))
      ∙ ap f (get_or_append_left old (mid ++ new) e p (omega (arith, h, many)) ∙ get_or-map-range_with_len (vertex_mask level scheme) 0 level.point_count p p e h (omega arith))

  pub made-face : (k : ℕ) → k < length level.polygons → get_or (map f (child_masks level scheme)) (face_point level.point_count k) d ≡ f (face_mask level k)
  made-face k h =
      let old = map (vertex_mask level scheme) (range_with_len 0 level.point_count) in
      let mid = map (face_mask level) (range_with_len 0 (length level.polygons)) in
      let new = map (edge_mask level scheme) (edges_of level.polygons) in
      let e = face_mask level k in
      let n = face_point level.point_count k in
      let count = length-map-range_with_len (face_mask level) 0 (length level.polygons) in
      let back : n - level.point_count ≡ k = omega arith in
      get_or-map f (old ++ (mid ++ new)) n e d (omega (arith, h, many, count, length-append old (mid ++ new), length-append mid new))
      ∙ ap f (get_or-append_right old (mid ++ new) level.point_count n e many (omega arith)
      ∙ ap (λ i. get_or (mid ++ new) i e) back
      ∙ get_or_append_left mid new e k (omega (arith, h, count))
      ∙ get_or-map-range_with_len (face_mask level) 0 (length level.polygons) k k e h (omega arith))

  pub made-edge : (n : ℕ) → n < length (edges_of level.polygons) → get_or (map f (child_masks level scheme)) (level.point_count + length level.polygons + n) d ≡ f (edge_mask level scheme (edge_at level.polygons n))
  made-edge n h =
      let old = map (vertex_mask level scheme) (range_with_len 0 level.point_count) in
      let mid = map (face_mask level) (range_with_len 0 (length level.polygons)) in
      let new = map (edge_mask level scheme) (edges_of level.polygons) in
      let e = edge_mask level scheme (0, 0) in
      let at = level.point_count + length level.polygons + n in
      let count = length-map-range_with_len (face_mask level) 0 (length level.polygons) in
      let edges = length-map (edges_of level.polygons) (edge_mask level scheme) in
      let back : at - level.point_count ≡ length level.polygons + n = omega arith in
      let rest : length level.polygons + n - length level.polygons ≡ n = omega arith in
      get_or-map f (old ++ (mid ++ new)) at e d (omega (arith, h, many, count, edges, length-append old (mid ++ new), length-append mid new))
      ∙ ap f (get_or-append_right old (mid ++ new) level.point_count at e many (omega arith)
      ∙ ap (λ i. get_or (mid ++ new) i e) back
      ∙ get_or-append_right mid new (length level.polygons) (length level.polygons + n) e count (omega arith)
      ∙ ap (λ i. get_or new i e) rest
      ∙ get_or-map (edge_mask level scheme) (edges_of level.polygons) n (0, 0) e h)

module _ (name : ℕ → ℕ) (faces : List ℕ) (part whole : Level) (is : IsLevelPart name faces part whole) where
  abbrev own : SourcePoint → Bool
  own s = is_own (λ p. is_corner part.polygons p) (λ k. nat_lt k (length part.polygons)) s

  abbrev InWhole : Mask → Mask → Type 0
  InWhole mask other = IsMaskIn name faces (λ p. is_corner part.polygons p) (λ k. nat_lt k (length part.polygons)) mask other

  -- reading the sources of a mask, where the sources of the whole read the same
  module _ {Y : Type 0} (read other : SourcePoint → Y) (same : (s : SourcePoint) → own s ≡ true → read s ≡ other (source_in name faces s)) where
    terms-agree : {Z : Type 0} (f : ℕ → Y → Z) (mask in_mask : Mask) → InWhole mask in_mask → map (λ t. f t.weight (read t.source)) mask.terms ≡ map (λ t. f t.weight (other t.source)) in_mask.terms
    terms-agree f mask in_mask h =
        map-agree (λ t. own t.source) (λ t. f t.weight (read t.source)) (λ t. f t.weight (other (source_in name faces t.source))) (λ t k. ap (f t.weight) (same t.source k)) mask.terms h.own_sources
        ∙ sym (map-twice (term_in name faces) (λ t. f t.weight (other t.source)) mask.terms)
        ∙ ap (λ (m : Mask). map (λ t. f t.weight (other t.source)) m.terms) (sym h.in_whole)

  denominator-in : (mask in_mask : Mask) → InWhole mask in_mask → mask.denominator ≡ in_mask.denominator
  denominator-in mask in_mask h = ap (λ (m : Mask). m.denominator) (sym h.in_whole)

  value-in : (read other : SourcePoint → Value) → ((s : SourcePoint) → own s ≡ true → read s ≡ other (source_in name faces s)) → (mask in_mask : Mask) → InWhole mask in_mask → mask_value read mask ≡ mask_value other in_mask
  value-in read other same mask in_mask h =
      ap sum_of_values (terms-agree read other same (λ w x. weighted w mask.denominator x) mask in_mask h)
      ∙ ap (λ q. sum_of_values (map (λ t. weighted t.weight q (other t.source)) in_mask.terms)) (denominator-in mask in_mask h)

  number-in : (read other : SourcePoint → ℕ) → ((s : SourcePoint) → own s ≡ true → read s ≡ other (source_in name faces s)) → (mask in_mask : Mask) → InWhole mask in_mask → mask_denominator read mask ≡ mask_denominator other in_mask
  number-in read other same mask in_mask h =
      ap (λ l. mask.denominator * lcm_of_all l) (terms-agree read other same (λ w x. x) mask in_mask h)
      ∙ ap (λ q. q * lcm_of_all (map (λ t. other t.source) in_mask.terms)) (denominator-in mask in_mask h)

  support-in : (n : ℕ) (read other : SourcePoint → List ℕ) → ((s : SourcePoint) → own s ≡ true → read s ≡ other (source_in name faces s)) → (mask in_mask : Mask) → InWhole mask in_mask → mask_support n read mask ≡ mask_support n other in_mask
  support-in n read other same mask in_mask h = ap (union_of n) (terms-agree read other same (λ w x. x) mask in_mask h)

  -- the sources of the part have the values of those of the whole
  source-values : (values others : List Value) → ((p : ℕ) → is_corner part.polygons p ≡ true → point_value values p ≡ point_value others (name p)) → (s : SourcePoint) → own s ≡ true → source_value part values s ≡ source_value whole others (source_in name faces s)
  source-values values others same (OfPoint p) h = same p h
  source-values values others same (OfFace k) h =
      value-in (corner_value values) (corner_value others) corners (face_mask part k) (face_mask whole (face_in faces k)) (face-mask-in name faces part whole is k (ltb-true k (length part.polygons) h))
    where
      corners : (s : SourcePoint) → own s ≡ true → corner_value values s ≡ corner_value others (source_in name faces s)
      corners (OfPoint p) l = same p l
      corners (OfFace f) l = refl

  source-denominators : (numbers others : List ℕ) → ((p : ℕ) → is_corner part.polygons p ≡ true → get_or numbers p 1 ≡ get_or others (name p) 1) → (s : SourcePoint) → own s ≡ true → source_denominator part numbers s ≡ source_denominator whole others (source_in name faces s)
  source-denominators numbers others same (OfPoint p) h = same p h
  source-denominators numbers others same (OfFace k) h =
      number-in (corner_denominator numbers) (corner_denominator others) corners (face_mask part k) (face_mask whole (face_in faces k)) (face-mask-in name faces part whole is k (ltb-true k (length part.polygons) h))
    where
      corners : (s : SourcePoint) → own s ≡ true → corner_denominator numbers s ≡ corner_denominator others (source_in name faces s)
      corners (OfPoint p) l = same p l
      corners (OfFace f) l = refl

  source-supports : (n : ℕ) (supports others : List (List ℕ)) → ((p : ℕ) → is_corner part.polygons p ≡ true → get_or supports p [] ≡ get_or others (name p) []) → (s : SourcePoint) → own s ≡ true → source_support n part supports s ≡ source_support n whole others (source_in name faces s)
  source-supports n supports others same (OfPoint p) h = same p h
  source-supports n supports others same (OfFace k) h =
      support-in n (corner_support supports) (corner_support others) corners (face_mask part k) (face_mask whole (face_in faces k)) (face-mask-in name faces part whole is k (ltb-true k (length part.polygons) h))
    where
      corners : (s : SourcePoint) → own s ≡ true → corner_support supports s ≡ corner_support others (source_in name faces s)
      corners (OfPoint p) l = same p l
      corners (OfFace f) l = refl

  -- a function of the masks of the next level, where the masks of the part and of the whole give the same
  module _ (over : is_over part.point_count part.polygons ≡ true) (whole_over : is_over whole.point_count whole.polygons ≡ true) (scheme : Scheme) {X : Type 0} (f g : Mask → X) (d : X) (agree : (mask in_mask : Mask) → InWhole mask in_mask → f mask ≡ g in_mask) where
    abbrev Same : ℕ → Type 0
    Same n = get_or (map f (child_masks part scheme)) n d ≡ get_or (map g (child_masks whole scheme)) (child_name name faces part whole n) d

    next-old : (p : ℕ) → is_corner part.polygons p ≡ true → IsWholeAt faces whole.polygons (name p) → Same p
    next-old p there all =
        let found = corner-of part.polygons p there in
        let below = ltb-true p part.point_count (corner-point part.point_count part.polygons found.0 p over found.2) in
        made-old part scheme f d p below
        ∙ agree (vertex_mask part scheme p) (vertex_mask whole scheme (name p)) (vertex-mask-in name faces part whole is scheme p there all)
        ∙ sym (made-old whole scheme g d (name p) (name-below name faces part whole is.polygons whole_over p there))
        ∙ ap (λ n. get_or (map g (child_masks whole scheme)) n d) (sym (name-old name faces part whole is.polygons p below))

    next-face : (k : ℕ) → k < length part.polygons → Same (face_point part.point_count k)
    next-face k h =
        made-face part scheme f d k h
        ∙ agree (face_mask part k) (face_mask whole (face_in faces k)) (face-mask-in name faces part whole is k h)
        ∙ sym (made-face whole scheme g d (face_in faces k) (face-below name faces part whole is.polygons whole_over k h))
        ∙ ap (λ n. get_or (map g (child_masks whole scheme)) n d) (sym (name-face name faces part whole is.polygons k h))

    next-edge : (edge : ℕ × ℕ) → list_any (same_edge edge) (edges_of part.polygons) ≡ true → IsWholeAlong faces whole.polygons (renamed name edge) → Same (edge_point part.point_count part.polygons edge)
    next-edge edge listed all =
        let n = edge_number part.polygons edge in
        let m = edge_number whole.polygons (renamed name edge) in
        let here = edge_at part.polygons n in
        let same = edge-there part.polygons edge listed in
        let own = any-alike edge here (edges_of part.polygons) same listed in
        let along : IsWholeAlong faces whole.polygons (renamed name here) = λ i on. all i (along-alike (renamed name here) (renamed name edge) (polygon_at whole.polygons i) (same-renamed name edge here same) on) in
        made-edge part scheme f d n (position-within edge (edges_of part.polygons) listed)
        ∙ agree (edge_mask part scheme here) (edge_mask whole scheme (renamed name here)) (edge-mask-in name faces part whole is scheme here own along)
        ∙ ap (λ e. g (edge_mask whole scheme e)) (sym (same-edge-at name faces part.polygons whole.polygons is.polygons edge listed all))
        ∙ sym (made-edge whole scheme g d m (position-within (renamed name edge) (edges_of whole.polygons) (edge-listed name faces part whole is.polygons edge listed)))
        ∙ ap (λ i. get_or (map g (child_masks whole scheme)) i d) (sym (name-edge name faces part whole is.polygons edge listed))

-- a part that is a record
module _ (part : LevelPart) (over : IsOverPoints part) (scheme : Scheme) (x : NextPoint part) where
  abbrev IsLevelMask : Mask → Mask → Type 0
  IsLevelMask mask other = IsMaskIn part.name part.faces (λ p. is_corner part.level.polygons p) (λ k. nat_lt k (length part.level.polygons)) mask other

  next-same : {X : Type 0} (f g : Mask → X) (d : X) → ((mask in_mask : Mask) → IsLevelMask mask in_mask → f mask ≡ g in_mask) → get_or (map f (child_masks part.level scheme)) (number_of x) d ≡ get_or (map g (child_masks part.whole scheme)) (name_next part (number_of x)) d
  next-same f g d agree = go x
    where
      go : (y : NextPoint part) → get_or (map f (child_masks part.level scheme)) (number_of y) d ≡ get_or (map g (child_masks part.whole scheme)) (name_next part (number_of y)) d
      go (Old at) = next-old part.name part.faces part.level part.whole part.is_part over.level over.whole scheme f g d agree at.point at.is_there at.has_all
      go (NewOfFace k inside) = next-face part.name part.faces part.level part.whole part.is_part over.level over.whole scheme f g d agree k inside
      go (NewOfEdge along) = next-edge part.name part.faces part.level part.whole part.is_part over.level over.whole scheme f g d agree along.edge along.is_edge along.has_all

  pub next-masks : get_or (child_masks part.whole scheme) (name_next part (number_of x)) (mask_of [] 1) ≡ mask_in part.name part.faces (get_or (child_masks part.level scheme) (number_of x) (mask_of [] 1))
  next-masks =
      let none = mask_of [] 1 in
      ap (λ l. get_or l (name_next part (number_of x)) none) (sym (map-id (child_masks part.whole scheme)))
      ∙ sym (next-same (mask_in part.name part.faces) (λ m. m) none (λ mask in_mask h. sym h.in_whole))
      ∙ get_or-mapped (mask_in part.name part.faces) (child_masks part.level scheme) (number_of x) none

  pub next-values : (shared : SharedItems part (whole_value (pos 0))) → point_value (child_values part.level scheme shared.of_part) (number_of x) ≡ point_value (child_values part.whole scheme shared.of_whole) (name_next part (number_of x))
  next-values shared =
      next-same (mask_value (source_value part.level shared.of_part)) (mask_value (source_value part.whole shared.of_whole)) (whole_value (pos 0)) (λ mask in_mask h.
      value-in part.name part.faces part.level part.whole part.is_part (source_value part.level shared.of_part) (source_value part.whole shared.of_whole)
      (source-values part.name part.faces part.level part.whole part.is_part shared.of_part shared.of_whole shared.same) mask in_mask h)

  pub next-denominators : (shared : SharedItems {X = ℕ} part 1) → get_or (child_denominators part.level scheme shared.of_part) (number_of x) 1 ≡ get_or (child_denominators part.whole scheme shared.of_whole) (name_next part (number_of x)) 1
  next-denominators shared =
      next-same (mask_denominator (source_denominator part.level shared.of_part)) (mask_denominator (source_denominator part.whole shared.of_whole)) 1 (λ mask in_mask h.
      number-in part.name part.faces part.level part.whole part.is_part (source_denominator part.level shared.of_part) (source_denominator part.whole shared.of_whole)
      (source-denominators part.name part.faces part.level part.whole part.is_part shared.of_part shared.of_whole shared.same) mask in_mask h)

  pub next-supports : (n : ℕ) (shared : SharedItems part []) → get_or (child_supports n part.level scheme shared.of_part) (number_of x) [] ≡ get_or (child_supports n part.whole scheme shared.of_whole) (name_next part (number_of x)) []
  next-supports n shared =
      next-same (mask_support n (source_support n part.level shared.of_part)) (mask_support n (source_support n part.whole shared.of_whole)) [] (λ mask in_mask h.
      support-in part.name part.faces part.level part.whole part.is_part n (source_support n part.level shared.of_part) (source_support n part.whole shared.of_whole)
      (source-supports part.name part.faces part.level part.whole part.is_part n shared.of_part shared.of_whole shared.same) mask in_mask h)
