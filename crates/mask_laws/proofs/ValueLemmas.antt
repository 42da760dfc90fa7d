-- Values that move when what they are made of moves.
use Rattle.std.proofs.Common.{◌≡◌, ℕ, zero, suc, ◌+◌, ◌*◌, ◌<◌, ℤ, pos, ◌+ℤ◌, ◌*ℤ◌, arith, refl, ap, sym, ◌∙◌, List, [], ◌∷◌, ◌++◌, map, subst, Bool, true, false, length, get_or, nat_lt, length-append, zero-add}
use Rattle.std.specs.List.{AllByRecursion}
use Rattle.std.proofs.lemmas.List.Sums.{sum_by-cons}
use Rattle.std.proofs.Math.IntN.{*ℤ_comm, zero-*ℤ, +ℤ_idr}
use Rattle.std.specs.List.{AllZip, list_all, range_with_len}
use Rattle.std.proofs.lemmas.Bool.{and_parts, ltb-true, eqb-true, false≢true}
use Rattle.std.proofs.lemmas.List.Elements.{AllZip-get_or}
use Rattle.std.proofs.lemmas.List.Folds.{list_all-append, list_all-map}
use Rattle.std.proofs.lemmas.List.Sums.{AllPass-from_list_all}
use Rattle.std.proofs.lemmas.List.FromFn.{get_or-range_with_len, length-range_with_len, length-map-range_with_len}
use Rattle.std.proofs.lemmas.List.{length-map}
use Rattle.subdiv_model.specs.Edges.{edges_of}
use Rattle.subdiv_model.specs.Level.{Level}
use Rattle.subdiv_model.specs.Child.{child_level, refined_level}
use Rattle.subdiv_model.specs.Mask.{SourcePoint, OfPoint, OfFace, Term, Mask, Scheme, weigh_points, total_weight, is_mean, is_mean_of, is_source_of, has_means, face_mask, edge_mask, vertex_mask, child_masks}
use Rattle.subdiv_model.specs.Value.{Value, IsSameValue, plus_value, weighted, sum_of_values, whole_value}
use Rattle.subdiv_model.specs.Refined.{AreTranslatedBy, mask_value, point_value, corner_value, source_value, face_value, child_values, refined_values, control_values, translated_controls}
use Rattle.number_laws.proofs.WholeNumberLemmas.{pos-distrib, pos-sum, pos-assoc, pos-swap, pos-cancel, times-one, swap_middle}
use Rattle.mask_laws.proofs.SourceLemmas.{from-mask_of}

-- y is x plus a whole number, over the same denominator
pub record IsMoved (t : ℤ) (x y : Value) : Type 0 where
  pub den : y.den ≡ x.den
  pub num : y.num ≡ x.num +ℤ pos x.den *ℤ t

abbrev pub AreMoved : ℤ → List Value → List Value → Type 0
AreMoved t xs ys = AllZip (IsMoved t) xs ys

-- a term of weight w, whose value a/b moves by t, before a sum over the denominator d
term-moved : (q w b d : ℕ) (a t : ℤ)
    → pos q *ℤ (pos d *ℤ (pos w *ℤ (a +ℤ pos b *ℤ t))) ≡ pos q *ℤ (pos d *ℤ (pos w *ℤ a)) +ℤ pos (q * (d * (w * b))) *ℤ t
term-moved q w b d a t =
    ap (λ z. pos q *ℤ (pos d *ℤ z)) (pos-distrib w a (pos b *ℤ t) ∙ ap (λ z. pos w *ℤ a +ℤ z) (pos-assoc w b t))
    ∙ ap (λ z. pos q *ℤ z) (pos-distrib d (pos w *ℤ a) (pos (w * b) *ℤ t)
    ∙ ap (λ z. pos d *ℤ (pos w *ℤ a) +ℤ z) (pos-assoc d (w * b) t))
    ∙ pos-distrib q (pos d *ℤ (pos w *ℤ a)) (pos (d * (w * b)) *ℤ t)
    ∙ ap (λ z. pos q *ℤ (pos d *ℤ (pos w *ℤ a)) +ℤ z) (pos-assoc q (d * (w * b)) t)

-- the sum after it
rest-moved : (q b d total : ℕ) (t r s : ℤ) → pos q *ℤ s ≡ pos q *ℤ r +ℤ pos (total * d) *ℤ t
    → pos q *ℤ (pos (q * b) *ℤ s) ≡ pos q *ℤ (pos (q * b) *ℤ r) +ℤ pos (q * b * (total * d)) *ℤ t
rest-moved q b d total t r s e =
    pos-swap q (q * b) s
    ∙ ap (λ z. pos (q * b) *ℤ z) e
    ∙ pos-distrib (q * b) (pos q *ℤ r) (pos (total * d) *ℤ t)
    ∙ ap (λ z. z +ℤ pos (q * b) *ℤ (pos (total * d) *ℤ t)) (pos-swap (q * b) q r)
    ∙ ap (λ z. pos q *ℤ (pos (q * b) *ℤ r) +ℤ z) (pos-assoc (q * b) (total * d) t)

both-moved : (q w b d total : ℕ) (a t r s : ℤ) → pos q *ℤ s ≡ pos q *ℤ r +ℤ pos (total * d) *ℤ t
    → pos q *ℤ ((pos w *ℤ (a +ℤ pos b *ℤ t)) *ℤ pos d +ℤ s *ℤ pos (q * b))
    ≡ pos q *ℤ ((pos w *ℤ a) *ℤ pos d +ℤ r *ℤ pos (q * b)) +ℤ pos ((w + total) * (q * b * d)) *ℤ t
both-moved q w b d total a t r s e =
    let weights : q * (d * (w * b)) + q * b * (total * d) ≡ (w + total) * (q * b * d) = omega arith in
    ap (λ z. pos q *ℤ z)
    (ap (λ z. z +ℤ s *ℤ pos (q * b)) (*ℤ_comm (pos w *ℤ (a +ℤ pos b *ℤ t)) (pos d))
    ∙ ap (λ z. pos d *ℤ (pos w *ℤ (a +ℤ pos b *ℤ t)) +ℤ z) (*ℤ_comm s (pos (q * b))))
    ∙ pos-distrib q (pos d *ℤ (pos w *ℤ (a +ℤ pos b *ℤ t))) (pos (q * b) *ℤ s)
    ∙ ap (λ z. z +ℤ pos q *ℤ (pos (q * b) *ℤ s)) (term-moved q w b d a t)
    ∙ ap (λ z. (pos q *ℤ (pos d *ℤ (pos w *ℤ a)) +ℤ pos (q * (d * (w * b))) *ℤ t) +ℤ z) (rest-moved q b d total t r s e)
    ∙ swap_middle (pos q *ℤ (pos d *ℤ (pos w *ℤ a))) (pos (q * (d * (w * b))) *ℤ t) (pos q *ℤ (pos (q * b) *ℤ r))
    (pos (q * b * (total * d)) *ℤ t)
    ∙ ap (λ z. (pos q *ℤ (pos d *ℤ (pos w *ℤ a)) +ℤ pos q *ℤ (pos (q * b) *ℤ r)) +ℤ z)
    (pos-sum (q * (d * (w * b))) (q * b * (total * d)) t ∙ ap (λ n. pos n *ℤ t) weights)
    ∙ ap (λ z. z +ℤ pos ((w + total) * (q * b * d)) *ℤ t) (sym (pos-distrib q (pos d *ℤ (pos w *ℤ a)) (pos (q * b) *ℤ r)))
    ∙ ap (λ z. pos q *ℤ z +ℤ pos ((w + total) * (q * b * d)) *ℤ t)
    (ap (λ z. z +ℤ pos (q * b) *ℤ r) (*ℤ_comm (pos d) (pos w *ℤ a)) ∙ ap (λ z. (pos w *ℤ a) *ℤ pos d +ℤ z) (*ℤ_comm (pos (q * b)) r))

-- a sum over the denominator d, whose weights sum to `total`, each over q
pub record SumMoved (q total : ℕ) (t : ℤ) (x y : Value) : Type 0 where
  pub den : y.den ≡ x.den
  pub num : pos q *ℤ y.num ≡ pos q *ℤ x.num +ℤ pos (total * x.den) *ℤ t

abbrev weighted_terms : ℕ → (SourcePoint → Value) → List Term → List Value
weighted_terms q value terms = map (λ term. weighted term.weight q (value term.source)) terms

abbrev pub EachMoved : ℤ → (SourcePoint → Value) → (SourcePoint → Value) → List Term → Type 0
EachMoved t value moved terms = AllByRecursion (λ term. IsMoved t (value term.source) (moved term.source)) terms

plus-moved : (q w total : ℕ) (t : ℤ) (x y r s : Value) → IsMoved t x y → SumMoved q total t r s
    → SumMoved q (w + total) t (plus_value (weighted w q x) r) (plus_value (weighted w q y) s)
plus-moved q w total t x y r s a b = record {
  den = cc;
  num =
      ap (λ n. pos q *ℤ ((pos w *ℤ n) *ℤ pos s.den +ℤ s.num *ℤ pos (q * y.den))) a.num
      ∙ ap (λ n. pos q *ℤ ((pos w *ℤ (x.num +ℤ pos x.den *ℤ t)) *ℤ pos n +ℤ s.num *ℤ pos (q * y.den))) b.den
      ∙ ap (λ n. pos q *ℤ ((pos w *ℤ (x.num +ℤ pos x.den *ℤ t)) *ℤ pos r.den +ℤ s.num *ℤ pos (q * n))) a.den
      ∙ both-moved q w x.den r.den total x.num t r.num s.num b.num;
}

pub sum-moved : (q : ℕ) (t : ℤ) (value moved : SourcePoint → Value) (terms : List Term) → EachMoved t value moved terms
    → SumMoved q (total_weight terms) t (sum_of_values (weighted_terms q value terms)) (sum_of_values (weighted_terms q moved terms))
sum-moved q t value moved [] each = record {
  den = refl;
  num = sym (ap (λ z. pos (q * 0) +ℤ z) (zero-*ℤ t) ∙ +ℤ_idr (pos (q * 0)));
}
sum-moved q t value moved (term ∷ terms) each =
    let P : ℕ → Type 0 =
    λ n. SumMoved q n t (sum_of_values (weighted_terms q value (term ∷ terms))) (sum_of_values (weighted_terms q moved (term ∷ terms))) in
    subst P (sym (sum_by-cons (λ (u : Term). u.weight) term terms))
    (plus-moved q term.weight (total_weight terms) t (value term.source) (moved term.source) _ _ each.0 (sum-moved q t value moved terms each.1))

mean-moved : (q total : ℕ) (t : ℤ) (x y : Value) → total ≡ q → 0 < q → SumMoved q total t x y → IsMoved t x y
mean-moved q total t x y whole positive h = record {
  den = h.den;
  num =
      pos-cancel q y.num (x.num +ℤ pos x.den *ℤ t) positive (h.num
      ∙ ap (λ n. pos q *ℤ x.num +ℤ pos (n * x.den) *ℤ t) whole
      ∙ ap (λ z. pos q *ℤ x.num +ℤ z) (sym (pos-assoc q x.den t))
      ∙ sym (pos-distrib q x.num (pos x.den *ℤ t)));
}

-- a mean of values that move by t moves by t
mask-moved : (t : ℤ) (value moved : SourcePoint → Value) (mask : Mask) → is_mean mask ≡ true → EachMoved t value moved mask.terms
    → IsMoved t (mask_value value mask) (mask_value moved mask)
mask-moved t value moved mask mean each =
    let parts = and_parts _ _ (and_parts _ _ mean).1 in
    mean-moved mask.denominator
    (total_weight mask.terms) t _ _ (eqb-true _ _ parts.0) (ltb-true _ _ parts.1) (sum-moved mask.denominator t value moved mask.terms each)

-- the level's points, as many as the values
pub record PointsMoved (level : Level) (t : ℤ) (xs ys : List Value) : Type 0 where
  pub all : AreMoved t xs ys
  pub count : length xs ≡ level.point_count

point-moved : (level : Level) (t : ℤ) (xs ys : List Value) (v : ℕ) → PointsMoved level t xs ys → nat_lt v level.point_count ≡ true
    → IsMoved t (point_value xs v) (point_value ys v)
point-moved level t xs ys v h inside =
    let below : v < level.point_count = ltb-true _ _ inside in
    AllZip-get_or (IsMoved t) xs ys v (whole_value (pos 0)) (whole_value (pos 0)) h.all (omega (arith, h.count))

abbrev of_level : Level → List Term → Bool
of_level level terms = list_all (λ term. is_source_of level term.source) terms

abbrev is_point : SourcePoint → Bool
is_point (OfPoint v) = true
is_point (OfFace f) = false

-- the terms of a face's mask are points
corners-are-points : (w : ℕ) (corners : List ℕ) → list_all (λ term. is_point term.source) (weigh_points w corners) ≡ true
corners-are-points w [] = refl
corners-are-points w (c ∷ corners) = corners-are-points w corners

corner-moved : (level : Level) (t : ℤ) (xs ys : List Value) (source : SourcePoint) → PointsMoved level t xs ys → is_point source ≡ true
    → is_source_of level source ≡ true → IsMoved t (corner_value xs source) (corner_value ys source)
corner-moved level t xs ys (OfPoint v) h point inside = point-moved level t xs ys v h inside
corner-moved level t xs ys (OfFace f) h point inside = absurd (false≢true point)

corners-moved : (level : Level) (t : ℤ) (xs ys : List Value) (terms : List Term) → PointsMoved level t xs ys
    → list_all (λ term. is_point term.source) terms ≡ true → of_level level terms ≡ true
    → EachMoved t (corner_value xs) (corner_value ys) terms
corners-moved level t xs ys [] h points inside = tt
corners-moved level t xs ys (term ∷ terms) h points inside =
    let here = and_parts (is_point term.source) (list_all (λ other. is_point other.source) terms) points in
    let parts = and_parts (is_source_of level term.source) (of_level level terms) inside in
    (corner-moved level t xs ys term.source h here.0 parts.0, corners-moved level t xs ys terms h here.1 parts.1)

face-moved : (level : Level) (t : ℤ) (xs ys : List Value) (f : ℕ) → PointsMoved level t xs ys → is_mean_of level (face_mask level f) ≡ true
    → IsMoved t (face_value level xs f) (face_value level ys f)
face-moved level t xs ys f h mean =
    let parts = and_parts _ _ mean in
    let corners = get_or level.polygons f [] in
    let points = from-mask_of is_point (weigh_points 1 corners) (length corners) (corners-are-points 1 corners) in
    mask-moved t (corner_value xs) (corner_value ys) (face_mask level f) parts.0
    (corners-moved level t xs ys (face_mask level f).terms h points parts.1)

-- the masks of all faces are means
abbrev FaceMeans : Level → Type 0
FaceMeans level = (f : ℕ) → f < length level.polygons → is_mean_of level (face_mask level f) ≡ true

source-moved : (level : Level) (t : ℤ) (xs ys : List Value) (source : SourcePoint) → PointsMoved level t xs ys → FaceMeans level
    → is_source_of level source ≡ true → IsMoved t (source_value level xs source) (source_value level ys source)
source-moved level t xs ys (OfPoint v) h faces inside = point-moved level t xs ys v h inside
source-moved level t xs ys (OfFace f) h faces inside = face-moved level t xs ys f h (faces f (ltb-true _ _ inside))

terms-moved : (level : Level) (t : ℤ) (xs ys : List Value) (terms : List Term) → PointsMoved level t xs ys → FaceMeans level
    → of_level level terms ≡ true → EachMoved t (source_value level xs) (source_value level ys) terms
terms-moved level t xs ys [] h faces inside = tt
terms-moved level t xs ys (term ∷ terms) h faces inside =
    let parts = and_parts _ _ inside in
    (source-moved level t xs ys term.source h faces parts.0, terms-moved level t xs ys terms h faces parts.1)

masks-moved : (level : Level) (t : ℤ) (xs ys : List Value) (masks : List Mask) → PointsMoved level t xs ys → FaceMeans level
    → list_all (is_mean_of level) masks ≡ true
    → AreMoved t (map (mask_value (source_value level xs)) masks) (map (mask_value (source_value level ys)) masks)
masks-moved level t xs ys [] h faces means = tt
masks-moved level t xs ys (mask ∷ masks) h faces means =
    let parts = and_parts _ _ means in
    let mean = and_parts _ _ parts.0 in (
      mask-moved t (source_value level xs) (source_value level ys) mask mean.0 (terms-moved level t xs ys mask.terms h faces mean.1),
      masks-moved level t xs ys masks h faces parts.1,
    )

face-means : (level : Level) (scheme : Scheme) → has_means level scheme ≡ true → FaceMeans level
face-means level scheme means f inside =
    let placed : f < length (range_with_len 0 (length level.polygons)) = rw (length-range_with_len 0 (length level.polygons)) inside in
    let vertices = map (vertex_mask level scheme) (range_with_len 0 level.point_count) in
    let faces = map (face_mask level) (range_with_len 0 (length level.polygons)) in
    let edges = map (edge_mask level scheme) (edges_of level.polygons) in
    let rest : list_all (is_mean_of level) (faces ++ edges) ≡ true =
    (and_parts _ _ (sym (list_all-append (is_mean_of level) vertices (faces ++ edges)) ∙ means)).1 in
    let here : list_all (is_mean_of level) faces ≡ true = (and_parts _ _ (sym (list_all-append (is_mean_of level) faces edges) ∙ rest)).0 in
    let each : list_all (λ g. is_mean_of level (face_mask level g)) (range_with_len 0 (length level.polygons)) ≡ true =
    sym (list_all-map (is_mean_of level) (face_mask level) (range_with_len 0 (length level.polygons))) ∙ here in
    let at = AllPass-from_list_all (λ g. is_mean_of level (face_mask level g)) (range_with_len 0 (length level.polygons)) each f 0 placed in
    let place : f ≡ 0 + f = sym (zero-add f) in
    ap (λ g. is_mean_of level (face_mask level g)) (place ∙ sym (get_or-range_with_len 0 (length level.polygons) f 0 inside)) ∙ at

length-child_values : (level : Level) (scheme : Scheme) (values : List Value)
    → length (child_values level scheme values) ≡ (child_level level).point_count
length-child_values level scheme values =
    let vertices = map (vertex_mask level scheme) (range_with_len 0 level.point_count) in
    let faces = map (face_mask level) (range_with_len 0 (length level.polygons)) in
    let edges = map (edge_mask level scheme) (edges_of level.polygons) in
    omega (
      arith,
      length-map (child_masks level scheme) (mask_value (source_value level values)),
      length-append vertices (faces ++ edges),
      length-append faces edges,
      length-map-range_with_len (vertex_mask level scheme) 0 level.point_count,
      length-map-range_with_len (face_mask level) 0 (length level.polygons),
      length-map (edges_of level.polygons) (edge_mask level scheme),
    )

step-moved : (level : Level) (scheme : Scheme) (t : ℤ) (xs ys : List Value) → has_means level scheme ≡ true → PointsMoved level t xs ys
    → PointsMoved (child_level level) t (child_values level scheme xs) (child_values level scheme ys)
step-moved level scheme t xs ys means h = record {
  all = masks-moved level t xs ys (child_masks level scheme) h (face-means level scheme means) means;
  count = length-child_values level scheme xs;
}

pub refined-moved : (level : Level) (scheme : Scheme) (t : ℤ) (xs ys : List Value) (k : ℕ)
    → ((j : ℕ) → j < k → has_means (refined_level level j) scheme ≡ true) → PointsMoved level t xs ys
    → PointsMoved (refined_level level k) t (refined_values level scheme xs k) (refined_values level scheme ys k)
refined-moved level scheme t xs ys zero means h = h
refined-moved level scheme t xs ys (suc k) means h =
    step-moved (refined_level level k) scheme t _ _ (means k (omega arith))
    (refined-moved level scheme t xs ys k (λ j below. means j (omega arith)) h)

controls-moved : (t : ℤ) (controls : List ℤ) → AreMoved t (control_values controls) (control_values (translated_controls t controls))
controls-moved t [] = tt
controls-moved t (c ∷ controls) = (
  record { den = refl; num = sym (ap (λ z. c +ℤ z) (*ℤ_comm (pos 1) t ∙ times-one t)) },
  controls-moved t controls,
)

-- a value that moved is the sum of the value and the whole number
moved-same : (t : ℤ) (x y : Value) → IsMoved t x y → IsSameValue y (plus_value x (whole_value t))
moved-same t x y h =
    let over : x.den * 1 ≡ y.den = omega (arith, h.den) in
    ap (λ z. z *ℤ pos (x.den * 1)) h.num
    ∙ ap (λ n. (x.num +ℤ pos x.den *ℤ t) *ℤ pos n) over
    ∙ ap (λ z. z *ℤ pos y.den)
    (ap (λ z. z +ℤ pos x.den *ℤ t) (sym (times-one x.num)) ∙ ap (λ z. x.num *ℤ pos 1 +ℤ z) (*ℤ_comm (pos x.den) t))

all-same : (t : ℤ) (xs ys : List Value) → AreMoved t xs ys → AreTranslatedBy t xs ys
all-same t [] [] h = tt
all-same t [] (y ∷ ys) h = absurd h
all-same t (x ∷ xs) [] h = absurd h
all-same t (x ∷ xs) (y ∷ ys) h = (moved-same t x y h.0, all-same t xs ys h.1)

pub refined-moved_by : (level : Level) (scheme : Scheme) (controls : List ℤ) (t : ℤ) (k : ℕ) → length controls ≡ level.point_count
    → ((j : ℕ) → j < k → has_means (refined_level level j) scheme ≡ true)
    → AreTranslatedBy t (refined_values level scheme (control_values controls) k)
    (refined_values level scheme (control_values (translated_controls t controls)) k)
refined-moved_by level scheme controls t k count means =
    all-same t _ _ (refined-moved level scheme t _ _ k means (record {
      all = controls-moved t controls;
      count = length-map controls whole_value ∙ count;
    })).all
