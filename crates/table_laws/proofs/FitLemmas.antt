-- The table of a composed mesh can be evaluated over the points of the mesh.
use Rattle.std.proofs.Common.{◌≡◌, ℕ, zero, suc, ◌+◌, ◌*◌, ◌^◌, ◌<◌, ◌≤◌, ℤ, unsigned_abs, Bool, true, false, not, max, List, [], ◌∷◌, ◌++◌, length, map, get_or, Option, Some, None, arith, refl, ap, sym, subst, ◌∙◌, ltb-false, le-ltb, eq-eqb, lit≤, le_trans, le_of_lt, one-mul}
use Rattle.std.specs.List.{All, AllByRecursion, fold, flat_map, range_with_len, enumerate_from}
use Rattle.std.proofs.Math.Nat.{max-le}
use Rattle.std.proofs.lemmas.Bool.{cond-false}
use Rattle.std.proofs.lemmas.List.{length-map}
use Rattle.std.proofs.lemmas.List.FromFn.{length-map-range_with_len}
use Rattle.std.proofs.lemmas.List.Elements.{recursion_from_All}
use Rattle.subdiv_model.specs.Base.{base_level}
use Rattle.subdiv_model.specs.Channel.{Channel, Tables, number_bound, greatest_amount, fault_where, overflow_where, whole_levels, has_chaikin_overflow, has_transition_overflow, has_denominator_overflow, has_value_overflow, has_many_entries, level_faults, channel_faults}
use Rattle.subdiv_model.specs.Fault.{Fault, TooLarge, Entries, Overflow, Track, Positions, ChaikinOverflow, TransitionOverflow, DenominatorOverflow, ValueOverflow}
use Rattle.subdiv_model.specs.Level.{Level}
use Rattle.subdiv_model.specs.Limits.{count_faults, level_count_faults}
use Rattle.subdiv_model.specs.Lists.{first_of}
use Rattle.subdiv_model.specs.Child.{refined_level}
use Rattle.subdiv_model.specs.Mask.{Scheme, CatmullClark, child_masks}
use Rattle.subdiv_model.specs.MeshFault.{MeshFault, first_mesh_fault}
use Rattle.subdiv_model.specs.ObjFault.{ObjFault}
use Rattle.subdiv_model.specs.ObjMesh.{ObjMesh}
use Rattle.subdiv_model.specs.Refined.{mask_denominator, source_denominator, refined_denominators}
use Rattle.subdiv_model.specs.Short.{IsShortPoint}
use Rattle.subdiv_model.specs.Support.{refined_supports}
use Rattle.subdiv_model.specs.Table.{Row, level_row, level_table, greatest_of}
use Rattle.far_model.specs.Answer.{positions_of, table_faults, answer_of_checked, answer_of_read, own_table}
use Rattle.far_model.specs.Command.{Stencils}
use Rattle.far_model.specs.Refusal.{answer_unless}
use Rattle.far_model.specs.Stored.{point_numbers, evaluation_fault}
use Rattle.stencil_laws.proofs.SupportLemmas.{length-child_masks, length-supports}
use Rattle.table_laws.proofs.CommonLemmas.{no-some}

-- Lists without an item.

no-first : {X : Type 0} (xs : List X) → first_of xs ≡ None → xs ≡ []
no-first [] none = refl
no-first (x ∷ xs) none = absurd (no-some none)

no-end : {X : Type 0} (xs ys : List X) → xs ++ ys ≡ [] → ys ≡ []
no-end [] ys none = none
no-end (x ∷ xs) ys none = let long = ap length none in absurd (omega (arith, long))

pub no-begin : {X : Type 0} (xs ys : List X) → xs ++ ys ≡ [] → xs ≡ []
no-begin [] ys none = refl
no-begin (x ∷ xs) ys none = let long = ap length none in absurd (omega (arith, long))

none-at : {X : Type 0} (f : ℕ → List X) (start count i : ℕ) → flat_map f (range_with_len start count) ≡ [] → i < count → f (start + i) ≡ []
none-at f start zero i none inside = absurd (omega arith)
none-at f start (suc count) zero none inside =
    let here : start + 0 ≡ start = omega arith in ap f here ∙ no-begin (f start) (flat_map f (range_with_len (start + 1) count)) none
none-at f start (suc count) (suc i) none inside =
    let next : start + suc i ≡ start + 1 + i = omega arith in
    ap f next ∙ none-at f (start + 1) count i (no-end (f start) (flat_map f (range_with_len (start + 1) count)) none) (omega arith)

pub no-fault-where : (stands : Bool) (fault : Fault) → fault_where stands fault ≡ [] → stands ≡ false
no-fault-where false fault none = refl
no-fault-where true fault none = let long = ap length none in absurd (omega (arith, long))

-- Facts of a mesh whose table is not refused.

-- the text has no fault, and no table has a fault
pub record IsComposed (depth : ℕ) (fault : Option ObjFault) (mesh : ObjMesh) : Type 0 where
  pub read_well : fault ≡ None
  pub is_mesh : first_mesh_fault (length mesh.points) mesh.faces ≡ None
  pub counts : count_faults mesh ≡ []
  pub levels : level_count_faults mesh.faces depth ≡ []
  pub channel : channel_faults Tables (positions_of mesh) Positions depth ≡ []

pub unrefused : (fault : Option Fault) (text : List ℕ) → (answer_unless fault text).refusal ≡ None → fault ≡ None
unrefused None text none = refl
unrefused (Some fault) text none = none

checked-composed : (depth : ℕ) (checked : Option MeshFault) (mesh : ObjMesh) → (answer_of_checked (Stencils depth) checked mesh).refusal ≡ None
    → (checked ≡ None) × (count_faults mesh ++ table_faults depth mesh ≡ [])
checked-composed depth None mesh none = (refl, no-first (count_faults mesh ++ table_faults depth mesh) (unrefused _ _ none))
checked-composed depth (Some fault) mesh none = absurd (no-some none)

pub is-composed : (depth : ℕ) (fault : Option ObjFault) (mesh : ObjMesh) → (answer_of_read (Stencils depth) fault mesh).refusal ≡ None → IsComposed depth fault mesh
is-composed depth None mesh none =
    let parts = checked-composed depth (first_mesh_fault (length mesh.points) mesh.faces) mesh none in
    let faults = no-end (count_faults mesh) (table_faults depth mesh) parts.1 in
    record {
      read_well = refl;
      is_mesh = parts.0;
      counts = no-begin (count_faults mesh) (table_faults depth mesh) parts.1;
      levels = no-begin (level_count_faults mesh.faces depth) (channel_faults Tables (positions_of mesh) Positions depth) faults;
      channel = no-end (level_count_faults mesh.faces depth) (channel_faults Tables (positions_of mesh) Positions depth) faults;
    }
is-composed depth (Some fault) mesh none = absurd (no-some none)

-- no number of the level after k + 1 steps passes its bound
pub record AreWithinBounds (channel : Channel) (k : ℕ) : Type 0 where
  pub denominators : has_denominator_overflow (whole_levels channel) k ≡ false
  pub entries : has_many_entries (whole_levels channel) k ≡ false
  pub numerators : has_value_overflow (whole_levels channel) k ≡ false

pub within-bounds : (channel : Channel) (track : Track) (k : ℕ) → channel_faults Tables channel track (suc k) ≡ [] → AreWithinBounds channel k
within-bounds channel track k none =
    let levels = whole_levels channel in
    let chaikin : List Fault = overflow_where (has_chaikin_overflow levels k) track k ChaikinOverflow in
    let transition : List Fault = overflow_where (has_transition_overflow levels k) track k TransitionOverflow in
    let denominator : List Fault = overflow_where (has_denominator_overflow levels k) track k DenominatorOverflow in
    let entries : List Fault = fault_where (has_many_entries levels k) (TooLarge (Entries (suc k))) in
    let value : List Fault = overflow_where (has_value_overflow levels k) track k ValueOverflow in
    let last : k ≡ 0 + k = omega arith in
    let here : chaikin ++ (transition ++ (denominator ++ (entries ++ value))) ≡ [] =
    ap (level_faults Tables levels track) last ∙ none-at (level_faults Tables levels track) 0 (suc k) k none (omega arith) in
    let third = no-end transition (denominator ++ (entries ++ value)) (no-end chaikin (transition ++ (denominator ++ (entries ++ value))) here) in
    let fourth = no-end denominator (entries ++ value) third in
    record {
      denominators = no-fault-where (has_denominator_overflow levels k) (Overflow track (suc k) DenominatorOverflow) (no-begin denominator (entries ++ value) third);
      entries = no-fault-where (has_many_entries levels k) (TooLarge (Entries (suc k))) (no-begin entries value fourth);
      numerators = no-fault-where (has_value_overflow levels k) (Overflow track (suc k) ValueOverflow) (no-end entries value fourth);
    }

-- the denominators of the rows of a level are those of its points
dens-from : (level : Level) (scheme : Scheme) (k start : ℕ) (supports : List (List ℕ)) (dens : List ℕ) → length supports ≡ length dens
    → ((i : ℕ) → i < length dens → get_or dens i 1 ≡ get_or (refined_denominators level scheme k) (start + i) 1)
    → map (λ (row : Row). row.den) (map (level_row level scheme k) (enumerate_from start supports)) ≡ dens
dens-from level scheme k start [] [] same own = refl
dens-from level scheme k start [] (den ∷ dens) same own = absurd (omega (arith, same))
dens-from level scheme k start (support ∷ supports) [] same own = absurd (omega (arith, same))
dens-from level scheme k start (support ∷ supports) (den ∷ dens) same own =
    let here : start + 0 ≡ start = omega arith in
    let all = refined_denominators level scheme k in
    let shift : (i : ℕ) → start + suc i ≡ start + 1 + i = λ i. omega arith in
    ap (λ d. d ∷ map (λ (row : Row). row.den) (map (level_row level scheme k) (enumerate_from (start + 1) supports)))
    (sym (own 0 (omega arith) ∙ ap (λ p. get_or all p 1) here))
    ∙ ap (λ rest. den ∷ rest)
    (dens-from level scheme k (start + 1) supports dens (omega (arith, same)) (λ i inside. own (suc i) (omega (arith, inside)) ∙ ap (λ p. get_or all p 1) (shift i)))

length-dens : (level : Level) (scheme : Scheme) (k : ℕ) → length (refined_denominators level scheme k) ≡ (refined_level level k).point_count
length-dens level scheme zero = length-map-range_with_len (λ v. 1) 0 level.point_count
length-dens level scheme (suc k) =
    let here = refined_level level k in
    length-map (child_masks here scheme) (mask_denominator (source_denominator here (refined_denominators level scheme k))) ∙ length-child_masks here scheme

own-greatest : (level : Level) (scheme : Scheme) (k : ℕ) → greatest_of (level_table level scheme k) ≡ fold max 1 (refined_denominators level scheme k)
own-greatest level scheme k =
    let none : (i : ℕ) → i ≡ 0 + i = λ i. omega arith in
    ap (fold max 1)
    (dens-from level scheme k 0 (refined_supports level scheme k) (refined_denominators level scheme k) (length-supports level scheme k ∙ sym (length-dens level scheme k))
    (λ i inside. ap (λ p. get_or (refined_denominators level scheme k) p 1) (none i)))

ones : (points : List ℕ) → fold max 1 (map (λ v. 1) points) ≡ 1
ones [] = refl
ones (v ∷ points) = ones points

-- the numbers of short points are short
fold-below : (numbers : List ℤ) (start most : ℕ) → start ≤ most → AllByRecursion (λ n. unsigned_abs n ≤ most) numbers → fold max start (map unsigned_abs numbers) ≤ most
fold-below [] start most low all = low
fold-below (n ∷ numbers) start most low all = fold-below numbers (max start (unsigned_abs n)) most (max-le low all.0) all.1

short-numbers : (points : List (ℤ × ℤ × ℤ)) → AllByRecursion IsShortPoint points → AllByRecursion (λ n. unsigned_abs n ≤ 10 ^ 37) (point_numbers points)
short-numbers [] short = tt
short-numbers (p ∷ points) short = (le_of_lt short.0.0, (le_of_lt short.0.1, (le_of_lt short.0.2, short-numbers points short.1)))

amount-fits : (mesh : ObjMesh) → mesh.common ≤ 10 ^ 37 → All IsShortPoint mesh.points → max (greatest_amount (point_numbers mesh.points)) mesh.common ≤ number_bound
amount-fits mesh common points =
    le_trans
    (max-le (fold-below (point_numbers mesh.points) 0 (10 ^ 37) (lit≤ tt) (short-numbers mesh.points (recursion_from_All IsShortPoint mesh.points points))) common)
    (lit≤ tt)

fits : (depth : ℕ) (mesh : ObjMesh) → channel_faults Tables (positions_of mesh) Positions depth ≡ [] → mesh.common ≤ 10 ^ 37 → All IsShortPoint mesh.points
    → greatest_of (own_table depth mesh) * max (greatest_amount (point_numbers mesh.points)) mesh.common ≤ number_bound
fits zero mesh none common points =
    let one : greatest_of (own_table 0 mesh) ≡ 1 = own-greatest (base_level mesh) CatmullClark 0 ∙ ones (range_with_len 0 (length mesh.points)) in
    let most = max (greatest_amount (point_numbers mesh.points)) mesh.common in
    subst (λ n. n * most ≤ number_bound) (sym one) (subst (λ n. n ≤ number_bound) (sym (one-mul most)) (amount-fits mesh common points))
fits (suc k) mesh none common points =
    subst (λ n. n * max (greatest_amount (point_numbers mesh.points)) mesh.common ≤ number_bound) (sym (own-greatest (base_level mesh) CatmullClark (suc k)))
    (ltb-false number_bound _ (within-bounds (positions_of mesh) Positions k none).numerators)

-- the points of the mesh are accepted
pub can-evaluate : (depth : ℕ) (mesh : ObjMesh) → channel_faults Tables (positions_of mesh) Positions depth ≡ [] → mesh.common ≤ 10 ^ 37 → All IsShortPoint mesh.points
    → evaluation_fault (own_table depth mesh) mesh ≡ None
can-evaluate depth mesh none common points =
    cond-false _ _ _ (ap not (eq-eqb (length mesh.points) (length mesh.points) refl))
    ∙ cond-false _ _ _ (le-ltb number_bound _ (fits depth mesh none common points))
