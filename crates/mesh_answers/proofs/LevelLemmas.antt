-- The faults of levels, level by level.
use Rattle.std.proofs.Common.{◌≡◌, ℕ, zero, suc, ◌+◌, ◌-◌, ◌*◌, ◌<◌, ◌≤◌, ◌^◌, Bool, true, false, nat_lt, List, [], ◌∷◌, ◌++◌, length, Option, Some, None, arith, refl, ap, sym, subst, ◌∙◌}
use Rattle.std.specs.List.{flat_map, sum_by, range_with_len}
use Rattle.std.proofs.lemmas.Bool.Decides.{nat_tests}
use Rattle.std.proofs.lemmas.List.Sums.{sum_by-cons}
use Rattle.subdiv_model.specs.Lists.{first_of}
use Rattle.subdiv_model.specs.Polygons.{Polygon}
use Rattle.subdiv_model.specs.Level.{Level}
use Rattle.subdiv_model.specs.Child.{refined_level, faces_after}
use Rattle.subdiv_model.specs.ObjMesh.{ObjMesh}
use Rattle.subdiv_model.specs.Fault.{Fault, Track, TooLarge, LevelFaces}
use Rattle.subdiv_model.specs.Channel.{Channel, Asked, channel_faults, fault_where}
use Rattle.subdiv_model.specs.Limits.{face_limit, mesh_limit, level_count_faults, count_faults}
use Rattle.level_laws.proofs.FaceLemmas.{faces-after, child_polygons-length}
use Rattle.level_topology.specs.Topology.{Topology}
use Rattle.level_topology.specs.declared.counted.Counted.{Counted}
use Rattle.level_topology.specs.CountedText.{counted_of}
use Rattle.level_walk.specs.declared.fault.Cause.{Cause}
use Rattle.level_walk.specs.declared.fault.Cause.TheVariants.{TooManyFaces, Overflow, TooManyEntries, Memory}
use Rattle.mesh_check.specs.Counts.{count_named}
use Rattle.mesh_check.specs.Checked.{IsAccepted}
use Rattle.level_walk.specs.UniformFaults.{IsLevelFault, IsTooLarge}
use Rattle.level_walk.proofs.UniformFaultLemmas.{first-here, flat-none, first-from-0}
use Rattle.far_fault.specs.Walk.{fault_at}
use Rattle.mesh_answers.specs.Refusals.{IsFound, refusal_by}
use Rattle.mesh_answers.proofs.RefusalLemmas.{refusal-of-small}

-- the faults of the levels' faces
face-where : (n : ℕ) (fault : Fault) → n ≤ 2 ^ 22 → fault_where (nat_lt face_limit n) fault ≡ []
face-where n fault h = go (nat_lt face_limit n) refl
  where
    go : (b : Bool) → nat_lt face_limit n ≡ b → fault_where b fault ≡ []
    go true e = absurd (grind (arith, nat_tests))
    go false e = refl

face-here : (n : ℕ) (fault : Fault) → 2 ^ 22 < n → fault_where (nat_lt face_limit n) fault ≡ fault ∷ []
face-here n fault h = go (nat_lt face_limit n) refl
  where
    go : (b : Bool) → nat_lt face_limit n ≡ b → fault_where b fault ≡ fault ∷ []
    go true e = refl
    go false e = absurd (grind (arith, nat_tests))

pub no-large : (polygons : List Polygon) (depth : ℕ) → ((k : ℕ) → k < depth → faces_after polygons (suc k) ≤ 2 ^ 22) → level_count_faults polygons depth ≡ []
no-large polygons depth small =
    flat-none (λ k. fault_where (nat_lt face_limit (faces_after polygons (suc k))) (TooLarge (LevelFaces (suc k) (faces_after polygons (suc k))))) 0 depth
    (λ k h. face-where (faces_after polygons (suc k)) (TooLarge (LevelFaces (suc k) (faces_after polygons (suc k)))) (small k (omega (arith, h))))

pub first-large : (polygons : List Polygon) (k depth : ℕ) → k < depth → ((j : ℕ) → j < k → faces_after polygons (suc j) ≤ 2 ^ 22) →
    2 ^ 22 < faces_after polygons (suc k) → first_of (level_count_faults polygons depth) ≡ Some (TooLarge (LevelFaces (suc k) (faces_after polygons (suc k))))
first-large polygons k depth within small here =
    first-from-0 (λ k. fault_where (nat_lt face_limit (faces_after polygons (suc k))) (TooLarge (LevelFaces (suc k) (faces_after polygons (suc k))))) depth k
    (TooLarge (LevelFaces (suc k) (faces_after polygons (suc k)))) within
    (λ j h. face-where (faces_after polygons (suc j)) (TooLarge (LevelFaces (suc j) (faces_after polygons (suc j)))) (small j h))
    (ap first_of (face-here (faces_after polygons (suc k)) (TooLarge (LevelFaces (suc k) (faces_after polygons (suc k)))) here))

-- if no level has too many faces, this level has not
first-none : {X : Type 0} (xs ys : List X) → first_of (xs ++ ys) ≡ None → (xs ≡ []) × (first_of ys ≡ None)
first-none [] ys h = (refl, h)
first-none (x ∷ xs) ys h = absurd (cc)

none-each : {X : Type 0} (f : ℕ → List X) (a n gap : ℕ) → gap < n → first_of (flat_map f (range_with_len a n)) ≡ None → f (a + gap) ≡ []
none-each f a zero gap within none = absurd (omega (arith, within))
none-each f a (suc n) zero within none = ap f (plus-none a) ∙ (first-none (f a) (flat_map f (range_with_len (a + 1) n)) none).0
  where
    plus-none : (n : ℕ) → n + 0 ≡ n
    plus-none n = omega arith
none-each f a (suc n) (suc gap) within none =
    ap f (moved a gap) ∙ none-each f (a + 1) n gap (omega (arith, within)) (first-none (f a) (flat_map f (range_with_len (a + 1) n)) none).1
  where
    moved : (a gap : ℕ) → a + suc gap ≡ a + 1 + gap
    moved a gap = omega arith

pub few-not-large : (polygons : List Polygon) (depth k : ℕ) → k < depth → first_of (level_count_faults polygons depth) ≡ None → 2 ^ 22 < faces_after polygons (suc k) → ⊥
few-not-large polygons depth k within few large =
    let f : ℕ → List Fault = λ j. fault_where (nat_lt face_limit (faces_after polygons (suc j))) (TooLarge (LevelFaces (suc j) (faces_after polygons (suc j)))) in
    absurd (one-none _ (f k) (face-here (faces_after polygons (suc k)) (TooLarge (LevelFaces (suc k) (faces_after polygons (suc k)))) large) (ap f (sym (zero-plus k)) ∙ none-each f 0 depth k within few))
  where
    zero-plus : (k : ℕ) → 0 + k ≡ k
    zero-plus k = omega arith

    one-none : (fault : Fault) (xs : List Fault) → xs ≡ fault ∷ [] → xs ≡ [] → ⊥
    one-none fault xs e h = cc

-- the number of faces of the next level
pub next-count : (level : Level) (k : ℕ) → sum_by length (refined_level level k).polygons ≡ faces_after level.polygons (suc k)
next-count level k =
    sym (child_polygons-length (refined_level level k).point_count (refined_level level k).polygons) ∙ faces-after level (suc k)

-- a mesh that was accepted has few points
stands-not : (stands : Bool) (fault : Fault) (rest : List Fault) → first_of (fault_where stands fault ++ rest) ≡ None → stands ≡ false
stands-not true fault rest h = absurd (cc)
stands-not false fault rest h = refl

pub few-points : (mesh : ObjMesh) → first_of (count_faults mesh) ≡ None → length mesh.points ≤ 2 ^ 20
few-points mesh small =
    let not_large = stands-not (nat_lt mesh_limit (length mesh.points)) _ _ small in grind (arith, nat_tests)

-- the faces of the levels after the first
pub sum-same : {X : Type 0} (f g : X → ℕ) → ((x : X) → f x ≡ g x) → (xs : List X) → sum_by f xs ≡ sum_by g xs
sum-same f g same [] = refl
sum-same f g same (x ∷ xs) =
    let behind = sum-same f g same xs in
    let here = same x in
    omega (arith, sum_by-cons f x xs, sum_by-cons g x xs, behind, here)

pub steps-of-levels : (level : Level) (depth : ℕ) →
    sum_by (λ k. length (refined_level level k).polygons) (range_with_len 1 depth) ≡ sum_by (faces_after level.polygons) (range_with_len 1 depth)
steps-of-levels level depth = sum-same (λ k. length (refined_level level k).polygons) (faces_after level.polygons) (faces-after level) (range_with_len 1 depth)

-- a search from one level to the next
one-more : (k : ℕ) → k + 1 ≡ suc k
one-more k = omega arith

two-more : (k : ℕ) → k + 1 + 1 ≡ suc (suc k)
two-more k = omega arith

pub level-found : (polygons : List Polygon) (k depth count : ℕ) → k < depth → count ≡ faces_after polygons (k + 1) →
    ((j : ℕ) → j < k → faces_after polygons (suc j) ≤ 2 ^ 22) → 2 ^ 22 < count →
    Some (TooLarge (LevelFaces (k + 1) count)) ≡ first_of (level_count_faults polygons depth)
level-found polygons k depth count within is small large =
    let same : count ≡ faces_after polygons (suc k) = is ∙ ap (faces_after polygons) (one-more k) in
    ap (λ n. Some (TooLarge (LevelFaces n count))) (one-more k)
    ∙ ap (λ n. Some (TooLarge (LevelFaces (suc k) n))) same
    ∙ sym (first-large polygons k depth within small (subst (λ n. 2 ^ 22 < n) same large))

pub level-next : (polygons : List Polygon) (k count : ℕ) → count ≡ faces_after polygons (k + 1) → count * 4 ≡ faces_after polygons (k + 1 + 1)
level-next polygons k count is =
    let same : count ≡ faces_after polygons (suc k) = is ∙ ap (faces_after polygons) (one-more k) in
    let four : count * 4 ≡ 4 * faces_after polygons (suc k) = omega (arith, same) in
    four ∙ sym (ap (faces_after polygons) (two-more k))

pub few-next : (polygons : List Polygon) (k count : ℕ) → count ≡ faces_after polygons (k + 1) → count ≤ 2 ^ 22 →
    ((j : ℕ) → j < k → faces_after polygons (suc j) ≤ 2 ^ 22) → (j : ℕ) → j < k + 1 → faces_after polygons (suc j) ≤ 2 ^ 22
few-next polygons k count is small before j h = go (nat_lt j k) refl
  where
    here : nat_lt j k ≡ false → j < k + 1 → k ≡ j
    here e h = grind (arith, nat_tests)

    go : (b : Bool) → nat_lt j k ≡ b → faces_after polygons (suc j) ≤ 2 ^ 22
    go true e = before j (grind (arith, nat_tests))
    go false e = subst (λ n. faces_after polygons (suc n) ≤ 2 ^ 22) (here e h) (subst (λ n. n ≤ 2 ^ 22) (is ∙ ap (faces_after polygons) (one-more k)) small)

pub level-none : (polygons : List Polygon) (k depth : ℕ) → depth ≤ k → ((j : ℕ) → j < k → faces_after polygons (suc j) ≤ 2 ^ 22) →
    None ≡ first_of (level_count_faults polygons depth)
level-none polygons k depth all small = sym (ap first_of (no-large polygons depth (λ j h. small j (omega (arith, h, all)))))

-- the meaning of level 1's count for the levels of the mesh
module _ (mesh : ObjMesh) (level : Topology) (depth first : ℕ) (found : Option Counted) (accepted : IsAccepted mesh level) (sum : first ≡ sum_by length level.level.polygons)
    (shows : (polygons : List Polygon) → first ≡ sum_by length polygons → count_named found ≡ first_of (level_count_faults polygons depth)) where
  shown : first_of (level_count_faults mesh.faces depth) ≡ count_named found
  shown = sym (shows mesh.faces (sum ∙ ap (λ l. sum_by length l.polygons) accepted.level_is))

  pub few-levels : found ≡ None → first_of (level_count_faults mesh.faces depth) ≡ None
  few-levels none = shown ∙ ap count_named none

  pub large-level : (counted : Counted) (others : List Fault) → found ≡ Some counted →
      refusal_by (level_count_faults mesh.faces depth ++ others) mesh ≡ Some (TooLarge (counted_of counted))
  large-level counted others some =
      refusal-of-small mesh accepted.manifold (level_count_faults mesh.faces depth ++ others) accepted.small
      ∙ first-here (level_count_faults mesh.faces depth) others (TooLarge (counted_of counted)) (shown ∙ ap count_named some)

-- A walk over the levels of a channel, which have as many faces as the levels of the mesh.
module _ (asked : Asked) (channel : Channel) (mesh : ObjMesh) (depth : ℕ) (few : first_of (level_count_faults mesh.faces depth) ≡ None)
    (same : (n : ℕ) → faces_after channel.base.polygons n ≡ faces_after mesh.faces n) where
  -- no level whose number was checked before is too large
  not-too-large : (k count : ℕ) → k ≤ depth → IsTooLarge channel k count → ⊥
  not-too-large k count within fault =
      few-not-large mesh.faces depth (k - 1) (omega (arith, fault.after_level_0, within)) few
      (subst (λ c. 2 ^ 22 < c) (fault.count_is ∙ next-count channel.base (k - 1) ∙ same (suc (k - 1))) fault.many)

  -- the fault of the walk is the first of the channel
  pub found-of-walk : (track : Track) (level : ℕ) (cause : Cause) → IsLevelFault asked channel depth level cause →
      IsFound (fault_at track level cause) (first_of (channel_faults asked channel track depth))
  found-of-walk track level (TooManyFaces count) fault = absurd (not-too-large level count fault.within fault.is)
  found-of-walk track level (Overflow kind) fault = fault.is.first track
  found-of-walk track level TooManyEntries fault = fault.is.first track
  found-of-walk track level Memory fault = tt
