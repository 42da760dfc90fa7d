-- The map of the sparse levels of a mesh, and the leaves of the places of its faces.
use Rattle.std.proofs.Common.{◌≡◌, ℕ, zero, suc, ◌+◌, ◌<◌, ◌≤◌, Bool, true, false, nat_lt, List, [], ◌∷◌, ◌++◌, length, map, get_or, Option, Some, None, option_map, Result, MatchResult, arith, refl, ap, sym, subst, ◌∙◌}
use Rattle.std.specs.Prelude.{zip}
use Rattle.std.specs.List.{flat_map, range_with_len}
use Rattle.std.proofs.lemmas.Bool.{ltb-true}
use Rattle.std.proofs.lemmas.List.{append_assoc, length-map, map-append, get_or-map}
use Rattle.std.proofs.lemmas.List.FromFn.{map-range_with_len_more}
use Rattle.subdiv_model.specs.Lists.{first_of}
use Rattle.subdiv_model.specs.Base.{base_level}
use Rattle.subdiv_model.specs.Fault.{Fault, Place, Positions}
use Rattle.subdiv_model.specs.Feature.{FaceFacts}
use Rattle.subdiv_model.specs.Channel.{Sharpnesses}
use Rattle.subdiv_model.specs.Level.{Level}
use Rattle.subdiv_model.specs.ObjMesh.{ObjMesh}
use Rattle.subdiv_model.specs.Polygons.{polygon_at}
use Rattle.subdiv_model.specs.Leaf.{Location, base_location, grid_pairs, is_corner_of, leaf_line, leaf_of, location_faults}
use Rattle.subdiv_model.specs.Sparse.{FacePredicate, predicate_to}
use Rattle.far_model.specs.Command as command
use Rattle.far_model.specs.Command.{MapOptions}
use Rattle.far_model.specs.Answer.{map_leaf, map_mesh_faults, predicate_by, positions_of, test_of}
use Rattle.level_walk.proofs.UniformFaultLemmas.{first-behind}
use Rattle.level_topology.specs.Topology.{Topology}
use Rattle.level_walk.specs.declared.fault.WalkFault.{WalkFault}
use Rattle.mesh_check.specs.Checked.{IsAccepted}
use Rattle.patch_map.specs.Map.{LevelMap}
use Rattle.patch_map.specs.Is.{IsMapOf}
use Rattle.patch_map.specs.View.{location_of}
use Rattle.patch_map.specs.declared.leaf.Leaf.{Leaf}
use Rattle.ratio128.specs.StepsTaken.{StepsTaken}
use Rattle.sparse_walk.specs.Base.{IsSparseBase}
use Rattle.sparse_walk.specs.Faults.{HasNoSparseFault, IsSparseFault}
use Rattle.sparse_walk.specs.Levels.{AreSparseSteps}
use Rattle.far_fault.specs.View.{fault_of, place_fault_of}
use Rattle.far_fault.specs.Walk.{walk_fault_of}
use Rattle.far_fault.specs.declared.fault.FarFault.{FarFault}
use Rattle.far_fault.specs.declared.fault.PlaceFault.{PlaceFault}
use Rattle.far_text.specs.MapLines.{placed_leaf_line}
use Rattle.far_text.specs.declared.map.MapLeaves.{MapLeaves}
use Rattle.far_text.specs.declared.reply.Reply.{Reply}
use Rattle.far_text.specs.declared.reply.Reply.TheVariants as reply
use Rattle.mesh_answers.specs.Leaves.{CanFind, IsLevelMap, IsMapFor, map_level_faults, map_level_refusal, row_leaves}
use Rattle.mesh_answers.specs.Refusals.{IsFound, refusal_of_mesh}
use Rattle.mesh_answers.specs.Replies.{IsAnswerTo, IsReplyTo, written_text}
use Rattle.mesh_answers.specs.StepCounts.{later_present, step_limit}
use Rattle.mesh_answers.proofs.PositionLemmas.{base-of}
use Rattle.mesh_answers.proofs.RefusalLemmas.{found-here, refusal-of-small}
use Rattle.mesh_answers.proofs.ReplyLemmas.{any-steps}
use Rattle.mesh_answers.proofs.SparseLemmas.{found-of-cause}

-- level 0 of a mesh is a start of sparse levels
pub sparse-base : (mesh : ObjMesh) (level : Topology) → IsAccepted mesh level → IsSparseBase level
sparse-base mesh level accepted = let base = base-of mesh level accepted in record { complete = base.complete; boundary = base.boundary }

-- The result of the walk over sparse levels for a mesh.
module _ (options : MapOptions) (mesh : ObjMesh) (level : Topology) (accepted : IsAccepted mesh level) (test : FaceFacts → Bool) (named : test ≡ test_of options.select) where
  pub map-failed : (fault : WalkFault) → IsSparseFault Sharpnesses level.level test options.depth fault → IsFound (walk_fault_of Positions fault) (map_level_refusal options mesh)
  map-failed fault is =
      let here : IsSparseFault Sharpnesses (base_level mesh) (test_of options.select) options.depth fault =
      subst (λ t. IsSparseFault Sharpnesses (base_level mesh) t options.depth fault) named
      (subst (λ b. IsSparseFault Sharpnesses b test options.depth fault) accepted.level_is is) in
      found-of-cause Sharpnesses (positions_of mesh) (predicate_by options.select options.depth mesh) Positions options.depth fault.level fault.cause
      (here (positions_of mesh) refl).is

  pub map-found : (found : LevelMap) → IsMapOf level.level (predicate_to test level.level options.depth) options.depth found →
      HasNoSparseFault level.level test options.depth → IsLevelMap options mesh found
  map-found found is fine =
      let here : HasNoSparseFault (base_level mesh) (test_of options.select) options.depth =
      subst (λ t. HasNoSparseFault (base_level mesh) t options.depth) named (subst (λ b. HasNoSparseFault b test options.depth) accepted.level_is fine) in
      record {
        mesh_is = record { manifold = accepted.manifold; small = accepted.small };
        fine = here (positions_of mesh) refl Positions;
        map_is =
            subst (λ t. IsMapOf (base_level mesh) (predicate_to t (base_level mesh) options.depth) options.depth found) named
            (subst (λ b. IsMapOf b (predicate_to test b options.depth) options.depth found) accepted.level_is is);
      }

  pub map-steps : {X E : Type 0} (old new : ℕ) (r : Result X E) → AreSparseSteps level.level test options.depth old new → StepsTaken r old new 0 (later_present options.select options.depth mesh)
  map-steps old new r taken =
      let is : AreSparseSteps (base_level mesh) (test_of options.select) options.depth old new =
      subst (λ t. AreSparseSteps (base_level mesh) t options.depth old new) named (subst (λ b. AreSparseSteps b test options.depth old new) accepted.level_is taken) in
      any-steps r old new 0 (later_present options.select options.depth mesh) (omega (arith, is.later)) is.later (omega (arith, is.most))

-- If the face has places with the corner, the map accepts the request.
no-fault : (level : Level) (face corner : ℕ) → None ≡ first_of (location_faults level face corner) → (face < length level.polygons) × (is_corner_of (length (polygon_at level.polygons face)) corner ≡ true)
no-fault level face corner none = go (nat_lt face (length level.polygons)) refl (is_corner_of (length (polygon_at level.polygons face)) corner) refl
  where
    go : (a : Bool) → nat_lt face (length level.polygons) ≡ a → (b : Bool) → is_corner_of (length (polygon_at level.polygons face)) corner ≡ b →
        (face < length level.polygons) × (is_corner_of (length (polygon_at level.polygons face)) corner ≡ true)
    go true e true f = (ltb-true face (length level.polygons) e, f)
    go true e false f = let there = rw (e, f) at none in absurd (cc)
    go false e b f = let there = rw e at none in absurd (cc)

module _ (options : MapOptions) (mesh : ObjMesh) (found : LevelMap) (can : CanFind options mesh found) where
  fits : (options.face < length (base_level mesh).polygons) × (is_corner_of (length (polygon_at (base_level mesh).polygons options.face)) options.corner ≡ true)
  fits = no-fault (base_level mesh) options.face options.corner can.fault_is

  pub face-there : options.face < length found.sizes
  face-there = omega (arith, fits.0, ap length can.map_is.map_is.sizes, length-map (base_level mesh).polygons (λ polygon. length polygon))

  pub corner-there : is_corner_of (get_or found.sizes options.face 0) options.corner ≡ true
  corner-there =
      ap (λ size. is_corner_of size options.corner)
      (ap (λ sizes. get_or sizes options.face 0) can.map_is.map_is.sizes ∙ get_or-map (λ polygon. length polygon) (base_level mesh).polygons options.face [] 0 fits.0)
      ∙ fits.1

  -- the answer of the map is the leaf
  pub leaf-is : (leaf : Leaf) (i j : ℕ) → ((base : Level) (predicate : FacePredicate) (depth : ℕ) → IsMapOf base predicate depth found →
      location_of leaf ≡ leaf_of options.grid depth base predicate (base_location options.face options.corner (i, j))) → location_of leaf ≡ map_leaf options mesh (i, j)
  leaf-is leaf i j is = is (base_level mesh) (predicate_by options.select options.depth mesh) options.depth can.map_is.map_is

-- one more leaf of a row
pub row-more : (f : ℕ → Location) (before : List Location) (old new : List Leaf) (leaf : Leaf) (i : ℕ) → map location_of old ≡ before ++ map f (range_with_len 0 i) →
    new ≡ old ++ leaf ∷ [] → location_of leaf ≡ f i → map location_of new ≡ before ++ map f (range_with_len 0 (i + 1))
row-more f before old new leaf i so_far pushed is =
    ap (map location_of) pushed
    ∙ map-append location_of old (leaf ∷ [])
    ∙ ap (λ ls. ls ++ location_of leaf ∷ []) so_far
    ∙ append_assoc before (map f (range_with_len 0 i)) (location_of leaf ∷ [])
    ∙ ap (λ l. before ++ (map f (range_with_len 0 i) ++ l ∷ [])) is
    ∙ ap (λ ls. before ++ ls) (sym (map-range_with_len_more f 0 i i (omega arith)))

-- rows one after another
rows-more : {X : Type 0} (f : ℕ → List X) (a n j : ℕ) → a + n ≡ j → flat_map f (range_with_len a (suc n)) ≡ flat_map f (range_with_len a n) ++ f j
rows-more f a zero j e = nothing-behind (f a) ∙ ap f (let k : a ≡ j = omega (arith, e) in k)
  where
    nothing-behind : {X : Type 0} (xs : List X) → xs ++ [] ≡ xs
    nothing-behind [] = refl
    nothing-behind (x ∷ xs) = ap (λ ys. x ∷ ys) (nothing-behind xs)
rows-more f a (suc n) j e = ap (λ xs. f a ++ xs) (rows-more f (a + 1) n j (omega (arith, e))) ∙ sym (append_assoc (f a) (flat_map f (range_with_len (a + 1) n)) (f j))

pub rows-with : (f : ℕ → List Location) (old new : List Location) (j : ℕ) → old ≡ flat_map f (range_with_len 0 j) → new ≡ old ++ f j → new ≡ flat_map f (range_with_len 0 (j + 1))
rows-with f old new j so_far is =
    let next : suc j ≡ j + 1 = omega arith in
    subst (λ n. new ≡ flat_map f (range_with_len 0 n)) next (is ∙ ap (λ ls. ls ++ f j) so_far ∙ sym (rows-more f 0 j j (omega arith)))

-- the leaves of all rows are those of all pairs
pairs-by-rows : {X Y : Type 0} (f : X → Y) (rows : ℕ → List X) (ns : List ℕ) → map f (flat_map rows ns) ≡ flat_map (λ j. map f (rows j)) ns
pairs-by-rows f rows [] = refl
pairs-by-rows f rows (j ∷ ns) = map-append f (rows j) (flat_map rows ns) ∙ ap (λ ls. map f (rows j) ++ ls) (pairs-by-rows f rows ns)

row-of : {X Y Z : Type 0} (f : Y → Z) (g : X → Y) (xs : List X) → map f (map g xs) ≡ map (λ x. f (g x)) xs
row-of f g [] = refl
row-of f g (x ∷ xs) = ap (λ ys. f (g x) ∷ ys) (row-of f g xs)

rows-alike : {X : Type 0} (f g : ℕ → List X) → ((j : ℕ) → f j ≡ g j) → (ns : List ℕ) → flat_map f ns ≡ flat_map g ns
rows-alike f g same [] = refl
rows-alike f g same (j ∷ ns) = ap (λ xs. xs ++ flat_map f ns) (same j) ∙ ap (λ xs. g j ++ xs) (rows-alike f g same ns)

pub all-rows : (options : MapOptions) (mesh : ObjMesh) (leaves : List Location) → leaves ≡ flat_map (row_leaves options mesh) (range_with_len 0 (options.grid + 1)) →
    leaves ≡ map (map_leaf options mesh) (grid_pairs options.grid)
all-rows options mesh leaves is =
    let steps = range_with_len 0 (options.grid + 1) in
    is
    ∙ rows-alike (row_leaves options mesh) (λ j. map (map_leaf options mesh) (map (λ i. (i, j)) steps)) (λ j. sym (row-of (map_leaf options mesh) (λ i. (i, j)) steps)) steps
    ∙ sym (pairs-by-rows (map_leaf options mesh) (λ j. map (λ i. (i, j)) steps) steps)

-- the lines of pairs with their leaves
lines-of-pairs : (grid : ℕ) (f : ℕ × ℕ → Location) (pairs : List (ℕ × ℕ)) → flat_map (placed_leaf_line grid) (zip pairs (map f pairs)) ≡ flat_map (λ pair. leaf_line grid pair (f pair)) pairs
lines-of-pairs grid f [] = refl
lines-of-pairs grid f (pair ∷ pairs) = ap (λ text. leaf_line grid pair (f pair) ++ text) (lines-of-pairs grid f pairs)

-- The refusal of a mesh whose map is made, and the reply to it.
module _ (options : MapOptions) (mesh : ObjMesh) (fault : Option PlaceFault) (found : LevelMap) (is : IsMapFor options mesh fault found) where
  refusal-is : refusal_of_mesh (command.Map options) mesh ≡ option_map (λ place. Place (place_fault_of place)) fault
  refusal-is =
      refusal-of-small mesh is.map_is.mesh_is.manifold (map_mesh_faults options mesh) is.map_is.mesh_is.small
      ∙ first-behind (map_level_faults options mesh) (location_faults (base_level mesh) options.face options.corner) (ap first_of is.map_is.fine)
      ∙ sym is.fault_is

  pub face-refused : (place : PlaceFault) → fault ≡ Some place → IsFound (Place (place_fault_of place)) (refusal_of_mesh (command.Map options) mesh)
  face-refused place there = refusal-is ∙ ap (option_map (λ place. Place (place_fault_of place))) there

  pub leaves-reply : fault ≡ None → 1 ≤ options.grid → (leaves : MapLeaves) → leaves.grid ≡ options.grid → map location_of leaves.leaves.items ≡ map (map_leaf options mesh) (grid_pairs options.grid) →
      IsReplyTo (command.Map options) mesh (reply.Map leaves)
  unfolding written_text
  leaves-reply none some leaves same are =
      record {
        good = refusal-is ∙ ap (option_map (λ place. Place (place_fault_of place))) none;
        says =
            ap (λ grid. flat_map (placed_leaf_line grid) (zip (grid_pairs grid) (map location_of leaves.leaves.items))) same
            ∙ ap (λ ls. flat_map (placed_leaf_line options.grid) (zip (grid_pairs options.grid) ls)) are
            ∙ lines-of-pairs options.grid (map_leaf options mesh) (grid_pairs options.grid);
        put = record {
          positive = omega (arith, some, same);
          each =
              sym (length-map leaves.leaves.items location_of) ∙ ap length are ∙ length-map (grid_pairs options.grid) (map_leaf options mesh) ∙ ap (λ grid. length (grid_pairs grid)) (sym same);
        };
      }

-- the mesh is refused for the first fault of its sparse levels
pub levels-refused : (options : MapOptions) (mesh : ObjMesh) (level : Topology) → IsAccepted mesh level → (fault : Fault) → IsFound fault (map_level_refusal options mesh) →
    IsFound fault (refusal_of_mesh (command.Map options) mesh)
levels-refused options mesh level accepted fault found =
    subst (IsFound fault) (sym (refusal-of-small mesh accepted.manifold (map_mesh_faults options mesh) accepted.small))
    (found-here fault (map_level_faults options mesh) (location_faults (base_level mesh) options.face options.corner) found)

-- The steps of level 0, and of the levels after it.
pub map-end : (options : MapOptions) (mesh : ObjMesh) (old middle new : ℕ) (r : Result Reply FarFault) → old ≤ middle → middle ≤ old + length mesh.faces →
    MatchResult r (λ reply. IsReplyTo (command.Map options) mesh reply) (λ fault. IsFound (fault_of fault) (refusal_of_mesh (command.Map options) mesh)) →
    StepsTaken r middle new 0 (later_present options.select options.depth mesh) → IsAnswerTo (command.Map options) mesh r old new
map-end options mesh old middle new r later few reply taken =
    record { reply = reply; steps = any-steps r old new 0 (step_limit (command.Map options) mesh) (omega (arith, later, taken.later)) (omega (arith, later, taken.later)) (omega (arith, few, taken.most)) }
