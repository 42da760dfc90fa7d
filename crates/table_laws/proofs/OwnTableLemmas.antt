-- The table of a mesh without refusal is a stored table.
use Rattle.std.proofs.Common.{◌≡◌, ℕ, zero, suc, ◌^◌, ◌≤◌, true, false, nat_lt, List, [], ◌∷◌, length, map, get_or, arith, refl, sym, subst, ◌∙◌, ltb-false, lit≤, le_trans, None}
use Rattle.std.specs.List.{AllByRecursion, list_any, enumerate_from, range_with_len, sum_by}
use Rattle.std.proofs.lemmas.Bool.{or_parts}
use Rattle.std.proofs.lemmas.List.Elements.{All-from_recursion}
use Rattle.std.proofs.lemmas.List.FromFn.{length-range_with_len}
use Rattle.std.proofs.lemmas.List.Sums.{sum_by-cons}
use Rattle.subdiv_model.specs.Base.{base_level}
use Rattle.subdiv_model.specs.Channel.{Tables, number_bound, entry_bound, channel_faults}
use Rattle.subdiv_model.specs.Child.{refined_level}
use Rattle.subdiv_model.specs.Fault.{Positions, TooLarge, Points}
use Rattle.subdiv_model.specs.Level.{Level}
use Rattle.subdiv_model.specs.Limits.{mesh_limit, count_faults}
use Rattle.subdiv_model.specs.Mask.{CatmullClark, has_means}
use Rattle.subdiv_model.specs.ObjMesh.{ObjMesh}
use Rattle.subdiv_model.specs.ReadObj.{lines_fault, mesh_of_lines}
use Rattle.subdiv_model.specs.Refined.{refined_denominators}
use Rattle.subdiv_model.specs.Support.{refined_supports, entries_after}
use Rattle.subdiv_model.specs.Table.{IsRow, entries_of, level_row}
use Rattle.far_model.specs.Answer.{positions_of, composition_refusal, own_table}
use Rattle.mesh_laws.proofs.Laws.{all-simple}
use Rattle.mask_laws.proofs.BoundaryLemmas.{IsSharpAtBoundary, boundary-base}
use Rattle.mask_laws.proofs.MeanLemmas.{means-meshes}
use Rattle.level_laws.specs.Tags.{HasProperTags}
use Rattle.mask_laws.specs.Laws.{IsManifoldMesh}
use Rattle.stencil_laws.proofs.RowLemmas.{one-denominator}
use Rattle.table_laws.specs.StoredTable.{IsStored}
use Rattle.table_laws.proofs.FitLemmas.{no-begin, no-fault-where, is-composed, within-bounds}
use Rattle.table_laws.proofs.OwnRowLemmas.{rows-are, rows-few, entries-from}
use Rattle.table_laws.proofs.PositiveLemmas.{place-positive, all-positive}
use Rattle.table_laws.proofs.SoundLemmas.{lines-manifold, lines-proper}

-- no denominator passes its bound
place-below : (bound : ℕ) (dens : List ℕ) (p : ℕ) → 1 ≤ bound → list_any (nat_lt bound) dens ≡ false → get_or dens p 1 ≤ bound
place-below bound [] p one none = one
place-below bound (den ∷ dens) zero one none = ltb-false bound den (or_parts (nat_lt bound den) (list_any (nat_lt bound) dens) none).0
place-below bound (den ∷ dens) (suc p) one none = place-below bound dens p one (or_parts (nat_lt bound den) (list_any (nat_lt bound) dens) none).1

-- each control has one entry, itself
own-entries : (points : List ℕ) → sum_by length (map (λ v. v ∷ []) points) ≡ length points
own-entries [] = refl
own-entries (v ∷ points) =
    let rest = own-entries points in
    let whole = sum_by-cons (λ (l : List ℕ). length l) (v ∷ []) (map (λ v. v ∷ []) points) in
    omega (arith, rest, whole)

module _ (mesh : ObjMesh) (is : IsManifoldMesh mesh) (proper : HasProperTags mesh) (counts : count_faults mesh ≡ []) where
  abbrev level : Level
  level = base_level mesh

  means : (j : ℕ) → has_means (refined_level level j) CatmullClark ≡ true
  means j = means-meshes mesh CatmullClark j is.manifold is.over_points proper.creases proper.corner_tags

  sharp : IsSharpAtBoundary level
  sharp = record {
    over = is.over_points;
    simple = all-simple (length mesh.points) mesh.faces is.manifold;
    distinct = is.manifold.sides_once;
    sharp = boundary-base mesh is.manifold;
  }

  points-few : length mesh.points ≤ 2 ^ 20
  points-few =
      ltb-false mesh_limit (length mesh.points)
      (no-fault-where (nat_lt mesh_limit (length mesh.points)) (TooLarge (Points (length mesh.points))) (no-begin _ _ counts))

  short : (depth p : ℕ) → channel_faults Tables (positions_of mesh) Positions depth ≡ [] → get_or (refined_denominators level CatmullClark depth) p 1 ≤ number_bound
  short zero p none = subst (λ n. n ≤ number_bound) (sym (one-denominator (length mesh.points) p)) (lit≤ tt)
  short (suc k) p none =
      place-below number_bound (refined_denominators level CatmullClark (suc k)) p (lit≤ tt) (within-bounds (positions_of mesh) Positions k none).denominators

  entries-few : (depth : ℕ) → channel_faults Tables (positions_of mesh) Positions depth ≡ [] → entries_after level CatmullClark depth ≤ 2 ^ 27
  entries-few zero none =
      subst (λ n. n ≤ 2 ^ 27) (sym (own-entries (range_with_len 0 (length mesh.points)) ∙ length-range_with_len 0 (length mesh.points))) (le_trans points-few (lit≤ tt))
  entries-few (suc k) none = ltb-false entry_bound (entries_after level CatmullClark (suc k)) (within-bounds (positions_of mesh) Positions k none).entries

  pub own-stored : (depth : ℕ) → channel_faults Tables (positions_of mesh) Positions depth ≡ [] → IsStored (own_table depth mesh)
  own-stored depth none =
      let supports = refined_supports level CatmullClark depth in
      let rows = map (level_row level CatmullClark depth) (enumerate_from 0 supports) in
      let dens = refined_denominators level CatmullClark depth in
      let are : AllByRecursion (IsRow (length mesh.points)) rows =
      rows-are level CatmullClark depth means (λ p. place-positive dens p (all-positive level CatmullClark depth sharp means)) (λ p. short depth p none) in
      let entries : entries_of rows ≤ 2 ^ 27 = subst (λ n. n ≤ 2 ^ 27) (sym (entries-from level CatmullClark depth 0 supports)) (entries-few depth none) in
      record {
        is_table = record {
          rows = All-from_recursion (IsRow (length mesh.points)) rows are;
          controls_few = le_trans points-few (lit≤ tt);
          rows_few = le_trans (rows-few (length mesh.points) rows are) entries;
          entries_few = entries;
        };
        controls_few = points-few;
      }

pub composed-stored : (depth scale : ℕ) (lines : List (List (List ℕ))) → composition_refusal depth scale lines ≡ None → IsStored (own_table depth (mesh_of_lines lines scale))
composed-stored depth scale lines none =
    let mesh = mesh_of_lines lines scale in
    let is = is-composed depth (lines_fault lines scale) mesh none in
    own-stored mesh (lines-manifold lines scale is.read_well is.is_mesh) (lines-proper lines scale) is.counts depth is.channel
