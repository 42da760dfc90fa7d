-- The sparse levels of a channel are written as the definitions say, for callers that list the selected faces.
use Rattle.std.proofs.Common.{◌≡◌, ℕ, ◌+◌, ℤ, List, [], length, map, arith, ap, sym, ◌∙◌}
use Rattle.std.proofs.lemmas.List.{length-map, get_or-map}
use Rattle.subdiv_model.specs.Channel.{Channel}
use Rattle.subdiv_model.specs.Sparse.{FacePredicate}
use Rattle.primvar_refine.specs.Rows.{Row}
use Rattle.sparse_level.specs.declared.values.SparseValues.{SparseValues}
use Rattle.channel_refine.specs.SparseRefined.{SparseRows, AreSparseLevels}
use Rattle.channel_refine.specs.SparseView.{sparse_rows}
use Rattle.sparse_face_varying.specs.Chosen.{AreWritten}

-- there is a level for each number to the depth
pub levels-count : {P : Type 0} (numbers : P → List ℤ) (channel : Channel) (predicate : FacePredicate) (controls : List Row) (depth : ℕ) (levels : List (SparseValues P)) → AreSparseLevels channel predicate controls depth (map (sparse_rows numbers) levels) → length levels ≡ depth + 1
levels-count numbers channel predicate controls depth levels are = sym (length-map levels (sparse_rows numbers)) ∙ are.count

pub levels-written : {P : Type 0} (numbers : P → List ℤ) (channel : Channel) (predicate : FacePredicate) (controls : List Row) (depth : ℕ) (levels : List (SparseValues P)) → AreSparseLevels channel predicate controls depth (map (sparse_rows numbers) levels) → AreWritten levels channel.base predicate depth
levels-written numbers channel predicate controls depth levels are k d h =
    let none : SparseRows = record { written = record { point_count = 0; faces = [] }; rows = [] } in
    let count = levels-count numbers channel predicate controls depth levels are in
    sym (ap (λ (level : SparseRows). level.written) (get_or-map (sparse_rows numbers) levels k d none (omega (arith, h, count)))) ∙ (are.each k h).written
