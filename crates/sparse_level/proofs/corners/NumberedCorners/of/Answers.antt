use Rattle.std.proofs.Common.{rules, ◌≡◌, ◌∙◌, arith, ap, sym, length, nat_eq, subst, vec_len, List, ℕ}
use Rattle.std.specs.List.{sum_by}
use Rattle.subdiv_model.specs.Lists.{each_once_by}
use Rattle.level_topology.specs.Packed.{gaps, Ascend}
use Rattle.level_topology.proofs.ChildMadeLemmas.{starts-some}
use Rattle.sparse_level.specs.Numbers.{numbers_of}
use Rattle.sparse_level.proofs.FaceLemmas.{corners-below, corners-few, starts-ascend, all-numbered-faces}
use Rattle.sparse_level.proofs.corners.NumberedCorners.of.Goals as goal

pub index-requires : goal.index-requires
index-requires c =
    let n : vec_len c.in_ok-starts.starts ≡ length c.in_ok-starts.starts.items = search rules in
    omega (arith, n, c.faces.ensures, ap length c.in_ok-starts.ensures.items, starts-some c.args.level.now.level.polygons c.corner_starts.result.now c.corner_starts.ensures.gaps c.corner_starts.ensures.ascend)

pub number_points-requires-clause-within : goal.number_points-requires-clause-within
number_points-requires-clause-within c = rw (c.points.ensures, c.in_ok-corners.ensures) (corners-below c.args.level.now c.facts.ensures)

pub number_points-requires-clause-few : goal.number_points-requires-clause-few
number_points-requires-clause-few c = rw c.in_ok-corners.ensures (corners-few c.args.level.now c.facts.ensures)

pub invariant_of-result : goal.invariant_of-result
invariant_of-result c =
    let level = c.args.level.now.level in
    let are = c.in_ok-points.ensures.numbers ∙ ap numbers_of c.in_ok-corners.ensures in
    starts-ascend level c.in_ok-starts.starts.items c.number_points.new.points.items (ap gaps c.in_ok-starts.ensures.items ∙ c.corner_starts.ensures.gaps)
    (subst (λ (starts : List ℕ). Ascend starts (sum_by length level.polygons)) (sym c.in_ok-starts.ensures.items) c.corner_starts.ensures.ascend) are

pub returns : goal.returns
returns c =
    let level = c.args.level.now.level in
    let are = c.in_ok-points.ensures.numbers ∙ ap numbers_of c.in_ok-corners.ensures in
    let count = c.in_ok-points.ensures.count ∙ ap (λ (list : List ℕ). length (each_once_by nat_eq list)) c.in_ok-corners.ensures in
    all-numbered-faces level c.in_ok-starts.starts.items c.number_points.new.points.items (ap gaps c.in_ok-starts.ensures.items ∙ c.corner_starts.ensures.gaps)
    (subst (λ (starts : List ℕ). Ascend starts (sum_by length level.polygons)) (sym c.in_ok-starts.ensures.items) c.corner_starts.ensures.ascend) are c.in_ok-points.points count
