-- The common denominator of a text is above 0, and no choice that exists is none.
use Rattle.std.proofs.Common.{◌≡◌, ℕ, ◌^◌, ◌<◌, List, map, Some, None, is_some, ap, lit≤, true≢false}
use Rattle.std.specs.List.{filter, flat_map}
use Rattle.subdiv_model.specs.ObjLine.{is_vertex_line}
use Rattle.subdiv_model.specs.ReadObj.{kept_coordinates, denominator_of, position_common}
use Rattle.number_laws.proofs.MultipleLemmas.{fold-lcm-positive}
use Rattle.obj_laws.proofs.ObjChannelLemmas.{denominators-positive}

-- a choice that exists is not none
pub no-some : {X : Type 0} {x : X} → Some x ≡ None → ⊥
no-some e = true≢false (ap is_some e)

pub common-positive : (lines : List (List (List ℕ))) → 0 < position_common 0 lines
common-positive lines =
    let words = flat_map kept_coordinates (filter is_vertex_line lines) in
    fold-lcm-positive (10 ^ 0) (map denominator_of words) (lit≤ tt) (denominators-positive words)
