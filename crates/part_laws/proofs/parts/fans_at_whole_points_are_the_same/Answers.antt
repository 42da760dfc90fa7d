use Rattle.part_laws.proofs.FanLemmas.{fan-in, fan-from, path-in, path-from}
use Rattle.part_laws.proofs.parts.fans_at_whole_points_are_the_same.Goals as goal

pub returns-clause-fan : goal.returns-clause-fan
returns-clause-fan c = λ part at.
    let is = part.is_part in
    (fan-in part.name part.faces part.polygons part.whole is at.point at.is_there at.has_all, fan-from part.name part.faces part.polygons part.whole is at.point at.is_there at.has_all)

pub returns-clause-path : goal.returns-clause-path
returns-clause-path c = λ part at some.
    let is = part.is_part in
    (path-in part.name part.faces part.polygons part.whole is at.point some.faces, path-from part.name part.faces part.polygons part.whole is at.point some.faces at.is_there some.inside)
