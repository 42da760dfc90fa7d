use Rattle.texture_laws.proofs.JoinLemmas.{joins-itself, joins-within, joins-edge, joins-only, joins-alike, joins-same, joins-first, joins-number}
use Rattle.texture_laws.proofs.cuts.joined_faces_are_joined_through_edges.Goals as goal

pub returns-clause-within : goal.returns-clause-within
returns-clause-within c = joins-within

pub returns-clause-itself : goal.returns-clause-itself
returns-clause-itself c = joins-itself

pub returns-clause-through_edges : goal.returns-clause-through_edges
returns-clause-through_edges c = λ mesh v face f g here common.
    joins-edge mesh v face f g common.edge here common.ends_there common.no_seam common.of_first common.of_second

pub returns-clause-through_no_more : goal.returns-clause-through_no_more
returns-clause-through_no_more c = λ mesh v kept keeps. joins-only mesh v kept (λ f g edge ends no_seam of_first of_second.
    keeps f g (record { edge = edge; ends_there = ends; no_seam = no_seam; of_first = of_first; of_second = of_second }))

pub returns-clause-both_ways : goal.returns-clause-both_ways
returns-clause-both_ways c = joins-alike

pub returns-clause-one_list : goal.returns-clause-one_list
returns-clause-one_list c = joins-same

pub returns-clause-least_first : goal.returns-clause-least_first
returns-clause-least_first c = joins-first

pub returns-clause-one_point : goal.returns-clause-one_point
returns-clause-one_point c = joins-number
