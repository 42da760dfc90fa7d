use Rattle.level_topology.proofs.laws.complete_points_have_fans.Goals as goal

pub returns-clause-faces : goal.returns-clause-faces
returns-clause-faces c = λ v. (v.is_topology.listed v.number v.exists).faces

pub returns-clause-edges : goal.returns-clause-edges
returns-clause-edges c = λ v. (v.is_topology.listed v.number v.exists).edges

pub returns-clause-fan : goal.returns-clause-fan
returns-clause-fan c = λ v. (v.is_topology.listed v.number v.exists).fan

pub returns-clause-other_faces : goal.returns-clause-other_faces
returns-clause-other_faces c = λ v. (v.is_topology.listed v.number v.exists).ascending_faces

pub returns-clause-other_edges : goal.returns-clause-other_edges
returns-clause-other_edges c = λ v. (v.is_topology.listed v.number v.exists).ascending_edges
