use Rattle.sharpness_laws.proofs.RuleOrderLemmas.{same-rule}
use Rattle.sharpness_laws.proofs.masks.vertex_rules_follow_the_order.Goals as goal

pub returns : goal.returns
returns c vertex v star other same =
    same-rule (λ edge. edge.0) (λ edge. edge.1) v star.edges other.edges star.faces other.faces same.edges same.faces vertex
