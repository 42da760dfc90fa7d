use Rattle.std.proofs.Common.{◌∙◌, ap, arith, length, map}
use Rattle.std.proofs.lemmas.List.{length-map}
use Rattle.sharpness_rules.specs.View.{sharpness_of, rule_of}
use Rattle.mask_rules.proofs.VertexLemmas.{rule-around, ring-long, child-long}
use Rattle.mask_rules.proofs.transition.mask_of_rings.Goals as goal

pub one_rule-requires-clause-among : goal.one_rule-requires-clause-among
one_rule-requires-clause-among c =
    rule-around (rule_of c.vertex_rule-parent.result) (sharpness_of c.vertex_sharpness-vertex.result) (map sharpness_of c.args.ring.now) _ c.vertex_rule-parent.ensures
    (ap length c.requires.ring ∙ ring-long c.args.level.now c.args.v)

pub weighed-requires-clause-parent : goal.weighed-requires-clause-parent
weighed-requires-clause-parent c =
    rule-around (rule_of c.vertex_rule-parent.result) (sharpness_of c.vertex_sharpness-vertex.result) (map sharpness_of c.args.ring.now) _ c.vertex_rule-parent.ensures
    (ap length c.requires.ring ∙ ring-long c.args.level.now c.args.v)

pub weighed-requires-clause-child : goal.weighed-requires-clause-child
weighed-requires-clause-child c =
    rule-around (rule_of c.vertex_rule-child.result) (sharpness_of c.uniform_child-vertex_child.result) (map sharpness_of c.args.next.now) _ c.vertex_rule-child.ensures
    (ap length c.requires.next ∙ child-long c.args.level.now c.args.v)

pub transition_weight-requires-clause-same_length : goal.transition_weight-requires-clause-same_length
transition_weight-requires-clause-same_length c =
    omega (arith, ap length c.requires.ring, ap length c.requires.next, ring-long c.args.level.now c.args.v, child-long c.args.level.now c.args.v, length-map c.args.ring.now sharpness_of, length-map c.args.next.now sharpness_of)
