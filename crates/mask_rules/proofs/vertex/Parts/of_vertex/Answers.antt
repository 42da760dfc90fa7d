use Rattle.std.proofs.Common.{refl, arith}
use Rattle.sharpness_rules.specs.View.{rule_of}
use Rattle.mask_rules.proofs.WalkLemmas.{vertex-fits}
use Rattle.mask_rules.proofs.vertex.Parts.of_vertex.Goals as goal

pub overflow_mul-result : goal.overflow_mul-result
overflow_mul-result c = omega (arith, (vertex-fits (rule_of c.args.self.parent) (rule_of c.args.self.child) c.args.self.by c.args.self.rest c.args.valence _ _ c.requires.small c.vertex_weight.ensures refl).first)

pub overflow_mul-result-2 : goal.overflow_mul-result-2
overflow_mul-result-2 c = omega (arith, (vertex-fits (rule_of c.args.self.parent) (rule_of c.args.self.child) c.args.self.by c.args.self.rest c.args.valence _ _ c.requires.small c.vertex_weight.ensures c.vertex_weight-2.ensures).second)

pub overflow_add-result : goal.overflow_add-result
overflow_add-result c = omega (arith, (vertex-fits (rule_of c.args.self.parent) (rule_of c.args.self.child) c.args.self.by c.args.self.rest c.args.valence _ _ c.requires.small c.vertex_weight.ensures c.vertex_weight-2.ensures).both)
