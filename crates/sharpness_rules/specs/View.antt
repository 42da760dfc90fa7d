-- The types of this crate as those of the definitions.
use Rattle.subdiv_model.specs.Sharpness as model
use Rattle.subdiv_model.specs.Rule as rules
use Rattle.sharpness_rules.specs.declared.sharpness.Sharpness.{Sharpness}
use Rattle.sharpness_rules.specs.declared.sharpness.Sharpness.TheVariants.{Smooth, Semi, Infinite}
use Rattle.sharpness_rules.specs.declared.child.Method.{Method}
use Rattle.sharpness_rules.specs.declared.child.Method.TheVariants.{Normal, Chaikin}
use Rattle.sharpness_rules.specs.declared.rule.Rule as declared
use Rattle.sharpness_rules.specs.declared.rule.Rule.TheVariants as variant

-- A sharpness as in the definitions.
abbrev pub sharpness_of : Sharpness → model.Sharpness
sharpness_of Smooth = model.Smooth
sharpness_of (Semi value) = model.Semi value.num value.den
sharpness_of Infinite = model.Infinite

-- A method as in the definitions.
abbrev pub method_of : Method → model.Method
method_of Normal = model.Normal
method_of Chaikin = model.Chaikin

-- A rule as in the definitions.
abbrev pub rule_of : declared.Rule → rules.Rule
rule_of variant.Smooth = rules.SmoothRule
rule_of variant.Dart = rules.DartRule
rule_of (variant.Crease first second) = rules.CreaseRule first second
rule_of variant.Corner = rules.CornerRule
