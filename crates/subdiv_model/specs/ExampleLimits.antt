-- Limit points of small meshes, for the examples.
use Rattle.std.specs.Prelude.{ℕ, ℤ, List}
use Rattle.subdiv_model.specs.Level.{Level}
use Rattle.subdiv_model.specs.Mask.{CatmullClark}
use Rattle.subdiv_model.specs.Child.{refined_level}
use Rattle.subdiv_model.specs.Refined.{control_values, point_value, refined_values}
use Rattle.subdiv_model.specs.Limit.{limit_values}
use Rattle.subdiv_model.specs.NumberText.{value_text}

-- a coordinate of the limit point of a point after k steps
abbrev pub limit_text : Level → List ℤ → ℕ → ℕ → List ℕ
limit_text level controls k v =
    value_text (point_value (limit_values (refined_level level k) (refined_values level CatmullClark (control_values controls) k)) v)
