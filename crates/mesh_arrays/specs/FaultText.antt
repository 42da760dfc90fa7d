-- The text of the fault of arrays, with places counted from 0.
use Rattle.std.specs.Prelude.{ℕ, List, ◌++◌, codes}
use Rattle.subdiv_model.specs.NumberText.{number_text}
use Rattle.raw_mesh.specs.FaultText.{bad_part_text}
use Rattle.mesh_arrays.specs.declared.fault.ArraysFault.{ArraysFault}
use Rattle.mesh_arrays.specs.declared.fault.ArraysFault.TheVariants.{Boundary, Method, CreaseSharpness, CornerSharpness, Part, Memory}

-- the fault that kept arrays from becoming a mesh
abbrev pub arrays_fault_text : ArraysFault → List ℕ
arrays_fault_text Boundary = codes "the boundary mode is not from 0 to 2"
arrays_fault_text Method = codes "the method is not 0 or 1"
arrays_fault_text (CreaseSharpness place) = codes "the sharpness of crease " ++ (number_text place ++ codes " is over 0 or over more than 2^60")
arrays_fault_text (CornerSharpness place) = codes "the sharpness of corner tag " ++ (number_text place ++ codes " is over 0 or over more than 2^60")
arrays_fault_text (Part part) = bad_part_text part
arrays_fault_text Memory = codes "out of memory"
