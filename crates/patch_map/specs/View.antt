-- The results of this crate as records of the definitions.
use Rattle.subdiv_model.specs.Leaf.{Location}
use Rattle.patch_map.specs.declared.leaf.Leaf.{Leaf}

-- a leaf as a location on it
abbrev pub location_of : Leaf → Location
location_of leaf = record { level = leaf.level; number = leaf.number; corner = leaf.corner; s = leaf.s; t = leaf.t }
