-- The numbers of a list in its own width.
use Rattle.std.specs.Vec.{vec_capacity}
use Rattle.number_width.specs.declared.width.Width.TheVariants as width
use Rattle.number_width.specs.declared.list.Items.{Items}
use Rattle.number_width.specs.declared.list.Items.TheVariants.{Narrow, Wide}
use Rattle.number_width.specs.Numbers.{Numbers}

-- The numbers of a list, their width, and the capacity.
abbrev pub numbers_of : Items → Numbers
numbers_of (Narrow items) = record { items = items.items; width = width.Narrow; capacity = vec_capacity items }
numbers_of (Wide items) = record { items = items.items; width = width.Wide; capacity = vec_capacity items }
