-- Arrays that a call does not write keep what stands behind any places.
use Rattle.std.proofs.Common.{refl}
use Rattle.mesh_arrays.specs.Places as level
use Rattle.mesh_arrays.specs.declared.level_counts.LevelCounts.{LevelCounts}
use Rattle.mesh_arrays.specs.declared.level_places.LevelPlaces.{LevelPlaces}
use Rattle.table_arrays.specs.Places as table
use Rattle.table_arrays.specs.declared.places.TableCounts.{TableCounts}
use Rattle.table_arrays.specs.declared.places.ExactPlaces.{ExactPlaces}
use Rattle.table_arrays.specs.declared.places.DoublePlaces.{DoublePlaces}
use Rattle.table_arrays.specs.declared.places.FloatPlaces.{FloatPlaces}

pub level-kept : (counts : LevelCounts) (places : LevelPlaces) → level.IsRestKept counts places places
level-kept counts places = record { face_sizes = refl; corners = refl; edges = refl; holes = refl }

pub exact-kept : (counts : TableCounts) (places : ExactPlaces) → table.IsExactRestKept counts places places
exact-kept counts places = record { rows = record { starts_rest = refl; indices_rest = refl }; numerators = refl; denominators = refl }

pub double-kept : (counts : TableCounts) (places : DoublePlaces) → table.IsDoubleRestKept counts places places
double-kept counts places = record { rows = record { starts_rest = refl; indices_rest = refl }; weights = refl }

pub float-kept : (counts : TableCounts) (places : FloatPlaces) → table.IsFloatRestKept counts places places
float-kept counts places = record { rows = record { starts_rest = refl; indices_rest = refl }; weights = refl }
