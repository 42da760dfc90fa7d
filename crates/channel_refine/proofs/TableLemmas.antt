-- A table carried from a level to its child: the meaning of the test of its numbers, and the cause if it fails.
use Rattle.std.proofs.Common.{◌≡◌, ℕ, ◌*◌, ◌<◌, ◌≤◌, Bool, true, false, nat_le, nat_lt, List, length, arith, ap, sym, ◌∙◌, subst}
use Rattle.std.specs.List.{All, list_any, sum_by}
use Rattle.std.proofs.lemmas.Bool.{leb-true, lt-ltb}
use Rattle.std.proofs.lemmas.Bool.Decides.{nat_tests}
use Rattle.std.proofs.lemmas.List.{length-map}
use Rattle.std.proofs.lemmas.List.Elements.{All-map}
use Rattle.std.proofs.lemmas.List.Folds.{list_any_at}
use Rattle.subdiv_model.specs.Level.{Level}
use Rattle.subdiv_model.specs.Mask.{Scheme}
use Rattle.subdiv_model.specs.Channel.{number_bound}
use Rattle.level_topology.specs.Topology.{Topology}
use Rattle.level_topology.specs.Child.{PointOrigin, ChildTopology, HasParent}
use Rattle.primvar_refine.specs.Rows.{greatest_of as greatest_number}
use Rattle.child_masks.specs.Masks.{dens_from, mask_from, masks_from}
use Rattle.stencil_apply.specs.Table.{Row, Table, IsTable, greatest_of}
use Rattle.stencil_factory.specs.Rows.{dens_of}
use Rattle.stencil_factory.specs.Composed.{IsComposed, IsTableFault}
use Rattle.stencil_factory.specs.declared.fault.TableFault.{TableFault}
use Rattle.stencil_factory.specs.declared.fault.TableFault.TheVariants as table
use Rattle.level_walk.specs.declared.fault.Cause.TheVariants.{Overflow}
use Rattle.level_walk.specs.declared.fault.OverflowKind.TheVariants.{Value}
use Rattle.channel_refine.specs.Step.{IsTableCause}
use Rattle.channel_refine.specs.Causes.{cause_of_table}
use Rattle.channel_refine.proofs.IdentityLemmas.{entries-by-support}
use Rattle.channel_refine.proofs.ValueLemmas.{none-passes}

-- the denominators of a table keep their bound
pub dens-short : (table : Table) → IsTable table → All (λ den. den ≤ number_bound) (dens_of table)
dens-short table is = All-map (λ den. den ≤ number_bound) (λ (row : Row). row.den) table.rows (λ k d h. (is.rows k d h).short)

-- a fault of a table, as the cause of a walk
pub table-cause : (most : ℕ) (level : Level) (scheme : Scheme) (origins : List PointOrigin) (some : Table) (fault : TableFault)
    → IsTableFault level scheme origins some fault → IsTableCause most level scheme origins some (cause_of_table fault)
table-cause most level scheme origins some (table.Transition v) is = (v, is)
table-cause most level scheme origins some (table.Denominator p) is =
    (is.0, list_any_at (nat_lt number_bound) (dens_from level scheme (dens_of some) origins) p 1 is.1.exists (lt-ltb number_bound _ is.1.great))
table-cause most level scheme origins some table.TooManyEntries is = (is.0, none-passes _ is.1, is.2)
table-cause most level scheme origins some table.Memory is = tt

-- a value passes its bound, and all other numbers keep theirs
pub table-over : (most : ℕ) (level : Level) (scheme : Scheme) (origins : List PointOrigin) (some next : Table) → IsComposed level scheme origins some next → IsTable next
    → number_bound < greatest_of next * most → IsTableCause most level scheme origins some (Overflow Value)
table-over most level scheme origins some next is made over = (
  is.fine,
  ap (list_any (nat_lt number_bound)) (sym is.dens) ∙ none-passes (dens_of next) (dens-short next made),
  omega (arith, made.entries_few, entries-by-support next.rows, ap (sum_by length) is.supports),
  subst (λ dens. number_bound < greatest_number dens * most) is.dens over,
)

-- there is a row for each point of the child
pub rows-next : (parent : Topology) (child : ChildTopology) (scheme : Scheme) (some next : Table) → HasParent child → IsComposed parent.level scheme child.origins some next
    → length next.rows ≡ child.topology.level.point_count
rows-next parent child scheme some next has is =
    sym (length-map next.rows (λ (row : Row). row.den)) ∙ ap length is.dens ∙ length-map (masks_from parent.level scheme child.origins) _
    ∙ length-map child.origins (mask_from parent.level scheme) ∙ has.is.each_point

-- the meaning of the test of the denominators
pub test-fits : (b : Bool) (great most : ℕ) → b ≡ nat_le (great * most) number_bound → b ≡ true → great * most ≤ number_bound
test-fits b great most is h = leb-true _ _ (sym is ∙ h)

pub test-over : (b : Bool) (great most : ℕ) → b ≡ nat_le (great * most) number_bound → b ≡ false → number_bound < great * most
test-over b great most is h = over (great * most) number_bound (sym is ∙ h)
  where
    over : (m n : ℕ) → nat_le m n ≡ false → n < m
    over m n h = grind (arith, nat_tests)
