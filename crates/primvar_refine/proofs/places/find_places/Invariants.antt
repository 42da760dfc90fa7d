use Rattle.std.proofs.Common.{◌≡◌}
use Rattle.std.specs.List.{filter, range_with_len}
use Rattle.primvar_refine.specs.Places.{is_hidden, ArePlaces}
use Rattle.primvar_refine.proofs.places.find_places.Given as goal

-- the hidden faces so far, and the places of the faces so far
abbrev pub invariant-loop-f : goal.invariant-loop-f
invariant-loop-f l = record {
  hidden_are : l.hidden.items ≡ filter (is_hidden l.child.origins l.survey.named.items) (range_with_len 0 l.f);
  places_are : ArePlaces l.child.origins l.survey.named.items l.hidden.items l.f l.of_faces.items;
}
