use Rattle.sparse_texture_laws.proofs.SelectionLemmas.{cut-inner, cut-selected}
use Rattle.sparse_texture_laws.proofs.selections.faces_are_selected_by_their_numbers.Goals as goal

pub returns : goal.returns
returns c = record {
  selected = λ base cut predicate depth k same h. cut-selected base cut same predicate depth k h;
  inner = λ base cut predicate depth k same h. cut-inner base cut same predicate depth k h;
}
