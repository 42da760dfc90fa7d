use Rattle.continued_laws.proofs.ExampleLemmas.{quads-go-on}
use Rattle.continued_laws.proofs.meshes.quads_go_on.Goals as goal

pub returns : goal.returns
returns c = quads-go-on
