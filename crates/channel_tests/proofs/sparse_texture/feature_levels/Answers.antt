use Rattle.std.proofs.Common.{map}
use Rattle.channel_refine.specs.Evaluated.{control_rows}
use Rattle.channel_tests.specs.Sparse.{numbers_of}
use Rattle.channel_tests.proofs.SparseLemmas.{feature-result}
use Rattle.channel_tests.proofs.sparse_texture.feature_levels.Goals as goal

pub returns : goal.returns
returns g c = feature-result c.args.base (control_rows (map numbers_of c.args.controls.now)) c.args.depth c.refine_sparse.result c.refine_sparse.ensures.refined
