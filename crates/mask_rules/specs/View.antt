-- The types of this crate as types of the definitions.
use Rattle.std.specs.Prelude.{List, map}
use Rattle.subdiv_model.specs.Mask as model
use Rattle.mask_rules.specs.declared.mask.Scheme.{Scheme}
use Rattle.mask_rules.specs.declared.mask.Scheme.TheVariants.{CatmullClark, Linear}
use Rattle.mask_rules.specs.declared.mask.At.{At}
use Rattle.mask_rules.specs.declared.mask.At.TheVariants.{Point, FacePoint}
use Rattle.mask_rules.specs.declared.mask.Term.{Term}
use Rattle.mask_rules.specs.declared.vertex.VertexMask.{VertexMask}

abbrev pub scheme_of : Scheme → model.Scheme
scheme_of CatmullClark = model.CatmullClark
scheme_of Linear = model.Linear

abbrev pub source_of : At → model.SourcePoint
source_of (Point v) = model.OfPoint v
source_of (FacePoint f) = model.OfFace f

abbrev pub term_of : Term → model.Term
term_of t = model.weigh t.weight (source_of t.at)

abbrev pub terms_of : List Term → List model.Term
terms_of terms = map term_of terms

abbrev pub seen_vertex : VertexMask → model.Mask
seen_vertex m = record { terms = terms_of m.terms.items; denominator = m.denominator }
