-- The premises of the law hold for the example.
use Rattle.std.proofs.Common.{◌≡◌, ℕ, true, None, refl}
use Rattle.far_model.specs.Command.{RefineOptions, SmoothUv, ByTable}
use Rattle.theorems.specs.Continued.{TaggedText, FurtherSteps, text_after, text_at_once}
use Rattle.theorems.specs.ContinuedExamples.{AreStepsOfQuads, quads_text}
use Rattle.theorems.proofs.ContinuedLemmas.{texts-again}

abbrev at_depth : ℕ → RefineOptions
at_depth depth = record { depth = depth; decimals = None; uv = SmoothUv; by = ByTable; tags = true }

abbrev quads : TaggedText
quads = record { options = at_depth 1; bytes = quads_text; exact = refl; tagged = refl; accepted = refl }

abbrev further : FurtherSteps quads
further = record {
  after = at_depth 1;
  at_once = at_depth 2;
  depths = refl;
  exact_after = refl;
  exact_at_once = refl;
  accepted_after = refl;
  accepted_at_once = refl;
}

pub quads-further : (given : TaggedText) × (steps : FurtherSteps given) × AreStepsOfQuads given steps
    × (text_after steps ≡ text_at_once steps)
quads-further = (quads, further, record { bytes = refl; text = refl; depth = refl }, texts-again quads further refl refl)
