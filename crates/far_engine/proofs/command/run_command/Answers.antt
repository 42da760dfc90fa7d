use Rattle.std.proofs.Common.{rules, ap, ◌∙◌}
use Rattle.far_model.specs.Command.{Frames, Makes, Reads, Streams}
use Rattle.far_words.specs.View.{command_of_code, frames_of_code, read_of_code}
use Rattle.far_engine.proofs.RunLemmas.{fault-steps, make-steps, runs-as, runs-fault, runs-make, runs-mesh, runs-stored, steps-as, steps-mesh, steps-stored}
use Rattle.far_engine.proofs.command.run_command.Goals as goal

pub returns-in_err-mesh-in-Read-clause-run : goal.returns-in_err-mesh-in-Read-clause-run
returns-in_err-mesh-in-Read-clause-run g c =
    runs-fault g.S.Source g.K.Sink _ _ _ _ _ _ _ (ap command_of_code c.in-Read.is) c.from_residual.ensures.0 c.from_residual.ensures.1 (c.in_err-mesh-in-Read.ensures _)

pub returns-in_err-mesh-in-Read-clause-steps : goal.returns-in_err-mesh-in-Read-clause-steps
returns-in_err-mesh-in-Read-clause-steps g c =
    fault-steps g.S.Source g.K.Sink _ _ _ _ _ _ _ (ap command_of_code c.in-Read.is) c.from_residual.ensures.0 (c.in_err-mesh-in-Read.ensures (read_of_code c.in-Read.command))

pub returns-in-Refine-clause-run : goal.returns-in-Refine-clause-run
returns-in-Refine-clause-run g c =
    runs-mesh g.S.Source g.K.Sink _ _ (ap command_of_code c.in-Read.is ∙ ap (λ k. Reads (read_of_code k)) c.in-Refine.is) _ _ _ c.in_ok-mesh-in-Read.ensures _ _ _ c.refine.ensures _ _ _ c.put_found.ensures

pub returns-in-Refine-clause-steps : goal.returns-in-Refine-clause-steps
returns-in-Refine-clause-steps g c =
    steps-mesh g.S.Source g.K.Sink _ _ (ap command_of_code c.in-Read.is ∙ ap (λ k. Reads (read_of_code k)) c.in-Refine.is) _ _ _ c.in_ok-mesh-in-Read.ensures _ _ _ c.refine.ensures _ _ _ c.put_found.ensures

pub returns-in-Sparse-clause-run : goal.returns-in-Sparse-clause-run
returns-in-Sparse-clause-run g c =
    runs-mesh g.S.Source g.K.Sink _ _ (ap command_of_code c.in-Read.is ∙ ap (λ k. Reads (read_of_code k)) c.in-Sparse.is) _ _ _ c.in_ok-mesh-in-Read.ensures _ _ _ c.sparse.ensures _ _ _ c.put_found-in-Sparse.ensures

pub returns-in-Sparse-clause-steps : goal.returns-in-Sparse-clause-steps
returns-in-Sparse-clause-steps g c =
    steps-mesh g.S.Source g.K.Sink _ _ (ap command_of_code c.in-Read.is ∙ ap (λ k. Reads (read_of_code k)) c.in-Sparse.is) _ _ _ c.in_ok-mesh-in-Read.ensures _ _ _ c.sparse.ensures _ _ _ c.put_found-in-Sparse.ensures

pub returns-in-Stencils-clause-run : goal.returns-in-Stencils-clause-run
returns-in-Stencils-clause-run g c =
    runs-mesh g.S.Source g.K.Sink _ _ (ap command_of_code c.in-Read.is ∙ ap (λ k. Reads (read_of_code k)) c.in-Stencils.is) _ _ _ c.in_ok-mesh-in-Read.ensures _ _ _ c.stencils.ensures _ _ _ c.put_found-in-Stencils.ensures

pub returns-in-Stencils-clause-steps : goal.returns-in-Stencils-clause-steps
returns-in-Stencils-clause-steps g c =
    steps-mesh g.S.Source g.K.Sink _ _ (ap command_of_code c.in-Read.is ∙ ap (λ k. Reads (read_of_code k)) c.in-Stencils.is) _ _ _ c.in_ok-mesh-in-Read.ensures _ _ _ c.stencils.ensures _ _ _ c.put_found-in-Stencils.ensures

pub returns-in-Limit-clause-run : goal.returns-in-Limit-clause-run
returns-in-Limit-clause-run g c =
    runs-mesh g.S.Source g.K.Sink _ _ (ap command_of_code c.in-Read.is ∙ ap (λ k. Reads (read_of_code k)) c.in-Limit.is) _ _ _ c.in_ok-mesh-in-Read.ensures _ _ _ c.limit.ensures _ _ _ c.put_found-in-Limit.ensures

pub returns-in-Limit-clause-steps : goal.returns-in-Limit-clause-steps
returns-in-Limit-clause-steps g c =
    steps-mesh g.S.Source g.K.Sink _ _ (ap command_of_code c.in-Read.is ∙ ap (λ k. Reads (read_of_code k)) c.in-Limit.is) _ _ _ c.in_ok-mesh-in-Read.ensures _ _ _ c.limit.ensures _ _ _ c.put_found-in-Limit.ensures

pub returns-in-Levels-clause-run : goal.returns-in-Levels-clause-run
returns-in-Levels-clause-run g c =
    runs-mesh g.S.Source g.K.Sink _ _ (ap command_of_code c.in-Read.is ∙ ap (λ k. Reads (read_of_code k)) c.in-Levels.is) _ _ _ c.in_ok-mesh-in-Read.ensures _ _ _ c.levels.ensures _ _ _ c.put_found-in-Levels.ensures

pub returns-in-Levels-clause-steps : goal.returns-in-Levels-clause-steps
returns-in-Levels-clause-steps g c =
    steps-mesh g.S.Source g.K.Sink _ _ (ap command_of_code c.in-Read.is ∙ ap (λ k. Reads (read_of_code k)) c.in-Levels.is) _ _ _ c.in_ok-mesh-in-Read.ensures _ _ _ c.levels.ensures _ _ _ c.put_found-in-Levels.ensures

pub returns-in-Patch-clause-run : goal.returns-in-Patch-clause-run
returns-in-Patch-clause-run g c =
    runs-mesh g.S.Source g.K.Sink _ _ (ap command_of_code c.in-Read.is ∙ ap (λ k. Reads (read_of_code k)) c.in-Patch.is) _ _ _ c.in_ok-mesh-in-Read.ensures _ _ _ c.patch.ensures _ _ _ c.put_found-in-Patch.ensures

pub returns-in-Patch-clause-steps : goal.returns-in-Patch-clause-steps
returns-in-Patch-clause-steps g c =
    steps-mesh g.S.Source g.K.Sink _ _ (ap command_of_code c.in-Read.is ∙ ap (λ k. Reads (read_of_code k)) c.in-Patch.is) _ _ _ c.in_ok-mesh-in-Read.ensures _ _ _ c.patch.ensures _ _ _ c.put_found-in-Patch.ensures

pub returns-in-Read-clause-run : goal.returns-in-Read-clause-run
returns-in-Read-clause-run g c =
    runs-mesh g.S.Source g.K.Sink _ _ (ap command_of_code c.in-Read.is ∙ ap (λ k. Reads (read_of_code k)) c.in-Map.is) _ _ _ c.in_ok-mesh-in-Read.ensures _ _ _ c.leaves.ensures _ _ _ c.put_found-in-Map.ensures

pub returns-in-Read-clause-steps : goal.returns-in-Read-clause-steps
returns-in-Read-clause-steps g c =
    steps-mesh g.S.Source g.K.Sink _ _ (ap command_of_code c.in-Read.is ∙ ap (λ k. Reads (read_of_code k)) c.in-Map.is) _ _ _ c.in_ok-mesh-in-Read.ensures _ _ _ c.leaves.ensures _ _ _ c.put_found-in-Map.ensures

pub returns-in-Stored-clause-run : goal.returns-in-Stored-clause-run
returns-in-Stored-clause-run g c =
    runs-stored g.S.Source g.K.Sink _ _ (ap command_of_code c.in-Stored.is) _ _ _ _ _ c.find_stored.ensures _ _ _ c.put_found-in-Stored.ensures

pub returns-in-Stored-clause-steps : goal.returns-in-Stored-clause-steps
returns-in-Stored-clause-steps g c =
    steps-stored g.S.Source g.K.Sink _ _ (ap command_of_code c.in-Stored.is) _ _ _ _ _ c.find_stored.ensures _ _ _ c.put_found-in-Stored.ensures

pub returns-in-Make-Gen-clause-run : goal.returns-in-Make-Gen-clause-run
returns-in-Make-Gen-clause-run g c =
    runs-as g.S.Source g.K.Sink _ _ (ap command_of_code c.in-Make-Gen.is ∙ ap Makes (search rules)) _ _ _ _ _
    (runs-make g.S.Source g.K.Sink _ c.args.source.now _ _ _ _ _ _ c.generate.ensures c.put_found-in-Make-Gen.ensures)

pub returns-in-Make-Gen-clause-steps : goal.returns-in-Make-Gen-clause-steps
returns-in-Make-Gen-clause-steps g c =
    steps-as g.S.Source g.K.Sink _ _ (ap command_of_code c.in-Make-Gen.is ∙ ap Makes (search rules)) _ _ _ _ _
    (make-steps g.S.Source g.K.Sink _ c.args.source.now _ _ _ _ _ _ c.generate.ensures c.put_found-in-Make-Gen.ensures)

pub returns-clause-run : goal.returns-clause-run
returns-clause-run g c =
    runs-as g.S.Source g.K.Sink _ (Streams (Frames (frames_of_code _))) (ap command_of_code c.in-Stream-Frames.is ∙ ap Streams (search rules)) _ _ _ _ _ c.run_frames.ensures.run

pub returns-clause-steps : goal.returns-clause-steps
returns-clause-steps g c =
    steps-as g.S.Source g.K.Sink _ _ (ap command_of_code c.in-Stream-Frames.is ∙ ap Streams (search rules)) _ _ _ _ _ c.run_frames.ensures.taken
