use Rattle.std.proofs.Common.{◌≡◌, Result, Err, rules, subst, sym}
use Rattle.far_io.specs.Text.{ReadsText}
use Rattle.far_io.specs.declared.source.InputFault.{InputFault}
use Rattle.far_io.specs.declared.text.NextText.{NextText}
use Rattle.far_io.proofs.TextLemmas.{text-on-line}
use Rattle.far_io.proofs.text.TextReader.read_line.Goals as goal

pub returns-in_err-found-clause-reads : goal.returns-in_err-found-clause-reads
returns-in_err-found-clause-reads g c =
    let is : c.from_residual.result ≡ Err c.in_err-found.field-0.0 = search rules in
    subst (λ (r : Result NextText InputFault). ReadsText g.S.Source c.args.self.now c.read_more.new.self c.args.source.now c.read_more.new.source r) (sym is)
    (text-on-line c.loop-found.invariant c.in_err-found.ensures.reads)

pub returns-in-Some-clause-reads : goal.returns-in-Some-clause-reads
returns-in-Some-clause-reads g c = text-on-line c.loop-found.invariant (rw c.in-Some.is at c.in_ok-found.ensures.reads)
