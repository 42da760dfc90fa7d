use Rattle.std.proofs.Common.{take, arith, ap, ◌∙◌}
use Rattle.std.specs.List.{list_any}
use Rattle.std.proofs.lemmas.List.{length-take-le}
use Rattle.far_io.specs.Lines.{is_lf}
use Rattle.far_io.specs.Text.{TextInput, passed}
use Rattle.far_io.proofs.TextLemmas.{kept-more, kept-few}
use Rattle.far_io.proofs.text.TextReader.read_some.Goals as goal

pub returns-clause-reads : goal.returns-clause-reads
returns-clause-reads g c =
    let count = length-take-le c.in_ok-n.n c.read_input.new.piece (omega (arith, c.in_ok-n.ensures.count, c.read_input.auto.piece)) in
    let allowed = ap (λ (r : TextInput). r.allowed) c.self.view_is in
    kept-more g.S.Source c.args.self.now _ c.keep.new.self c.args.source.now c.read_input.new.source (take c.in_ok-n.n c.read_input.new.piece) c.keep.result
    (ap (λ (r : TextInput). r.pending) c.self.view_is)
    (c.keep.ensures.before ∙ ap passed c.self.view_is)
    (omega (arith, c.keep.ensures.allowed, allowed, count, c.in_ok-n.ensures.few))
    (omega (arith, count, c.if-n-eq0.false))
    (omega (arith, count, c.in_ok-n.ensures.count, c.requires.few))
    c.in_ok-n.ensures.taken c.read_input.ensures.later c.keep.ensures.kept

pub returns-clause-few : goal.returns-clause-few
returns-clause-few g c = λ found is.
    let pending = ap (λ (r : TextInput). r.pending) c.self.view_is in
    let few = kept-few _ c.keep.new.self (take c.in_ok-n.n c.read_input.new.piece) c.keep.result (ap (list_any is_lf) pending ∙ c.requires.plain) c.keep.ensures.kept found is in
    let count = length-take-le c.in_ok-n.n c.read_input.new.piece (omega (arith, c.in_ok-n.ensures.count, c.read_input.auto.piece)) in
    omega (arith, few, count, c.in_ok-n.ensures.count, c.requires.few)
