use Rattle.std.proofs.Common.{◌∙◌, sym, ap}
use Rattle.std.specs.List.{position}
use Rattle.std.proofs.lemmas.List.{take_rest}
use Rattle.far_io.specs.Lines.{is_lf}
use Rattle.far_io.proofs.LfLemmas.{skipped-some, skipped-none}
use Rattle.far_io.proofs.part.first_lf.Goals as goal

pub returns-in-Some : goal.returns-in-Some
returns-in-Some c =
    skipped-some is_lf _ _ _ c.requires.within c.requires.plain
    (ap (position is_lf) (sym (take_rest c.args.bytes.now c.args.searched)) ∙ sym c.lf_of.ensures ∙ c.in-Some.is)

pub returns-in-None : goal.returns-in-None
returns-in-None c =
    skipped-none is_lf _ _ c.requires.within c.requires.plain
    (ap (position is_lf) (sym (take_rest c.args.bytes.now c.args.searched)) ∙ sym c.lf_of.ensures ∙ c.in-None.is)
