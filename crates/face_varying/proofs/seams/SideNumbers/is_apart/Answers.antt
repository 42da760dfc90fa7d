use Rattle.std.proofs.Common.{ℕ, arith, ap, ◌∙◌, ◌≡◌, not, get_or}
use Rattle.std.proofs.lemmas.List.{get_or_default}
use Rattle.face_varying.proofs.ApartLemmas.{differ, apart-one, apart-two}
use Rattle.face_varying.proofs.seams.SideNumbers.is_apart.Goals as goal

pub returns-then-is_none : goal.returns-then-is_none
returns-then-is_none c =
    apart-one c.args.raw.now c.args.level.now c.requires.cuttable c.facts.ensures c.args.self.now.along.items c.args.self.now.against.items c.requires.noted c.args.edge c.requires.edge c.edge_faces.result.first c.edge_faces.result.second (ap not c.if-is_none.ensures) c.edge_faces.ensures

pub returns : goal.returns
returns c =
    let along = c.args.self.now.along.items in
    let against = c.args.self.now.against.items in
    let found = apart-two c.args.raw.now c.args.level.now c.requires.cuttable c.facts.ensures along against c.requires.noted c.args.edge c.requires.edge c.edge_faces.result.first c.edge_faces.result.second (ap not c.if-is_none.ensures) c.edge_faces.ensures in
    let one : c.index.result.now ≡ get_or along c.args.edge (0, 0) = c.index.ensures ∙ get_or_default along c.args.edge c.index.result.now (0, 0) (omega (arith, c.requires.edge, c.requires.noted.along_size)) in
    let other : c.index-2.result.now ≡ get_or against c.args.edge (0, 0) = c.index-2.ensures ∙ get_or_default against c.args.edge c.index-2.result.now (0, 0) (omega (arith, c.requires.edge, c.requires.noted.against_size)) in
    c.differ.ensures ∙ ap (λ (p : ℕ × ℕ). differ p c.index-2.result.now) one ∙ ap (λ (p : ℕ × ℕ). differ (get_or along c.args.edge (0, 0)) p) other ∙ found
