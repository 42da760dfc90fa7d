use Rattle.std.proofs.Common.{◌≡◌, nat_eq, length}
use Rattle.std.specs.List.{position_or_len}
use Rattle.std.proofs.lemmas.Result.{MatchResult-at_ok, MatchResult-at_err}
use Rattle.mesh_check.proofs.GroupLemmas.{place-searched}
use Rattle.mesh_check.proofs.fan.place_in.Goals as goal

pub returns-in-Ok : goal.returns-in-Ok
returns-in-Ok c =
    MatchResult-at_ok (λ i. i ≡ position_or_len (nat_eq c.args.corner) c.args.corners.now) (λ i. length c.args.corners.now ≡ position_or_len (nat_eq c.args.corner) c.args.corners.now) c.in-Ok.place c.in-Ok.is
    (place-searched c.args.corners.now c.args.corner c.binary_search.result c.binary_search.ensures.position c.requires.rises c.requires.once)

pub returns-in-Err : goal.returns-in-Err
returns-in-Err c =
    MatchResult-at_err (λ i. i ≡ position_or_len (nat_eq c.args.corner) c.args.corners.now) (λ i. length c.args.corners.now ≡ position_or_len (nat_eq c.args.corner) c.args.corners.now) c.in-Err.field-0 c.in-Err.is
    (place-searched c.args.corners.now c.args.corner c.binary_search.result c.binary_search.ensures.position c.requires.rises c.requires.once)
