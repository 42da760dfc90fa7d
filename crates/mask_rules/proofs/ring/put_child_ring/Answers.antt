use Rattle.std.proofs.Common.{◌<◌, ap, sym, ◌∙◌, arith, length, map}
use Rattle.std.proofs.lemmas.List.{length-map, get_or-map}
use Rattle.subdiv_model.specs.Sharpness.{Smooth, half_child}
use Rattle.subdiv_model.specs.Rule.{child_ring}
use Rattle.sharpness_rules.specs.View.{sharpness_of, method_of}
use Rattle.mask_rules.proofs.RingLemmas.{ring-step, none-overflow}
use Rattle.mask_rules.proofs.ring.put_child_ring.Goals as goal

pub loop-place-preserved : goal.loop-place-preserved
loop-place-preserved c =
    let ring = map sharpness_of c.args.ring.now in
    let half = half_child (method_of c.args.method) ring in
    let place = c.loop-place.place in
    let within : place < length ring = omega (arith, length-map c.args.ring.now sharpness_of) in
    let target : place < length (child_ring (method_of c.args.method) ring) = omega (arith, length-map ring half) in
    let inside : place < length c.loop-place.next = omega (arith, c.loop-place.auto.next, c.requires.len) in
    let made = c.half_of.ensures c.args.method c.args.ring.now place c.of-halves.ensures (none-overflow c.args.method c.args.ring.now c.requires.fine) c.loop-place-test.true c.index-ring-place.is in
    let here = get_or-map half ring place Smooth Smooth within ∙ ap half (get_or-map sharpness_of c.args.ring.now place c.index-ring-place.result Smooth c.loop-place-test.true ∙ ap sharpness_of (sym c.index-ring-place.is)) in
    ring-step sharpness_of c.loop-place.next place c.half_of.result (child_ring (method_of c.args.method) ring) inside target c.loop-place.invariant
    (made ∙ sym here)
