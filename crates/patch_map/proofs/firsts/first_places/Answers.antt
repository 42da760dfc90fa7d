use Rattle.std.proofs.Common.{◌≡◌, arith, get_or, nat_le}
use Rattle.std.specs.List.{position_or_len}
use Rattle.patch_map.specs.Map.{Rises, first_at}
use Rattle.patch_map.proofs.PlaceLemmas.{first-put, more-of-range, passed-on}
use Rattle.patch_map.proofs.firsts.first_places.Goals as goal

pub loop-f-preserved : goal.loop-f-preserved
loop-f-preserved c =
    let selected = c.args.selected.now in
    let starts = c.args.starts.now in
    let numbers = c.args.numbers.now in
    let found : Rises starts → c.place_from-place.result ≡ position_or_len (nat_le (get_or starts c.loop-f.f 0)) numbers =
    λ rises. c.place_from-place.ensures.place (λ k h. c.loop-f.invariant.below rises c.loop-f.f k (omega arith) c.loop-f-test.true h) in
    record {
      inside = c.place_from-place.ensures.inside;
      below = λ rises g k later exists low. passed-on starts numbers c.loop-f.f c.place_from-place.result rises c.loop-f-test.true (found rises) g k later exists low;
      firsts = λ rises. more-of-range (first_at selected starts numbers) c.loop-f.f c.loop-f.firsts.items c.push.new.self.items c.marked_place.result (c.loop-f.invariant.firsts rises) c.in_ok-push.ensures.items
          (first-put selected starts numbers c.loop-f.f c.place_from-place.result c.is_marked.result c.marked_place.result c.is_marked.ensures (found rises) c.marked_place.ensures);
    }
