use Rattle.std.proofs.Common.{rules, ◌≡◌, ℕ, List, [], ◌∷◌, ◌++◌, ◌+◌, ◌-◌, ◌<◌, ◌≤◌, ◌^◌, length, take, map, get_or, replicate, arith, ap, sym, ◌∙◌, subst, set, vec_len}
use Rattle.std.proofs.lemmas.List.{length-map, length-replicate, length-take, length-set, take_more, take_all}
use Rattle.level_topology.specs.declared.child_origin.Origin.TheVariants.{Vertex}
use Rattle.level_topology.specs.ChildTables.{origin_of, point_number, IsInverse}
use Rattle.level_topology.proofs.ChildTableLemmas.{inverse-none, inverse-step, twice-at}
use Rattle.level_topology.proofs.ChildMadeLemmas.{number-below, origin-pairs}
use Rattle.level_topology.proofs.child_tables.number_points.Goals as goal

pub loop-p-init : goal.loop-p-init
loop-p-init c =
    let made : c.in_ok-points.points.items ≡ replicate (c.args.vertices + c.args.faces + c.args.edges) (2 ^ 32 - 1) = search rules in
    record {
      numbers = search rules;
      inverse = subst (λ (table : List ℕ). IsInverse [] table) (sym made) (inverse-none (c.args.vertices + c.args.faces + c.args.edges));
      count = ap length made ∙ length-replicate _ _;
      room = search rules;
    }

pub number_from-number-requires : goal.number_from-number-requires
number_from-number-requires c =
    omega (arith, number-below c.args.vertices c.args.faces c.args.edges c.args.origins.now c.loop-p.p (Vertex 0) c.requires.within c.loop-p-test.true, c.requires.whole)

pub push_reserved-requires : goal.push_reserved-requires
push_reserved-requires c =
    let n : vec_len c.loop-p.numbers ≡ length c.loop-p.numbers.items = search rules in
    let all = map (point_number c.args.vertices c.args.faces) (map origin_of c.args.origins.now) in
    omega (arith, n, ap length c.loop-p.invariant.numbers, length-take c.loop-p.p all, c.loop-p.invariant.room)

pub index_mut-requires : goal.index_mut-requires
index_mut-requires c =
    let n : vec_len c.loop-p.points ≡ length c.loop-p.points.items = search rules in
    omega (arith, n, number-below c.args.vertices c.args.faces c.args.edges c.args.origins.now c.loop-p.p (Vertex 0) c.requires.within c.loop-p-test.true, c.number_from-number.ensures, c.loop-p.invariant.count)

pub loop-p-preserved : goal.loop-p-preserved
loop-p-preserved c =
    let f = point_number c.args.vertices c.args.faces in
    let all = map f (map origin_of c.args.origins.now) in
    let count : length all ≡ length c.args.origins.now = length-map (map origin_of c.args.origins.now) f ∙ length-map c.args.origins.now origin_of in
    let inside : c.loop-p.p < length all = omega (arith, count, c.loop-p-test.true) in
    let number : c.number_from-number.result ≡ get_or all c.loop-p.p 0 = c.number_from-number.ensures ∙ twice-at origin_of f c.args.origins.now c.loop-p.p (Vertex 0) c.loop-p-test.true in
    let below : get_or all c.loop-p.p 0 < length c.loop-p.points.items =
    omega (arith, number, c.number_from-number.ensures, c.loop-p.invariant.count, number-below c.args.vertices c.args.faces c.args.edges c.args.origins.now c.loop-p.p (Vertex 0) c.requires.within c.loop-p-test.true) in
    let pairs = origin-pairs c.args.vertices c.args.faces c.args.edges (map origin_of c.args.origins.now) c.requires.within c.requires.once in
    let step = inverse-step all c.loop-p.points.items c.loop-p.p pairs inside c.loop-p.invariant.inverse below in
    record {
      numbers = c.push_reserved.ensures.items ∙ ap (λ (ns : List ℕ). ns ++ c.number_from-number.result ∷ []) c.loop-p.invariant.numbers ∙ ap (λ (n : ℕ). take c.loop-p.p all ++ n ∷ []) number ∙ sym (take_more all c.loop-p.p 0 inside);
      inverse = subst (λ n. IsInverse (take (c.loop-p.p + 1) all) (set c.loop-p.points.items n c.loop-p.p)) (sym number) step;
      count = length-set c.loop-p.points.items c.number_from-number.result c.loop-p.p ∙ c.loop-p.invariant.count;
      room = omega (arith, c.push_reserved.ensures.capacity, c.loop-p.invariant.room);
    }

pub returns : goal.returns
returns c =
    let f = point_number c.args.vertices c.args.faces in
    let all = map f (map origin_of c.args.origins.now) in
    let count : length all ≡ length c.args.origins.now = length-map (map origin_of c.args.origins.now) f ∙ length-map c.args.origins.now origin_of in
    let past : length all ≤ c.loop-p.p = omega (arith, count, c.loop-p-test.false) in
    record {
      numbers = c.loop-p.invariant.numbers ∙ take_all c.loop-p.p all past;
      count = c.loop-p.invariant.count;
      inverse = subst (λ (ns : List ℕ). IsInverse ns c.loop-p.points.items) (sym c.loop-p.invariant.numbers) c.loop-p.invariant.inverse;
    }
