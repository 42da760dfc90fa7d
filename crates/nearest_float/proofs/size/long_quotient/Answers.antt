use Rattle.std.proofs.Common.{◌≡◌, ℕ, ◌+◌, ◌*◌, ◌^◌, ◌<◌, ◌≤◌, ◌-◌, ◌%◌, arith}
use Rattle.nearest_float.proofs.DivideLemmas.{guess, guess-within, guess-few, guess-near, wrapped-difference, whole-first, whole-second, quotient-few}
use Rattle.nearest_float.proofs.size.long_quotient.Goals as goal

few : (top bottom shift : ℕ) → 2 ^ 126 ≤ bottom → top < 2 * bottom → shift ≤ 52 → guess top bottom shift < 2 ^ 53
few top bottom shift wide below short = guess-few top bottom shift short (omega arith) below

difference : (top bottom shift : ℕ) → 2 ^ 126 ≤ bottom → bottom < 2 ^ 127 → top < 2 * bottom → shift ≤ 52 →
    (top * 2 ^ shift % 2 ^ 128 + (2 ^ 128 - guess top bottom shift * bottom % 2 ^ 128)) % 2 ^ 128 ≡ top * 2 ^ shift - guess top bottom shift * bottom
difference top bottom shift wide fits below short =
    wrapped-difference (top * 2 ^ shift) (guess top bottom shift * bottom) (guess-within top bottom shift short)
    (let near = guess-near top bottom shift short wide below in omega (arith, near))

pub overflow_cast-result : goal.overflow_cast-result
overflow_cast-result c =
    let few = few c.args.top c.args.bottom c.args.shift c.requires.wide c.requires.below c.requires.short in record { fits = omega (arith, few) }

pub overflow_cast-result-else-rest-bottom : goal.overflow_cast-result-else-rest-bottom
overflow_cast-result-else-rest-bottom c =
    let few = few c.args.top c.args.bottom c.args.shift c.requires.wide c.requires.below c.requires.short in record { fits = omega (arith, few) }

pub overflow_add-result : goal.overflow_add-result
overflow_add-result c =
    let few = few c.args.top c.args.bottom c.args.shift c.requires.wide c.requires.below c.requires.short in record { fits = omega (arith, few) }

pub returns-then-rest-bottom-clause-whole : goal.returns-then-rest-bottom-clause-whole
returns-then-rest-bottom-clause-whole c =
    whole-first _ _ c.args.bottom _ (guess-within c.args.top c.args.bottom c.args.shift c.requires.short)
    (difference c.args.top c.args.bottom c.args.shift c.requires.wide c.requires.fits c.requires.below c.requires.short)

pub returns-then-rest-bottom-clause-few : goal.returns-then-rest-bottom-clause-few
returns-then-rest-bottom-clause-few c = few c.args.top c.args.bottom c.args.shift c.requires.wide c.requires.below c.requires.short

pub returns-else-rest-bottom-clause-whole : goal.returns-else-rest-bottom-clause-whole
returns-else-rest-bottom-clause-whole c =
    whole-second _ _ c.args.bottom _ (guess-within c.args.top c.args.bottom c.args.shift c.requires.short)
    (difference c.args.top c.args.bottom c.args.shift c.requires.wide c.requires.fits c.requires.below c.requires.short) c.if-rest-bottom.false

pub returns-else-rest-bottom-clause-rest : goal.returns-else-rest-bottom-clause-rest
returns-else-rest-bottom-clause-rest c =
    let is = difference c.args.top c.args.bottom c.args.shift c.requires.wide c.requires.fits c.requires.below c.requires.short in
    let near = guess-near c.args.top c.args.bottom c.args.shift c.requires.short c.requires.wide c.requires.below in
    omega (arith, is, near, c.requires.wide)

pub returns-else-rest-bottom-clause-few : goal.returns-else-rest-bottom-clause-few
returns-else-rest-bottom-clause-few c =
    let whole = whole-second _ _ c.args.bottom _ (guess-within c.args.top c.args.bottom c.args.shift c.requires.short)
    (difference c.args.top c.args.bottom c.args.shift c.requires.wide c.requires.fits c.requires.below c.requires.short) c.if-rest-bottom.false in
    quotient-few c.args.top c.args.bottom c.args.shift _ _ c.requires.short (omega (arith, c.requires.wide)) c.requires.below whole
