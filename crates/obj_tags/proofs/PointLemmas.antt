-- The point of a line over a common denominator, and the texture value of one.
use Rattle.std.proofs.Common.{◌≡◌, ℕ, suc, ◌/◌, ◌≤◌, ℤ, pos, unsigned_abs, Bool, true, false, ◌||◌, List, [], ◌∷◌, ◌++◌, length, map, take, drop, get_or, Option, Some, None, arith, refl, ap, sym, subst, ◌∙◌, codes}
use Rattle.std.specs.Prelude.{is_none, is_some, not}
use Rattle.std.proofs.lemmas.Bool.Decides.{nat_tests}
use Rattle.std.proofs.lemmas.List.{map_push}
use Rattle.std.proofs.Math.IntN.{zero-*ℤ}
use Rattle.subdiv_model.specs.ObjFault.{ObjCause, first_cause}
use Rattle.subdiv_model.specs.ObjLine.{is_vertex_line}
use Rattle.subdiv_model.specs.ObjWord.{numeral_fault, number_over}
use Rattle.subdiv_model.specs.ReadObj.{is_texture_line, is_long_over, has_long_number, point_over, texture_over}
use Rattle.ratio128.specs.declared.point.Point2.{Point2}
use Rattle.ratio128.specs.declared.point.Point3.{Point3}
use Rattle.obj_tags.specs.Channel.{IsShortNumber, are_long, IsPointOver, IsTextureOver, point_from, texture_from, point_or_origin, texture_or_origin, first_long, AddsPosition, AddsTextureValue}
use Rattle.obj_tags.specs.Line.{Line}
use Rattle.raw_mesh.specs.View.{point_of, texture_of}
use Rattle.obj_tags.specs.declared.channel.Positions.{Positions}
use Rattle.obj_tags.specs.declared.channel.TextureValues.{TextureValues}
use Rattle.obj_tags.proofs.ChannelLemmas.{channel-more}
use Rattle.obj_tags.proofs.WalkLemmas.{cause-none, cause-some}
use Rattle.obj_tags.proofs.FineLemmas.{vertex-kept, texture-kept}

-- a missing coordinate
pub zero-short : (common : ℕ) → IsShortNumber (Some (pos 0)) (number_over common (codes "0"))
zero-short common =
    let zero : number_over common (codes "0") ≡ pos 0 = zero-*ℤ (pos (common / 1)) in
    (sym zero, let none = ap unsigned_abs zero in omega (arith, none))

-- a number that is missing
pub missing-zero : (common : ℕ) (words : Line) → words ≡ []
    → (numeral_fault (get_or words 0 (codes "0")) ≡ None) × IsShortNumber (Some (pos 0)) (number_over common (get_or words 0 (codes "0")))
missing-zero common words e = rw e (refl, zero-short common)

-- a number that is short, and one that is not
short-test : (common : ℕ) (word : List ℕ) (x : ℤ) → IsShortNumber (Some x) (number_over common word) → is_long_over common word ≡ false
short-test common word x is = let less = is.1 in grind (arith, nat_tests)

long-test : (common : ℕ) (word : List ℕ) → IsShortNumber None (number_over common word) → is_long_over common word ≡ true
long-test common word is = grind (arith, nat_tests)

or_true : (b : Bool) → b || true ≡ true
or_true true = refl
or_true false = refl

-- three numbers
pub point-over : (common : ℕ) (words : Line) (x y z : Option ℤ) → 3 ≤ length words
    → IsShortNumber x (number_over common (get_or words 0 [])) → IsShortNumber y (number_over common (get_or words 1 []))
    → IsShortNumber z (number_over common (get_or words 2 [])) → IsPointOver common (point_from x y z) words
point-over common [] x y z h a b c = absurd (omega arith)
point-over common (u ∷ []) x y z h a b c = absurd (omega arith)
point-over common (u ∷ (v ∷ [])) x y z h a b c = absurd (omega arith)
point-over common (u ∷ (v ∷ (w ∷ words))) None y z h a b c = rw (long-test common u a) refl
point-over common (u ∷ (v ∷ (w ∷ words))) (Some x) None z h a b c = rw (long-test common v b) (or_true (is_long_over common u))
point-over common (u ∷ (v ∷ (w ∷ words))) (Some x) (Some y) None h a b c =
    rw (long-test common w c) (ap (λ b. is_long_over common u || b) (or_true (is_long_over common v)) ∙ or_true (is_long_over common u))
point-over common (u ∷ (v ∷ (w ∷ words))) (Some x) (Some y) (Some z) h a b c = (
  rw (short-test common u x a, short-test common v y b, short-test common w z c) refl,
  rw (sym a.0, sym b.0, sym c.0) refl,
)

-- two, of which the second may be missing
pub texture-over : (common : ℕ) (words : Line) (u v : Option ℤ) → 1 ≤ length words
    → IsShortNumber u (number_over common (get_or words 0 [])) → IsShortNumber v (number_over common (get_or words 1 (codes "0")))
    → IsTextureOver common (texture_from u v) words
texture-over common [] u v h a b = absurd (omega arith)
texture-over common (p ∷ []) None v h a b = rw (long-test common p a) refl
texture-over common (p ∷ []) (Some u) None h a b =
    let zero : number_over common (codes "0") ≡ pos 0 = zero-*ℤ (pos (common / 1)) in
    let none = ap unsigned_abs zero in
    absurd (omega (arith, none, b))
texture-over common (p ∷ []) (Some u) (Some v) h a b = (rw (short-test common p u a) refl, rw (sym a.0, sym b.0) refl)
texture-over common (p ∷ (q ∷ words)) None v h a b = rw (long-test common p a) refl
texture-over common (p ∷ (q ∷ words)) (Some u) None h a b = rw (long-test common q b) (or_true (is_long_over common p))
texture-over common (p ∷ (q ∷ words)) (Some u) (Some v) h a b = (
  rw (short-test common p u a, short-test common q v b) refl,
  rw (sym a.0, sym b.0) refl,
)

get-drop : (line : Line) (i : ℕ) (d : List ℕ) → get_or line (suc i) d ≡ get_or (drop 1 line) i d
get-drop [] i d = refl
get-drop (word ∷ line) i d = refl

first-none : (words : Line) (d : List ℕ) → numeral_fault (get_or words 0 d) ≡ None → first_cause numeral_fault (drop 1 words) ≡ None
    → first_cause numeral_fault words ≡ None
first-none [] d here rest = refl
first-none (word ∷ words) d here rest = cause-none numeral_fault word words here ∙ rest

-- a numeral that was read of words, as a number over a common denominator
abbrev pub IsNumberAt : ℕ → Option ℤ → List ℕ → Type 0
IsNumberAt common read word = (numeral_fault word ≡ None) × IsShortNumber read (number_over common word)

-- the three numerals of a point, and then the others
pub read-point : (common : ℕ) (words after-x after-y after-z : Line) (x y z : Option ℤ) (point : Option Point3) → 3 ≤ length words
    → after-x ≡ drop 1 words → after-y ≡ drop 1 after-x → after-z ≡ drop 1 after-y → IsNumberAt common x (get_or words 0 [])
    → IsNumberAt common y (get_or after-x 0 []) → IsNumberAt common z (get_or after-y 0 [])
    → first_cause numeral_fault after-z ≡ None → point ≡ point_from x y z
    → (first_cause numeral_fault words ≡ None) × IsPointOver common point words
read-point common words after-x after-y after-z x y z point enough ex ey ez hx hy hz rest e =
    let second : get_or after-x 0 [] ≡ get_or words 1 [] = ap (λ ws. get_or ws 0 []) ex ∙ sym (get-drop words 0 []) in
    let later : get_or after-x 1 [] ≡ get_or words 2 [] = ap (λ ws. get_or ws 1 []) ex ∙ sym (get-drop words 1 []) in
    let third : get_or after-y 0 [] ≡ get_or words 2 [] = ap (λ ws. get_or ws 0 []) ey ∙ sym (get-drop after-x 0 []) ∙ later in
    let from-y : first_cause numeral_fault after-y ≡ None = first-none after-y [] hz.0 (sym (ap (first_cause numeral_fault) ez) ∙ rest) in
    let from-x : first_cause numeral_fault after-x ≡ None = first-none after-x [] hy.0 (sym (ap (first_cause numeral_fault) ey) ∙ from-y) in (
      first-none words [] hx.0 (sym (ap (first_cause numeral_fault) ex) ∙ from-x),
      subst (λ p. IsPointOver common p words) (sym e)
          (point-over common words x y z enough hx.1 (subst (λ w. IsShortNumber y (number_over common w)) second hy.1) (subst (λ w. IsShortNumber z (number_over common w)) third hz.1)),
    )

-- the numerals of a texture value, of which the second may be missing
pub read-texture : (common : ℕ) (words after-u after-v : Line) (u v : Option ℤ) (point : Option Point2) → 1 ≤ length words
    → after-u ≡ drop 1 words → after-v ≡ drop 1 after-u → IsNumberAt common u (get_or words 0 [])
    → IsNumberAt common v (get_or after-u 0 (codes "0")) → first_cause numeral_fault after-v ≡ None → point ≡ texture_from u v
    → (first_cause numeral_fault words ≡ None) × IsTextureOver common point words
read-texture common words after-u after-v u v point enough eu ev hu hv rest e =
    let second : get_or after-u 0 (codes "0") ≡ get_or words 1 (codes "0") = ap (λ ws. get_or ws 0 (codes "0")) eu ∙ sym (get-drop words 0 (codes "0")) in
    let from-u : first_cause numeral_fault after-u ≡ None = first-none after-u (codes "0") hv.0 (sym (ap (first_cause numeral_fault) ev) ∙ rest) in (
      first-none words [] hu.0 (sym (ap (first_cause numeral_fault) eu) ∙ from-u),
      subst (λ p. IsTextureOver common p words) (sym e)
          (texture-over common words u v enough hu.1 (subst (λ w. IsShortNumber v (number_over common w)) second hv.1)),
    )

-- a second that is no numeral that is kept
pub second-fault : (words after-u : Line) (cause : ObjCause) → after-u ≡ drop 1 words → numeral_fault (get_or words 0 []) ≡ None
    → numeral_fault (get_or after-u 0 (codes "0")) ≡ Some cause → first_cause numeral_fault words ≡ Some cause
second-fault words after-u cause e first second = by words (sym e) first
  where
    here : (left : Line) → numeral_fault (get_or left 0 (codes "0")) ≡ Some cause → first_cause numeral_fault left ≡ Some cause
    here [] h = cc
    here (word ∷ left) h = cause-some numeral_fault word left cause h

    by : (all : Line) → drop 1 all ≡ after-u → numeral_fault (get_or all 0 []) ≡ None → first_cause numeral_fault all ≡ Some cause
    by [] e none = cc
    by (word ∷ all) e none = cause-none numeral_fault word all none ∙ ap (first_cause numeral_fault) e ∙ here after-u second

long-point : (common : ℕ) (point : Option Point3) (words : Line) → IsPointOver common point words
    → are_long common (take 3 words) ≡ is_none point
long-point common None words is = is
long-point common (Some p) words is = is.0

long-texture : (common : ℕ) (point : Option Point2) (words : Line) → IsTextureOver common point words
    → are_long common (take 2 words) ≡ is_none point
long-texture common None words is = is
long-texture common (Some p) words is = is.0

point-here : (common : ℕ) (point : Option Point3) (line : Line) → IsPointOver common point (drop 1 line) → is_none point ≡ false
    → point_of (point_or_origin point) ≡ point_over common line
point-here common None line is e = cc
point-here common (Some p) line is e = is.1 ∙ rw (get-drop line 0 [], get-drop line 1 [], get-drop line 2 []) refl

texture-here : (common : ℕ) (point : Option Point2) (line : Line) → IsTextureOver common point (drop 1 line) → is_none point ≡ false
    → texture_of (texture_or_origin point) ≡ texture_over common line
texture-here common None line is e = cc
texture-here common (Some p) line is e = is.1 ∙ rw (get-drop line 0 [], get-drop line 1 (codes "0")) refl

-- A test for a value decides whether there is none.
pub none-said : {X : Type 0} (point : Option X) (b : Bool) → is_some point ≡ not b → b ≡ is_none point
none-said None true e = refl
none-said None false e = cc
none-said (Some p) true e = cc
none-said (Some p) false e = refl

-- a point is kept after those before it
pub adds-position : (common number : ℕ) (words : Line) (old new : Positions) (point : Option Point3) → IsPointOver common point words
    → new.points.items ≡ old.points.items ++ point_or_origin point ∷ [] → new.long ≡ first_long old.long number (is_none point)
    → AddsPosition common number words old new
adds-position common number words old new point is items long before line are kind e place =
    let said : IsPointOver common point (drop 1 line) = subst (IsPointOver common point) (sym e) is in
    let has : has_long_number common line ≡ is_none point = ap (are_long common) (vertex-kept line kind) ∙ long-point common point (drop 1 line) said in
    let next = channel-more (ℤ × ℤ × ℤ) is_vertex_line point_over common (map point_of old.points.items) (point_of (point_or_origin point)) old.long (is_none point) before line are kind has (point-here common point line said) in
    let numbers : map point_of new.points.items ≡ map point_of old.points.items ++ point_of (point_or_origin point) ∷ [] = ap (map point_of) items ∙ map_push point_of old.points.items (point_or_origin point) in
    let placed : new.long ≡ first_long old.long (suc (length before)) (is_none point) = long ∙ ap (λ n. first_long old.long n (is_none point)) place in
    rw (numbers, placed) next

pub adds-texture : (common number : ℕ) (words : Line) (old new : TextureValues) (point : Option Point2) → IsTextureOver common point words
    → new.points.items ≡ old.points.items ++ texture_or_origin point ∷ [] → new.long ≡ first_long old.long number (is_none point)
    → AddsTextureValue common number words old new
adds-texture common number words old new point is items long before line are kind e place =
    let said : IsTextureOver common point (drop 1 line) = subst (IsTextureOver common point) (sym e) is in
    let has : has_long_number common line ≡ is_none point = ap (are_long common) (texture-kept line kind) ∙ long-texture common point (drop 1 line) said in
    let next = channel-more (ℤ × ℤ) is_texture_line texture_over common (map texture_of old.points.items) (texture_of (texture_or_origin point)) old.long (is_none point) before line are kind has (texture-here common point line said) in
    let numbers : map texture_of new.points.items ≡ map texture_of old.points.items ++ texture_of (texture_or_origin point) ∷ [] = ap (map texture_of) items ∙ map_push texture_of old.points.items (texture_or_origin point) in
    let placed : new.long ≡ first_long old.long (suc (length before)) (is_none point) = long ∙ ap (λ n. first_long old.long n (is_none point)) place in
    rw (numbers, placed) next
