-- Texts that are put one after another.
use Rattle.std.proofs.Common.{◌≡◌, ℕ, ◌+◌, ◌<◌, ◌≤◌, suc, ◌⊎◌, inl, inr, Bool, true, false, List, [], ◌∷◌, ◌++◌, length, take, drop, get_or, arith, Option, Result, Ok, Err, IsTrue, IsErr, OnErr, append_assoc, append-nil, length-append, drop-cons, refl, ap, sym, ◌∙◌, subst}
use Rattle.std.specs.List.{flat_map}
use Rattle.std.proofs.lemmas.List.{take-append-le, take-append-drop, take_more}
use Rattle.std.proofs.lemmas.Grind.{flat_map-append}
use Rattle.far_io.specs.Bytes.{Rose, Added, AddedPrefix}
use Rattle.far_io.specs.declared.sink.WriteFailed.{WriteFailed}
use Rattle.far_io.specs.declared.sink.Sink.{Ghosts}
use Rattle.far_io.proofs.BytesLemmas.{Added-more}
use Rattle.obj_out.specs.TextSoFar.{IsTextSoFar, IsPut}
use Rattle.obj_out.specs.Puts.{Puts}
use Rattle.obj_out.specs.declared.put.Out.{Out}
use Rattle.obj_out.proofs.TextSoFarLemmas.{text-more, prefix-more, put-behind}

-- two puts are one
pub put-after : (a b c : Option (List ℕ)) (w v u x y : List ℕ) (r : Result (Unit {0}) WriteFailed) →
    IsTextSoFar a b v (w ++ x) → IsPut b v y r c u → IsPut a w (x ++ y) r c u
put-after a b c w v u x y (Ok z) p q =
    subst (λ (t : List ℕ). IsTextSoFar a c u t) (append_assoc w x y) (text-more a b c v u (w ++ x) y p q)
put-after a b c w v u x y (Err e) p q =
    subst (λ (t : List ℕ). AddedPrefix a c t) (append_assoc w x y) (prefix-more a b c v (w ++ x) y p q)

-- a prefix of a text is a prefix of a longer one
pub longer : (a b : Option (List ℕ)) (xs ys : List ℕ) → AddedPrefix a b xs → AddedPrefix a b (xs ++ ys)
longer a b xs ys p = (p.0, omega (arith, p.1, length-append xs ys), rw (take-append-le p.0 xs ys p.1) p.2)

-- a put that failed is a failed put of a longer text
pub put-cut : (a b : Option (List ℕ)) (w v x y : List ℕ) (e : WriteFailed) → IsPut a w x (Err e) b v → IsPut a w (x ++ y) (Err e) b v
put-cut a b w v x y e p = subst (λ (t : List ℕ). AddedPrefix a b t) (append_assoc w x y) (longer a b (w ++ x) y p)

-- the end of a text so far: the whole of it, or a prefix
pub whole-at-end : (a b c : Option (List ℕ)) (waits text : List ℕ) → IsTextSoFar a b waits text → Added b c waits → Added a c text
whole-at-end a b c waits text p q = subst (λ (t : List ℕ). Added a c t) p.2 (Added-more a b c p.0 waits p.1 q)

pub prefix-at-end : (a b c : Option (List ℕ)) (waits text : List ℕ) → IsTextSoFar a b waits text → AddedPrefix b c waits → AddedPrefix a c text
prefix-at-end a b c waits text p q =
    subst (λ (t : List ℕ). AddedPrefix a c t) (append-nil text)
    (prefix-more a b c waits text [] p (subst (λ (t : List ℕ). AddedPrefix b c t) (sym (append-nil waits)) q))

-- the texts of a list, at one of its items
next-text : {A : Type 0} (text : A → List ℕ) (xs : List A) (i : ℕ) (d : A) → i < length xs →
    flat_map text (take i xs) ++ text (get_or xs i d) ≡ flat_map text (take (i + 1) xs)
next-text text xs i d h =
    ap (λ t. flat_map text (take i xs) ++ t) (sym (append-nil (text (get_or xs i d))))
    ∙ sym (flat_map-append text (take i xs) (get_or xs i d ∷ []))
    ∙ ap (flat_map text) (sym (take_more xs i d h))

split-text : {A : Type 0} (text : A → List ℕ) (xs : List A) (i : ℕ) (d : A) → i < length xs →
    flat_map text (take i xs) ++ (text (get_or xs i d) ++ flat_map text (drop (suc i) xs)) ≡ flat_map text xs
split-text text xs i d h =
    ap (λ rest. flat_map text (take i xs) ++ flat_map text rest) (sym (drop-cons xs i d h))
    ∙ sym (flat_map-append text (take i xs) (drop i xs))
    ∙ ap (flat_map text) (take-append-drop i xs)

not-true : (b : Bool) → (IsTrue b → ⊥) → b ≡ false
not-true true h = absurd (h refl)
not-true false h = refl

wrong : false ≡ true → ⊥
wrong e = cc

pub rose-later : (old mid new : ℕ) → old ≤ mid → Rose mid new → Rose old new
rose-later old mid new h (inl less) = inl (omega (arith, h, less))
rose-later old mid new h (inr top) = inr top

risen : (was mid : Bool) (k l m : ℕ) → (IsTrue mid → ⊥) → k ≤ l → IsTrue mid ⊎ Rose l m → IsTrue was ⊎ Rose k m
risen was mid k l m fine h (inl failed) = absurd (fine failed)
risen was mid k l m fine h (inr rose) = inr (rose-later k l m h rose)

-- the cause of the second of two puts
cause-after : (r : Result (Unit {0}) WriteFailed) (was mid : Bool) (k l m : ℕ) → (IsTrue mid → ⊥) → k ≤ l →
    OnErr r (IsTrue mid ⊎ Rose l m) → OnErr r (IsTrue was ⊎ Rose k m)
cause-after (Ok z) was mid k l m fine h c = tt
cause-after (Err e) was mid k l m fine h c = risen was mid k l m fine h c

module _ {K : Type 0} {sink : Ghosts K} where
  -- a text after another
  pub puts-after : {a b c : Out K} {x y : List ℕ} {r : Result (Unit {0}) WriteFailed} → Puts sink a b x (Ok tt) → Puts sink b c y r →
      Puts sink a c (x ++ y) r
  puts-after {a} {b} {c} {x} {y} {r} p q = record {
    same_reference = q.same_reference ∙ p.same_reference;
    put = put-after (sink.held a.sink.now) (sink.held b.sink.now) (sink.held c.sink.now) a.waiting b.waiting c.waiting x y r p.put q.put;
    failed = q.failed;
    cause = cause-after r a.failed b.failed (sink.faults a.sink.now) (sink.faults b.sink.now) (sink.faults c.sink.now) (λ t. wrong (p.failed.1 t)) p.later q.cause;
    stuck = λ t. absurd (wrong (p.stuck t).0);
    later = omega (arith, p.later, q.later);
    fixed = q.fixed ∙ p.fixed;
  }

  -- a text that failed, and one that would have come after it
  pub puts-cut : {a b : Out K} {x : List ℕ} {e : WriteFailed} {r : Result (Unit {0}) WriteFailed} (y : List ℕ) → IsErr r → Puts sink a b x (Err e) →
      Puts sink a b (x ++ y) r
  puts-cut {r = Ok z} y err p = absurd (wrong err)
  puts-cut {a} {b} {x} {e} {r = Err f} y err p = record {
    same_reference = p.same_reference;
    put = put-cut (sink.held a.sink.now) (sink.held b.sink.now) a.waiting b.waiting x y e p.put;
    failed = p.failed;
    cause = p.cause;
    stuck = p.stuck;
    later = p.later;
    fixed = p.fixed;
  }

  -- A text put behind the waiting text, after a call that put nothing.
  pub puts-behind : {a b c : Out K} {text : List ℕ} → Puts sink a b [] (Ok tt) → c.sink ≡ b.sink → c.failed ≡ b.failed → c.waiting ≡ b.waiting ++ text →
      Puts sink a c text (Ok tt)
  puts-behind {a} {b} {c} {text} p kept fine behind = record {
    same_reference = ap (λ s. s.ghost_name) kept ∙ p.same_reference;
    put = rw kept (put-behind (sink.held a.sink.now) (sink.held b.sink.now) a.waiting b.waiting c.waiting text p.put behind);
    failed = rw fine p.failed;
    cause = tt;
    stuck = λ t. absurd (wrong (p.stuck t).0);
    later = rw kept p.later;
    fixed = rw kept p.fixed;
  }

  -- after a put that succeeded no call has failed
  pub puts-fine : {a b : Out K} {x : List ℕ} → Puts sink a b x (Ok tt) → b.failed ≡ false
  puts-fine {b} p = not-true b.failed (λ t. wrong (p.failed.1 t))

  -- A put of the same text under another name.
  pub puts-same : {a b : Out K} {x y : List ℕ} {r : Result (Unit {0}) WriteFailed} → x ≡ y → Puts sink a b x r → Puts sink a b y r
  puts-same {a} {b} {r} e p = subst (λ (t : List ℕ). Puts sink a b t r) e p

  module _ {A : Type 0} (text : A → List ℕ) (xs : List A) (i : ℕ) (d : A) (within : i < length xs) where
    -- the texts of the first of a list, and then the next one's
    pub puts-next : {a b c : Out K} {r : Result (Unit {0}) WriteFailed} → Puts sink a b (flat_map text (take i xs)) (Ok tt) →
        Puts sink b c (text (get_or xs i d)) r → Puts sink a c (flat_map text (take (i + 1) xs)) r
    puts-next p q = puts-same (next-text text xs i d within) (puts-after p q)

    -- the next one's text failed, and with it the text of the list
    pub puts-stop : {a b c : Out K} {e : WriteFailed} {r : Result (Unit {0}) WriteFailed} → IsErr r →
        Puts sink a b (flat_map text (take i xs)) (Ok tt) → Puts sink b c (text (get_or xs i d)) (Err e) → Puts sink a c (flat_map text xs) r
    puts-stop err p q = puts-same (split-text text xs i d within) (puts-after p (puts-cut (flat_map text (drop (suc i) xs)) err q))
