-- Bytes that are put out one after another.
use Rattle.std.proofs.Common.{◌≡◌, ℕ, ◌+◌, List, [], ◌++◌, ◌∙◌, refl, sym, ap, subst, arith, append_assoc, append-nil, take, drop, drop-cons, add-one, suc, get_or, ◌∷◌, length, min, ◌≤◌, ◌<◌}
use Rattle.std.specs.Prelude.{OnOk, OnErr, Ok, Err, Option, Result, IsErrAnd}
use Rattle.std.specs.Io.KnownBytes.{Appends}
use Rattle.std.proofs.KnownBytes.{Appends-trans, Appends-nil}
use Rattle.std.proofs.Math.Seq.{take-append-add}
use Rattle.std.proofs.lemmas.List.{take-append-le, take_min}
use Rattle.std.proofs.lemmas.Result.{err_from_is_err_and}
use Rattle.asp_io.specs.Causes.{Rose, AppendsFront}
use Rattle.asp_buffer.specs.Out.{Out, Passes, Puts}

-- a front of some bytes is one of more bytes
pub front-more : (old new : Option (List ℕ)) (bytes more : List ℕ) → AppendsFront old new bytes → AppendsFront old new (bytes ++ more)
front-more old new bytes more f =
    let shorter : take (min f.count (length bytes)) (bytes ++ more) ≡ take (min f.count (length bytes)) bytes = take-append-le (min f.count (length bytes)) bytes more (omega arith) in
    record {
      count = min f.count (length bytes);
      front = subst (λ (t : List ℕ). Appends old new t) (sym (shorter ∙ take_min f.count bytes)) f.front;
    }

-- all of some bytes and then a front of others
pub front-after : (old now new : Option (List ℕ)) (first others : List ℕ) → Appends old now first → AppendsFront now new others → AppendsFront old new (first ++ others)
front-after old now new first others a f = record {
  count = length first + f.count;
  front = subst (λ (t : List ℕ). Appends old new t) (sym (take-append-add first others f.count)) (Appends-trans old now new _ _ a f.front);
}

regroup : (written waiting later before first others : List ℕ) → later ≡ waiting ++ others → written ++ waiting ≡ before ++ first → written ++ later ≡ before ++ (first ++ others)
regroup written waiting later before first others e kept =
    ap (λ (t : List ℕ). written ++ t) e ∙ sym (append_assoc written waiting others) ∙ ap (λ (t : List ℕ). t ++ others) kept ∙ append_assoc before first others

pub passes_then : (a b c : Out) (x y : List ℕ) → Passes a b x → Passes b c y → Passes a c (x ++ y)
passes_then a b c x y p q = record {
  written = p.written ++ q.written;
  appended = Appends-trans a.held b.held c.held _ _ p.appended q.appended;
  kept = append_assoc p.written q.written c.waiting ∙ regroup p.written b.waiting (q.written ++ c.waiting) a.waiting x y q.kept p.kept;
}

fails-then : (a b c : Out) (x y : List ℕ) → Passes a b x → AppendsFront b.held c.held (b.waiting ++ y) → AppendsFront a.held c.held (a.waiting ++ (x ++ y))
fails-then a b c x y p f =
    subst (λ (t : List ℕ). AppendsFront a.held c.held t) (regroup p.written b.waiting _ a.waiting x y refl p.kept)
    (front-after a.held b.held c.held _ _ p.appended f)

-- some bytes, and then others
pub puts_then : {T E U F : Type 0} (a b c : Out) (v : T) (r : Result U F) (x y : List ℕ) → Puts {T = T} {E = E} a b (Ok v) x → Puts b c r y → Puts a c r (x ++ y)
puts_then {U = U} {F = F} a b c v r x y p q = go r q
  where
    go : (r : Result U F) → Puts b c r y → Puts a c r (x ++ y)
    go (Ok w) q = record {
      all = passes_then a b c x y p.all q.all;
      front = tt;
      later = omega (arith, p.later, q.later);
      cause = tt;
      quiet = q.quiet ∙ p.quiet;
    }
    go (Err e) q = record {
      all = tt;
      front = fails-then a b c x y p.all q.front;
      later = omega (arith, p.later, q.later);
      cause = omega (arith, p.later, q.cause);
      quiet = tt;
    }

-- what fails at some bytes fails at these and others
pub puts_fails : {T E U F : Type 0} (Q : F → Type 0) (a b : Out) (e : E) (r : Result U F) (x y : List ℕ) → Puts {T = T} {E = E} a b (Err e) x → IsErrAnd r Q → Puts a b r (x ++ y)
puts_fails Q a b e r x y p is =
    let err = err_from_is_err_and r is in
    rw err.1 (record {
      all = tt;
      front = subst (λ (t : List ℕ). AppendsFront a.held b.held t) (append_assoc a.waiting x y) (front-more a.held b.held _ y p.front);
      later = p.later;
      cause = p.cause;
      quiet = tt;
    })

pub puts_same : {T E : Type 0} (a b : Out) (r : Result T E) (x y : List ℕ) → Puts a b r x → x ≡ y → Puts a b r y
puts_same a b r x y p e = subst (λ (t : List ℕ). Puts a b r t) e p

-- some of all bytes were put, and the rest not yet
pub record Midway (before now : Out) (all rest : List ℕ) : Type 0 where
  pub text : List ℕ
  pub went : Puts {T = Unit {0}} {E = Unit {0}} before now (Ok tt) text
  pub same : text ++ rest ≡ all

pub midway_start : (a : Out) (all rest : List ℕ) → rest ≡ all → Midway a a all rest
midway_start a all rest e = record {
  text = [];
  went = record { all = record { written = []; appended = Appends-nil a.held; kept = sym (append-nil a.waiting) }; front = tt; later = omega arith; cause = tt; quiet = refl };
  same = e;
}

pub midway_more : {T E : Type 0} (a b c : Out) (v : T) (all rest bytes others : List ℕ) → Midway a b all rest → Puts {T = T} {E = E} b c (Ok v) bytes → rest ≡ bytes ++ others → Midway a c all others
midway_more a b c v all rest bytes others m p e = record {
  text = m.text ++ bytes;
  went = let q : Puts {T = Unit {0}} {E = Unit {0}} b c (Ok tt) bytes =
      record { all = p.all; front = tt; later = p.later; cause = tt; quiet = p.quiet } in puts_then a b c tt (Ok tt) m.text bytes m.went q;
  same = append_assoc m.text bytes others ∙ ap (λ (t : List ℕ). m.text ++ t) (sym e) ∙ m.same;
}

pub midway_fails : {T E U F : Type 0} (Q : F → Type 0) (a b c : Out) (e : E) (r : Result U F) (all rest bytes others : List ℕ) → Midway a b all rest →
    Puts {T = T} {E = E} b c (Err e) bytes → rest ≡ bytes ++ others → IsErrAnd r Q → Puts a c r all
midway_fails Q a b c e r all rest bytes others m p is err =
    let whole : (m.text ++ bytes) ++ others ≡ all = append_assoc m.text bytes others ∙ ap (λ (t : List ℕ). m.text ++ t) (sym is) ∙ m.same in
    subst (λ (t : List ℕ). Puts a c r t) whole (puts_fails Q a c e r (m.text ++ bytes) others (puts_then a b c tt (Err e) m.text bytes m.went p) err)

-- an element, and those behind it
pub drop_turn : {A : Type 0} (xs : List A) (i : ℕ) (x : A) → i < length xs → x ≡ get_or xs i x → drop i xs ≡ x ∷ drop (i + 1) xs
drop_turn xs i x lt is = rw (add-one, drop-cons xs i x) (ap (λ y. y ∷ drop (suc i) xs) (sym is))

pub drop_turn_or : {A : Type 0} (xs : List A) (i : ℕ) (d : A) → i < length xs → drop i xs ≡ get_or xs i d ∷ drop (i + 1) xs
drop_turn_or xs i d lt = rw (add-one, drop-cons xs i d) refl

-- what is said of a text that was put out where nothing waited
pub record Printed {T E : Type 0} (before after : Out) (result : Result T E) (text : List ℕ) : Type 0 where
  pub all : OnOk result (Appends before.held after.held text)
  pub front : OnErr result (AppendsFront before.held after.held text)
  pub later : before.faults ≤ after.faults
  pub cause : OnErr result (Rose before.faults after.faults)
  pub quiet : OnOk result (after.faults ≡ before.faults)

pub printed : {T E : Type 0} (a b : Out) (r : Result T E) (text : List ℕ) → a.waiting ≡ [] → OnOk r (b.waiting ≡ []) → Puts a b r text → Printed a b r text
printed a b (Ok v) text start end p =
    let whole : p.all.written ≡ text = sym (append-nil p.all.written) ∙ ap (λ (t : List ℕ). p.all.written ++ t) (sym end) ∙ p.all.kept ∙ ap (λ (t : List ℕ). t ++ text) start in
    record { all = subst (λ (t : List ℕ). Appends a.held b.held t) whole p.all.appended; front = tt; later = p.later; cause = tt; quiet = p.quiet }
printed a b (Err e) text start end p = record {
  all = tt;
  front = subst (λ (t : List ℕ). AppendsFront a.held b.held (t ++ text)) start p.front;
  later = p.later;
  cause = p.cause;
  quiet = p.quiet;
}

pub printed-fails : {T E U F : Type 0} (Q : F → Type 0) (a b : Out) (e : E) (r : Result U F) (text : List ℕ) → a.waiting ≡ [] →
    Puts {T = T} {E = E} a b (Err e) text → IsErrAnd r Q → Printed a b r text
printed-fails Q a b e r text start p is =
    let err = err_from_is_err_and r is in
    rw err.1 (record { all = tt; front = subst (λ (t : List ℕ). AppendsFront a.held b.held (t ++ text)) start p.front; later = p.later; cause = p.cause; quiet = tt })
