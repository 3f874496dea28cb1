-- A cube that is assumed literal by literal.
use Rattle.std.proofs.Common.{◌≡◌, ℕ, ◌-◌, Bool, true, false, not, List, [], ◌∷◌, ◌++◌, length, Option, Some, inl, inr, refl, sym, ap, ◌∙◌, subst, arith}
use Rattle.std.specs.Bool.{beq}
use Rattle.std.proofs.lemmas.List.{length_push, get_or_push}
use Rattle.std.proofs.lemmas.List.Elements.{All-push, All-nil, All-cons}
use Rattle.asp_vars.specs.Literals.{Literal, complement, has_literal, agrees, value_of}
use Rattle.asp_trail.specs.declared.trail.Entry.{Entry}
use Rattle.asp_trail.specs.Entries.{assignment, level}
use Rattle.asp_trail.specs.Trails.{IsOrdered}
use Rattle.asp_trail.proofs.HoldLaws.{holds_found}
use Rattle.asp_trail_laws.specs.Starts.{IsAssumed, AreAssumed, AreAtZero, AreStarts, AreImplied}
use Rattle.asp_trail_laws.specs.Fixpoint.{WereAtFixpoint}
use Rattle.asp_trail_laws.proofs.LitLaws.{has_append, only_one}
use Rattle.asp_trail_laws.proofs.PlaceLaws.{blank, stands_grow, level_last}

pub assume_one : (cube : List Literal) (es : List Entry) (e : Entry) → AreAssumed cube es → IsAssumed cube e → AreAssumed cube (es ++ e ∷ [])
assume_one cube es e a h = All-push (IsAssumed cube) es e a h

pub stand_one : (part : List Literal) (es : List Entry) (l : Literal) (e : Entry) → e.lit ≡ l → e.level ≡ 0 → AreAtZero part es → AreAtZero (part ++ l ∷ []) (es ++ e ∷ [])
stand_one part es l e ql qb z m h = elim (has_append part (l ∷ []) m h) [
  | inl old ↦ let t = z m old in (t.0, stands_grow es (e ∷ []) m t.0 0 t.1)
  | inr new ↦ (
    length es,
    record {
      within = omega (arith, length_push es e);
      lit = λ d. ap (λ (x : Entry). x.lit) (get_or_push es e d (length es) refl) ∙ (ql ∙ only_one l m new);
      level = λ d. ap (λ (x : Entry). x.level) (get_or_push es e d (length es) refl) ∙ qb;
    },
  )
]

beq_same : (b c : Bool) → b ≡ c → beq b c ≡ true
beq_same true true e = refl
beq_same true false e = sym e
beq_same false true e = e
beq_same false false e = refl

beq_other : (b c : Bool) → (b ≡ c → ⊥) → beq b (not c) ≡ true
beq_other true true ne = absurd (ne refl)
beq_other true false ne = refl
beq_other false true ne = refl
beq_other false false ne = absurd (ne refl)

pub held : (cube part : List Literal) (vars : ℕ) (es : List Entry) (l : Literal) (b : Bool) → IsOrdered vars es → AreAssumed cube es → AreAtZero part es →
    value_of (assignment vars es) l.var ≡ Some b → b ≡ l.truth → AreAtZero (part ++ l ∷ []) es
held cube part vars es l b o a z q e m h = elim (has_append part (l ∷ []) m h) [
  | inl old ↦ z m old
  | inr new ↦
      let f = holds_found vars es l o (ap (λ (v : Option Bool). agrees v l) q ∙ beq_same b l.truth e) in (
        f.0,
        record {
          within = f.1;
          lit = λ d. f.2 d ∙ only_one l m new;
          level = λ d. (a f.0 d f.1).level;
        },
      )
]

pub clash : (cube : List Literal) (vars : ℕ) (es : List Entry) (l : Literal) (b : Bool) → IsOrdered vars es → AreAssumed cube es →
    value_of (assignment vars es) l.var ≡ Some b → (b ≡ l.truth → ⊥) → has_literal cube (complement l) ≡ true
clash cube vars es l b o a q ne =
    let f = holds_found vars es (complement l) o (ap (λ (v : Option Bool). agrees v (complement l)) q ∙ beq_other b l.truth ne) in
    subst (λ (k : Literal). has_literal cube k ≡ true) (f.2 blank) (a f.0 blank f.1).lit

pub assumed_level : (cube : List Literal) (es : List Entry) → AreAssumed cube es → level es ≡ 0
assumed_level cube [] a = refl
assumed_level cube (e ∷ es) a = level_last (e ∷ es) e (omega arith) ∙ (a (length (e ∷ es) - 1) e (omega arith)).level

pub assumed_starts : (cube : List Literal) (es : List Entry) → AreAssumed cube es → AreAtZero cube es → AreStarts cube [] es
assumed_starts cube es a z = record {
  counted = sym (assumed_level cube es a);
  starts = λ i d h none. record {
    assumed = λ q. (a i d h).lit;
    decided = λ k q. absurd (omega (arith, q, (a i d h).level));
  };
  cube_stands = z;
  decisions_stand = λ k h. absurd (omega (arith, h));
}

pub assumed_fixpoint : (vars : ℕ) (ns : List (List Literal)) (cube : List Literal) (es : List Entry) → AreAssumed cube es → WereAtFixpoint vars ns es
assumed_fixpoint vars ns cube es a i d h none high = absurd (omega (arith, high, (a i d h).level))

-- an entry that a nogood implied
pub implied_one : (b : ℕ) (l : Literal) (id : ℕ) → AreImplied b (record { lit = l; level = b; reason = Some id } ∷ [])
implied_one b l id =
    All-cons (λ (e : Entry). (e.level ≡ b) × ((i : ℕ) × (e.reason ≡ Some i))) (record { lit = l; level = b; reason = Some id }) [] (refl, (id, refl))
    (All-nil (λ (e : Entry). (e.level ≡ b) × ((i : ℕ) × (e.reason ≡ Some i))))
