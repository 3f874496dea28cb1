-- Entries, by their literals.
use Rattle.std.proofs.Common.{◌≡◌, ℕ, ◌<◌, ◌≤◌, Bool, true, false, eqb, List, Some, None, length, get_or, inl, inr, ◌⊎◌, refl, sym, ap, ◌∙◌, subst, arith}
use Rattle.std.proofs.lemmas.Bool.{eq-eqb, eqb-true}
use Rattle.asp_vars.specs.Literals.{Literal, holds_in}
use Rattle.asp_trail.specs.declared.trail.Entry.{Entry}
use Rattle.asp_trail.specs.Entries.{assignment, entry_of, level_in, level_or_zero, reason_in, reason_or_none}
use Rattle.asp_trail.specs.Reasons.{Stands}
use Rattle.asp_trail.specs.Trails.{IsOrdered}
use Rattle.asp_trail.proofs.EntryLaws.{find_only}
use Rattle.std.specs.Option.{is_some}
use Rattle.asp_trail.specs.Trails.{IsVar}
use Rattle.asp_trail.proofs.HoldLaws.{holds_at, holds_found, value_at}
use Rattle.asp_analyze.specs.Way.{IsOn}

false_from : (b : Bool) → (b ≡ true → ⊥) → b ≡ false
false_from true f = absurd (f refl)
false_from false f = refl

-- the entry of a variable is the only one that has it
pub entry_at : (vars : ℕ) (es : List Entry) (i : ℕ) (d : Entry) → IsOrdered vars es → i < length es → entry_of es (get_or es i d).lit.var ≡ Some (get_or es i d)
entry_at vars es i d o h =
    find_only (λ e. eqb e.lit.var (get_or es i d).lit.var) es i d h (eq-eqb (get_or es i d).lit.var (get_or es i d).lit.var refl)
    (λ j l. false_from (eqb (get_or es j d).lit.var (get_or es i d).lit.var) (λ q. o.apart j i d l h (eqb-true (get_or es j d).lit.var (get_or es i d).lit.var q)))

entry_stands : (vars : ℕ) (es : List Entry) (l : Literal) (i b : ℕ) (d : Entry) → IsOrdered vars es → Stands es l i b → entry_of es l.var ≡ Some (get_or es i d)
entry_stands vars es l i b d o s = ap (λ (k : Literal). entry_of es k.var) (sym (s.lit d)) ∙ entry_at vars es i d o s.within

pub stands_level : (vars : ℕ) (es : List Entry) (l : Literal) (i b : ℕ) → IsOrdered vars es → Stands es l i b → level_in es l.var ≡ b
stands_level vars es l i b o s =
    let d : Entry = record { lit = l; level = 0; reason = None } in
    ap level_or_zero (entry_stands vars es l i b d o s) ∙ s.level d

pub stands_reason : (vars : ℕ) (es : List Entry) (l : Literal) (i b : ℕ) (d : Entry) → IsOrdered vars es → Stands es l i b → reason_in es l.var ≡ (get_or es i d).reason
stands_reason vars es l i b d o s = ap reason_or_none (entry_stands vars es l i b d o s)

pub stands_found : (vars : ℕ) (es : List Entry) (l : Literal) → IsOrdered vars es → holds_in (assignment vars es) l ≡ true → (i : ℕ) × Stands es l i (level_in es l.var)
stands_found vars es l o h =
    let f = holds_found vars es l o h in (
      f.0,
      record {
        within = f.1;
        lit = f.2;
        level = λ d. sym (ap (λ (k : Literal). level_in es k.var) (sym (f.2 d)) ∙ ap level_or_zero (entry_at vars es f.0 d o f.1));
      },
    )

pub stands_holds : (vars : ℕ) (es : List Entry) (l : Literal) (i b : ℕ) → IsOrdered vars es → Stands es l i b → holds_in (assignment vars es) l ≡ true
stands_holds vars es l i b o s =
    let d : Entry = record { lit = l; level = 0; reason = None } in
    holds_at vars es i d l o s.within (s.lit d)

lt_cases : (i j : ℕ) → (i < j) ⊎ ((i ≡ j) ⊎ (j < i))
lt_cases i j = grind arith

-- a literal stands once
pub stands_once : (vars : ℕ) (es : List Entry) (l : Literal) (i j b c : ℕ) → IsOrdered vars es → Stands es l i b → Stands es l j c → i ≡ j
stands_once vars es l i j b c o s t =
    let d : Entry = record { lit = l; level = 0; reason = None } in
    let same : (get_or es i d).lit.var ≡ (get_or es j d).lit.var = ap (λ (k : Literal). k.var) (s.lit d ∙ sym (t.lit d)) in
    elim (lt_cases i j) [
      | inl h ↦ absurd (o.apart i j d h t.within same)
      | inr r ↦ elim r [ inl e ↦ e | inr h ↦ absurd (o.apart j i d h s.within (sym same)) ]
    ]

-- of two that stand, the earlier isn't of a higher level
pub stands_rising : (vars : ℕ) (es : List Entry) (k l : Literal) (i j b c : ℕ) → IsOrdered vars es → Stands es k i b → Stands es l j c → i < j → b ≤ c
stands_rising vars es k l i j b c o s t h =
    let d : Entry = record { lit = l; level = 0; reason = None } in
    omega (arith, o.rising i j d h t.within, s.level d, t.level d)

-- ---- literals that are entries'
pub on_small : (vars : ℕ) (es : List Entry) (l : Literal) → IsOrdered vars es → IsOn es l → IsVar vars l.var
on_small vars es l o n =
    let d : Entry = record { lit = l; level = 0; reason = None } in
    subst (λ (k : Literal). IsVar vars k.var) (n.stands.lit d) (o.within n.place d n.stands.within)

pub on_has : (vars : ℕ) (es : List Entry) (l : Literal) → IsOrdered vars es → IsOn es l → is_some (get_or (assignment vars es) l.var None) ≡ true
on_has vars es l o n =
    let d : Entry = record { lit = l; level = 0; reason = None } in
    ap (λ (k : Literal). is_some (get_or (assignment vars es) k.var None)) (sym (n.stands.lit d)) ∙ ap is_some (value_at vars es n.place d o n.stands.within)

-- a literal that stands is an entry's
pub stands_on : (vars : ℕ) (es : List Entry) (l : Literal) (i b : ℕ) → IsOrdered vars es → Stands es l i b → IsOn es l
stands_on vars es l i b o s = record { place = i; stands = subst (λ (c : ℕ). Stands es l i c) (sym (stands_level vars es l i b o s)) s }

pub holds_on : (vars : ℕ) (es : List Entry) (l : Literal) → IsOrdered vars es → holds_in (assignment vars es) l ≡ true → IsOn es l
holds_on vars es l o h = let f = stands_found vars es l o h in record { place = f.0; stands = f.1 }

pub on_holds : (vars : ℕ) (es : List Entry) (l : Literal) → IsOrdered vars es → IsOn es l → holds_in (assignment vars es) l ≡ true
on_holds vars es l o n = stands_holds vars es l n.place (level_in es l.var) o n.stands

-- entries of one variable are one
pub on_same : (vars : ℕ) (es : List Entry) (k l : Literal) → IsOrdered vars es → IsOn es k → IsOn es l → k.var ≡ l.var → k ≡ l
on_same vars es k l o m n q =
    let d : Entry = record { lit = l; level = 0; reason = None } in
    let same : (get_or es m.place d).lit.var ≡ (get_or es n.place d).lit.var =
    ap (λ (x : Literal). x.var) (m.stands.lit d) ∙ (q ∙ sym (ap (λ (x : Literal). x.var) (n.stands.lit d))) in
    elim (lt_cases m.place n.place) [
      | inl h ↦ absurd (o.apart m.place n.place d h n.stands.within same)
      | inr r ↦ elim r [
        | inl e ↦ sym (m.stands.lit d) ∙ (ap (λ (i : ℕ). (get_or es i d).lit) e ∙ n.stands.lit d)
        | inr h ↦ absurd (o.apart n.place m.place d h m.stands.within (sym same))
      ]
    ]

-- the literal of an entry is on it
pub lit_on : (vars : ℕ) (es : List Entry) (i : ℕ) (l : Literal) → IsOrdered vars es → i < length es → ((d : Entry) → l ≡ (get_or es i d).lit) → (on : IsOn es l) × (on.place ≡ i)
lit_on vars es i l o h q = (
  record {
    place = i;
    stands = record {
      within = h;
      lit = λ d. sym (q d);
      level = λ d. sym (ap (λ (k : Literal). level_in es k.var) (q d) ∙ ap level_or_zero (entry_at vars es i d o h));
    };
  },
  refl,
)
