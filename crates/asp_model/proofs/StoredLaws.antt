-- What marks stand for: a rule more, the rule at a place, and what stays as it was where more is stored.
use Rattle.std.proofs.Common.{◌≡◌, ℕ, ℤ, ◌+◌, ◌<◌, List, [], ◌∷◌, ◌++◌, length, get_or, Result, Ok, Err, pos, refl, sym, ap, ◌∙◌, subst, arith, length-append}
use Rattle.std.specs.Result.{OnErr}
use Rattle.std.proofs.lemmas.List.{get_or_append_left}
use Rattle.asp_model.specs.declared.program.Body.TheVariants as body
use Rattle.asp_model.specs.declared.program.Head.TheVariants as head
use Rattle.asp_model.specs.declared.program.Rule.{Rule}
use Rattle.asp_model.specs.declared.extras.Extras.{Extras}
use Rattle.asp_model.specs.declared.extras.HeadMark.{HeadMark}
use Rattle.asp_model.specs.declared.extras.HeadMark.TheVariants as head_mark
use Rattle.asp_model.specs.declared.extras.Mark.{Mark}
use Rattle.asp_model.specs.declared.extras.Mark.TheVariants as mark
use Rattle.asp_model.specs.declared.extras.Weighted.{Weighted}
use Rattle.asp_model.proofs.ZippedLaws.{length-zipped, length-second, first_at, zipped-at, zipped-push, AreZipped-push, zipped-same, AreZipped-weaker}
use Rattle.asp_model.specs.Stored.{head_of, weighted_in, rule_of, rules_of, IsHeadStored, IsStored, AreStored, Keeps}

-- ---- rules by their places
pub length-rules_of : (e : Extras) (ms : List Mark) (rows : List (List ℤ)) → AreStored e ms rows → length (rules_of e ms rows) ≡ length ms
length-rules_of e = length-zipped (IsStored e) (rule_of e)

pub length-rows : (e : Extras) (ms : List Mark) (rows : List (List ℤ)) → AreStored e ms rows → length rows ≡ length ms
length-rows e = length-second (IsStored e)

pub stored_at : (e : Extras) (ms : List Mark) (rows : List (List ℤ)) (i : ℕ) (m : Mark) → AreStored e ms rows → i < length ms → IsStored e (get_or ms i m)
stored_at e = first_at (IsStored e)

pub rules_of-at : (e : Extras) (ms : List Mark) (rows : List (List ℤ)) (i : ℕ) (m : Mark) (r : Rule) → AreStored e ms rows → i < length ms →
    get_or (rules_of e ms rows) i r ≡ rule_of e (get_or ms i m) (get_or rows i [])
rules_of-at e ms rows i m r = zipped-at (IsStored e) (rule_of e) ms rows i m [] r

-- a fact that holds whatever the result is
pub on_err : {T E Q : Type 0} (r : Result T E) → Q → OnErr r Q
on_err (Ok x) q = tt
on_err (Err e) q = q

-- ---- where more is stored
rules_of-keeps : (d e : Extras) (ms : List Mark) (rows : List (List ℤ)) → Keeps d e → AreStored d ms rows → rules_of e ms rows ≡ rules_of d ms rows
rules_of-keeps d e ms rows k = zipped-same (IsStored d) (rule_of d) (rule_of e) ms rows (λ m row s. (k.rules m row s).1)

stored-keeps : (d e : Extras) (ms : List Mark) (rows : List (List ℤ)) → Keeps d e → AreStored d ms rows → AreStored e ms rows
stored-keeps d e ms rows k = AreZipped-weaker (IsStored d) (IsStored e) ms rows (λ m s. (k.rules m [] s).0)

-- after a call that gave up, and after one that added a rule
pub rules_kept : (d e : Extras) (ms ns : List Mark) (rows others : List (List ℤ)) → Keeps d e → AreStored d ms rows → ns ≡ ms → others ≡ rows →
    AreStored e ns others × (rules_of e ns others ≡ rules_of d ms rows)
rules_kept d e ms ns rows others k s marks_are rows_are = (
  subst (λ (xs : List Mark). AreStored e xs others) (sym marks_are) (subst (λ (ys : List (List ℤ)). AreStored e ms ys) (sym rows_are) (stored-keeps d e ms rows k s)),
  ap (λ (xs : List Mark). rules_of e xs others) marks_are ∙ ap (λ (ys : List (List ℤ)). rules_of e ms ys) rows_are ∙ rules_of-keeps d e ms rows k s,
)

pub rules_more : (d e : Extras) (ms ns : List Mark) (rows others : List (List ℤ)) (m : Mark) (row : List ℤ) → Keeps d e → AreStored d ms rows →
    IsStored e m → ns ≡ ms ++ m ∷ [] → others ≡ rows ++ row ∷ [] → AreStored e ns others ×
    (rules_of e ns others ≡ rules_of d ms rows ++ rule_of e m row ∷ [])
rules_more d e ms ns rows others m row k s one marks_are rows_are =
    let stored = stored-keeps d e ms rows k s in (
      subst (λ (xs : List Mark). AreStored e xs others) (sym marks_are)
          (subst (λ (ys : List (List ℤ)). AreStored e (ms ++ m ∷ []) ys) (sym rows_are) (AreZipped-push (IsStored e) ms rows m row stored one)),
      ap (λ (xs : List Mark). rules_of e xs others) marks_are
          ∙ ap (λ (ys : List (List ℤ)). rules_of e (ms ++ m ∷ []) ys) rows_are
          ∙ zipped-push (IsStored e) (rule_of e) ms rows m row stored
          ∙ ap (λ (rs : List Rule). rs ++ rule_of e m row ∷ []) (rules_of-keeps d e ms rows k s),
    )

pub keeps-further : (c d e : Extras) → Keeps c d → Keeps d e → Keeps c e
keeps-further c d e k l = record {
  heads = λ m s. ((l.heads m (k.heads m s).0).0, (l.heads m (k.heads m s).0).1 ∙ (k.heads m s).1);
  rules = λ m literals s. ((l.rules m literals (k.rules m literals s).0).0, (l.rules m literals (k.rules m literals s).0).1 ∙ (k.rules m literals s).1);
}

-- e has the rows of d, and more behind them
pub record Grows (d e : Extras) : Type 0 where
  pub more_choices : List (List ℕ)
  pub more_weighted : List Weighted
  pub more_items : List (List (ℤ × ℤ))
  pub choices : e.choices ≡ d.choices ++ more_choices
  pub weighted : e.weighted.items ≡ d.weighted.items ++ more_weighted
  pub items : e.items ≡ d.items ++ more_items

choice_kept : (d e : Extras) → Grows d e → (row : ℕ) → row < length d.choices → (row < length e.choices) × (get_or e.choices row [] ≡ get_or d.choices row [])
choice_kept d e g row lt = (
  omega (arith, lt, ap length g.choices, length-append d.choices g.more_choices),
  ap (λ (xs : List (List ℕ)). get_or xs row []) g.choices ∙ get_or_append_left d.choices g.more_choices [] row lt,
)

head_kept : (d e : Extras) → Grows d e → (m : HeadMark) → IsHeadStored d m → IsHeadStored e m × (head_of e m ≡ head_of d m)
head_kept d e g (head_mark.One a) s = (tt, refl)
head_kept d e g (head_mark.Choice row) s = let kept = choice_kept d e g row s in (kept.0, ap head.Choice kept.1)
head_kept d e g head_mark.Never s = (tt, refl)

weighted_kept : (d e : Extras) → Grows d e → (k : ℕ) → k < length d.weighted.items → weighted_in e k ≡ weighted_in d k
weighted_kept d e g k lt =
    let none : Weighted = record { head = head_mark.Never; bound = pos 0; row = 0 } in
    ap (λ (ws : List Weighted). get_or ws k none) g.weighted ∙ get_or_append_left d.weighted.items g.more_weighted none k lt

rule_kept : (d e : Extras) → Grows d e → (m : Mark) (literals : List ℤ) → IsStored d m → IsStored e m × (rule_of e m literals ≡ rule_of d m literals)
rule_kept d e g (mark.One a) literals s = (tt, refl)
rule_kept d e g (mark.Choice row) literals s =
    let kept = choice_kept d e g row s in
    let same = kept.1 in
    (kept.0, λ i. record { head = head.Choice (same i); body = body.All literals })
rule_kept d e g mark.Never literals s = (tt, refl)
rule_kept d e g (mark.Weighted k) literals s =
    let w : Weighted = weighted_in d k in
    let w_is : weighted_in e k ≡ w = weighted_kept d e g k s.place in
    let of_head = head_kept d e g w.head s.head in
    let row_kept : get_or e.items w.row [] ≡ get_or d.items w.row [] =
    ap (λ (xs : List (List (ℤ × ℤ))). get_or xs w.row []) g.items ∙ get_or_append_left d.items g.more_items [] w.row s.items in
    let same = of_head.1 in (
      record {
        place = omega (arith, s.place, ap length g.weighted, length-append d.weighted.items g.more_weighted);
        head = subst (λ (v : Weighted). IsHeadStored e v.head) (sym w_is) of_head.0;
        items = subst (λ (v : Weighted). v.row < length e.items) (sym w_is) (omega (arith, s.items, ap length g.items, length-append d.items g.more_items));
      },
      ap (λ (v : Weighted). let r : Rule = record { head = head_of e v.head; body = body.AtLeast v.bound (get_or e.items v.row []) } in r) w_is
          ∙ λ i. record { head = same i; body = body.AtLeast w.bound (row_kept i) },
    )
