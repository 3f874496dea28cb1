use Rattle.std.proofs.Common.{◌≡◌, ◌<◌, true, List, [], ◌∷◌, length, get_or, sym, ap, ◌∙◌, subst, arith}
use Rattle.asp_vars.specs.Literals.{Literal, has_literal}
use Rattle.asp_vars.specs.Codes.{code_of}
use Rattle.asp_trail.proofs.EntryLaws.{same_default}
use Rattle.asp_store.specs.Marks.{Watch}
use Rattle.asp_store.specs.Lists.{place, without}
use Rattle.asp_store.specs.Unlisting.{Keeps}
use Rattle.asp_store.proofs.UnlistLaws.{both_keep, both_none, two_list}
use Rattle.asp_store.proofs.unlisting.drop_both.Goals as goal

pub returns : goal.returns
returns c =
    let f : Literal = c.index-lits-0.result in
    let s : Literal = c.index-lits-1.result in
    let lists = c.args.lists.now in
    let lits = c.args.lits.now in
    let h : code_of f < length lists = subst (λ (l : Literal). code_of l < length lists) (sym c.index-lits-0.is) (c.requires.small 0 f (omega (arith, c.requires.two))) in
    let g : code_of s < length lists = subst (λ (l : Literal). code_of l < length lists) (sym c.index-lits-1.is) (c.requires.small 1 s (omega (arith, c.requires.two))) in
    let e = c.drop_all-2.ensures ∙ ap (without c.args.id (code_of s)) c.drop_all.ensures in
    let a : get_or lits 0 f ≡ f = sym c.index-lits-0.is in
    let b : get_or lits 1 f ≡ s = same_default lits 1 f s (omega (arith, c.requires.two)) ∙ sym c.index-lits-1.is in
    let all : lits ≡ f ∷ s ∷ [] = two_list lits f c.requires.two ∙ (λ j. a j ∷ b j ∷ []) in
    record {
      keeps = subst (λ (z : List (List Watch)). Keeps lists z c.args.id) (sym e) (both_keep lists (code_of f) (code_of s) c.args.id h g);
      none = λ l i x has at. let h : code_of f < length lists =
          subst (λ (l : Literal). code_of l < length lists) (sym c.index-lits-0.is) (c.requires.small 0 f (omega (arith, c.requires.two))) in
          let g : code_of s < length lists =
          subst (λ (l : Literal). code_of l < length lists) (sym c.index-lits-1.is) (c.requires.small 1 s (omega (arith, c.requires.two))) in
          both_none lists f s c.args.id h g l i x (subst (λ (n : List Literal). has_literal n l ≡ true) all has) (ap (λ (z : List (List Watch)). place z (code_of l) i) (sym e) ∙ at);
    }
