-- What a call on the value tells, from its take and its give.
use Rattle.std.proofs.Common.{◌≡◌, ℕ, List, ◌++◌, length, Option, refl, sym, ap, ◌∙◌, subst}
use mathlib.Core.List.{IsPrefix}
use Rattle.asp_vault.specs.declared.view.View.{View}
use Rattle.asp_vault.specs.Makers.{placed}
use Rattle.asp_vault.specs.Rules.{holding, after_misses, given_back, Learnt}
use Rattle.asp_vault.specs.Moments.{Stays, Moment}
use Rattle.asp_vault.proofs.Filters.{drop_prefix}
use Rattle.asp_vault.proofs.Prefixes.{prefix_trans}

module _ {D E : Type 0} (maker : E → Option ℕ) where
  -- the list was `before`, and `before ++ added` was given back
  pub moment_of : (kept : List E → Type 0) (v u w : View D E) (m : ℕ) (before added : List E) → u ≡ holding before (after_misses m v) → w ≡ given_back (before ++ added) u
      → Learnt maker v before → kept (before ++ added) → Moment maker kept v w before added
  moment_of kept v u w m before added took gave learnt keeps = subst (λ (z : View D E). w ≡ given_back (before ++ added) z → Moment maker kept v w before added) (sym took) (λ is. record {
    more = learnt.continues;
    others = learnt.others;
    keeps = keeps;
    seen = ap (λ (z : View D E). z.seen) is;
    own = ap (λ (z : View D E). z.own) is ∙ ap (λ (l : List E). v.own ++ placed (length before) l) (drop_prefix before added);
  }) gave

  pub stays_by : (v u w : View D E) (m : ℕ) (before added : List E) → u ≡ holding before (after_misses m v) → w ≡ given_back (before ++ added) u → Learnt maker v before → Stays v w
  stays_by v u w m before added took gave learnt = subst (λ (z : View D E). w ≡ given_back (before ++ added) z → Stays v w) (sym took) (λ is. record {
    rests = ap (λ (z : View D E). z.holds) is;
    about = ap (λ (z : View D E). z.about) is;
    number = ap (λ (z : View D E). z.number) is;
    splits = ap (λ (z : View D E). z.splits) is;
    joins = ap (λ (z : View D E). z.joins) is;
    guests = ap (λ (z : View D E). z.guests) is;
    seen = subst (IsPrefix v.seen) (sym (ap (λ (z : View D E). z.seen) is)) (prefix_trans v.seen before (before ++ added) learnt.continues (added, refl));
  }) gave
