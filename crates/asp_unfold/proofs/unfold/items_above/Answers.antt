use Rattle.std.proofs.Common.{◌≡◌, ◌∙◌, ◌<◌, ℕ, ℤ, get_or, take, pos, negsuc, w32, refl, ap, subst, arith, rules}
use Rattle.std.specs.Prelude.{nat_abs}
use Rattle.std.specs.List.{All}
use Rattle.std.proofs.lemmas.Int.{to_z-of_z}
use Rattle.std.proofs.lemmas.List.{take_all}
use Rattle.std.proofs.lemmas.List.Elements.{All-more, All-weaker}
use Rattle.asp_model.specs.Holding.{atom_of}
use Rattle.asp_unfold.proofs.unfold.items_above.Goals as goal

abs-atom : (l : ℤ) → nat_abs l ≡ atom_of l
abs-atom (pos a) = refl
abs-atom (negsuc a) = refl

abbrev below : ℕ → ℤ × ℤ → Type 0
below n i = atom_of i.0 < n

pub loop-literal-preserved : goal.loop-literal-preserved
loop-literal-preserved c =
    let i = c.loop-literal.literal-index in
    let xs = c.args.items.now in
    let d : ℤ × ℤ = (pos 0, pos 0) in
    let atom : c.unsigned_abs.result ≡ atom_of (get_or xs i d).0 = c.unsigned_abs.ensures.value ∙ (ap nat_abs (to_z-of_z w32 (get_or xs i d).0 (search rules)) ∙ abs-atom (get_or xs i d).0) in
    let wider : (x : ℤ × ℤ) → below c.loop-literal.above x → below c.max-above.result x = λ x h. omega (arith, h, c.max-above.ensures) in
    record {
      above = All-more (below c.max-above.result) xs i d (omega arith)
          (All-weaker (below c.loop-literal.above) (below c.max-above.result) wider (take i xs) c.loop-literal.invariant.above)
          (omega (arith, atom, c.max-above.ensures));
      most = omega (arith, c.loop-literal.invariant.most, c.unsigned_abs.ensures.bound, c.max-above.ensures);
    }

pub returns-clause-above : goal.returns-clause-above
returns-clause-above c = subst (All (below c.loop-literal.above)) (take_all c.loop-literal.literal-index c.args.items.now (omega arith)) c.loop-literal.invariant.above
