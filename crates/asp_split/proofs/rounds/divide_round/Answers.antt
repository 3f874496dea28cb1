use Rattle.std.proofs.Common.{◌≡◌, ◌+◌, List, [], ◌∷◌, ◌++◌, refl, sym, ap, ◌∙◌, subst, arith}
use Rattle.std.specs.Prelude.{reverse}
use Rattle.std.proofs.lemmas.List.{append-nil, length-reverse, reverse-reverse}
use Rattle.asp_split.specs.declared.leaf.Leaf.{Leaf}
use Rattle.asp_split.specs.Dividing.{IsParted}
use Rattle.asp_split.proofs.CubeLaws.{parted_first}
use Rattle.asp_split.proofs.DivideLaws.{first_waiting, none_waits, parted_pass, popped}
use Rattle.asp_split.proofs.rounds.divide_round.Goals as goal

pub leaves-init : goal.leaves-init
leaves-init g c =
    let all : List Leaf = c.args.waiting.items in
    let e : c.in_ok-leaves.leaves.items ++ reverse c.reverse.new.self.items ≡ all =
    ap (λ (ls : List Leaf). ls ++ reverse c.reverse.new.self.items) c.in_ok-leaves.ensures.items ∙ (ap reverse c.reverse.ensures.items ∙ reverse-reverse all) in
    record {
      parted = subst (λ (ls : List Leaf). IsParted c.args.compiled.now all ls c.args.round.now.parts) (sym e)
          (parted_first c.args.compiled.now all c.args.round.now.parts c.requires.leaves c.requires.few);
      prober = c.requires.kept;
      parts = refl;
    }

pub pass-requires-clause-leaf : goal.pass-requires-clause-leaf
pass-requires-clause-leaf g c =
    let rest : List Leaf = reverse c.pop.new.self.items in
    let e : reverse c.leaves.waiting.items ≡ c.in-Some.leaf ∷ rest = popped c.leaves.waiting.items c.pop.new.self.items c.pop.result c.in-Some.leaf c.pop.ensures.items c.in-Some.is in
    first_waiting c.args.compiled.now c.leaves.leaves.items rest c.in-Some.leaf
    (subst (λ (ls : List Leaf). IsParted c.args.compiled.now c.args.waiting.items (c.leaves.leaves.items ++ ls) c.args.round.now.parts) e c.leaves.invariant.parted).leaves

pub leaves-preserved : goal.leaves-preserved
leaves-preserved g c =
    let rest : List Leaf = reverse c.pop.new.self.items in
    let e : reverse c.leaves.waiting.items ≡ c.in-Some.leaf ∷ rest = popped c.leaves.waiting.items c.pop.new.self.items c.pop.result c.in-Some.leaf c.pop.ensures.items c.in-Some.is in
    record {
      parted =
          parted_pass c.args.compiled.now c.args.waiting.items c.leaves.leaves.items c.pass.new.leaves.items rest c.in-Some.leaf c.args.round.now.parts
          (subst (λ (ls : List Leaf). IsParted c.args.compiled.now c.args.waiting.items (c.leaves.leaves.items ++ ls) c.args.round.now.parts) e c.leaves.invariant.parted) c.in_ok-pass.ensures.placed
          (omega (arith, c.in_ok-pass.ensures.few, c.len-in-Some.ensures, c.pop.new.self.ok.0, c.leaves.invariant.parts, length-reverse c.pop.new.self.items));
      prober = c.in_ok-pass.ensures.kept;
      parts = c.in_ok-pass.ensures.parts ∙ c.leaves.invariant.parts;
    }

pub returns-clause-parted : goal.returns-clause-parted
returns-clause-parted g c =
    let none : c.leaves.waiting.items ≡ [] = none_waits c.leaves.waiting.items c.pop.result (λ lt. c.pop.ensures.variant.1 (omega (arith, lt, c.leaves.waiting.ok.0))) c.in_default.is in
    subst (λ (ls : List Leaf). IsParted c.args.compiled.now c.args.waiting.items ls c.args.round.now.parts)
    (ap (λ (ls : List Leaf). c.leaves.leaves.items ++ reverse ls) none ∙ append-nil c.leaves.leaves.items)
    c.leaves.invariant.parted
