use Rattle.std.proofs.Common.{◌<◌, ◌++◌, true, false, cond, ℕ, List, get_or, length, ap, ◌∙◌, sym, subst, arith, length-append}
use Rattle.std.specs.Prelude.{Bool}
use Rattle.std.proofs.Math.ListN.{set}
use Rattle.asp_model.specs.declared.program.Rule.{Rule}
use Rattle.asp_model.specs.Views.{rule_seen}
use Rattle.asp_model.specs.Models.{is_never}
use Rattle.asp_compile.proofs.BarredLaws.{mark_length, mark_step}
use Rattle.asp_compile.proofs.barred.barred_bodies.Goals as goal

pub loop-i-preserved : goal.loop-i-preserved
loop-i-preserved c =
    let all : List Rule = c.args.rules.now ++ c.args.opened.now in
    let ns : List ℕ = c.args.places.now in
    let i : ℕ = c.loop-i.i in
    let r : Rule = rule_seen c.rule_at-rule.result in
    let marks : List Bool = c.loop-i.marks.items in
    let total = length-append c.args.rules.now c.args.opened.now in
    let lt : i < length ns = c.loop-i-test.true in
    let lt' : i < length all = omega (arith, lt, total, c.requires.places) in
    let within : get_or ns i 0 < length marks = subst (λ (n : ℕ). get_or ns i 0 < n) (sym c.loop-i.invariant.whole) (c.requires.within i 0 lt) in
    record {
      whole = ap length c.mark.ensures ∙ mark_length (is_never r.head) marks (get_or ns i 0) ∙ c.loop-i.invariant.whole;
      each = λ j below.
          ap (λ (t : List Bool). get_or t j false) c.mark.ensures
          ∙ ap (λ (x : Rule). get_or (cond (is_never x.head) (set marks (get_or ns i 0) true) marks) j false) c.rule_at-rule.ensures
          ∙ mark_step marks j ns all i r lt lt' within (c.loop-i.invariant.each j below);
    }
