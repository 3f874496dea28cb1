use Rattle.std.proofs.Common.{◌<◌, ◌++◌, [], ℕ, List, map, get_or, length, ap, ◌∙◌, sym, subst, arith, length-append}
use Rattle.std.proofs.Math.ListN.{set}
use Rattle.std.proofs.lemmas.List.{length-set}
use Rattle.asp_model.specs.declared.program.Rule.{Rule}
use Rattle.asp_model.specs.Views.{rule_seen}
use Rattle.asp_model.specs.Models.{head_atoms}
use Rattle.asp_vars.specs.Numbering.{var_in}
use Rattle.asp_compile.proofs.HeadLaws.{head_step}
use Rattle.asp_compile.proofs.heads.head_rows.Goals as goal

pub loop-i-preserved : goal.loop-i-preserved
loop-i-preserved c =
    let all : List Rule = c.args.rules.now ++ c.args.opened.now in
    let ns : List ℕ = c.args.places.now in
    let i : ℕ = c.loop-i.i in
    let r : Rule = rule_seen c.rule_at-rule.result in
    let rows : List (List ℕ) = c.loop-i.heads in
    let total = length-append c.args.rules.now c.args.opened.now in
    let lt : i < length ns = c.loop-i-test.true in
    let lt' : i < length all = omega (arith, lt, total, c.requires.places) in
    let within : get_or ns i 0 < length rows = subst (λ (n : ℕ). get_or ns i 0 < n) (sym c.loop-i.invariant.whole) (c.requires.within i 0 lt) in
    record {
      whole = ap length c.in_ok-add_head.ensures ∙ simp length-set c.loop-i.invariant.whole;
      rows = λ j below.
          ap (λ (t : List (List ℕ)). get_or t j []) c.in_ok-add_head.ensures
          ∙ ap (λ (x : Rule). get_or (set rows (get_or ns i 0) (get_or rows (get_or ns i 0) [] ++ map (var_in c.args.atoms.now) (head_atoms x.head))) j []) c.rule_at-rule.ensures
          ∙ head_step rows c.args.atoms.now j ns all i r lt lt' within (c.loop-i.invariant.rows j below);
    }
