use Rattle.std.proofs.Common.{rules, ◌≡◌, ◌+◌, ◌<◌, ℕ, List, get_or, sym, ap, ◌∙◌, subst}
use Rattle.std.proofs.lemmas.List.{get_or-replicate}
use Rattle.asp_compile.specs.Named.{defines_at}
use Rattle.asp_compile.proofs.NameLaws.{first_below-one, name_step}
use Rattle.asp_compile.proofs.names.names.Goals as goal

pub loop-var-init : goal.loop-var-init
loop-var-init c = record {
  whole = search rules;
  each = λ j lt.
      let none : get_or c.in_ok-names.names.items j 0 ≡ 0 =
      ap (λ (ns : List ℕ). get_or ns j 0) (c.in_ok-names.ensures.items_if_clones_equal (λ y e. e)) ∙ get_or-replicate c.args.count j 0 0 lt in
      none ∙ sym (first_below-one (defines_at c.args.headed.now c.args.supports.now (c.args.first + j)));
}

pub loop-var-preserved : goal.loop-var-preserved
loop-var-preserved c = record {
  whole = c.name.ensures.whole ∙ c.loop-var.invariant.whole;
  each = λ j lt.
      name_step c.args.headed.now c.args.supports.now (c.args.first + j) c.loop-var.var (get_or c.loop-var.names.items j 0) (get_or c.name.new.names.items j 0) c.row.result.now
      (c.loop-var.invariant.each j lt) c.row.ensures (c.name.ensures.each j (subst (λ (n : ℕ). j < n) (sym c.loop-var.invariant.whole) lt));
}
