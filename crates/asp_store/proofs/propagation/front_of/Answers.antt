use Rattle.std.proofs.Common.{◌≡◌, ℕ, None, true, get_or, sym, ap, ◌∙◌, subst}
use Rattle.std.specs.Option.{is_some}
use Rattle.asp_vars.specs.Literals.{Literal, value_of}
use Rattle.asp_trail.specs.declared.trail.Entry.{Entry}
use Rattle.asp_trail.specs.Entries.{assignment, level_in}
use Rattle.asp_trail.proofs.HoldLaws.{value_at}
use Rattle.asp_store.proofs.LookLaws.{level_at}
use Rattle.asp_store.proofs.propagation.front_of.Goals as goal

pub level_of-level-requires-clause-has : goal.level_of-level-requires-clause-has
level_of-level-requires-clause-has c =
    let t = c.args.trail.now in
    let d : Entry = record { lit = c.lit-lit.result; level = 0; reason = None } in
    let at : c.var-var.result ≡ (get_or t.entries t.seen d).lit.var =
    c.var-var.ensures ∙ (ap (λ (l : Literal). l.var) (c.lit-lit.ensures.lit d) ∙ ap (λ (k : ℕ). (get_or t.entries k d).lit.var) c.seen-seen.ensures.seen) in
    subst (λ (v : ℕ). is_some (value_of (assignment t.vars t.entries) v) ≡ true) (sym at)
    (ap is_some (value_at t.vars t.entries t.seen d c.len-len.ensures.ordered c.requires))

pub returns : goal.returns
returns c =
    let t = c.args.trail.now in
    let lit = λ (d : Entry). ap (λ (k : ℕ). (get_or t.entries k d).lit) (sym c.seen-seen.ensures.seen) ∙ sym (c.lit-lit.ensures.lit d) in
    record {
      within = c.requires;
      lit = lit;
      level = λ d. sym (level_at t.vars t.entries t.seen d c.len-len.ensures.ordered c.requires)
          ∙ (ap (λ (l : Literal). level_in t.entries l.var) (lit d) ∙ sym (c.level_of-level.ensures ∙ ap (level_in t.entries) c.var-var.ensures));
    }
