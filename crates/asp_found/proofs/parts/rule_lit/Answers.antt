use Rattle.std.proofs.Common.{ap, ◌∙◌}
use Rattle.asp_model.specs.declared.program.Program.{Program}
use Rattle.asp_vars.specs.Numbering.{literal_of_form, nth_body}
use Rattle.asp_vars.proofs.SupportLaws.{body_of_nth_rule}
use Rattle.asp_found.proofs.parts.rule_lit.Goals as goal

pub returns-clause-lit : goal.returns-clause-lit
returns-clause-lit c =
    let p : Program = c.args.compiled.now in
    c.body_lit.ensures.lit ∙ ap (literal_of_form p) (ap (nth_body p) c.rule_body.ensures.place ∙ body_of_nth_rule p c.args.rule c.requires)
