use Rattle.std.proofs.Common.{sym, ap, ◌∙◌}
use Rattle.asp_model.specs.Models.{atoms_of}
use Rattle.asp_model.proofs.ConsequenceLaws.{unshown-none}
use Rattle.asp_vars.proofs.known.Known.new.Goals as goal

pub invariant_of-result : goal.invariant_of-result
invariant_of-result c =
    c.in_ok-unshown.ensures.items ∙ c.as_slice.ensures.value ∙ c.atoms.ensures ∙ ap atoms_of (sym (c.of.ensures ∙ c.program.ensures.program)) ∙ sym (unshown-none c.args.reasoning c.of.result.value)
