use Rattle.std.proofs.Common.{ap, ◌∙◌, not, filter}
use Rattle.asp_model.specs.Sets.{has}
use Rattle.asp_settle.specs.Settled.{heads_of}
use Rattle.asp_settle.proofs.OpenLaws.{open-set}
use Rattle.asp_settle.proofs.rules.open_externals.Goals as goal

pub returns : goal.returns
returns c =
    c.from_vec.ensures ∙ c.without_heads-open.ensures ∙ ap (λ S. filter (λ e. not (has S e.atom)) c.into_vec.result.items) c.in_ok-heads.ensures
    ∙ open-set (heads_of c.args.rules.now) c.into_vec.result.items
    ∙ ap (filter (λ e. not (has (heads_of c.args.rules.now) e.atom))) c.into_vec.ensures
