use Rattle.std.proofs.Common.{◌≡◌, ◌++◌, ℕ, flat_map, ap, ◌∙◌, List}
use Rattle.asp_model.specs.declared.program.Rule.{Rule}
use Rattle.asp_model.specs.Sets.{set_of}
use Rattle.asp_model.specs.Models.{head_atoms}
use Rattle.asp_model.specs.Opening.{opened_rule, last_values}
use Rattle.asp_model.proofs.OpeningLaws.{opened_by_entries}
use Rattle.asp_model.proofs.in_force.add_opened_rules.Goals as goal

pub returns : goal.returns
returns c =
    let p = c.args.program.now in
    let old : List Rule = c.args.rules.now.items in
    let heads_of : List Rule → List ℕ = λ rs. set_of (flat_map (λ (r : Rule). head_atoms r.head) rs) in
    let heads : c.in_ok-heads.heads ≡ heads_of p.rules = c.in_ok-heads.ensures in
    let values : c.in_ok-values.values.entries ≡ last_values p.externals = c.in_ok-values.ensures ∙ ap last_values c.as_slice.ensures.value in
    c.in_ok-add_all_opened.ensures
    ∙ ap (λ H. old ++ flat_map (opened_rule H) c.in_ok-values.values.entries) heads
    ∙ ap (λ es. old ++ flat_map (opened_rule (heads_of p.rules)) es) values
    ∙ ap (λ rs. old ++ rs) (opened_by_entries p)
