use Rattle.std.proofs.Common.{List, ℕ, ap, sym, ◌∙◌, subst}
use Rattle.std.specs.Prelude.{fold, All, ◌<◌, length}
use Rattle.asp_scc.specs.Classes.{released}
use Rattle.asp_scc.proofs.ClassLaws.{class_settled, all_released, pivot_found}
use Rattle.asp_scc.proofs.classes.settle_class.Goals as goal

pub search-requires-2-clause-begins : goal.search-requires-2-clause-begins
search-requires-2-clause-begins c =
    pivot_found c.args.graph.now c.args.node c.args.states.now c.search.new.states c.search.new.found.items c.in_ok-search.ensures

pub release_all-requires : goal.release_all-requires
release_all-requires c =
    subst (λ (xs : List ℕ). All (λ w. w < length c.search-2.new.states) xs) (sym c.as_slice.ensures.value)
    (all_released c.args.graph.now c.args.reverse.now c.args.node c.args.states.now c.search.new.states c.search-2.new.states
    c.search.new.found.items c.search-2.new.found.items c.in_ok-search.ensures c.in_ok-search-2.ensures)

pub returns-clause-classes : goal.returns-clause-classes
returns-clause-classes c =
    (class_settled c.args.graph.now c.args.reverse.now c.args.node c.args.states.now c.search.new.states c.search-2.new.states
    c.release_all.new.states c.search.new.found.items c.search-2.new.found.items c.requires.turned.turned c.requires.classes
    c.requires.free c.in_ok-search.ensures c.in_ok-search-2.ensures
    (c.release_all.ensures ∙ ap (λ xs. fold released c.search-2.new.states xs) c.as_slice.ensures.value)).0

pub returns-clause-kept : goal.returns-clause-kept
returns-clause-kept c =
    (class_settled c.args.graph.now c.args.reverse.now c.args.node c.args.states.now c.search.new.states c.search-2.new.states
    c.release_all.new.states c.search.new.found.items c.search-2.new.found.items c.requires.turned.turned c.requires.classes
    c.requires.free c.in_ok-search.ensures c.in_ok-search-2.ensures
    (c.release_all.ensures ∙ ap (λ xs. fold released c.search-2.new.states xs) c.as_slice.ensures.value)).1

pub returns-clause-settled : goal.returns-clause-settled
returns-clause-settled c =
    (class_settled c.args.graph.now c.args.reverse.now c.args.node c.args.states.now c.search.new.states c.search-2.new.states
    c.release_all.new.states c.search.new.found.items c.search-2.new.found.items c.requires.turned.turned c.requires.classes
    c.requires.free c.in_ok-search.ensures c.in_ok-search-2.ensures
    (c.release_all.ensures ∙ ap (λ xs. fold released c.search-2.new.states xs) c.as_slice.ensures.value)).2
