use Rattle.std.proofs.Common.{◌≡◌, length, List, [], ◌++◌, map, Option, None, sym, ap, ◌∙◌, subst, refl, arith}
use Rattle.std.specs.Prelude.{ℤ}
use Rattle.asp_model.specs.declared.program.Program.{Program}
use Rattle.asp_model.specs.declared.results.Reasoning.{Reasoning}
use Rattle.asp_model.specs.Sets.{Atoms}
use Rattle.asp_model.specs.Models.{atoms_of}
use Rattle.asp_vars.specs.Numbering.{literal_of}
use Rattle.asp_rows.specs.declared.row.Row.{Row}
use Rattle.asp_rows.specs.Listed.{AreRows, Listed}
use Rattle.asp_path.specs.Trees.{root, held_count}
use Rattle.asp_core.specs.declared.task.Task.{Task}
use Rattle.asp_core.specs.Boards.{sought}
use Rattle.asp_core.specs.Invariant.{IsBoard}
use Rattle.asp_core.specs.Sorting.{sorted_once}
use Rattle.asp_core.specs.Stored.{answers_in, IsSeen, seed_of}
use Rattle.asp_core.proofs.BoardLaws.{IsBoard-start}
use Rattle.asp_core.proofs.SeenLaws.{in-none, seen-start}
use Rattle.asp_core.proofs.state.State.start.Goals as goal

pub invariant_of-result : goal.invariant_of-result
invariant_of-result c =
    let p : Program = c.args.compiled.now in
    let q : List ℤ = c.args.query.now in
    let t : Task = record { program = p; goal = c.args.goal; budget = c.args.budget; limit = c.args.limit; query = q } in
    let r : Option Reasoning = sought c.args.goal in
    let same : c.of.result.value ≡ p = c.of.ensures ∙ c.program-program.ensures.program in
    let asked : c.from_vec.result ≡ q = c.from_vec.ensures ∙ c.in_ok-query.ensures.items in
    let nodes : c.in_ok-tree.tree ≡ root (map (literal_of p) (p.assumptions ++ q)) = c.in_ok-tree.ensures ∙ ap root c.in_ok-root.ensures in
    let none : held_count (root (map (literal_of p) (p.assumptions ++ q))) ≡ 0 = refl in
    let listed : c.new.result.sets ≡ [] = ap (λ (l : Listed). l.sets) c.new.ensures in
    let told : answers_in r c.new.result.sets c.new-2.result.items ≡ [] =
    ap (λ (x : List Atoms). answers_in r x c.new-2.result.items) listed ∙ ap (λ (x : List Atoms). answers_in r [] x) c.new-2.ensures.items ∙ in-none r in
    let board : IsBoard (record {
      task =
          record { program = c.of.result.value; goal = c.args.goal; budget = c.args.budget; limit = c.args.limit; query = c.from_vec.result };
      nodes = c.in_ok-tree.tree;
      answers = answers_in r c.new.result.sets c.new-2.result.items;
      best = None;
      pool = c.args.budget;
      out =
          c.new-4.result.items;
      burnt = 0;
      reasons = c.new-5.result.items;
    }) =
    subst IsBoard
    (sym (λ k. record {
      task = record { program = same k; goal = c.args.goal; budget = c.args.budget; limit = c.args.limit; query = asked k };
      nodes =
          nodes k;
      answers = told k;
      best = None;
      pool = c.args.budget;
      out = c.new-4.ensures.items k;
      burnt = 0;
      reasons =
          c.new-5.ensures.items k;
    }))
    (IsBoard-start t c.requires) in
    record {
      board = board;
      priced = c.in_ok-prices.ensures.same ∙ ap (λ (x : Program). x.minimize) (sym c.of.ensures);
      sound = c.in_ok-prices.ensures.sound;
      costed = tt;
      sorted = λ _. record {
        rows = subst (AreRows (atoms_of c.of.result.value)) (sym c.new-3.ensures.empty) tt;
        sorted = ap (map (λ (x : Row). x.set)) c.new-3.ensures.empty ∙ sym (ap sorted_once told);
      };
      seen = subst (λ (x : Program). IsSeen c.args.goal r x c.in_ok-known.known c.new.result.sets c.new-2.result.items c.in_ok-atoms.atoms.items) (sym same)
          (subst (λ (x : List Atoms). IsSeen c.args.goal r p c.in_ok-known.known x c.new-2.result.items c.in_ok-atoms.atoms.items) (sym listed)
          (subst (λ (x : List Atoms). IsSeen c.args.goal r p c.in_ok-known.known [] x c.in_ok-atoms.atoms.items) (sym c.new-2.ensures.items)
          (seen-start c.args.goal r p c.in_ok-known.known c.in_ok-atoms.atoms.items c.in_ok-known.ensures c.in_ok-atoms.ensures)));
      seeded = c.in_ok-seed.ensures ∙ ap (seed_of c.args.goal) (sym same);
      among = ap (λ (l : Listed). l.atoms) c.new.ensures ∙ c.in_ok-listed.ensures ∙ c.atoms.ensures ∙ ap atoms_of (sym same);
      room = omega (arith, ap length c.new-5.ensures.items, ap held_count nodes, none);
    }

pub returns : goal.returns
returns c =
    let p : Program = c.args.compiled.now in
    let q : List ℤ = c.args.query.now in
    let r : Option Reasoning = sought c.args.goal in
    let same : c.of.result.value ≡ p = c.of.ensures ∙ c.program-program.ensures.program in
    let asked : c.from_vec.result ≡ q = c.from_vec.ensures ∙ c.in_ok-query.ensures.items in
    let nodes : c.in_ok-tree.tree ≡ root (map (literal_of p) (p.assumptions ++ q)) = c.in_ok-tree.ensures ∙ ap root c.in_ok-root.ensures in
    let listed : c.new.result.sets ≡ [] = ap (λ (l : Listed). l.sets) c.new.ensures in
    let told : answers_in r c.new.result.sets c.new-2.result.items ≡ [] =
    ap (λ (x : List Atoms). answers_in r x c.new-2.result.items) listed ∙ ap (λ (x : List Atoms). answers_in r [] x) c.new-2.ensures.items ∙ in-none r in
    λ k. record {
      task = record { program = same k; goal = c.args.goal; budget = c.args.budget; limit = c.args.limit; query = asked k };
      nodes =
          nodes k;
      answers = told k;
      best = None;
      pool = c.args.budget;
      out = c.new-4.ensures.items k;
      burnt = 0;
      reasons =
          c.new-5.ensures.items k;
    }
