use Rattle.std.proofs.Common.{◌-◌, sym, subst}
use Rattle.std.specs.List.{AllByRecursion}
use Rattle.asp_checker.specs.Lines.{AreOf}
use Rattle.asp_checker.proofs.StockLaws.{put_each}
use Rattle.asp_checker.proofs.known.keep.Goals as goal

pub returns-clause-ready : goal.returns-clause-ready
returns-clause-ready c =
    let p = c.args.compiled.now in
    let ready = c.requires.ready in
    record {
      kept = ready.kept;
      placed = subst (AllByRecursion (AreOf p)) (sym c.in_ok-put.ensures)
          (put_each (AreOf p) c.args.known.now.rows.placed.items (c.args.place - 1) c.in_ok-own.own ready.placed (subst (AreOf p) (sym c.in_ok-own.ensures) c.requires.lits));
      atoms = ready.atoms;
      levels = ready.levels;
      bound = ready.bound;
      root = ready.root;
    }
