use Rattle.std.proofs.Common.{◌≡◌, List, refl, sym, ap, ◌∙◌, subst}
use Rattle.std.specs.Prelude.{OnOk}
use Rattle.std.specs.List.{All}
use Rattle.asp_model.specs.declared.program.Program.{Program}
use Rattle.asp_vars.specs.Literals.{Literal}
use Rattle.asp_vars.specs.Numbering.{var_count}
use Rattle.asp_vars.specs.Numbering.{IsVar}
use Rattle.asp_vault.specs.Seats.{view}
use Rattle.asp_book.specs.Calls.{Knows, seen_board}
use Rattle.asp_path.specs.Trees.{cube_of}
use Rattle.asp_search.specs.Beside.{Enters}
use Rattle.asp_search_laws.specs.Searching.{Searching}
use Rattle.asp_worker.specs.Seats.{Idles}
use Rattle.asp_worker.proofs.Replies.{on-err, always-err}
use Rattle.asp_worker.proofs.SeatLaws.{idles-call, cube-idles, cube-vars}
use Rattle.asp_worker.proofs.share.enter.Goals as goal

pub enter-requires : goal.enter-requires
enter-requires g c =
    subst (λ (q : List Literal). All (λ (l : Literal). IsVar (var_count c.args.search.now.program) l.var) q) (sym (c.as_slice.ensures.value ∙ c.in_ok-cube.ensures.ok))
    (subst (λ (p : Program). All (λ (l : Literal). IsVar (var_count p) l.var) (cube_of (seen_board (view c.args.seat.now)).nodes c.args.leaf))
    (sym c.requires.program) (cube-vars (view c.args.seat.now) c.args.leaf c.requires.settled c.requires.held))

pub returns-in_err-cube-clause-idles : goal.returns-in_err-cube-clause-idles
returns-in_err-cube-clause-idles g c = idles-call (view c.args.seat.now) (view c.cube.new.seat) c.cube.ensures.call.0 c.cube.ensures.stays c.cube.ensures.call.1

pub returns-clause-idles : goal.returns-clause-idles
returns-clause-idles g c = idles-call (view c.args.seat.now) (view c.cube.new.seat) c.cube.ensures.call.0 c.cube.ensures.stays c.cube.ensures.call.1

pub returns-clause-ok : goal.returns-clause-ok
returns-clause-ok g c =
    let v : Knows = view c.args.seat.now in let w : Knows = view c.cube.new.seat in
    let i : Idles v w = idles-call v w c.cube.ensures.call.0 c.cube.ensures.stays c.cube.ensures.call.1 in
    subst (λ (q : List Literal). OnOk c.enter.result (Enters c.args.search.now c.enter.new.self q))
    (c.as_slice.ensures.value ∙ c.in_ok-cube.ensures.ok ∙ sym (cube-idles v w c.args.leaf c.requires.held i)) c.enter.ensures.ok

pub returns-clause-err : goal.returns-clause-err
returns-clause-err g c = on-err c.enter.result (λ e. ap (λ (x : Searching). x.program) e) c.enter.ensures.err

pub returns-in_err-cube-clause-err : goal.returns-in_err-cube-clause-err
returns-in_err-cube-clause-err g c = always-err c.from_residual.result (c.args.search.now.program ≡ c.args.search.now.program) refl
