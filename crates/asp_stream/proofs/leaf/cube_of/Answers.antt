use Rattle.std.proofs.Common.{ap}
use Rattle.asp_path.specs.Trees.{is_leaf}
use Rattle.asp_path.proofs.TreeLaws.{leaf-within}
use Rattle.asp_book.specs.Books.{board}
use Rattle.asp_crew.proofs.BookLaws.{leaf-cube}
use Rattle.asp_ledger.proofs.LedgerLaws.{no-query}
use Rattle.asp_stream.proofs.leaf.cube_of.Goals as goal

pub cube-requires : goal.cube-requires
cube-requires c = leaf-within (board c.args.stream.now.ledger).nodes c.args.leaf (ap is_leaf c.requires.held)

pub returns-clause-cube : goal.returns-clause-cube
returns-clause-cube c =
    leaf-cube c.args.stream.now.ledger c.args.leaf c.in_ok-cube.cube.items (no-query c.args.stream.now.ledger c.lawful.ensures.task) c.lawful.ensures.journal c.requires.held c.in_ok-cube.ensures

pub returns-clause-vars : goal.returns-clause-vars
returns-clause-vars c =
    (leaf-cube c.args.stream.now.ledger c.args.leaf c.in_ok-cube.cube.items (no-query c.args.stream.now.ledger c.lawful.ensures.task) c.lawful.ensures.journal c.requires.held
    c.in_ok-cube.ensures).variables
