use Rattle.std.proofs.Common.{arith, ap}
use Rattle.asp_order.specs.Sifting.{rank, rank_at}
use Rattle.asp_order.proofs.SiftLaws.{rise_up}
use Rattle.asp_order.proofs.sift.+rise.Goals as goal

pub rise-requires : goal.rise-requires
rise-requires t c =
    let a = c.args.activities.now in (
      omega arith,
      (
        omega arith,
        (
          omega arith,
          (
            omega arith,
            (
              (c.requires.placed.0, c.exchange.ensures.placed c.requires.placed.0 c.requires.placed.1),
              rise_up (rank_at a c.args.items.now) (rank_at a c.exchange.new.items) c.args.n c.args.at (omega arith) c.requires.at
                  record {
                    here = ap (rank a) c.exchange.ensures.here;
                    there = ap (rank a) c.exchange.ensures.there;
                    others = λ k p q. ap (rank a) (c.exchange.ensures.others k p q);
                  }
                  (c.precedes.ensures.yes c.if-precedes.true) c.requires.may,
            ),
          ),
        ),
      ),
    )

pub returns-then-precedes-clause-placed : goal.returns-then-precedes-clause-placed
returns-then-precedes-clause-placed t c m p = c.rise.ensures.placed m (c.exchange.ensures.placed m p)
