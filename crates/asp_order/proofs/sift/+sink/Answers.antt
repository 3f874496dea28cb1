use Rattle.std.proofs.Common.{◌≡◌, arith, ap, length, subst, ℕ}
use Rattle.asp_order.specs.Sifting.{rank, rank_at, MaySink}
use Rattle.asp_order.proofs.SiftLaws.{sink_down}
use Rattle.asp_order.proofs.sift.+sink.Goals as goal

pub sink-requires : goal.sink-requires
sink-requires t c =
    let a = c.args.activities.now in
    let child = c.in-Some.ensures.child in (
      omega (arith, child.1, child.2),
      (
        omega (arith, child.1),
        (
          omega arith,
          (
            omega arith,
            (
              (c.requires.placed.0, c.exchange.ensures.placed c.requires.placed.0 c.requires.placed.1),
              subst (λ (n : ℕ). MaySink (rank_at a c.exchange.new.items) n c.in-Some.child) (let e : length c.args.items.now ≡ length c.exchange.new.items = omega arith in e)
                  (sink_down (rank_at a c.args.items.now) (rank_at a c.exchange.new.items) (length c.args.items.now) c.args.at c.in-Some.child child.0 child.1 child.2
                  record {
                    here = ap (rank a) c.exchange.ensures.here;
                    there = ap (rank a) c.exchange.ensures.there;
                    others = λ k p q. ap (rank a) (c.exchange.ensures.others k p q);
                  }
                  (c.precedes.ensures.yes c.if-precedes.true) c.in-Some.ensures.first c.requires.may),
            ),
          ),
        ),
      ),
    )

pub returns-then-precedes-clause-placed : goal.returns-then-precedes-clause-placed
returns-then-precedes-clause-placed t c m p = c.sink.ensures.placed m (c.exchange.ensures.placed m p)
