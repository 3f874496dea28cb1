use Rattle.std.proofs.Common.{◌≡◌, Bool, true, false, Option, List, refl, sym, ◌∙◌, subst, arith}
use Rattle.asp_vars.specs.Literals.{holds_in}
use Rattle.asp_trail.specs.Entries.{level}
use Rattle.asp_trail.specs.Trails.{Trailed}
use Rattle.asp_store.specs.Looking.{Grew}
use Rattle.asp_store.specs.Walking.{IsWalking}
use Rattle.asp_store.proofs.GrowLaws.{extends_grew, extends_none, grew_by, grew_same, grew_top, trail_more}
use Rattle.asp_store.proofs.LookLaws.{false_top, violated_when}
use Rattle.asp_store.proofs.StepLaws.{walking_grow}
use Rattle.asp_store.proofs.looks.end_nogood.Goals as goal

pub holds-requires : goal.holds-requires
holds-requires c = omega (arith, c.requires.last.var.1, c.assignment.ensures.len)

pub make_false-requires-clause-not_true : goal.make_false-requires-clause-not_true
make_false-requires-clause-not_true c =
    subst (λ (a : List (Option Bool)). holds_in a c.args.other ≡ false) c.assignment.ensures.values (sym c.holds.ensures ∙ c.if-holds.false)

pub returns-then-holds-clause-ends : goal.returns-then-holds-clause-ends
returns-then-holds-clause-ends c =
    let t : Trailed = c.args.trail.now in
    let k = c.requires.last in
    record {
      same = refl;
      extends = extends_none c.args.slots.now t.entries;
      walking = λ w f i h. h;
      violated = (
        k.nogood,
        k.kept,
        violated_when t.vars t.entries k.nogood.lits c.args.other (λ l h ne. k.others l (sym (k.same l) ∙ h) ne)
            (λ h. subst (λ (a : List (Option Bool)). holds_in a c.args.other ≡ true) c.assignment.ensures.values (sym c.holds.ensures ∙ c.if-holds.true)),
      );
    }

pub returns-clause-ends : goal.returns-clause-ends
returns-clause-ends c =
    let t : Trailed = c.args.trail.now in
    let n : Trailed = c.make_false.new.trail in
    let k = c.requires.last in
    let grew : Grew c.args.id k.nogood.lits t.entries n.entries = grew_same c.args.id k.nogood.lits c.args.lits.now t.entries n.entries k.same c.make_false.ensures.grew in
    let more = grew_by c.args.id k.nogood.lits t.entries n.entries grew in
    record {
      same = c.make_false.ensures.same;
      extends = extends_grew c.args.slots.now c.args.id k.nogood t.entries n.entries k.kept grew;
      walking = λ w f i h. subst (λ (s : Trailed). IsWalking c.args.slots.now w s f i) (sym (trail_more t n more.0 c.make_false.ensures.same more.1))
          (walking_grow c.args.slots.now w t f i more.0 (omega (arith, c.len-len.ensures.len, c.len-len.ensures.seen)) h);
      violated = tt;
    }

pub returns-clause-is_false : goal.returns-clause-is_false
returns-clause-is_false c =
    let t : Trailed = c.args.trail.now in
    let n : Trailed = c.make_false.new.trail in
    false_top n.vars n.entries c.args.other (level t.entries) c.len-new_len.ensures.ordered
    (grew_top c.args.id c.args.lits.now t.entries n.entries (level t.entries) c.make_false.ensures.grew (omega arith)
    (λ k d h. omega (arith, c.level-level.ensures.top k d h, c.level-level.ensures.level))) c.make_false.ensures.holds
