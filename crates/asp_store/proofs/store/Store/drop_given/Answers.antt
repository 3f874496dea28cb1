use Rattle.std.proofs.Common.{◌≡◌, ℕ, ◌≤◌, List, length, get_or, ap, ◌∙◌, subst, arith}
use Rattle.asp_store.specs.Keeping.{kept_at, unless_given}
use Rattle.asp_store.specs.Storing.{Stored, AreTracked}
use Rattle.asp_store.proofs.GivenLaws.{done_more, dropped_all}
use Rattle.asp_store.proofs.StoreLaws.{lose_more}
use Rattle.asp_store.proofs.store.Store.drop_given.Goals as goal

pub loop-i-preserved : goal.loop-i-preserved
loop-i-preserved c =
    let old : Stored = c.args.self.now in
    let now : Stored = c.loop-i.self in
    let new : Stored = c.drop_given_number.new.self in
    let step = c.drop_given_number.ensures in
    let at : get_or now.given c.loop-i.i 0 ≡ get_or old.given c.loop-i.i 0 = ap (λ (xs : List ℕ). get_or xs c.loop-i.i 0) c.loop-i.invariant.given in
    let here : kept_at new.slots (get_or old.given c.loop-i.i 0) ≡ unless_given (kept_at now.slots (get_or old.given c.loop-i.i 0)) =
    subst (λ (k : ℕ). kept_at new.slots k ≡ unless_given (kept_at now.slots k)) at step.here in
    let more = done_more old.slots now.slots new.slots old.given c.loop-i.i c.loop-i.invariant.done c.loop-i.invariant.each here (λ k ne. step.others k (λ e. ne (e ∙ at))) in
    record {
      loses = lose_more old now new c.loop-i.invariant.loses step.loses;
      count = step.count ∙ c.loop-i.invariant.count;
      given = step.given ∙ c.loop-i.invariant.given;
      done = more.0;
      each = more.1;
    }

pub returns-clause-each : goal.returns-clause-each
returns-clause-each c = λ id.
    let old : Stored = c.args.self.now in
    let now : Stored = c.loop-i.self in
    let tracked : AreTracked old.slots old.given = subst (λ (s : Stored). AreTracked s.slots s.given) c.self.view_is c.self.invariant.tracked in
    let all : length old.given ≤ c.loop-i.i = omega (arith, c.loop-i-test.false, c.len-i-end.ensures, c.self.inside.given.ok.0, ap (λ (s : Stored). length s.given) c.self.view_is) in
    ap (λ (s : Stored). kept_at s.slots id) c.forget_gone.ensures ∙ dropped_all old.slots now.slots old.given c.loop-i.i tracked all c.loop-i.invariant.done c.loop-i.invariant.each id
