use Rattle.std.proofs.Common.{◌≡◌, ◌<◌, true, false, cond, None, length, refl, sym, ap, ◌∙◌, subst, arith}
use Rattle.std.proofs.lemmas.List.{length-set}
use Rattle.asp_trail.proofs.EntryLaws.{same_default}
use Rattle.asp_store.specs.Keeping.{kept_at, is_given}
use Rattle.asp_store.specs.Storing.{Stored, Loses}
use Rattle.asp_store.proofs.GetLaws.{at_set, at_set_other}
use Rattle.asp_store.proofs.FitsLaws.{removed_loses}
use Rattle.asp_store.proofs.StoreLaws.{lose_none}
use Rattle.asp_store.proofs.store.Store.drop_given_at.Goals as goal

pub returns-then-is_given_slot : goal.returns-then-is_given_slot
returns-then-is_given_slot c =
    let s = c.args.self.now in
    let i = c.self.inside in
    let h : c.args.id < length i.slots.items = subst (λ (x : Stored). c.args.id < length x.slots) (sym c.self.view_is) c.requires in
    let w : c.args.id < length s.slots = subst (λ (x : Stored). c.args.id < length x.slots) c.self.view_is h in
    let k : c.args.id < length s.rows = subst (λ (x : Stored). c.args.id < length x.rows) c.self.view_is (omega (arith, h, c.self.invariant.net.paired)) in
    let at : kept_at s.slots c.args.id ≡ c.index.result.now =
    sym (ap (λ (x : Stored). kept_at x.slots c.args.id) c.self.view_is) ∙ (same_default i.slots.items c.args.id None c.index.result.now h ∙ sym c.index.ensures) in
    let gone : is_given (kept_at s.slots c.args.id) ≡ true = ap is_given at ∙ (sym c.is_given_slot.ensures ∙ c.if-is_given_slot.true) in
    record {
      loses = subst (λ (z : Stored). Loses s z) (sym c.remove.ensures) (removed_loses s c.args.id w k);
      count = ap (λ (z : Stored). length z.slots) c.remove.ensures ∙ length-set c.args.self.now.slots c.args.id None;
      given = ap (λ (z : Stored). z.given) c.remove.ensures;
      here = ap (λ (z : Stored). kept_at z.slots c.args.id) c.remove.ensures ∙ (at_set s.slots c.args.id None None c.args.id w refl ∙ sym (ap (λ b. cond b None (kept_at s.slots c.args.id)) gone));
      others = λ j ne. ap (λ (z : Stored). kept_at z.slots j) c.remove.ensures ∙ at_set_other c.args.self.now.slots c.args.id None None j ne;
    }

pub returns-else-is_given_slot-clause-loses : goal.returns-else-is_given_slot-clause-loses
returns-else-is_given_slot-clause-loses c = lose_none c.args.self.now c.args.self.now refl

pub returns-else-is_given_slot-clause-count : goal.returns-else-is_given_slot-clause-count
returns-else-is_given_slot-clause-count c = refl

pub returns-else-is_given_slot-clause-given : goal.returns-else-is_given_slot-clause-given
returns-else-is_given_slot-clause-given c = refl

pub returns-else-is_given_slot-clause-here : goal.returns-else-is_given_slot-clause-here
returns-else-is_given_slot-clause-here c =
    let s = c.args.self.now in
    let i = c.self.inside in
    let h : c.args.id < length i.slots.items = subst (λ (x : Stored). c.args.id < length x.slots) (sym c.self.view_is) c.requires in
    let w : c.args.id < length s.slots = subst (λ (x : Stored). c.args.id < length x.slots) c.self.view_is h in
    let k : c.args.id < length s.rows = subst (λ (x : Stored). c.args.id < length x.rows) c.self.view_is (omega (arith, h, c.self.invariant.net.paired)) in
    let at : kept_at s.slots c.args.id ≡ c.index.result.now =
    sym (ap (λ (x : Stored). kept_at x.slots c.args.id) c.self.view_is) ∙ (same_default i.slots.items c.args.id None c.index.result.now h ∙ sym c.index.ensures) in
    let stays : is_given (kept_at s.slots c.args.id) ≡ false = ap is_given at ∙ (sym c.is_given_slot.ensures ∙ c.if-is_given_slot.false) in
    sym (ap (λ b. cond b None (kept_at s.slots c.args.id)) stays)

pub returns-else-is_given_slot-clause-others : goal.returns-else-is_given_slot-clause-others
returns-else-is_given_slot-clause-others c = λ j ne. refl
