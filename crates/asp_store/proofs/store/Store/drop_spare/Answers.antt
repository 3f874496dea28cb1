use Rattle.std.proofs.Common.{◌≡◌, ◌<◌, None, length, refl, sym, ap, ◌∙◌, subst, arith}
use Rattle.asp_trail.proofs.EntryLaws.{same_default}
use Rattle.asp_store.specs.Keeping.{kept_at, is_spare, Thins}
use Rattle.asp_store.specs.Storing.{Stored, Loses}
use Rattle.asp_store.proofs.FitsLaws.{removed_loses}
use Rattle.asp_store.proofs.StoreLaws.{lose_none, thins_none, thins_removed}
use Rattle.asp_store.proofs.store.Store.drop_spare.Goals as goal

pub returns-then-is_spare_slot : goal.returns-then-is_spare_slot
returns-then-is_spare_slot c =
    let s = c.args.self.now in
    let i = c.self.inside in
    let h : c.args.id < length i.slots.items = omega (arith, c.if-id-len.true, c.len.ensures, c.self.inside.slots.ok.0) in
    let w : c.args.id < length s.slots = subst (λ (x : Stored). c.args.id < length x.slots) c.self.view_is h in
    let k : c.args.id < length s.rows = subst (λ (x : Stored). c.args.id < length x.rows) c.self.view_is (omega (arith, h, c.self.invariant.net.paired)) in
    let at : kept_at s.slots c.args.id ≡ c.index.result.now =
    sym (ap (λ (x : Stored). kept_at x.slots c.args.id) c.self.view_is) ∙ (same_default i.slots.items c.args.id None c.index.result.now h ∙ sym c.index.ensures) in
    record {
      loses = subst (λ (z : Stored). Loses s z) (sym c.remove.ensures) (removed_loses s c.args.id w k);
      thins = subst (λ (z : Stored). Thins s.slots z.slots) (sym c.remove.ensures)
          (thins_removed s.slots c.args.id w (ap is_spare at ∙ (sym c.is_spare_slot.ensures ∙ c.if-is_spare_slot.true)));
    }

pub returns-else-id-len-clause-loses : goal.returns-else-id-len-clause-loses
returns-else-id-len-clause-loses c = lose_none c.args.self.now c.args.self.now refl

pub returns-else-id-len-clause-thins : goal.returns-else-id-len-clause-thins
returns-else-id-len-clause-thins c = thins_none c.args.self.now.slots c.args.self.now.slots refl
