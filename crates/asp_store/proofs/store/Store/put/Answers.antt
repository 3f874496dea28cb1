use Rattle.std.proofs.Common.{◌≡◌, ℕ, ◌<◌, ◌+◌, false, List, [], Some, None, length, set, refl, sym, ap, subst, ◌∙◌, arith}
use Rattle.std.specs.List.{All}
use Rattle.std.proofs.lemmas.List.{length-set}
use Rattle.asp_trail.specs.Trails.{IsVar}
use Rattle.asp_store.specs.declared.stored_nogood.StoredNogood.{StoredNogood}
use Rattle.asp_store.specs.declared.watches.Watches.{Watches}
use Rattle.asp_store.specs.Keeping.{kept_at}
use Rattle.asp_store.specs.Storing.{Stored, IsStore, IsAdded, with_given}
use Rattle.asp_store.proofs.StoreLaws.{view_of, store_add, added_put, put_count}
use Rattle.asp_store.proofs.store.Store.put.Goals as goal

pub clear-requires : goal.clear-requires
clear-requires c =
    let h : c.args.id < length c.self.inside.slots.items = subst (λ (s : Stored). c.args.id < length s.slots) (sym c.self.view_is) c.requires.within in
    omega (arith, h, c.self.invariant.net.paired)

pub invariant_of-self-2 : goal.invariant_of-self-2
invariant_of-self-2 c =
    let i = c.self.inside in
    let slots = i.slots.items in
    let k : StoredNogood = record { nogood = c.args.nogood; kind = c.args.kind; locked = false } in
    let h : c.args.id < length slots = subst (λ (s : Stored). c.args.id < length s.slots) (sym c.self.view_is) c.requires.within in
    let free : kept_at slots c.args.id ≡ None = ap (λ (s : Stored). kept_at s.slots c.args.id) c.self.view_is ∙ c.requires.free in
    let small : All (λ l. IsVar i.vars l.var) c.args.nogood.lits = subst (λ (s : Stored). All (λ l. IsVar s.vars l.var) c.args.nogood.lits) (sym c.self.view_is) c.requires.small in
    let inside : c.args.id < length i.watches.rows = omega (arith, h, c.self.invariant.net.paired) in
    let z : Watches = record i.watches { rows = set i.watches.rows c.args.id []; apart = c.push.new.self } in
    let after : List ℕ = with_given c.args.kind c.args.id i.given.items in
    let noted : c.note_given.new.given.items ≡ after = c.note_given.ensures ∙ ap (with_given c.args.kind c.args.id) c.in_ok-reserve.ensures.items in
    let b = c.clear.ensures in
    let e : record i.watches { rows = c.clear.new.self; apart = c.push.new.self } ≡ z = λ j. record i.watches { rows = b j; apart = c.push.new.self } in
    let more : IsAdded (view_of i.vars slots i.watches i.given.items) (view_of i.vars (set slots c.args.id (Some k)) z after) c.args.id c.args.nogood c.args.kind =
    added_put (view_of i.vars slots i.watches i.given.items) c.args.id c.args.nogood c.args.kind c.push.new.self h inside free c.in_ok-push.ensures.ok in
    subst (λ (xs : List ℕ). IsStore i.vars (set slots c.args.id (Some k)) (record i.watches { rows = c.clear.new.self; apart = c.push.new.self }) (i.extra + c.extra_of.result) xs) (sym noted)
    (subst (λ (w : Watches). IsStore i.vars (set slots c.args.id (Some k)) w (i.extra + c.extra_of.result) after) (sym e)
    (store_add i.vars slots (set slots c.args.id (Some k)) i.watches z i.given.items after i.extra (i.extra + c.extra_of.result) c.args.id c.args.nogood c.args.kind c.self.invariant refl
    (omega (arith, length-set i.watches.rows c.args.id [], length-set slots c.args.id (Some k), c.self.invariant.net.paired)) more c.in_ok-push.ensures.ok.apart small
    (omega (arith, length-set slots c.args.id (Some k), c.self.invariant.net.numbered))
    (omega (arith, put_count slots c.args.id (Some k) h free, c.self.invariant.counted, c.extra_of.ensures))))

pub returns-clause-ok : goal.returns-clause-ok
returns-clause-ok c =
    let i = c.self.inside in
    let slots = i.slots.items in
    let k : StoredNogood = record { nogood = c.args.nogood; kind = c.args.kind; locked = false } in
    let h : c.args.id < length slots = subst (λ (s : Stored). c.args.id < length s.slots) (sym c.self.view_is) c.requires.within in
    let free : kept_at slots c.args.id ≡ None = ap (λ (s : Stored). kept_at s.slots c.args.id) c.self.view_is ∙ c.requires.free in
    let small : All (λ l. IsVar i.vars l.var) c.args.nogood.lits = subst (λ (s : Stored). All (λ l. IsVar s.vars l.var) c.args.nogood.lits) (sym c.self.view_is) c.requires.small in
    let inside : c.args.id < length i.watches.rows = omega (arith, h, c.self.invariant.net.paired) in
    let z : Watches = record i.watches { rows = set i.watches.rows c.args.id []; apart = c.push.new.self } in
    let after : List ℕ = with_given c.args.kind c.args.id i.given.items in
    let noted : c.note_given.new.given.items ≡ after = c.note_given.ensures ∙ ap (with_given c.args.kind c.args.id) c.in_ok-reserve.ensures.items in
    let b = c.clear.ensures in
    let e : record i.watches { rows = c.clear.new.self; apart = c.push.new.self } ≡ z = λ j. record i.watches { rows = b j; apart = c.push.new.self } in
    let more : IsAdded (view_of i.vars slots i.watches i.given.items) (view_of i.vars (set slots c.args.id (Some k)) z after) c.args.id c.args.nogood c.args.kind =
    added_put (view_of i.vars slots i.watches i.given.items) c.args.id c.args.nogood c.args.kind c.push.new.self h inside free c.in_ok-push.ensures.ok in
    subst (λ (s : Stored). IsAdded s
    (view_of i.vars (set slots c.args.id (Some k)) (record i.watches { rows = c.clear.new.self; apart = c.push.new.self })
    c.note_given.new.given.items) c.args.id c.args.nogood c.args.kind) c.self.view_is
    (subst (λ (xs : List ℕ). IsAdded (view_of i.vars slots i.watches i.given.items)
    (view_of i.vars (set slots c.args.id (Some k)) (record i.watches { rows = c.clear.new.self; apart = c.push.new.self }) xs) c.args.id
    c.args.nogood c.args.kind) (sym noted)
    (subst (λ (w : Watches). IsAdded (view_of i.vars slots i.watches i.given.items) (view_of i.vars (set slots c.args.id (Some k)) w after) c.args.id c.args.nogood c.args.kind) (sym e) more))
