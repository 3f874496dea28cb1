use Rattle.std.proofs.Common.{◌≡◌, ℕ, ◌+◌, false, [], ◌∷◌, ◌++◌, List, Option, Some, length, refl, sym, ap, subst, ◌∙◌, arith}
use Rattle.std.specs.List.{All}
use Rattle.std.proofs.lemmas.List.{length-append}
use Rattle.asp_trail.specs.Trails.{IsVar}
use Rattle.asp_store.specs.declared.stored_nogood.StoredNogood.{StoredNogood}
use Rattle.asp_store.specs.declared.watches.Watches.{Watches}
use Rattle.asp_store.specs.Storing.{Stored, IsStore, IsAdded, with_given}
use Rattle.asp_store.proofs.StoreLaws.{view_of, store_add, added_push, push_count}
use Rattle.asp_store.proofs.store.Store.push.Goals as goal

pub invariant_of-self-2 : goal.invariant_of-self-2
invariant_of-self-2 c =
    let i = c.self.inside in
    let slots = i.slots.items in
    let k : StoredNogood = record { nogood = c.args.nogood; kind = c.args.kind; locked = false } in
    let id = c.len-id.result in
    let small : All (λ l. IsVar i.vars l.var) c.args.nogood.lits = subst (λ (s : Stored). All (λ l. IsVar s.vars l.var) c.args.nogood.lits) (sym c.self.view_is) c.requires in
    let at : id ≡ length slots = omega (arith, c.len-id.ensures, i.slots.ok.0) in
    let a = c.in_ok-push.ensures.ok in
    let z : Watches = record i.watches { rows = i.watches.rows ++ [] ∷ []; apart = a.0 } in
    let after : List ℕ = with_given c.args.kind id i.given.items in
    let noted : c.note_given.new.given.items ≡ after = c.note_given.ensures ∙ ap (with_given c.args.kind id) c.in_ok-reserve-2.ensures.items in
    let new : List (Option StoredNogood) = slots ++ Some k ∷ [] in
    let grown : c.push_reserved.new.self.items ≡ new = c.push_reserved.ensures.items ∙ ap (λ (xs : List (Option StoredNogood)). xs ++ Some k ∷ []) c.in_ok-reserve.ensures.items in
    let more : IsAdded (view_of i.vars slots i.watches i.given.items) (view_of i.vars new z after) id c.args.nogood c.args.kind =
    added_push (view_of i.vars slots i.watches i.given.items) id c.args.nogood c.args.kind a.0 at c.self.invariant.net.paired a.1 in
    subst (λ (ks : List ℕ). IsStore i.vars c.push_reserved.new.self.items c.push.new.self (i.extra + c.extra_of.result) ks) (sym noted)
    (subst (λ (xs : List (Option StoredNogood)). IsStore i.vars xs c.push.new.self (i.extra + c.extra_of.result) after) (sym grown)
    (subst (λ (w : Watches). IsStore i.vars new w (i.extra + c.extra_of.result) after) (sym a.2)
    (store_add i.vars slots new i.watches z i.given.items after i.extra (i.extra + c.extra_of.result) id c.args.nogood c.args.kind c.self.invariant refl
    (omega (arith, length-append i.watches.rows ([] ∷ []), length-append slots (Some k ∷ []), c.self.invariant.net.paired)) more a.1.apart small
    (omega (arith, length-append slots (Some k ∷ []), at, c.if-id-ge-MOST.false))
    (omega (arith, push_count slots (Some k), c.self.invariant.counted, c.extra_of.ensures)))))

pub returns-clause-ok : goal.returns-clause-ok
returns-clause-ok c =
    let i = c.self.inside in
    let slots = i.slots.items in
    let k : StoredNogood = record { nogood = c.args.nogood; kind = c.args.kind; locked = false } in
    let id = c.len-id.result in
    let small : All (λ l. IsVar i.vars l.var) c.args.nogood.lits = subst (λ (s : Stored). All (λ l. IsVar s.vars l.var) c.args.nogood.lits) (sym c.self.view_is) c.requires in
    let at : id ≡ length slots = omega (arith, c.len-id.ensures, i.slots.ok.0) in
    let a = c.in_ok-push.ensures.ok in
    let z : Watches = record i.watches { rows = i.watches.rows ++ [] ∷ []; apart = a.0 } in
    let after : List ℕ = with_given c.args.kind id i.given.items in
    let noted : c.note_given.new.given.items ≡ after = c.note_given.ensures ∙ ap (with_given c.args.kind id) c.in_ok-reserve-2.ensures.items in
    let new : List (Option StoredNogood) = slots ++ Some k ∷ [] in
    let grown : c.push_reserved.new.self.items ≡ new = c.push_reserved.ensures.items ∙ ap (λ (xs : List (Option StoredNogood)). xs ++ Some k ∷ []) c.in_ok-reserve.ensures.items in
    let more : IsAdded (view_of i.vars slots i.watches i.given.items) (view_of i.vars new z after) id c.args.nogood c.args.kind =
    added_push (view_of i.vars slots i.watches i.given.items) id c.args.nogood c.args.kind a.0 at c.self.invariant.net.paired a.1 in
    subst (λ (s : Stored). IsAdded s (view_of i.vars c.push_reserved.new.self.items c.push.new.self c.note_given.new.given.items) id c.args.nogood c.args.kind) c.self.view_is
    (subst (λ (ks : List ℕ). IsAdded (view_of i.vars slots i.watches i.given.items) (view_of i.vars c.push_reserved.new.self.items c.push.new.self ks) id c.args.nogood c.args.kind) (sym noted)
    (subst (λ (xs : List (Option StoredNogood)). IsAdded (view_of i.vars slots i.watches i.given.items) (view_of i.vars xs c.push.new.self after) id c.args.nogood c.args.kind) (sym grown)
    (subst (λ (w : Watches). IsAdded (view_of i.vars slots i.watches i.given.items) (view_of i.vars new w after) id c.args.nogood c.args.kind) (sym a.2) more)))

pub invariant_of-self-in_err-push : goal.invariant_of-self-in_err-push
invariant_of-self-in_err-push c =
    let i = c.self.inside in
    subst (λ (xs : List (Option StoredNogood)). IsStore i.vars xs c.push.new.self i.extra c.reserve-2.new.self.items) (sym c.in_ok-reserve.ensures.items)
    (subst (λ (ks : List ℕ). IsStore i.vars i.slots.items c.push.new.self i.extra ks) (sym c.in_ok-reserve-2.ensures.items)
    (subst (λ (w : Watches). IsStore i.vars i.slots.items w i.extra i.given.items) (sym c.in_err-push.ensures.err) c.self.invariant))

pub invariant_of-self-in_err-reserve-2 : goal.invariant_of-self-in_err-reserve-2
invariant_of-self-in_err-reserve-2 c =
    let i = c.self.inside in
    subst (λ (xs : List (Option StoredNogood)). IsStore i.vars xs i.watches i.extra c.reserve-2.new.self.items) (sym c.in_ok-reserve.ensures.items)
    (subst (λ (ks : List ℕ). IsStore i.vars i.slots.items i.watches i.extra ks) (sym c.reserve-2.ensures.items) c.self.invariant)

pub invariant_of-self : goal.invariant_of-self
invariant_of-self c =
    let i = c.self.inside in
    subst (λ (xs : List (Option StoredNogood)). IsStore i.vars xs i.watches i.extra i.given.items) (sym c.reserve.ensures.items) c.self.invariant
