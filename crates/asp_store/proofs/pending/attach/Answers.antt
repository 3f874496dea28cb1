use Rattle.std.proofs.Common.{◌≡◌, ◌<◌, true, [], ◌∷◌, ◌++◌, List, length, set, inl, inr, refl, sym, ap, ◌∙◌, subst, arith}
use Rattle.asp_vars.specs.Literals.{Literal, has_literal}
use Rattle.asp_vars.specs.Codes.{code_of}
use Rattle.asp_store.specs.Marks.{Watch}
use Rattle.asp_store.specs.declared.watches.Watches.{Watches}
use Rattle.asp_store.specs.Lists.{list_at}
use Rattle.asp_store.specs.Sounding.{IsSound}
use Rattle.asp_store.specs.Pending.{IsLooking, HasNone}
use Rattle.asp_store.proofs.StepLaws.{code_of_list}
use Rattle.asp_store.proofs.GrowLaws.{kept_within}
use Rattle.asp_store.proofs.PendingLaws.{pair_small, sound_both, with_first, with_both, attached, attached_looking, attached_none}
use Rattle.asp_store.proofs.pending.attach.Goals as goal

pub is_lasting_at-is_short-requires : goal.is_lasting_at-is_short-requires
is_lasting_at-is_short-requires c = kept_within c.args.slots.now c.args.id c.requires.waiting.kept.0 c.requires.waiting.kept.1

pub new-requires : goal.new-requires
new-requires c = omega (arith, kept_within c.args.slots.now c.args.id c.requires.waiting.kept.0 c.requires.waiting.kept.1, c.requires.waiting.looking.sound.net.numbered)

pub new-requires-2 : goal.new-requires-2
new-requires-2 c = omega (arith, kept_within c.args.slots.now c.args.id c.requires.waiting.kept.0 c.requires.waiting.kept.1, c.requires.waiting.looking.sound.net.numbered)

pub push-requires : goal.push-requires
push-requires c =
    let s = c.requires.waiting.looking.sound in
    let k = c.requires.waiting.kept in
    let t = c.args.trail.now in
    code_of_list c.args.slots.now c.args.watches.now t c.args.pair.first s
    (pair_small c.args.slots.now c.args.watches.now t c.args.id k.0 c.args.pair c.args.pair.first t.entries (length t.entries) s k.1 (c.requires.watched k.0 k.1) (inl refl))

pub push-requires-2 : goal.push-requires-2
push-requires-2 c =
    let s = c.requires.waiting.looking.sound in
    let k = c.requires.waiting.kept in
    let t = c.args.trail.now in
    let w = c.args.watches.now in
    let p = c.args.pair in
    let two = sound_both c.args.slots.now w t p c.args.id k.0 c.is_lasting_at-is_short.result k.1 (c.requires.watched k.0 k.1) c.is_lasting_at-is_short.ensures s in
    let a = c.in_ok-push.ensures.ok ∙ ap (λ (x : Watch). set w.lists (code_of p.first) (list_at w.lists (code_of p.first) ++ x ∷ [])) c.new.ensures in
    subst (λ (ls : List (List Watch)). code_of p.second < length ls) (sym a)
    (code_of_list c.args.slots.now (with_first w p c.args.id c.is_lasting_at-is_short.result) t p.second two.0
    (pair_small c.args.slots.now w t c.args.id k.0 p p.second t.entries (length t.entries) s k.1 (c.requires.watched k.0 k.1) (inr refl)))

pub put_row-requires-clause-within : goal.put_row-requires-clause-within
put_row-requires-clause-within c = omega (arith, c.requires.waiting.looking.sound.net.paired, kept_within c.args.slots.now c.args.id c.requires.kept.0 c.requires.kept.1)

pub put_row-requires-clause-first : goal.put_row-requires-clause-first
put_row-requires-clause-first c =
    let k = c.requires.kept in
    subst (λ (xs : List Literal). has_literal xs c.args.pair.first ≡ true) k.2 ((c.requires.watched k.0 k.1).has c.args.pair.first (inl refl))

pub put_row-requires-clause-second : goal.put_row-requires-clause-second
put_row-requires-clause-second c =
    let k = c.requires.kept in
    subst (λ (xs : List Literal). has_literal xs c.args.pair.second ≡ true) k.2 ((c.requires.watched k.0 k.1).has c.args.pair.second (inr refl))

pub put_row-requires-clause-differ : goal.put_row-requires-clause-differ
put_row-requires-clause-differ c = (c.requires.watched c.requires.kept.0 c.requires.kept.1).differ

pub leave-requires : goal.leave-requires
leave-requires c =
    let w = c.args.watches.now in
    let p = c.args.pair in
    let k = c.requires.kept in
    let d = c.is_lasting_at-is_short.result in
    let one = c.in_ok-push.ensures.ok ∙ ap (λ (x : Watch). set w.lists (code_of p.first) (list_at w.lists (code_of p.first) ++ x ∷ [])) c.new.ensures in
    let a = c.in_ok-push-2.ensures.ok
    ∙ (ap (λ (ls : List (List Watch)). set ls (code_of p.second) (list_at ls (code_of p.second) ++ c.new-2.result ∷ [])) one
    ∙ ap (λ (x : Watch). set (with_first w p c.args.id d).lists (code_of p.second) (list_at (with_first w p c.args.id d).lists (code_of p.second) ++ x ∷ [])) c.new-2.ensures) in
    let o = c.in_ok-put_row.ensures.ok in
    let b = o.1 in
    let e : record w { lists = c.push-2.new.self; rows = c.put_row.new.rows } ≡ attached w p c.args.id d o.0 = λ j. record w { lists = a j; rows = b j } in
    record {
      looking = subst (λ (x : Watches). IsLooking c.args.slots.now x c.args.trail.now c.args.i) (sym e)
          (attached_looking c.args.slots.now w c.args.trail.now c.args.i c.args.id p k.0 d o.0 k.1 (c.requires.watched k.0 k.1) c.is_lasting_at-is_short.ensures o.2
          (λ x. ap (λ (xs : List Literal). has_literal xs x) k.2 ∙ o.3 x) c.requires.waiting);
      none = subst (λ (x : Watches). HasNone c.args.slots.now x c.args.i) (sym e)
          (attached_none c.args.slots.now w c.args.trail.now c.args.i c.args.id p k.0 d o.0 k.1 o.2 c.requires.waiting);
      within = c.requires.waiting.within;
    }

pub returns-in_err-push-clause-sound : goal.returns-in_err-push-clause-sound
returns-in_err-push-clause-sound c = subst (λ (ls : List (List Watch)). IsSound c.args.slots.now (record c.args.watches.now { lists = ls })
    c.args.trail.now) (sym c.in_err-push.ensures.err) c.requires.waiting.looking.sound

pub returns-in_err-push-2-clause-sound : goal.returns-in_err-push-2-clause-sound
returns-in_err-push-2-clause-sound c =
    let k = c.requires.waiting.kept in
    let w = c.args.watches.now in
    let p = c.args.pair in
    let one = c.in_ok-push.ensures.ok ∙ ap (λ (x : Watch). set w.lists (code_of p.first) (list_at w.lists (code_of p.first) ++ x ∷ [])) c.new.ensures in
    subst (λ (ls : List (List Watch)). IsSound c.args.slots.now (record w { lists = ls }) c.args.trail.now) (sym (c.in_err-push-2.ensures.err ∙ one))
    (sound_both c.args.slots.now w c.args.trail.now p c.args.id k.0 c.is_lasting_at-is_short.result k.1 (c.requires.watched k.0 k.1)
    c.is_lasting_at-is_short.ensures c.requires.waiting.looking.sound).0

pub returns-in_err-put_row-clause-sound : goal.returns-in_err-put_row-clause-sound
returns-in_err-put_row-clause-sound c =
    let k = c.requires.waiting.kept in
    let w = c.args.watches.now in
    let p = c.args.pair in
    let d = c.is_lasting_at-is_short.result in
    let one = c.in_ok-push.ensures.ok ∙ ap (λ (x : Watch). set w.lists (code_of p.first) (list_at w.lists (code_of p.first) ++ x ∷ [])) c.new.ensures in
    let a = c.in_ok-push-2.ensures.ok
    ∙ (ap (λ (ls : List (List Watch)). set ls (code_of p.second) (list_at ls (code_of p.second) ++ c.new-2.result ∷ [])) one
    ∙ ap (λ (x : Watch). set (with_first w p c.args.id d).lists (code_of p.second) (list_at (with_first w p c.args.id d).lists (code_of p.second) ++ x ∷ [])) c.new-2.ensures) in
    let b = c.in_err-put_row.ensures.err in
    let e : record w { lists = c.push-2.new.self; rows = c.put_row.new.rows } ≡ with_both w p c.args.id d = λ j. record w { lists = a j; rows = b j } in
    subst (λ (x : Watches). IsSound c.args.slots.now x c.args.trail.now) (sym e)
    (sound_both c.args.slots.now w c.args.trail.now p c.args.id k.0 d k.1 (c.requires.watched k.0 k.1) c.is_lasting_at-is_short.ensures c.requires.waiting.looking.sound).1

pub returns-clause-sound : goal.returns-clause-sound
returns-clause-sound c = c.leave.ensures.0.sound

pub returns-clause-looks : goal.returns-clause-looks
returns-clause-looks c = (c.leave.ensures.0, c.leave.ensures.1)
