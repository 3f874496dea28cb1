use Rattle.std.proofs.Common.{ℕ, ◌+◌, ◌<◌, Bool, cond, [], ◌∷◌, ◌++◌, get_or, length, take, refl, ap, ◌∙◌, arith}
use Rattle.std.proofs.lemmas.List.{length-set}
use Rattle.asp_search.proofs.TrueLaws.{held_step, held_end, one_at_most, put_step}
use Rattle.asp_search.proofs.faults.gather.Goals as goal

pub loop-i-preserved : goal.loop-i-preserved
loop-i-preserved c =
    let held = c.loop-i.held in
    let len = c.loop-i.len in
    let v = c.loop-i.invariant in
    let same = c.as_slice-atoms.ensures.value ∙ c.atoms.ensures in
    let size = ap length same in
    let room : len < length held = omega (arith, v.few, c.loop-i-test.true, size, v.room) in
    let most = one_at_most c.is_held.result in
    let put = put_step held len (get_or c.as_slice-atoms.result.now c.loop-i.i 0) (len + c.count-len.result) c.is_held.result room (ap (λ (k : ℕ). len + k) c.count-len.ensures) in
    record {
      few = omega (arith, v.few, most, c.count-len.ensures);
      room = length-set held len _ ∙ v.room;
      is = held_step c.args.compiled.now c.args.assign.now c.as_slice-atoms.result.now (take len held) _ c.loop-i.i _ _ same c.loop-i-test.true refl
          refl v.is (put ∙ ap (λ (b : Bool). take len held ++ cond b (get_or c.as_slice-atoms.result.now c.loop-i.i 0 ∷ []) []) c.is_held.ensures);
    }

pub returns-clause-held : goal.returns-clause-held
returns-clause-held c =
    held_end c.args.compiled.now c.args.assign.now c.as_slice-atoms.result.now (take c.loop-i.len c.loop-i.held) c.loop-i.i
    (c.as_slice-atoms.ensures.value ∙ c.atoms.ensures) c.loop-i-test.false c.loop-i.auto.i-end c.loop-i.invariant.is
