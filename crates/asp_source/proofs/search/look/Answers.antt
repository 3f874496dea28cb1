use Rattle.std.proofs.Common.{ℕ, ◌-◌, ◌<◌, true, List, length, set, sym, ◌∙◌, subst, arith}
use Rattle.std.specs.Prelude.{Option, None, Some, Result, Ok, Err, IfOk, IfNone, IfSome}
use Rattle.std.proofs.lemmas.List.Sums.{count_by-le-length}
use Rattle.asp_source.specs.Marks.{atoms_at}
use Rattle.asp_source.specs.Loops.{IsFound}
use Rattle.asp_source.proofs.ChangeLaws.{var_component}
use Rattle.asp_source.proofs.SettleLaws.{gathering_begins, gets_less, look_settles, look_ends, left_listed, none_left}
use Rattle.asp_source.proofs.LeftLaws.{left_found}
use Rattle.asp_source.proofs.search.look.Goals as goal

if_none : {A E P Q : Type 0} (r : Result (Option A) E) → (P → Q) → IfOk r (λ o. IfNone o P) → IfOk r (λ o. IfNone o Q)
if_none (Ok None) f h = f h
if_none (Ok (Some a)) f h = h
if_none (Err e) f h = h

if_some : {A E : Type 0} (r : Result (Option A) E) (P Q R : A → Type 0) → ((a : A) → P a → Q a → R a) → IfOk r (λ o. IfSome o P) → IfOk r (λ o. IfSome o Q) → IfOk r (λ o. IfSome o R)
if_some (Ok None) P Q R f h k = h
if_some (Ok (Some a)) P Q R f h k = f a h k
if_some (Err e) P Q R f h k = h

pub trivial-requires : goal.trivial-requires
trivial-requires c =
    subst (λ (k : ℕ). k < length c.args.setting.now.components.now.trivial) (sym c.of-component.ensures)
    (var_component c.args.setting.now.compiled.now c.args.setting.now.components.now c.args.var c.requires.components c.requires.var).1

pub admit-requires-clause-gathering : goal.admit-requires-clause-gathering
admit-requires-clause-gathering c =
    gathering_begins c.args.setting.now.compiled.now c.args.setting.now.components.now c.args.setting.now.values.now c.of-component.result
    c.args.sources.now c.args.ranks.now.ranks (set c.args.queue.now (c.args.var - 1) true) c.args.loose.now c.args.waiting.now c.args.joined.now
    (record { components = c.requires.components; values = c.requires.values }) c.program-program.ensures.sound c.requires.pointers c.requires.blank
    c.requires.loose c.requires.waiting c.requires.joined

pub admit-requires-clause-at : goal.admit-requires-clause-at
admit-requires-clause-at c = sym c.of-component.ensures

pub admit-requires-clause-none : goal.admit-requires-clause-none
admit-requires-clause-none c = c.if-sources-var-ne0.false

pub gather-requires : goal.gather-requires
gather-requires c = record { gathering = c.admit.ensures.steps.gathering }

pub settle-requires-clause-room : goal.settle-requires-clause-room
settle-requires-clause-room c =
    let few = count_by-le-length (λ b. b) c.gather.new.loose in
    let g = c.gather.ensures.gathering in
    record {
      values = g.setting.values;
      size = g.size;
      marks = g.candidates.size;
      waits = g.waits;
      rank_room = g.rank_room;
      time = omega (arith, few, c.requires.time, g.candidates.size, c.vars-vars.ensures.few);
    }

pub left_of-left-requires-clause-atoms : goal.left_of-left-requires-clause-atoms
left_of-left-requires-clause-atoms c v e =
    c.gather.ensures.gathering.candidates.atoms v
    (gets_less c.args.setting.now.compiled.now c.args.setting.now.values.now c.gather.new.sources c.args.ranks.now c.gather.new.loose
    c.settle.new.sources c.settle.new.ranks c.settle.new.loose c.settle.ensures.founds.gets v e)

pub drain-requires-clause-listed : goal.drain-requires-clause-listed
drain-requires-clause-listed c =
    left_listed c.args.setting.now.compiled.now c.args.setting.now.components.now c.args.setting.now.values.now c.of-component.result
    c.args.ranks.now.ranks c.gather.new.sources c.args.ranks.now c.gather.new.loose c.gather.new.waiting c.gather.new.joined c.settle.new.sources
    c.settle.new.ranks c.settle.new.loose c.gather.ensures.gathering c.settle.ensures.founds.gets

pub returns-clause-pointers : goal.returns-clause-pointers
returns-clause-pointers c =
    look_ends c.args.setting.now.compiled.now c.args.setting.now.components.now c.args.setting.now.values.now c.of-component.result c.args.var
    c.args.sources.now c.args.ranks.now c.args.queue.now c.args.loose.now c.args.waiting.now c.admit.new.sources c.admit.new.loose
    c.admit.new.waiting c.gather.new.sources c.gather.new.loose c.gather.new.waiting c.gather.new.joined c.settle.new.sources c.settle.new.ranks
    c.settle.new.loose c.drain.new.queue
    (record {
      sound = c.program-program.ensures.sound;
      pointers = c.requires.pointers;
      is = c.requires.var;
      admits = c.admit.ensures.steps.gathers;
      admitted = c.admit.ensures.admitted;
      gathers = c.gather.ensures.gathers;
      gathering = c.gather.ensures.gathering;
      done =
          c.gather.ensures.done;
    })
    c.settle.ensures.founds.gets c.drain.ensures.room c.drain.ensures.more c.drain.ensures.queued

pub returns-clause-time : goal.returns-clause-time
returns-clause-time c = let few = count_by-le-length (λ b. b) c.gather.new.loose in
    omega (arith, few, c.settle.ensures.founds.ticks, c.gather.ensures.gathering.candidates.size, c.vars-vars.ensures.few)

pub returns-clause-same : goal.returns-clause-same
returns-clause-same c =
    if_none c.left_of-left.result
    (λ none. c.drain.ensures.same
    (none_left c.settle.new.loose c.as_slice-places.result.now none
    (λ v e. let joined =
    left_listed c.args.setting.now.compiled.now c.args.setting.now.components.now c.args.setting.now.values.now c.of-component.result
    c.args.ranks.now.ranks c.gather.new.sources c.args.ranks.now c.gather.new.loose c.gather.new.waiting c.gather.new.joined
    c.settle.new.sources c.settle.new.ranks c.settle.new.loose c.gather.ensures.gathering c.settle.ensures.founds.gets v e in
    (joined.0, c.as_slice-places.ensures.all (v - 1) joined.1))))
    c.left_of-left.ensures.none

pub returns-clause-found : goal.returns-clause-found
returns-clause-found c =
    if_some c.left_of-left.result _ _ _
    (λ f atoms atom.
    subst (λ (us : List ℕ). IsFound c.args.setting.now.compiled.now c.args.setting.now.values.now us f.atom) (sym atoms)
    (subst (λ (a : ℕ). IsFound c.args.setting.now.compiled.now c.args.setting.now.values.now (atoms_at c.args.setting.now.compiled.now c.settle.new.loose c.as_slice-places.result.now) a) (sym atom.2)
    (left_found c.args.setting.now.compiled.now c.args.setting.now.components.now c.args.setting.now.values.now c.of-component.result
    c.settle.new.sources c.settle.new.loose c.as_slice-places.result.now atom.0 c.program-program.ensures.sound c.requires.components
    (sym c.trivial.ensures ∙ c.if-trivial.false)
    (look_settles c.args.setting.now.compiled.now c.args.setting.now.components.now c.args.setting.now.values.now c.of-component.result c.args.var
    c.args.sources.now c.args.ranks.now c.args.queue.now c.args.loose.now c.args.waiting.now c.admit.new.sources c.admit.new.loose
    c.admit.new.waiting c.gather.new.sources c.gather.new.loose c.gather.new.waiting c.gather.new.joined c.settle.new.sources
    c.settle.new.ranks c.settle.new.loose
    (record {
      sound = c.program-program.ensures.sound;
      pointers = c.requires.pointers;
      is = c.requires.var;
      admits = c.admit.ensures.steps.gathers;
      admitted = c.admit.ensures.admitted;
      gathers = c.gather.ensures.gathers;
      gathering = c.gather.ensures.gathering;
      done =
          c.gather.ensures.done;
    }) c.settle.ensures.founds.gets).candidates
    (λ u e. c.as_slice-places.ensures.all (u - 1)
    (left_listed c.args.setting.now.compiled.now c.args.setting.now.components.now c.args.setting.now.values.now c.of-component.result
    c.args.ranks.now.ranks c.gather.new.sources c.args.ranks.now c.gather.new.loose c.gather.new.waiting c.gather.new.joined
    c.settle.new.sources c.settle.new.ranks c.settle.new.loose c.gather.ensures.gathering c.settle.ensures.founds.gets u e).1)
    c.settle.ensures.stuck atom.1)))
    c.left_of-left.ensures.atoms c.left_of-left.ensures.atom
