use Rattle.std.proofs.Common.{arith}
use Rattle.mcast_group.proofs.Waits.{no_step, one_step, all_stepped, steps_left}
use Rattle.mcast_group.proofs.waiting.learn_each.Goals as goal

pub loop-init : goal.loop-init
loop-init g c = record {
  made = no_step c.args.waiting.now.items c.args.notes.now.items c.args.group.now c.requires.ids c.requires.sound;
  room = c.requires.room;
}

pub learn_first-requires-clause-some : goal.learn_first-requires-clause-some
learn_first-requires-clause-some g c =
    let n = c.len-end.ensures in
    let l = c.args.waiting.now.ok.0 in
    let t = c.loop-test.true in
    steps_left c.args.waiting.now.items c.loop.waiting.items c.args.notes.now.items c.loop.notes.items c.args.group.now c.loop.group c.loop.counter (omega arith) c.loop.invariant.made

pub loop-preserved : goal.loop-preserved
loop-preserved g c =
    let n = c.len-end.ensures in
    let l = c.args.waiting.now.ok.0 in
    let t = c.loop-test.true in
    record {
      made = one_step c.args.waiting.now.items c.loop.waiting.items c.learn_first.new.waiting.items c.args.notes.now.items c.loop.notes.items c.learn_first.new.notes.items c.args.group.now c.loop.group c.learn_first.new.group c.loop.counter (omega arith) c.loop.invariant.made c.learn_first.ensures.learns c.learn_first.ensures.sound;
      room = c.learn_first.ensures.room;
    }

pub returns-clause-learns : goal.returns-clause-learns
returns-clause-learns g c =
    let n = c.len-end.ensures in
    let l = c.args.waiting.now.ok.0 in
    let t = c.loop-test.false in
    all_stepped c.args.waiting.now.items c.loop.waiting.items c.args.notes.now.items c.loop.notes.items c.args.group.now c.loop.group c.loop.counter (omega arith) c.requires.sound.by_id c.requires.ids c.loop.invariant.made
