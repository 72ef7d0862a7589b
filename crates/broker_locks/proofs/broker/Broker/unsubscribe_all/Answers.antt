use Rattle.sub_queue.specs.Ends.{shown_of_source}
use Rattle.broker_locks.proofs.Ends.{ends_many}
use Rattle.broker_locks.proofs.broker.Broker.unsubscribe_all.Goals as goal

pub returns-clause-each : goal.returns-clause-each
returns-clause-each g c =
    ends_many shown_of_source c.args.numbers.now c.unsubscribe_all.new.answers.items c.deref_mut.result.now.place c.unsubscribe_all.new.self.place c.unsubscribe_all.ensures.ends
