use Rattle.std.proofs.Common.{◌≡◌, drop, map, string_bytes}
use Rattle.delivery.specs.Topics.{no_topics}
use Rattle.broker_server.specs.Listening.{topics_with_names}
use Rattle.broker_server.proofs.serving.listening.topics_of.Given as goal

-- what the names that are left make of it is what all of them make
abbrev pub invariant-loop-name : goal.invariant-loop-name
invariant-loop-name l =
    topics_with_names (map string_bytes (drop l.name-index l.fn.names)) l.topics
    ≡ topics_with_names (map string_bytes l.fn.names) no_topics
