-- What a net holds is held of a core that a run leads to, and the senders beside it are those of that core.
use Rattle.std.proofs.Common.{ℕ, List, refl}
use Rattle.delivery.proofs.Words.All.{SendersState, Kept, TopicList, core_of, KeepsBoth, IsReached, View}
use Rattle.delivery.specs.Inner.Clients.{AreHeld}

pub are_held : (topics : TopicList) (capacity : ℕ) (kept : List Kept) (held : View) (clients : SendersState) → KeepsBoth topics capacity kept held clients → AreHeld held clients
are_held topics capacity kept held clients keeps =
    let run = keeps.run in let k = core_of topics capacity run.steps in
    let reached : IsReached k = record { topics = topics; capacity = capacity; steps = run.steps; as_many = run.as_many; is = refl; run = run.is_run } in
    (k, reached, run.view, keeps.claimed)
