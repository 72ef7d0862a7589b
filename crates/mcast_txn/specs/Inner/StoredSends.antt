-- Serves proofs only: how the SENDs of a part are stored, for its model; no public contract cites it.
use Rattle.std.specs.Prelude.{List, [], ◌∷◌}
use Rattle.mcast_txn.specs.declared.parts.part_message.PartMessage.{PartMessage}
use Rattle.mcast_txn.specs.declared.parts.stored_sends.StoredSends.{StoredSends}
use Rattle.mcast_txn.specs.declared.parts.stored_sends.StoredSends.TheVariants.{One, Shared}

-- the SENDs, in order
abbrev pub stored_sends : StoredSends → List PartMessage
stored_sends (One send) = send ∷ []
stored_sends (Shared sends) = sends
