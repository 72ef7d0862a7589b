use Rattle.delivery.proofs.Views.Endpoints.OwnConnectionAlone.{open_are_live, unsubscribes_find, other_connections_stay}
use Rattle.delivery.proofs.Views.Endpoints.FramesArePassed.{frames_pass}
use Rattle.delivery.proofs.law.connections.Goals as goal

pub returns : goal.returns
returns c = record { live = open_are_live; ends = unsubscribes_find; pass = frames_pass; others = other_connections_stay }
