use Rattle.delivery.proofs.Core.RunsOfNets.{nets_are_runs, nets_are_sound, nets_are_tied, none_fails_twice, nothing_odd_comes}
use Rattle.delivery.proofs.law.nets.Goals as goal

pub returns : goal.returns
returns c = record { runs = nets_are_runs; tied = nets_are_tied; sound = nets_are_sound; odd = nothing_odd_comes; twice = none_fails_twice }
