-- Worked examples of how those who come to a topic to subscribe there leave time to others.
use Rattle.std.proofs.Common.{◌≡◌, ℕ, true, false, refl}
use Rattle.broker_server.specs.declared.serving.moment.Moment.{Moment}
use Rattle.broker_server.specs.declared.serving.passage.Passage.{Passage}
use Rattle.broker_server.specs.Turnstiles.{is_shut, next_at, within_at}

abbrev at : ℕ → Moment
at nanoseconds = record { 0 = nanoseconds }

-- one came at 1,000 and left at 1,400
pub seven_times_as_long : next_at (at 1000) (at 1400) ≡ at 4200
seven_times_as_long = refl

-- one was there for a second
pub nine_milliseconds_at_most : next_at (at 0) (at 1000000000) ≡ at 1009000000
nine_milliseconds_at_most = refl

-- the next enters at 1,500, and rests until 4,200
pub rests : within_at (at 4200) (at 1500) ≡ at 4200
rests = refl

-- another one comes later than that
pub comes_at_once : within_at (at 4200) (at 5000) ≡ at 5000
comes_at_once = refl

-- nobody is within, and a regular waits in front
abbrev one_waits : Passage
one_waits = record { taken = false; next_at = at 0; regulars = 1 }

pub regulars_go_first : is_shut one_waits true ≡ false
regulars_go_first = refl

pub others_wait : is_shut one_waits false ≡ true
others_wait = refl
