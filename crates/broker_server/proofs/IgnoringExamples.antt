-- Worked examples of what is ignored.
use Rattle.std.proofs.Common.{◌≡◌, true, false, List, ℕ, [], ◌∷◌, codes, refl}
use Rattle.stomp_frame.specs.declared.command.Command.{Command}
use Rattle.stomp_frame.specs.declared.command.Command.TheVariants as commands
use Rattle.stomp_frame.specs.declared.raw_frame.RawFrame.{RawFrame}
use Rattle.broker_server.specs.declared.conversation.ignored_so_far.IgnoredSoFar.{IgnoredSoFar}
use Rattle.broker_server.specs.Ignoring.{ignored_of, nothing_ignored, ignored_in_either, ignored_without, asked_with}

abbrev frame : Command → List (List ℕ × List ℕ) → RawFrame
frame command headers = record { command = command; headers = headers; body = [] }

abbrev send : List ℕ → RawFrame
send value = frame commands.Send ((codes "destination", codes "A.*") ∷ (codes "persistent", value) ∷ [])

-- A SEND asks for persistent messages, whatever its destination, and not by `false`.
a_send : ignored_of (send (codes "true")) ≡ record nothing_ignored { persistent = true }
a_send = refl

not_by_false : ignored_of (send (codes "false")) ≡ nothing_ignored
not_by_false = refl

-- A SUBSCRIBE to `A.*` with a selector asks for two.
a_subscribe : ignored_of (frame commands.Subscribe ((codes "destination", codes "A.*") ∷ (codes "selector", codes "x") ∷ [])) ≡ record nothing_ignored { selector = true; wildcard = true }
a_subscribe = refl

-- A STOMP asks for heart-beats, but not at 0,0.
a_stomp : ignored_of (frame commands.Stomp ((codes "heart-beat", codes "0,5") ∷ [])) ≡ record nothing_ignored { heart_beat = true }
a_stomp = refl

at_zero : ignored_of (frame commands.Connect ((codes "heart-beat", codes "0,0") ∷ [])) ≡ nothing_ignored
at_zero = refl

-- Of a connection's SENDs only the first counts.
abbrev so_far : IgnoredSoFar
so_far = record { asked = nothing_ignored; has_sent = false }

the_first : asked_with (send (codes "true")) so_far ≡ record { asked = record nothing_ignored { persistent = true }; has_sent = true }
the_first = refl

not_the_second : asked_with (send (codes "true")) (asked_with (send (codes "false")) so_far) ≡ record { asked = nothing_ignored; has_sent = true }
not_the_second = refl

-- What one asks for and another doesn't.
alone : ignored_without (ignored_in_either (record nothing_ignored { durable = true }) (record nothing_ignored { wildcard = true })) (record nothing_ignored { wildcard = true }) ≡ record nothing_ignored { durable = true }
alone = refl
