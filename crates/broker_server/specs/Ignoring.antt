-- What the server ignores of what a client's frame asks for, though elsewhere it changes what the client gets
-- (own).
use Rattle.std.specs.Prelude.{ℕ, Bool, true, false, ◌&&◌, ◌||◌, not, ◌==◌, List, codes, if◌then◌else◌}
use Rattle.std.specs.List.{list_any}
use Rattle.std.specs.Option.{is_some, option_map_or}
use Rattle.std.specs.Str.{bytes_eq}
use Rattle.stomp_frame.specs.declared.raw_frame.RawFrame.{RawFrame}
use Rattle.stomp_frame.specs.Cases.{is_connect}
use Rattle.stomp_frame.specs.Headers.{first_of}
use Rattle.stomp_session.specs.Frames.{is_send, is_subscribe}
use Rattle.broker_server.specs.declared.conversation.ignored.Ignored.{Ignored}
use Rattle.broker_server.specs.declared.conversation.ignored_so_far.IgnoredSoFar.{IgnoredSoFar}

-- whether its first header of this name has another value than this; so not where it has none
abbrev pub is_other_than : List ℕ → List ℕ → RawFrame → Bool
is_other_than value name f = option_map_or (λ is. not (bytes_eq is value)) (first_of name f.headers) false

-- `*`, `>` or `#`
abbrev pub is_wildcard : ℕ → Bool
is_wildcard b = b == 42 || (b == 62 || b == 35)

-- whether its destination has one; so `A.*`, and not `A`
abbrev pub names_wildcard : RawFrame → Bool
names_wildcard f = option_map_or (list_any is_wildcard) (first_of (codes "destination") f.headers) false

-- What of a frame is ignored: of a SUBSCRIBE its selector, that it asks for a durable subscription, that its
-- destination is to stand for many, and, as of a SEND, that messages are to persist; of a CONNECT or STOMP that it
-- asks for heart-beats (STOMP 1.2, "Heart-beating", has none of them at 0,0). So a SEND with `persistent:true`
-- asks for that alone, and with `persistent:false` for nothing.
abbrev pub ignored_of : RawFrame → Ignored
ignored_of f = record {
  selector = is_subscribe f.command && is_some (first_of (codes "selector") f.headers);
  durable = is_subscribe f.command && is_other_than (codes "false") (codes "durable") f;
  wildcard = is_subscribe f.command && names_wildcard f;
  persistent = (is_subscribe f.command || is_send f.command)
      && is_other_than (codes "false") (codes "persistent") f;
  heart_beat = is_connect f.command && is_other_than (codes "0,0") (codes "heart-beat") f;
}

-- nothing
abbrev pub nothing_ignored : Ignored
nothing_ignored =
    record { selector = false; durable = false; wildcard = false; persistent = false; heart_beat = false }

-- what is in the one or in the other
abbrev pub ignored_in_either : Ignored → Ignored → Ignored
ignored_in_either a b = record {
  selector = a.selector || b.selector;
  durable = a.durable || b.durable;
  wildcard = a.wildcard || b.wildcard;
  persistent = a.persistent || b.persistent;
  heart_beat = a.heart_beat || b.heart_beat;
}

-- what is in the first alone
abbrev pub ignored_without : Ignored → Ignored → Ignored
ignored_without a b = record {
  selector = a.selector && not b.selector;
  durable = a.durable && not b.durable;
  wildcard = a.wildcard && not b.wildcard;
  persistent = a.persistent && not b.persistent;
  heart_beat = a.heart_beat && not b.heart_beat;
}

-- What a connection asked for so far, once this frame came; of its SENDs only the first counts. So after a SEND
-- without it, one with `persistent:true` adds nothing.
abbrev pub asked_with : RawFrame → IgnoredSoFar → IgnoredSoFar
asked_with f so_far =
    if is_send f.command && so_far.has_sent then so_far
    else record {
      asked = ignored_in_either so_far.asked (ignored_of f);
      has_sent = so_far.has_sent || is_send f.command;
    }
