-- Worked rows, computed: MESSAGEs that say which of their transaction's they are, to who asked for it and to who didn't, and
-- ERRORs that say our version.
use Rattle.delivery.proofs.Words.All.{refl, ◌≡◌, ℕ, true, false, List, [], ◌∷◌, ◌++◌, codes, Some, RawFrame, ConnectionFault, Event, says_version, sub_parts, Core, new_core, report_of}
use Rattle.std.specs.Fmt.{digits}
use Rattle.stomp_frame.specs.declared.case_fault.CaseFault.TheVariants as cases
use Rattle.stomp_frame.specs.declared.case_fault.RequiredHeader.{RequiredHeader}
use Rattle.stomp_frame.specs.declared.command.Command.TheVariants as commands
use Rattle.delivery.proofs.Core.Acts.{topic_list, act, reads, played, frame, subscribe, begin, send_in, commit, opens, propose, turn, A, B}

-- ---- parts

-- the same frame with a header part of this value
abbrev pub with_part : List ℕ → RawFrame → RawFrame
with_part value f = record f { headers = f.headers ++ (codes "part", value) ∷ [] }

-- s asked for parts of A, t didn't; x has SENDs to A, B and A, the first with a part of its own
abbrev pub parted : Core
parted = played (new_core (topic_list ((A, 0) ∷ (B, 0) ∷ [])) 64) (opens 0 (
    reads 0 (with_part (codes "yes") (subscribe (codes "s") A)) ∷ reads 0 (with_part (codes "no") (subscribe (codes "t") A))
    ∷ reads 0 (begin (codes "x")) ∷ reads 0 (with_part (codes "9") (send_in (codes "x") A (codes "m")))
    ∷ reads 0 (send_in (codes "x") B (codes "n")) ∷ reads 0 (send_in (codes "x") A (codes "o")) ∷ reads 0 (commit (codes "x"))
    ∷ propose 0 0 ∷ propose 0 1 ∷ act (Event.Decide 0) ∷ turn 0 ∷ act (Event.Take 0) ∷ act (Event.Take 1) ∷ []))

asked_rows : (sub_parts 0 parted.steps ≡ true)
    × (sub_parts 1 parted.steps ≡ false)
asked_rows = (refl, refl)

parted_outs : (report_of parted).outs
    ≡ (codes "CONNECTED\nversion:1.2\nheart-beat:0,0\n\n\0"
    ++ (codes "MESSAGE\nsubscription:s\nmessage-id:1.1.0\ndestination:A\ncontent-length:1\npart:1/2\n\nm\0"
    ++ (codes "MESSAGE\nsubscription:s\nmessage-id:1.1.2\ndestination:A\ncontent-length:1\npart:2/2\n\no\0"
    ++ (codes "MESSAGE\nsubscription:t\nmessage-id:1.1.0\ndestination:A\ncontent-length:1\npart:9\n\nm\0"
    ++ codes "MESSAGE\nsubscription:t\nmessage-id:1.1.2\ndestination:A\ncontent-length:1\n\no\0")))) ∷ []
unfolding digits
parted_outs = refl

-- ---- versions

-- the fault of a CONNECT without a host
abbrev pub no_host : ConnectionFault
no_host = ConnectionFault.Frame (cases.Missing RequiredHeader.Host)

-- a CONNECT without a host, of a client with these versions
abbrev pub of_versions : List ℕ → RawFrame
of_versions versions = frame commands.Connect ((codes "accept-version", versions) ∷ []) []

told_rows : (says_version (Some (of_versions (codes "1.1"))) no_host ≡ true)
    × (says_version (Some (of_versions (codes "1.1,1.2"))) no_host ≡ false)
    × (says_version (Some (of_versions (codes "1.2"))) no_host ≡ false)
told_rows = (refl, refl, refl)

-- one that sends none is of 1.0
told_oldest : says_version (Some (frame commands.Connect [] [])) (ConnectionFault.Frame (cases.Missing RequiredHeader.AcceptVersion)) ≡ true
told_oldest = refl
