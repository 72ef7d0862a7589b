-- A sender that becomes another: what is held of it, of its endpoint and of its verdicts. No other connection that is there speaks for it.
use Rattle.delivery.proofs.Words.All.{◌≡◌, ◌≢◌, ℕ, ◌+◌, ◌-◌, ◌<◌, ◌≤◌, nat_lt, Bool, true, false, cond, List, length, get_or, set, Option, Some, None, refl, sym, ap, ◌∙◌, arith, slice_get, ltb-true, ltb-false, get_or-set_same, get_or-set_other, set-get_or, option_and_then, unwrap_or, TxnId, Decision, RawFrame, Unread, World, SenderState, Connection, Standing, is_gone, is_in_use, new_sender, nobody, connection_at, sender_at, speaker, speaks_for, with_sender, speaker_number, find_verdict, text_out, subscribe_frame, Core, unread_at, names_at, accepted_of, each_number, live_numbers, speaker_at, sender_in, no_sender, IsReached, EndpointView, view_of, view_with, held_sender, sender_view, endpoint_view, stage_view, no_endpoint, verdict_list}
use Rattle.delivery.proofs.Views.Lists.ByNumber.{each_number-set, get_or-each_number, length-each_number}
use Rattle.delivery.proofs.Views.Endpoints.StandingOfConnection.{differ}
use Rattle.delivery.proofs.Views.Verdicts.FoundVerdict.{verdict_is, table, list_of, not_in_list}
use Rattle.delivery.proofs.Views.Runs.ByRunOfCore.{speaks_of}
use Rattle.delivery.proofs.Views.Senders.HeldSenders.{senders_with, speaker_used, spoken_used, used_held}
use Rattle.delivery.proofs.Words.Steps.{kept_speaker, beyond}
use Rattle.delivery.proofs.Theorem.SendersAreOwn.{speaks, spoken_sender}

-- ---- what is looked up

-- the value at a number, where the first is 0
pub number_at : {X Y : Type 0} (f : ℕ → Y) (xs : List X) (n : ℕ) (d : Y) → n < length xs → get_or (each_number f 0 xs) n d ≡ f n
number_at f xs n d there = let e : 0 + n ≡ n = omega arith in get_or-each_number f 0 xs n d there ∙ ap f e

-- the endpoint of a connection that is there, whatever it accepted
pub endpoint_in : (names : List (List ℕ)) (w : World) (accepted : ℕ → List RawFrame) (unread : ℕ → Unread) (text : ℕ → List ℕ) (began : ℕ → Option RawFrame) (c : ℕ) (d : EndpointView)
    → c < length w.connections → get_or (view_with names w accepted unread text began).endpoints c d ≡ endpoint_view names w c (accepted c) (unread c) (text c)
endpoint_in names w accepted unread text began c d there = number_at (λ n. endpoint_view names w n (accepted n) (unread n) (text n)) w.connections c d there

-- its sender
pub speaker_is : (names : List (List ℕ)) (w : World) (accepted : ℕ → List RawFrame) (unread : ℕ → Unread) (text : ℕ → List ℕ) (began : ℕ → Option RawFrame) (c : ℕ)
    → c < length w.connections → speaker_at (view_with names w accepted unread text began) c ≡ speaker_number w c
speaker_is names w accepted unread text began c there =
    ap (λ (l : EndpointView). unwrap_or l.sender (length (view_with names w accepted unread text began).senders)) (endpoint_in names w accepted unread text began c no_endpoint there)
    ∙ ap (unwrap_or (connection_at w c).sender) (length-each_number (held_sender w) 0 w.senders)

-- a sender that is there, and in use
pub sender_is : (names : List (List ℕ)) (w : World) (accepted : ℕ → List RawFrame) (unread : ℕ → Unread) (text : ℕ → List ℕ) (began : ℕ → Option RawFrame) (s : ℕ)
    → s < length w.senders → is_in_use w s ≡ true → sender_in (view_with names w accepted unread text began) s ≡ sender_view s (sender_at w s)
sender_is names w accepted unread text began s there used = number_at (held_sender w) w.senders s (no_sender s) there ∙ used_held w s used

-- the same in the view of a core
pub speaker_of : (k : Core) (c : ℕ) → c < length k.world.connections → speaker_at (view_of k) c ≡ speaker_number k.world c
speaker_of k c there =
    speaker_is (names_at k) k.world (λ n. accepted_of n k.steps) (λ n. unread_at n k.steps) (λ n. text_out k.names n k.steps) (λ n. subscribe_frame n k.steps) c there

pub sender_of : (k : Core) (s : ℕ) → s < length k.world.senders → sender_in (view_of k) s ≡ held_sender k.world s
sender_of k s there = number_at (held_sender k.world) k.world.senders s (no_sender s) there

pub held_of : (k : Core) (s : ℕ) → s < length k.world.senders → is_in_use k.world s ≡ true → sender_in (view_of k) s ≡ sender_view s (sender_at k.world s)
held_of k s there used = sender_of k s there ∙ used_held k.world s used

pub endpoint_of : (k : Core) (c : ℕ) (d : EndpointView) → c < length k.world.connections
    → get_or (view_of k).endpoints c d ≡ endpoint_view (names_at k) k.world c (accepted_of c k.steps) (unread_at c k.steps) (text_out k.names c k.steps)
endpoint_of k c d there =
    endpoint_in (names_at k) k.world (λ n. accepted_of n k.steps) (λ n. unread_at n k.steps) (λ n. text_out k.names n k.steps) (λ n. subscribe_frame n k.steps) c d there

-- the connection speaks for a sender, and isn't gone
abbrev pub IsSpeaking : World → ℕ → Type 0
IsSpeaking w c = speaks_for (speaker_number w c) (connection_at w c) ≡ true

-- its sender is there
pub speaker_there : (k : Core) (c : ℕ) → IsReached k → IsSpeaking k.world c → (speaker_number k.world c) < length k.world.senders
speaker_there k c reached speaks = (speaks_of k reached).there c (speaker_number k.world c) (spoken_sender (speaker_number k.world c) (connection_at k.world c) speaks)

-- so it is in use
pub speaking_used : (w : World) (c : ℕ) → IsSpeaking w c → is_in_use w (speaker_number w c) ≡ true
speaking_used w c speaking = spoken_used w c (speaker_number w c) speaking

-- the sender of a number, where it is there and in use or it is the next one
held_or_next : (k : Core) (s : ℕ) → s ≤ length k.world.senders → (s < length k.world.senders → is_in_use k.world s ≡ true)
    → sender_in (view_of k) s ≡ sender_view s (sender_at k.world s)
held_or_next k s within used = by (nat_lt s (length w.senders)) refl
  where
    w : World
    w = k.world

    by : (b : Bool) → nat_lt s (length w.senders) ≡ b → sender_in (view_of k) s ≡ sender_view s (sender_at w s)
    by true e = let there = ltb-true s (length w.senders) e in held_of k s there (used there)
    by false e =
        let m = length-each_number (held_sender w) 0 w.senders in let l = ltb-false s (length w.senders) e in
        beyond (view_of k).senders s (no_sender s) (omega (arith, m, l))
        ∙ ap (sender_view s) (sym (beyond w.senders s new_sender (omega (arith, l))))

-- the number of a connection's sender is that of one that is there, or of the next one
speaker_within : (k : Core) (c : ℕ) → IsReached k → speaker_number k.world c ≤ length k.world.senders
speaker_within k c reached = (elim (connection_at k.world c).sender as (λ (o : Option ℕ). (connection_at k.world c).sender ≡ o → unwrap_or o (length k.world.senders) ≤ length k.world.senders) [
  | None ↦ λ e. omega arith
  | Some s ↦ λ e. (let l = (speaks_of k reached).there c s e in omega (arith, l))
]) refl

-- its sender, by its endpoint, where it isn't gone
pub sender_of_endpoint : (k : Core) (c s : ℕ) → IsReached k → c < length k.world.connections → is_gone (connection_at k.world c).standing ≡ false → s ≡ speaker_at (view_of k) c
    → sender_in (view_of k) s ≡ sender_view (speaker_number k.world c) (speaker k.world c)
sender_of_endpoint k c s reached there staying is =
    ap (λ (n : ℕ). sender_in (view_of k) n) (is ∙ speaker_of k c there)
    ∙ held_or_next k (speaker_number k.world c) (speaker_within k c reached) (speaker_used k.world c staying)

-- ---- what is held

-- the sender of a connection is another
pub speaker_with : (k : Core) (c : ℕ) (x : SenderState) → IsReached k → IsSpeaking k.world c → (let w = k.world in let s = speaker_number w c in
    set (each_number (held_sender w) 0 w.senders) s (sender_view s x) ≡ each_number (held_sender (with_sender w s x)) 0 (set w.senders s x))
speaker_with k c x reached speaking = senders_with k.world (speaker_number k.world c) x (speaker_there k c reached speaking) (speaking_used k.world c speaking)

-- its list of verdicts with it
pub lists_with : (w : World) (s : ℕ) (x : SenderState) (verdicts : List Decision) → s < length w.senders
    → ((n : ℕ) → n ≢ s → verdict_list w.verdicts n (sender_at w n).seq ≡ verdict_list verdicts n (sender_at w n).seq)
    → set (each_number (λ n. verdict_list w.verdicts n (sender_at w n).seq) 0 w.senders) s (verdict_list verdicts s x.seq)
    ≡ each_number (λ n. verdict_list verdicts n (sender_at (with_sender w s x) n).seq) 0 (set w.senders s x)
lists_with w s x verdicts there same =
    let f = λ (n : ℕ). verdict_list w.verdicts n (sender_at w n).seq in let g = λ (n : ℕ). verdict_list verdicts n (sender_at (with_sender w s x) n).seq in
    let e : s ≡ 0 + s = omega arith in
    let new : verdict_list verdicts s x.seq ≡ g s = ap (λ (y : SenderState). verdict_list verdicts s y.seq) (sym (get_or-set_same w.senders s x new_sender there)) in
    ap (λ (y : List (Option Decision)). set (each_number f 0 w.senders) s y) new
    ∙ (ap (λ (n : ℕ). set (each_number f 0 w.senders) s (g n)) e
    ∙ each_number-set f g 0 w.senders s x there
    (λ n low high other. same n (λ is. other (is ∙ e))
    ∙ ap (λ (y : SenderState). verdict_list verdicts n y.seq) (sym (get_or-set_other w.senders s n x new_sender (λ is. other (is ∙ e))))))

-- an endpoint is that of its connection and its stage
pub endpoint_of_stage : (names : List (List ℕ)) (w v : World) (c : ℕ) (accepted : List RawFrame) (unread : Unread) (text : List ℕ)
    → w.connections ≡ v.connections → w.subscriptions ≡ v.subscriptions
    → stage_view names (connection_at w c).standing (speaker w c).flight accepted unread ≡ stage_view names (connection_at w c).standing (speaker v c).flight accepted unread
    → endpoint_view names w c accepted unread text ≡ endpoint_view names v c accepted unread text
endpoint_of_stage names w v c accepted unread text connections subscriptions stage =
    λ i. record {
      sender = (get_or (connections i) c nobody).sender;
      stage = (stage ∙ ap (λ (xs : List Connection). stage_view names (get_or xs c nobody).standing (speaker v c).flight accepted unread) connections) i;
      live = live_numbers c 0 (subscriptions i);
      output = text;
    }

-- another connection that isn't gone speaks for another sender
others_differ : (k : Core) (c n : ℕ) → IsReached k → IsSpeaking k.world c → n ≢ c → is_gone (connection_at k.world n).standing ≡ false
    → (speaker_number k.world n) ≢ (speaker_number k.world c)
others_differ k c n reached speaking other there same = by (connection_at k.world n).sender refl
  where
    w : World
    w = k.world

    by : (o : Option ℕ) → (connection_at w n).sender ≡ o → Prim.⊥
    by None e =
        let m : speaker_number w n ≡ length w.senders = ap (λ (o : Option ℕ). unwrap_or o (length w.senders)) e in
        let l = speaker_there k c reached speaking in absurd (omega (arith, m, l, same))
    by (Some r) e =
        let m : speaker_number w n ≡ r = ap (λ (o : Option ℕ). unwrap_or o (length w.senders)) e in
        other ((speaks_of k reached).own n c (speaker_number w c) (speaks (speaker_number w c) (connection_at w n) there (e ∙ ap Some (sym m ∙ same))) speaking)

-- another connection is at the stage of before: its sender's transaction stays, or the connection isn't open
pub stage_kept : (k : Core) (c n : ℕ) (x : SenderState) → IsReached k → IsSpeaking k.world c → n ≢ c → (names : List (List ℕ)) (accepted : List RawFrame) (unread : Unread)
    → (let w = k.world in stage_view names (connection_at w n).standing (speaker w n).flight accepted unread
    ≡ stage_view names (connection_at w n).standing (speaker (with_sender w (speaker_number w c) x) n).flight accepted unread)
stage_kept k c n x reached speaking other names accepted unread = by (connection_at k.world n).standing refl
  where
    w : World
    w = k.world

    by : (z : Standing) → (connection_at w n).standing ≡ z
        → stage_view names z (speaker w n).flight accepted unread ≡ stage_view names z (speaker (with_sender w (speaker_number w c) x) n).flight accepted unread
    by Standing.Open e =
        ap (λ (y : SenderState). stage_view names Standing.Open y.flight accepted unread)
        (sym (kept_speaker w n (speaker_number w c) x
        ∙ get_or-set_other w.senders (speaker_number w c) (speaker_number w n) x new_sender (others_differ k c n reached speaking other (ap is_gone e))))
    by Standing.Leaving e = refl
    by Standing.Gone e = refl

-- the endpoint of the sender is another with it, and no other endpoint
pub endpoints_with_sender : (names : List (List ℕ)) (k : Core) (c : ℕ) (x : SenderState) (accepted : ℕ → List RawFrame) (unread : ℕ → Unread) (text : ℕ → List ℕ)
    → IsReached k → c < length k.world.connections → IsSpeaking k.world c → (let w = k.world in let v = with_sender w (speaker_number w c) x in
    set (each_number (λ n. endpoint_view names w n (accepted n) (unread n) (text n)) 0 w.connections) c (endpoint_view names v c (accepted c) (unread c) (text c))
    ≡ each_number (λ n. endpoint_view names v n (accepted n) (unread n) (text n)) 0 w.connections)
endpoints_with_sender names k c x accepted unread text reached there speaking =
    let w = k.world in let s = speaker_number w c in let v = with_sender w s x in let f = λ (n : ℕ). endpoint_view names w n (accepted n) (unread n) (text n) in
    let g = λ (n : ℕ). endpoint_view names v n (accepted n) (unread n) (text n) in let e : c ≡ 0 + c = omega arith in
    ap (λ (n : ℕ). set (each_number f 0 w.connections) c (g n)) e
    ∙ (each_number-set f g 0 w.connections c (connection_at w c) there
    (λ n low high other. endpoint_of_stage names w v n (accepted n) (unread n) (text n) refl refl
    (stage_kept k c n x reached speaking (λ is. other (is ∙ e)) names (accepted n) (unread n)))
    ∙ ap (λ (xs : List Connection). each_number g 0 xs) (set-get_or w.connections c nobody))

-- the endpoint itself, where its sender has this transaction
pub endpoint_with_sender : (names : List (List ℕ)) (k : Core) (c : ℕ) (x : SenderState) (accepted : List RawFrame) (unread : Unread) (text : List ℕ) → IsReached k → IsSpeaking k.world c
    → (let w = k.world in
    endpoint_view names (with_sender w (speaker_number w c) x) c accepted unread text
    ≡ record (endpoint_view names w c accepted unread text) { stage = stage_view names (connection_at w c).standing x.flight accepted unread })
endpoint_with_sender names k c x accepted unread text reached speaking =
    let w = k.world in
    ap (λ (y : SenderState). record (endpoint_view names w c accepted unread text) { stage = stage_view names (connection_at w c).standing y.flight accepted unread })
    (kept_speaker w c (speaker_number w c) x ∙ get_or-set_same w.senders (speaker_number w c) x new_sender (speaker_there k c reached speaking))

-- one value is another, where the first has number 0
pub number_set : {X Y : Type 0} (f g : ℕ → Y) (xs : List X) (c : ℕ) (x : X) → c < length xs → ((n : ℕ) → n < length xs → n ≢ c → f n ≡ g n)
    → set (each_number f 0 xs) c (g c) ≡ each_number g 0 (set xs c x)
number_set f g xs c x there same =
    let e : c ≡ 0 + c = omega arith in
    ap (λ (n : ℕ). set (each_number f 0 xs) c (g n)) e
    ∙ each_number-set f g 0 xs c x there (λ n low high other. same n (omega (arith, high)) (λ is. other (is ∙ e)))

-- ---- the next transaction

-- the sender's next transaction has no verdict
pub next_undecided : (k : Core) (s : ℕ) → IsReached k → s < length k.world.senders
    → find_verdict (record { sender = record { 0 = s }; seq = (sender_at k.world s).seq + 1 }) k.world.verdicts ≡ None
next_undecided k s reached there =
    let w = k.world in let q = (sender_at w s).seq + 1 in let id : TxnId = record { sender = record { 0 = s }; seq = q } in
    let found = λ (o : Option (List (Option Decision))). option_and_then (λ found. found) (option_and_then (λ verdicts. slice_get verdicts (q - 1)) o) in
    sym (verdict_is k id reached)
    ∙ (ap (λ (b : Bool). cond b None (found (slice_get (table w) s))) (differ q 0 (λ z. absurd (omega (arith, z))))
    ∙ (ap found (list_of w s there)
    ∙ ap (λ (o : Option (Option Decision)). option_and_then (λ found. found) o) (not_in_list w s q (omega arith))))
