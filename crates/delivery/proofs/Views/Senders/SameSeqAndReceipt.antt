-- A sender that becomes another with the same seq and the same receipt to come, and a topic that becomes another: no endpoint
-- and no verdict changes.
use Rattle.delivery.proofs.Words.All.{◌≡◌, ◌≢◌, ℕ, ◌<◌, List, length, set, Option, refl, sym, ap, ◌∙◌, map-set, set-get_or, Topic, GroupState, TopicState, RawFrame, Unread, World, SenderState, Connection, Standing, nobody, connection_at, sender_at, speaker, with_sender, with_topic, speaker_number, Stage, Core, names_at, each_number, IsReached, EndpointView, view_with, sender_view, endpoint_view, stage_view, pending_receipt, verdict_list, group_view}
use Rattle.delivery.proofs.Views.Senders.SenderChanges.{IsSpeaking, number_at, number_set, endpoint_of_stage, stage_kept, speaker_there, speaker_with, lists_with, endpoint_with_sender}

-- the verdicts stay where the sender's seq does
pub lists_kept : (k : Core) (c : ℕ) (x : SenderState) → IsReached k → IsSpeaking k.world c → x.seq ≡ (speaker k.world c).seq → (let w = k.world in let s = speaker_number w c in
    each_number (λ n. verdict_list w.verdicts n (sender_at w n).seq) 0 w.senders
    ≡ each_number (λ n. verdict_list w.verdicts n (sender_at (with_sender w s x) n).seq) 0 (set w.senders s x))
lists_kept k c x reached speaking seq =
    let w = k.world in let s = speaker_number w c in let known = speaker_there k c reached speaking in let lists = λ (n : ℕ). verdict_list w.verdicts n (sender_at w n).seq in
    let kept : set (each_number lists 0 w.senders) s (verdict_list w.verdicts s x.seq) ≡ each_number lists 0 w.senders =
    ap (λ (q : ℕ). set (each_number lists 0 w.senders) s (verdict_list w.verdicts s q)) seq
    ∙ (ap (λ y. set (each_number lists 0 w.senders) s y) (sym (number_at lists w.senders s (lists s) known)) ∙ set-get_or (each_number lists 0 w.senders) s (lists s)) in
    sym kept ∙ lists_with w s x w.verdicts known (λ n other. refl)

-- the sender alone changes
pub sender_quiet : (k : Core) (c : ℕ) (x : SenderState) → IsReached k → c < length k.world.connections → IsSpeaking k.world c → x.seq ≡ (speaker k.world c).seq
    → ((accepted : List RawFrame) → pending_receipt accepted x.flight ≡ pending_receipt accepted (speaker k.world c).flight)
    → (accepted : ℕ → List RawFrame) (unread : ℕ → Unread) (text : ℕ → List ℕ) (began : ℕ → Option RawFrame) → record (view_with (names_at k) k.world accepted unread text began) {
      senders = set (view_with (names_at k) k.world accepted unread text began).senders (speaker_number k.world c) (sender_view (speaker_number k.world c) x);
    }
    ≡ view_with (names_at k) (with_sender k.world (speaker_number k.world c) x) accepted unread text began
sender_quiet k c x reached there speaking seq receipts accepted unread text began =
    let w = k.world in let s = speaker_number w c in let v = with_sender w s x in let verdicts = lists_kept k c x reached speaking seq in
    let old = λ (n : ℕ). endpoint_view (names_at k) w n (accepted n) (unread n) (text n) in let new = λ (n : ℕ). endpoint_view (names_at k) v n (accepted n) (unread n) (text n) in
    let endpoint : new c ≡ old c = endpoint_with_sender (names_at k) k c x (accepted c) (unread c) (text c) reached speaking
    ∙ ap (λ (z : Stage). record (old c) { stage = z }) (elim (connection_at w c).standing as (λ (standing : Standing). stage_view (names_at k) standing x.flight (accepted c) (unread c) ≡ stage_view (names_at k) standing ((speaker w c).flight) (accepted c) (unread c)) [
      | Standing.Open ↦ ap (λ (r : Option (List ℕ)). Stage.Open (record { reader = (unread c); session = Rattle.stomp_session.specs.Open.state_of (Rattle.stomp_session.specs.Open.held_after (names_at k) (accepted c)); receipt = r })) (receipts (accepted c))
      | Standing.Leaving ↦ refl
      | Standing.Gone ↦ refl
    ]) in
    let others : (n : ℕ) → n < length w.connections → n ≢ c → old n ≡ new n = λ n within other.
    endpoint_of_stage (names_at k) w v n (accepted n) (unread n) (text n) refl refl (stage_kept k c n x reached speaking other (names_at k) (accepted n) (unread n)) in
    let same : set (each_number old 0 w.connections) c (new c) ≡ each_number old 0 w.connections =
    ap (λ (l : EndpointView). set (each_number old 0 w.connections) c l) (endpoint ∙ sym (number_at old w.connections c (old c) there))
    ∙ set-get_or (each_number old 0 w.connections) c (old c) in
    let endpoints = sym same ∙ (number_set old new w.connections c (connection_at w c) there others
    ∙ ap (λ (xs : List Connection). each_number new 0 xs) (set-get_or w.connections c nobody)) in
    λ i. record (view_with (names_at k) w accepted unread text began) { senders = speaker_with k c x reached speaking i; verdicts = verdicts i; endpoints = endpoints i }

-- a topic alone changes
pub topic_quiet : (names : List (List ℕ)) (w : World) (t : Topic) (y : TopicState)
    → (accepted : ℕ → List RawFrame) (unread : ℕ → Unread) (text : ℕ → List ℕ) (began : ℕ → Option RawFrame)
    → record (view_with names w accepted unread text began) { groups = set (view_with names w accepted unread text began).groups t.0 (group_view w y) }
    ≡ view_with names (with_topic w t y) accepted unread text began
topic_quiet names w t y accepted unread text began =
    ap (λ (gs : List GroupState). record (view_with names w accepted unread text began) { groups = gs }) (sym (map-set (group_view w) w.topics t.0 y))
