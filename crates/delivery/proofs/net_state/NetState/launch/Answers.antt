use Rattle.delivery.proofs.Words.All.{◌≡◌, ◌<◌, ◌+◌, ℕ, length, get_or, set, sym, ap, subst, ◌∙◌, set-get_or, PromisedRows, is_flying, speaker_at, View, SenderView, no_endpoint, number_among}
use Rattle.delivery.proofs.Views.Events.ConnectionIsThere.{endpoint_found}
use Rattle.delivery.proofs.Views.Senders.RoomLasts.{count_launched}
use Rattle.delivery.proofs.Views.Verdicts.VerdictTable.{seqs_restored}
use Rattle.delivery.proofs.Views.Runs.SameView.{same_view}
use Rattle.delivery.proofs.net_state.NetState.launch.Goals as goal

pub invariant_of-self-in-Ok-launch : goal.invariant_of-self-in-Ok-launch
invariant_of-self-in-Ok-launch c =
    let senders = c.self.inside.senders.items in let s = c.number_of-index.result in let v = c.args.self.now in let endpoint = c.index.result.now in
    let at = c.index.ensures ∙ ap (λ (x : View). get_or x.endpoints c.args.connection endpoint) c.self.view_is in
    let number : s ≡ speaker_at v c.args.connection =
    c.number_of-index.ensures ∙ ap (number_among v.senders) (endpoint_found v.endpoints c.args.connection endpoint no_endpoint c.requires.there at) in
    let there : s < length senders =
    subst (λ (n : ℕ). s < n) (sym (ap (λ (x : View). length x.senders) c.self.view_is)) (subst (λ (n : ℕ). n < length v.senders) (sym number) c.requires.begun) in
    let idle = ap (λ (x : SenderView). is_flying x.sending) (sym c.index_mut-state.ensures.value) ∙ c.in-Ok-launch.ensures.idle in
    let promised = ap (λ (p : PromisedRows). p.promised) c.in_ok-promise.ensures.ok in
    promised ∙ (ap (λ (n : ℕ). n + 1) c.self.invariant ∙ count_launched senders s c.launch.new.self _ there idle c.in-Ok-launch.ensures.flying)

pub returns-in-Err-clause-err : goal.returns-in-Err-clause-err
returns-in-Err-clause-err c =
    let senders = c.self.inside.senders.items in let s = c.number_of-index.result in let same = c.in-Err.ensures.err ∙ c.index_mut-state.ensures.value in
    let kept : set senders s c.launch.new.self ≡ senders = ap (λ (x : SenderView). set senders s x) same ∙ set-get_or senders s _ in
    let table = seqs_restored _ s c.add_seq.new.self c.drop_seq.new.self c.in-Ok.ensures.ok c.drop_seq.ensures in
    let rows : c.forgo-in-Err.new.self.rows ≡ c.self.inside.commits.rows =
    ap (λ (p : PromisedRows). p.rows) c.forgo-in-Err.ensures ∙ ap (λ (p : PromisedRows). p.rows) c.in_ok-promise.ensures.ok in
    same_view _ c.args.self.now (ap (λ (v : View). v.names) c.self.view_is) (ap (λ (v : View). v.capacity) c.self.view_is)
    (ap (λ (v : View). v.groups) c.self.view_is) (kept ∙ ap (λ (v : View). v.senders) c.self.view_is) (table ∙ ap (λ (v : View). v.verdicts) c.self.view_is)
    (ap (λ (v : View). v.endpoints) c.self.view_is) (ap (λ (v : View). v.subs) c.self.view_is) (rows ∙ ap (λ (v : View). v.commits) c.self.view_is)
