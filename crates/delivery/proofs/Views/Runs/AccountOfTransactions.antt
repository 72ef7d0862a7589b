-- What the account of a core that a run leads to says of its undecided transactions and its subscriptions.
use Rattle.delivery.proofs.Words.All.{◌≡◌, ◌≢◌, ℕ, ◌<◌, cond, not, length, Option, Some, None, sym, ap, ◌∙◌, slice_get, is_some, slice_get-get_or, NoSub, Entry, none_some, Undecided, sender_at, speaker, subscription_at, entry_at, undecided_or_none, accepted_at, final_world, account_of, last_of, beginning_of, next_item, no_item, Core, IsReached}
use Rattle.delivery.proofs.Theorem.NeverRefused.{entries_are_there}
use Rattle.delivery.proofs.Words.Changes.{Own, undecided_is, by_world, by_account, stand_of, claims_own}
use Rattle.delivery.proofs.Core.Speaking.{spoken}
use Rattle.delivery.proofs.Core.NextItem.{next_item_is, connection_is}

-- the id of a sender's undecided transaction is its last
pub flight_id : (k : Core) (s : ℕ) (f : Undecided) → IsReached k → (sender_at k.world s).flight ≡ Some f
    → f.txn.id ≡ record { sender = record { 0 = s }; seq = (sender_at k.world s).seq }
flight_id k s f reached =
    by_world (λ w. (sender_at w s).flight ≡ Some f → f.txn.id ≡ record { sender = record { 0 = s }; seq = (sender_at w s).seq }) k reached
    (λ r. (spoken r).speaking.flying s f)

-- so the account has it as its connection's last
pub last_is : (k : Core) (c : ℕ) (f : Undecided) → IsReached k → (speaker k.world c).flight ≡ Some f → last_of c k.steps (account_of k.names k.steps) ≡ f.txn.id
last_is k c f reached =
    by_account
    (λ account w. Own w k.steps → (speaker w c).flight ≡ Some f → last_of c k.steps account ≡ f.txn.id)
    k reached
    (λ r whose e. sym (undecided_is r k.steps c whose (ap (λ (o : Option Undecided). not (is_some o)) e)) ∙ ap (λ (o : Option Undecided). (undecided_or_none o).txn.id) e)
    (claims_own k.steps (stand_of k reached))

-- the account says whose a subscription is
pub begins_as : (k : Core) (s : ℕ) → IsReached k → s < length k.world.subscriptions
    → (beginning_of s (account_of k.names k.steps)).connection ≡ (subscription_at k.world s).connection
begins_as k s reached l = by_account (λ account w. (beginning_of s account).connection ≡ (subscription_at w s).connection) k reached (λ r. connection_is r s)

-- the next item by the account is the first of the queue that wasn't handed on
pub next_is : (k : Core) (s : ℕ) → IsReached k → s < length k.world.subscriptions → (subscription_at k.world s).taken < length (accepted_at k.world s)
    → Some (next_item s (account_of k.names k.steps)) ≡ slice_get (accepted_at k.world s) (subscription_at k.world s).taken
next_is k s reached =
    by_account
    (λ account w. s < length w.subscriptions → (subscription_at w s).taken < length (accepted_at w s)
    → Some (next_item s account) ≡ slice_get (accepted_at w s) (subscription_at w s).taken) k reached
    (λ r l due. (let w = final_world r in
    let found = slice_get-get_or (accepted_at w s) (subscription_at w s).taken no_item due in
    ap Some (next_item_is r s _ l found) ∙ sym found))

-- what is said where there is no entry
no_entry : NoSub
no_entry = record {}

-- a subscription that isn't closed has its entry at its topic
pub has_entry : (k : Core) (s : ℕ) → IsReached k → s < length k.world.subscriptions → (subscription_at k.world s).closed ≡ None → entry_at k.world s ≢ None
has_entry k s reached =
    by_world (λ w. s < length w.subscriptions → (subscription_at w s).closed ≡ None → entry_at w s ≢ None) k reached
    (λ r l unclosed none. none_some _ (sym (entries_are_there r s l unclosed) ∙ ap (λ (o : Option Entry). cond (is_some o) None (Some no_entry)) none))
