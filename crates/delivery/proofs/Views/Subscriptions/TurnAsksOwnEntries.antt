-- A turn and a release ask only about entries with the numbers of their topic's, and about pending parts.
use Rattle.std.proofs.Common.{◌≡◌, ℕ, zero, suc, Bool, List, [], ◌∷◌, map, length, Option, Some, None, inl, inr, refl, sym, ap, subst, ◌∙◌}
use Rattle.delivery.proofs.Words.All.{TxnId, Stamp, Decision, In, Item, TopicState, Pending, Entry, item_of, due_part, entry_after, after_release_of, after_release, after_tries, after_releases, after_turn, In-map_cases, delivered_number, tried_all_subs, after_release_if, delivered_by}
use Rattle.mcast_group.proofs.Waits.{same_found}

-- two answers are one for entries with these numbers
abbrev AreOne : (Entry → Bool) → (Entry → Bool) → List Entry → Type 0
AreOne takes takes' es = (e f : Entry) → In f es → e.number ≡ f.number → takes e ≡ takes' e

entries_same : (takes takes' : Entry → Bool) (frontier : Stamp) (item : Item) (es : List Entry) → AreOne takes takes' es
    → map (entry_after takes frontier item) es ≡ map (entry_after takes' frontier item) es
entries_same takes takes' frontier item [] h = refl
entries_same takes takes' frontier item (e ∷ es) h =
    ap (λ (z : Entry). z ∷ map (entry_after takes frontier item) es) (delivered_by takes takes' frontier item e (h e e (inl refl) refl))
    ∙ ap (λ (zs : List Entry). entry_after takes' frontier item e ∷ zs) (entries_same takes takes' frontier item es (λ d f i. h d f (inr i)))

-- a release asks only about entries with these numbers
pub release_same : (takes takes' : Entry → Bool) (x : TopicState) → ((e f : Entry) → In f x.subscriptions → e.number ≡ f.number → takes e ≡ takes' e)
    → after_release takes x ≡ after_release takes' x
release_same takes takes' x h = elim (due_part x) as (λ (o : Option Pending). after_release_if takes x o ≡ after_release_if takes' x o) [
  | None ↦ refl
  | Some p ↦ ap (λ (es : List Entry). record (after_release_of takes p x) { subscriptions = es }) (entries_same takes takes' x.frontier (item_of p) x.subscriptions h)
]

one_after : (takes takes' : Entry → Bool) (x : TopicState) (o : Option Pending) → AreOne takes takes' x.subscriptions → AreOne takes takes' (after_release_if takes x o).subscriptions
one_after takes takes' x None h e f i n = h e f i n
one_after takes takes' x (Some p) h e f i n =
    let m = In-map_cases (entry_after takes x.frontier (item_of p)) f x.subscriptions i in
    h e m.from m.stands (n ∙ (ap (λ (z : Entry). z.number) (sym m.is) ∙ delivered_number takes x.frontier (item_of p) m.from))

releases_same : (takes takes' : Entry → Bool) (n : ℕ) (x : TopicState) → AreOne takes takes' x.subscriptions → after_releases takes n x ≡ after_releases takes' n x
releases_same takes takes' zero x h = refl
releases_same takes takes' (suc n) x h =
    releases_same takes takes' n (after_release takes x) (one_after takes takes' x (due_part x) h)
    ∙ ap (λ (z : TopicState). after_releases takes' n z) (release_same takes takes' x h)

-- a turn asks only about entries with these numbers, and about pending parts
pub turn_same : (takes takes' : Entry → Bool) (finds finds' : TxnId → Option Decision) (x : TopicState)
    → ((e f : Entry) → In f x.subscriptions → e.number ≡ f.number → takes e ≡ takes' e) → ((p : Pending) → In p x.pending → finds p.part.id ≡ finds' p.part.id)
    → after_turn takes finds x ≡ after_turn takes' finds' x
turn_same takes takes' finds finds' x same found =
    let y = after_tries finds x.pending x in
    releases_same takes takes' (length y.pending) y
    (subst (AreOne takes takes') (sym (tried_all_subs finds x.pending x)) same)
    ∙ ap (λ (z : TopicState). after_releases takes' (length z.pending) z) (same_found finds finds' x.pending x found)
