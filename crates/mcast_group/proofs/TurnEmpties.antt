-- A turn whose verdicts fit leaves no part pending, whatever the outlets answer.
use Rattle.std.proofs.Common.{◌≡◌, Bool, true, List, [], ◌∷◌, ◌++◌, length, Option, Some, None, IfSome, refl, ap, subst, ◌∙◌}
use Rattle.mcast_txn.specs.declared.id.TxnId.{TxnId}
use Rattle.mcast_txn.specs.Ballot.{Decision}
use Rattle.mcast_txn.specs.Transaction.{TopicPart}
use Rattle.sub_queue.specs.Shown.{Shown}
use Rattle.mcast_group.specs.Fitting.{Fits}
use Rattle.mcast_group.specs.Group.{AreFound, GroupState, MayBeFound, ReleasesAll, TriesAll, Turns}
use Rattle.mcast_group.specs.Group.{group_after_release, group_after_releases, group_after_tries}
use Rattle.mcast_group.specs.Machine.{TopicState, Entry, Pending, HasOneRowEach, due_part, key, parts_without, row_of}
use Rattle.mcast_group.specs.Machine.{after_release, after_releases, after_tries}
use Rattle.mcast_group.specs.Sound.{IsSound}
use Rattle.mcast_group.proofs.Turning.{turn_none}
use Rattle.mcast_group.proofs.Parts.{after_release_if}

-- a topic without its subscriptions
abbrev bare : TopicState → TopicState
bare x = record x { subscriptions = [] }

-- without subscriptions, a release is the same whatever the outlets answer
bare_release : (t u : Entry → Bool) (x y : TopicState) → bare x ≡ bare y → bare (after_release t x) ≡ bare (after_release u y)
bare_release t u x y e =
    let due : due_part x ≡ due_part y = ap due_part e in
    subst (λ (o : Option Pending). bare (after_release t x) ≡ bare (after_release_if u y o)) due (go (due_part x))
  where
    go : (o : Option Pending) → bare (after_release_if t x o) ≡ bare (after_release_if u y o)
    go None = e
    go (Some p) = ap (λ (z : TopicState). record z { pending = parts_without p.part.id z.pending; held = z.held ++ row_of p ∷ []; frontier = key p }) e

-- and so are more releases
bare_releases : (ts : List (Entry → Bool)) (u : Entry → Bool) (g : GroupState) (x : TopicState) → bare g.topic ≡ bare x → bare (group_after_releases ts g).topic ≡ bare (after_releases u (length ts) x)
bare_releases [] u g x e = e
bare_releases (t ∷ ts) u g x e = bare_releases ts u (group_after_release t g) (after_release u x) (bare_release t u g.topic x e)

turn_empties : (may : Shown → Bool → Type 0) (finds : TopicPart → Option Decision → Type 0) (g new : GroupState) (find : TxnId → Option Decision) → IsSound g.topic → AreFound (MayBeFound finds) find g.topic.pending → ReleasesAll may (group_after_tries find g) new → Fits find g.topic → new.topic.pending ≡ []
turn_empties may finds g new find sound found r fit =
    let u : Entry → Bool = λ e. true in
    let y = after_tries find g.topic.pending g.topic in
    let same : (group_after_releases r.0 (group_after_tries find g)).topic.pending ≡ (after_releases u (length r.0) y).pending = ap (λ (z : TopicState). z.pending) (bare_releases r.0 u (group_after_tries find g) y refl) in
    ap (λ (z : GroupState). z.topic.pending) r.3
    ∙ (same ∙ (ap (λ (k : _). (after_releases u k y).pending) r.1
    ∙ turn_none u find g.topic sound (λ p v i e. subst (λ (o : Option Decision). IfSome o HasOneRowEach) e (found p i).1) fit))

-- the tries and the releases of a sound group are a turn
pub turns_of : (may : Shown → Bool → Type 0) (finds : TopicPart → Option Decision → Type 0) (g mid new : GroupState) → IsSound g.topic → TriesAll (MayBeFound finds) g mid → ReleasesAll may mid new → Turns may finds g new
turns_of may finds g mid new sound t r =
    let s : ReleasesAll may (group_after_tries t.0 g) new = subst (λ (z : GroupState). ReleasesAll may z new) t.2 r in
    record {
      find = t.0;
      found = λ p i. (t.1 p i).0;
      releases = s;
      none_pending = turn_empties may finds g new t.0 sound t.1 s;
    }
