-- Parts that wait to learn their stamp, and what they learn from cells.
use Rattle.std.proofs.Common.{◌≡◌, ℕ, zero, suc, ◌+◌, ◌<◌, ◌≤◌, Bool, true, false, cond, inl, inr, List, [], ◌∷◌, ◌++◌, map, length, get_or, Option, Some, None, IfSome, refl, sym, ap, subst, ◌∙◌, arith, append-nil, append_assoc}
use Rattle.std.specs.List.Sorted.{IsPartitionedBy}
use Rattle.std.specs.Option.{is_some}
use Rattle.std.proofs.lemmas.Bool.{true≢false}
use Rattle.mcast_txn.specs.Ballot.{Decision}
use Rattle.mcast_txn.specs.Flight.{Sight}
use Rattle.mcast_txn.specs.Ids.{same_id, id_lt}
use Rattle.mcast_txn.specs.Lists.{In}
use Rattle.mcast_txn.specs.Transaction.{TopicPart}
use Rattle.mcast_txn.specs.declared.id.TxnId.{TxnId}
use Rattle.mcast_txn.specs.declared.stamp.Stamp.{Stamp}
use Rattle.std.proofs.lemmas.List.{length_push, length-append}
use Rattle.mcast_txn.proofs.Members.{In-append_right, In-get_or, any_from}
use Rattle.mcast_txn.proofs.Orders.{id_equal, id_same}
use Rattle.mcast_txn.proofs.CheckLemmas.{passes}
use Rattle.mcast_group.specs.CellGroup.{Waiting, ReadsOwn, IsRead, insert_waiting, waiting_ids, waiting_without}
use Rattle.mcast_group.specs.Inner.CellGroup.{LearnsFirst, LearnsWaiting, RisesInId, still_waiting, taken_of}
use Rattle.mcast_group.specs.Group.{GroupState, MayBeFound}
use Rattle.mcast_group.specs.Machine.{TopicState, Pending, HasOneRowEach, insert_pending, parts_without, with_stamp, after_try, after_tries, learn_fault}
use Rattle.mcast_group.specs.Sound.{RisesById}
use Rattle.mcast_group.proofs.Indices.{later_differs, told_others, without_others}
use Rattle.mcast_group.proofs.Parts.{due_is, not_true, id_lt_trans, earlier_differs}
use Rattle.mcast_group.proofs.Groups.{release_is, release_none}
use Rattle.mcast_group.proofs.Allowed.{keeps_sound}
use Rattle.mcast_group.specs.Group.{group_after_release, group_after_releases}
use Rattle.mcast_group.specs.Machine.{Entry, after_learn, after_release, decided_stamp, due_part, is_pending, propose_fault, propose_refusals}
use Rattle.mcast_group.specs.Sound.{IsSound}

-- the ids of parts that wait
abbrev pub ids : List Waiting → List TxnId
ids ws = map (λ (w : Waiting). w.id) ws

-- ---- the ids of parts that haven't learnt

pub ids_learnt : (p : Pending) (ps : List Pending) → is_some p.learnt ≡ true → waiting_ids (p ∷ ps) ≡ waiting_ids ps
ids_learnt p ps e = rw e refl

pub ids_waits : (p : Pending) (ps : List Pending) → is_some p.learnt ≡ false → waiting_ids (p ∷ ps) ≡ p.part.id ∷ waiting_ids ps
ids_waits p ps e = rw e refl

-- a part of this id
pub record HasId (i : TxnId) (ps : List Pending) : Type 0 where
  pub part : Pending
  pub stands : In part ps
  pub is : part.part.id ≡ i

-- an id that waits is that of a part
pub id_of : (i : TxnId) (ps : List Pending) → In i (waiting_ids ps) → HasId i ps
id_of i [] h = absurd h
id_of i (p ∷ ps) h = go (λ k. id_of i ps k) (is_some p.learnt) refl
  where
    later : HasId i ps → HasId i (p ∷ ps)
    later k = record { part = k.part; stands = inr k.stands; is = k.is }

    found : (In i (waiting_ids ps) → HasId i ps) → In i (p.part.id ∷ waiting_ids ps) → HasId i (p ∷ ps)
    found ih (inl e) = record { part = p; stands = inl refl; is = e }
    found ih (inr k) = later (ih k)

    go : (In i (waiting_ids ps) → HasId i ps) → (b : Bool) → is_some p.learnt ≡ b → HasId i (p ∷ ps)
    go ih true e = later (ih (subst (In i) (ids_learnt p ps e) h))
    go ih false e = found ih (subst (In i) (ids_waits p ps e) h)

-- it is above that of an earlier part
pub id_above : (i : TxnId) (p : Pending) (ps : List Pending) → RisesById (p ∷ ps) → In i (waiting_ids ps) → id_lt p.part.id i ≡ true
id_above i p ps rises h =
    let k = id_of i ps h in
    subst (λ (z : TxnId). id_lt p.part.id z ≡ true) k.is (rises.0 k.part k.stands)

-- the id of a part that waits is among those of all
pub In-ids : (w : Waiting) (ws : List Waiting) → In w ws → In w.id (ids ws)
In-ids w [] h = absurd h
In-ids w (v ∷ vs) (inl e) = inl (ap (λ (z : Waiting). z.id) e)
In-ids w (v ∷ vs) (inr h) = inr (In-ids w vs h)

In-middle : (l : List Waiting) (w : Waiting) (d : List Waiting) → In w.id (ids (l ++ w ∷ d))
In-middle [] w d = inl refl
In-middle (v ∷ l) w d = inr (In-middle l w d)

first_same : {X : Type 0} (x y : X) (xs ys : List X) → x ∷ xs ≡ y ∷ ys → x ≡ y
first_same x y xs ys e = cc

rest_same : {X : Type 0} (x y : X) (xs ys : List X) → x ∷ xs ≡ y ∷ ys → xs ≡ ys
rest_same x y xs ys e = cc

-- those that wait rise by id
pub rises_in_id : (ws : List Waiting) (ps : List Pending) → ids ws ≡ waiting_ids ps → RisesById ps → RisesInId ws
rises_in_id [] ps e h = tt
rises_in_id (w ∷ ws) [] e h = cc
rises_in_id (w ∷ ws) (p ∷ ps) e h = go (λ vs f. rises_in_id vs ps f h.1) (is_some p.learnt) refl
  where
    go : ((vs : List Waiting) → ids vs ≡ waiting_ids ps → RisesInId vs) → (b : Bool) → is_some p.learnt ≡ b → RisesInId (w ∷ ws)
    go ih true k = ih (w ∷ ws) (e ∙ ids_learnt p ps k)
    go ih false k =
        let f = e ∙ ids_waits p ps k in
        let own : w.id ≡ p.part.id = first_same w.id p.part.id (ids ws) (waiting_ids ps) f in
        let more : ids ws ≡ waiting_ids ps = rest_same w.id p.part.id (ids ws) (waiting_ids ps) f in (
          (λ v i. subst (λ (z : TxnId). id_lt z v.id ≡ true) (sym own) (id_above v.id p ps h (subst (In v.id) more (In-ids v ws i)))),
          ih ws more,
        )

-- those below an id come before the others
pub waiting_parted : (id : TxnId) (ws : List Waiting) → RisesInId ws → IsPartitionedBy (λ (w : Waiting). id_lt w.id id) ws
waiting_parted id [] rises i j d l m below = absurd (omega arith)
waiting_parted id (w ∷ ws) rises zero zero d l m below = below
waiting_parted id (w ∷ ws) rises zero (suc j) d l m below =
    id_lt_trans w.id (get_or ws j d).id id (rises.0 (get_or ws j d) (In-get_or ws j d (omega arith))) below
waiting_parted id (w ∷ ws) rises (suc i) zero d l m below = absurd (omega arith)
waiting_parted id (w ∷ ws) rises (suc i) (suc j) d l m below = waiting_parted id ws rises.1 i j d (omega arith) (omega arith) below

-- ---- a part that is entered

front : (w : Waiting) (ws : List Waiting) → ((v : Waiting) → In v ws → id_lt w.id v.id ≡ true) → insert_waiting w ws ≡ w ∷ ws
front w [] h = refl
front w (v ∷ vs) h = let e = h v (inl refl) in rw e refl

-- the parts that haven't learnt are then those that wait
pub entered_ids : (w : Waiting) (p : Pending) (ps : List Pending) (ws : List Waiting) → w.id ≡ p.part.id → is_some p.learnt ≡ false → RisesById ps → ids ws ≡ waiting_ids ps → ids (insert_waiting w ws) ≡ waiting_ids (insert_pending p ps)
entered_ids w p [] [] own new h e = sym (ids_waits p [] new ∙ ap (λ (z : TxnId). z ∷ []) (sym own))
entered_ids w p [] (v ∷ vs) own new h e = cc
entered_ids w p (q ∷ qs) ws own new h e = go (λ vs f. entered_ids w p qs vs own new h.1 f) (id_lt p.part.id q.part.id) refl
  where
    above : id_lt p.part.id q.part.id ≡ true → (r : Pending) → In r (q ∷ qs) → id_lt p.part.id r.part.id ≡ true
    above k r (inl m) = subst (λ (z : Pending). id_lt p.part.id z.part.id ≡ true) m k
    above k r (inr m) = id_lt_trans p.part.id q.part.id r.part.id k (h.0 r m)

    all : id_lt p.part.id q.part.id ≡ true → (v : Waiting) → In v ws → id_lt w.id v.id ≡ true
    all k v i =
        let m = id_of v.id (q ∷ qs) (subst (In v.id) e (In-ids v ws i)) in
        subst (λ (z : TxnId). id_lt z v.id ≡ true) (sym own) (subst (λ (z : TxnId). id_lt p.part.id z ≡ true) m.is (above k m.part m.stands))

    past : ((vs : List Waiting) → ids vs ≡ waiting_ids qs → ids (insert_waiting w vs) ≡ waiting_ids (insert_pending p qs)) → (vs : List Waiting) → ids vs ≡ waiting_ids (q ∷ qs) → (b : Bool) → is_some q.learnt ≡ b → id_lt p.part.id q.part.id ≡ false → ids (insert_waiting w vs) ≡ waiting_ids (q ∷ insert_pending p qs)
    past ih vs f true l k = ih vs (f ∙ ids_learnt q qs l) ∙ sym (ids_learnt q (insert_pending p qs) l)
    past ih [] f false l k = let g = f ∙ ids_waits q qs l in cc
    past ih (v ∷ vs) f false l k =
        let g = f ∙ ids_waits q qs l in
        let same : v.id ≡ q.part.id = first_same v.id q.part.id (ids vs) (waiting_ids qs) g in
        let more : ids vs ≡ waiting_ids qs = rest_same v.id q.part.id (ids vs) (waiting_ids qs) g in
        let n : id_lt w.id v.id ≡ false = rw (own, same) k in
        let put : insert_waiting w (v ∷ vs) ≡ v ∷ insert_waiting w vs = rw n refl in
        ap ids put
        ∙ (ap (λ (z : TxnId). z ∷ ids (insert_waiting w vs)) same
        ∙ (ap (λ (z : List TxnId). q.part.id ∷ z) (ih vs more) ∙ sym (ids_waits q (insert_pending p qs) l)))

    go : ((vs : List Waiting) → ids vs ≡ waiting_ids qs → ids (insert_waiting w vs) ≡ waiting_ids (insert_pending p qs)) → (b : Bool) → id_lt p.part.id q.part.id ≡ b → ids (insert_waiting w ws) ≡ waiting_ids (insert_pending p (q ∷ qs))
    go ih true k =
        let put : insert_pending p (q ∷ qs) ≡ p ∷ q ∷ qs = rw k refl in
        ap ids (front w ws (all k))
        ∙ (ap (λ (z : TxnId). z ∷ ids ws) own
        ∙ (ap (λ (z : List TxnId). p.part.id ∷ z) e ∙ (sym (ids_waits p (q ∷ qs) new) ∙ ap waiting_ids (sym put))))
    go ih false k =
        let put : insert_pending p (q ∷ qs) ≡ q ∷ insert_pending p qs = rw k refl in
        past ih ws e (is_some q.learnt) refl k ∙ ap waiting_ids (sym put)

-- ---- a part that is taken out

-- a part that is taken out waits no longer
pub cancelled_ids : (id : TxnId) (ps : List Pending) (ws : List Waiting) → ids ws ≡ waiting_ids ps → ids (waiting_without id ws) ≡ waiting_ids (parts_without id ps)
cancelled_ids id [] [] e = refl
cancelled_ids id [] (w ∷ ws) e = cc
cancelled_ids id (q ∷ qs) ws e = go (λ vs f. cancelled_ids id qs vs f) (same_id q.part.id id) refl (is_some q.learnt) refl ws e
  where
    go : ((vs : List Waiting) → ids vs ≡ waiting_ids qs → ids (waiting_without id vs) ≡ waiting_ids (parts_without id qs)) → (b : Bool) → same_id q.part.id id ≡ b → (c : Bool) → is_some q.learnt ≡ c → (vs : List Waiting) → ids vs ≡ waiting_ids (q ∷ qs) → ids (waiting_without id vs) ≡ waiting_ids (parts_without id (q ∷ qs))
    go ih true k true l vs f =
        let out : parts_without id (q ∷ qs) ≡ parts_without id qs = rw k refl in
        ih vs (f ∙ ids_learnt q qs l) ∙ ap waiting_ids (sym out)
    go ih false k true l vs f =
        let out : parts_without id (q ∷ qs) ≡ q ∷ parts_without id qs = rw k refl in
        ih vs (f ∙ ids_learnt q qs l) ∙ (sym (ids_learnt q (parts_without id qs) l) ∙ ap waiting_ids (sym out))
    go ih b k false l [] f = let g = f ∙ ids_waits q qs l in cc
    go ih true k false l (v ∷ vs) f =
        let g = f ∙ ids_waits q qs l in
        let same : v.id ≡ q.part.id = first_same v.id q.part.id (ids vs) (waiting_ids qs) g in
        let m : same_id v.id id ≡ true = rw same k in
        let out : parts_without id (q ∷ qs) ≡ parts_without id qs = rw k refl in
        let gone : waiting_without id (v ∷ vs) ≡ waiting_without id vs = rw m refl in
        ap ids gone ∙ (ih vs (rest_same v.id q.part.id (ids vs) (waiting_ids qs) g) ∙ ap waiting_ids (sym out))
    go ih false k false l (v ∷ vs) f =
        let g = f ∙ ids_waits q qs l in
        let same : v.id ≡ q.part.id = first_same v.id q.part.id (ids vs) (waiting_ids qs) g in
        let m : same_id v.id id ≡ false = rw same k in
        let out : parts_without id (q ∷ qs) ≡ q ∷ parts_without id qs = rw k refl in
        let left : waiting_without id (v ∷ vs) ≡ v ∷ waiting_without id vs = rw m refl in
        ap ids left
        ∙ (ap (λ (z : TxnId). z ∷ ids (waiting_without id vs)) same
        ∙ (ap (λ (z : List TxnId). q.part.id ∷ z) (ih vs (rest_same v.id q.part.id (ids vs) (waiting_ids qs) g))
        ∙ (sym (ids_waits q (parts_without id qs) l) ∙ ap waiting_ids (sym out))))

-- a part that has learnt leaves, and none that waits
pub released_ids : (p : Pending) (ps : List Pending) → RisesById ps → In p ps → is_some p.learnt ≡ true → waiting_ids (parts_without p.part.id ps) ≡ waiting_ids ps
released_ids p [] h i l = absurd i
released_ids p (q ∷ qs) h (inl e) l =
    let k : same_id q.part.id p.part.id ≡ true = id_same q.part.id p.part.id (ap (λ (z : Pending). z.part.id) e) in
    let out : parts_without p.part.id (q ∷ qs) ≡ parts_without p.part.id qs = rw k refl in
    let m = without_others p.part.id qs (λ r j. later_differs p.part.id r.part.id (subst (λ (z : Pending). id_lt z.part.id r.part.id ≡ true) e (h.0 r j))) in
    ap waiting_ids (out ∙ m) ∙ sym (ids_learnt q qs (subst (λ (z : Pending). is_some z.learnt ≡ true) (sym e) l))
released_ids p (q ∷ qs) h (inr i) l =
    let k : same_id q.part.id p.part.id ≡ false = earlier_differs q.part.id p.part.id (h.0 p i) in
    let left : parts_without p.part.id (q ∷ qs) ≡ q ∷ parts_without p.part.id qs = rw k refl in
    let ih = released_ids p qs h.1 i l in
    go (is_some q.learnt) refl left ih
  where
    go : (b : Bool) → is_some q.learnt ≡ b → parts_without p.part.id (q ∷ qs) ≡ q ∷ parts_without p.part.id qs → waiting_ids (parts_without p.part.id qs) ≡ waiting_ids qs → waiting_ids (parts_without p.part.id (q ∷ qs)) ≡ waiting_ids (q ∷ qs)
    go true e left ih = ap waiting_ids left ∙ (ids_learnt q (parts_without p.part.id qs) e ∙ (ih ∙ sym (ids_learnt q qs e)))
    go false e left ih = ap waiting_ids left ∙ (ids_waits q (parts_without p.part.id qs) e ∙ (ap (λ (z : List TxnId). q.part.id ∷ z) ih ∙ sym (ids_waits q qs e)))

-- the parts that wait for a release go on waiting
pub releases_ids : (answers : List (Entry → Bool)) (g : GroupState) → IsSound g.topic → waiting_ids (group_after_releases answers g).topic.pending ≡ waiting_ids g.topic.pending
releases_ids [] g h = refl
releases_ids (takes ∷ more) g h =
    releases_ids more (group_after_release takes g) (keeps_sound.releases takes g.topic h) ∙ one (due_part g.topic) refl
  where
    one : (o : Option Pending) → due_part g.topic ≡ o → waiting_ids (after_release takes g.topic).pending ≡ waiting_ids g.topic.pending
    one None e = ap (λ (x : TopicState). waiting_ids x.pending) (release_none takes g.topic e)
    one (Some p) e =
        let due = due_is g.topic p e in
        ap (λ (x : TopicState). waiting_ids x.pending) (release_is takes g.topic p e)
        ∙ released_ids p g.topic.pending h.by_id due.least.stands (ap is_some due.learnt)

-- ---- a part that learns

told_learnt : (id : TxnId) (stamp : Stamp) (p : Pending) → is_some p.learnt ≡ true → is_some (with_stamp id stamp p).learnt ≡ true
told_learnt id stamp p l = go (same_id p.part.id id) refl
  where
    go : (b : Bool) → same_id p.part.id id ≡ b → is_some (with_stamp id stamp p).learnt ≡ true
    go true e = rw e refl
    go false e = rw e l

-- a part that learns waits no longer
pub told_ids : (l : List Waiting) (w : Waiting) (d : List Waiting) (ps : List Pending) (stamp : Stamp) → RisesById ps → ids (l ++ w ∷ d) ≡ waiting_ids ps → ids (l ++ d) ≡ waiting_ids (map (with_stamp w.id stamp) ps)
told_ids [] w d [] stamp h e = cc
told_ids (v ∷ l) w d [] stamp h e = cc
told_ids l w d (q ∷ qs) stamp h e = go (λ k f. told_ids k w d qs stamp h.1 f) l e (is_some q.learnt) refl
  where
    go : ((k : List Waiting) → ids (k ++ w ∷ d) ≡ waiting_ids qs → ids (k ++ d) ≡ waiting_ids (map (with_stamp w.id stamp) qs)) → (k : List Waiting) → ids (k ++ w ∷ d) ≡ waiting_ids (q ∷ qs) → (b : Bool) → is_some q.learnt ≡ b → ids (k ++ d) ≡ waiting_ids (map (with_stamp w.id stamp) (q ∷ qs))
    go ih k f true m =
        ih k (f ∙ ids_learnt q qs m)
        ∙ sym (ids_learnt (with_stamp w.id stamp q) (map (with_stamp w.id stamp) qs) (told_learnt w.id stamp q m))
    go ih [] f false m =
        let g = f ∙ ids_waits q qs m in
        let own : w.id ≡ q.part.id = first_same w.id q.part.id (ids d) (waiting_ids qs) g in
        let more : ids d ≡ waiting_ids qs = rest_same w.id q.part.id (ids d) (waiting_ids qs) g in
        let k : same_id q.part.id w.id ≡ true = id_same q.part.id w.id (sym own) in
        let told : is_some (with_stamp w.id stamp q).learnt ≡ true = rw k refl in
        let same = told_others w.id stamp qs (λ r j. later_differs w.id r.part.id (subst (λ (z : TxnId). id_lt z r.part.id ≡ true) (sym own) (h.0 r j))) in
        more ∙ (ap waiting_ids (sym same) ∙ sym (ids_learnt (with_stamp w.id stamp q) (map (with_stamp w.id stamp) qs) told))
    go ih (v ∷ k) f false m =
        let g = f ∙ ids_waits q qs m in
        let own : v.id ≡ q.part.id = first_same v.id q.part.id (ids (k ++ w ∷ d)) (waiting_ids qs) g in
        let more : ids (k ++ w ∷ d) ≡ waiting_ids qs = rest_same v.id q.part.id (ids (k ++ w ∷ d)) (waiting_ids qs) g in
        let n : same_id q.part.id w.id ≡ false = earlier_differs q.part.id w.id (id_above w.id q qs h (subst (In w.id) more (In-middle k w d))) in
        let same : with_stamp w.id stamp q ≡ q = rw n refl in
        ap (λ (z : TxnId). z ∷ ids (k ++ d)) own
        ∙ (ap (λ (z : List TxnId). q.part.id ∷ z) (ih k more)
        ∙ (sym (ids_waits q (map (with_stamp w.id stamp) qs) m) ∙ ap (λ (z : Pending). waiting_ids (z ∷ map (with_stamp w.id stamp) qs)) (sym same)))

-- ---- each part that waits in turn

-- a part that waited, and what was found for it
abbrev pub Step : Type 0
Step = Waiting × Option Decision

-- the parts
abbrev pub of_steps : List Step → List Waiting
of_steps ss = map (λ (s : Step). s.0) ss

-- the topic after these steps
abbrev pub tried : List Step → TopicState → TopicState
tried [] x = x
tried (s ∷ ss) x = tried ss (after_try s.0.id s.1 x)

-- the notes that they took
abbrev pub taken : List Step → List Sight
taken [] = []
taken (s ∷ ss) = taken_of s.0 s.1 ++ taken ss

-- the parts that wait on
abbrev pub left : List Step → List Waiting
left [] = []
left (s ∷ ss) = still_waiting s.0 s.1 ++ left ss

-- what they found for a transaction
abbrev pub found_in : List Step → TxnId → Option Decision
found_in [] id = None
found_in (s ∷ ss) id = cond (same_id s.0.id id) s.1 (found_in ss id)

-- each verdict that was found has one row for a topic
abbrev pub AreFit : List Step → Type 0
AreFit [] = Unit {0}
AreFit (s ∷ ss) = IfSome s.1 HasOneRowEach × AreFit ss

pub tried_push : (ss : List Step) (s : Step) (x : TopicState) → tried (ss ++ s ∷ []) x ≡ after_try s.0.id s.1 (tried ss x)
tried_push [] s x = refl
tried_push (r ∷ ss) s x = tried_push ss s (after_try r.0.id r.1 x)

pub taken_push : (ss : List Step) (s : Step) → taken (ss ++ s ∷ []) ≡ taken ss ++ taken_of s.0 s.1
taken_push [] s = append-nil (taken_of s.0 s.1)
taken_push (r ∷ ss) s = ap (λ (z : List Sight). taken_of r.0 r.1 ++ z) (taken_push ss s) ∙ sym (append_assoc (taken_of r.0 r.1) (taken ss) (taken_of s.0 s.1))

pub left_push : (ss : List Step) (s : Step) → left (ss ++ s ∷ []) ≡ left ss ++ still_waiting s.0 s.1
left_push [] s = append-nil (still_waiting s.0 s.1)
left_push (r ∷ ss) s = ap (λ (z : List Waiting). still_waiting r.0 r.1 ++ z) (left_push ss s) ∙ sym (append_assoc (still_waiting r.0 r.1) (left ss) (still_waiting s.0 s.1))

pub fit_push : (ss : List Step) (s : Step) → AreFit ss → IfSome s.1 HasOneRowEach → AreFit (ss ++ s ∷ [])
fit_push [] s h k = (k, tt)
fit_push (r ∷ ss) s h k = (h.0, fit_push ss s h.1 k)

pub steps_push : (ss : List Step) (s : Step) (rest : List Waiting) → of_steps (ss ++ s ∷ []) ++ rest ≡ of_steps ss ++ s.0 ∷ rest
steps_push [] s rest = refl
steps_push (r ∷ ss) s rest = let ih = steps_push ss s rest in rw ih refl

length_steps : (ss : List Step) → length (of_steps ss) ≡ length ss
length_steps [] = refl
length_steps (s ∷ ss) = ap suc (length_steps ss)

-- ---- what was found

-- tries of parts for which two searches find the same
pub same_found : (f h : TxnId → Option Decision) (ps : List Pending) (x : TopicState) → ((q : Pending) → In q ps → f q.part.id ≡ h q.part.id) → after_tries f ps x ≡ after_tries h ps x
same_found f h [] x e = refl
same_found f h (p ∷ ps) x e =
    ap (λ (o : Option Decision). after_tries f ps (after_try p.part.id o x)) (e p (inl refl))
    ∙ same_found f h ps (after_try p.part.id (h p.part.id) x) (λ q k. e q (inr k))

none_found : (ss : List Step) (id : TxnId) → ((i : TxnId) → In i (ids (of_steps ss)) → same_id i id ≡ false) → found_in ss id ≡ None
none_found [] id h = refl
none_found (s ∷ ss) id h =
    let e = h s.0.id (inl refl) in let ih = none_found ss id (λ i k. h i (inr k)) in rw (e, ih) refl

-- the steps are tries of all parts, of which those that had learnt find nothing
pub tries_are : (ss : List Step) (ps : List Pending) (x : TopicState) → RisesById ps → ids (of_steps ss) ≡ waiting_ids ps → after_tries (found_in ss) ps x ≡ tried ss x
tries_are [] [] x h e = refl
tries_are (s ∷ ss) [] x h e = cc
tries_are ss (p ∷ ps) x h e = go (λ rs y f. tries_are rs ps y h.1 f) ss e (is_some p.learnt) refl
  where
    go : ((rs : List Step) (y : TopicState) → ids (of_steps rs) ≡ waiting_ids ps → after_tries (found_in rs) ps y ≡ tried rs y) → (rs : List Step) → ids (of_steps rs) ≡ waiting_ids (p ∷ ps) → (b : Bool) → is_some p.learnt ≡ b → after_tries (found_in rs) (p ∷ ps) x ≡ tried rs x
    go ih rs f true l =
        let g : ids (of_steps rs) ≡ waiting_ids ps = f ∙ ids_learnt p ps l in
        let none = none_found rs p.part.id (λ i k. later_differs p.part.id i (id_above i p ps h (subst (In i) g k))) in
        ap (λ (o : Option Decision). after_tries (found_in rs) ps (after_try p.part.id o x)) none ∙ ih rs x g
    go ih [] f false l = let g = f ∙ ids_waits p ps l in cc
    go ih (r ∷ rs) f false l =
        let g = f ∙ ids_waits p ps l in
        let own : r.0.id ≡ p.part.id = first_same r.0.id p.part.id (ids (of_steps rs)) (waiting_ids ps) g in
        let more : ids (of_steps rs) ≡ waiting_ids ps = rest_same r.0.id p.part.id (ids (of_steps rs)) (waiting_ids ps) g in
        let k : same_id r.0.id p.part.id ≡ true = id_same r.0.id p.part.id own in
        let here : found_in (r ∷ rs) p.part.id ≡ r.1 = rw k refl in
        let others : (q : Pending) → In q ps → found_in (r ∷ rs) q.part.id ≡ found_in rs q.part.id = λ q j.
        (let n : same_id r.0.id q.part.id ≡ false = rw own (earlier_differs p.part.id q.part.id (h.0 q j)) in rw n refl) in
        ap (λ (o : Option Decision). after_tries (found_in (r ∷ rs)) ps (after_try p.part.id o x)) here
        ∙ (same_found (found_in (r ∷ rs)) (found_in rs) ps (after_try p.part.id r.1 x) others
        ∙ (ih rs (after_try p.part.id r.1 x) more
        ∙ ap (λ (i : TxnId). tried rs (after_try i r.1 x)) (sym own)))

-- what was found for a transaction was read in the cell of its part's own flight
pub read_own : (ss : List Step) (part : TopicPart) (o : Option Decision) → AreFit ss → found_in ss part.id ≡ o → MayBeFound (IsRead (of_steps ss) (taken ss)) part o
read_own ss part None fit e = (tt, tt)
read_own [] part (Some v) fit e = cc
read_own (s ∷ ss) part (Some v) fit e = go (λ is. read_own ss part (Some v) fit.1 is) (same_id s.0.id part.id) refl
  where
    wider : ReadsOwn (of_steps ss) (taken ss) part v → ReadsOwn (of_steps (s ∷ ss)) (taken (s ∷ ss)) part v
    wider r = record { cell = r.cell; waited = inr r.waited; noted = In-append_right _ (taken_of s.0 s.1) (taken ss) r.noted }

    own : (w : Waiting) (id : TxnId) → w.id ≡ id → w ≡ record { id = id; cell = w.cell }
    own w id k = ap (λ (z : TxnId). record { id = z; cell = w.cell }) k

    first : (w : Waiting) (d : Option Decision) → d ≡ Some v → In (record { cell = w.cell; known = Some v }) (taken_of w d ++ taken ss)
    first w None k = cc
    first w (Some u) k = inl (ap (λ (z : Option Decision). record { cell = w.cell; known = z }) k)

    go : (found_in ss part.id ≡ Some v → MayBeFound (IsRead (of_steps ss) (taken ss)) part (Some v)) → (b : Bool) → same_id s.0.id part.id ≡ b → MayBeFound (IsRead (of_steps (s ∷ ss)) (taken (s ∷ ss))) part (Some v)
    go ih true k =
        let is : s.1 ≡ Some v = rw k at e in (
          record { cell = s.0.cell; waited = inl (own s.0 part.id (id_equal s.0.id part.id k)); noted = first s.0 s.1 is },
          subst (λ (o : Option Decision). IfSome o HasOneRowEach) is fit.0,
        )
    go ih false k =
        let is : found_in ss part.id ≡ Some v = rw k at e in
        (wider (ih is).0, (ih is).1)

stayed : (ss : List Step) (w : Waiting) → In w (left ss) → In w (of_steps ss)
stayed [] w h = h
stayed (s ∷ ss) w h = go (λ i. stayed ss w i) s.1 h
  where
    go : (In w (left ss) → In w (of_steps ss)) → (o : Option Decision) → In w (still_waiting s.0 o ++ left ss) → In w (of_steps (s ∷ ss))
    go ih None (inl e) = inl e
    go ih None (inr i) = inr (ih i)
    go ih (Some v) i = inr (ih i)

-- ---- the steps of a turn

-- Some parts that waited have had their step, and the rest are before those that wait on.
pub record Stepping (waited waiting : List Waiting) (notes more : List Sight) (g now : GroupState) (count : ℕ) : Type 0 where
  pub steps : List Step
  pub rest : List Waiting
  pub all : waited ≡ of_steps steps ++ rest
  pub many : length steps ≡ count
  pub here : waiting ≡ rest ++ left steps
  pub noted : more ≡ notes ++ taken steps
  pub fit : AreFit steps
  pub is : now ≡ record { topic = tried steps g.topic; gauges = g.gauges }
  pub wait : ids (left steps ++ rest) ≡ waiting_ids now.topic.pending
  pub sound : IsSound now.topic

-- no part has had its step
pub no_step : (waiting : List Waiting) (notes : List Sight) (g : GroupState) → ids waiting ≡ waiting_ids g.topic.pending → IsSound g.topic → Stepping waiting waiting notes notes g g 0
no_step waiting notes g e h = record {
  steps = [];
  rest = waiting;
  all = refl;
  many = refl;
  here = sym (append-nil waiting);
  noted = sym (append-nil notes);
  fit = tt;
  is = refl;
  wait = e;
  sound = h;
}

waits_on : (l : List Waiting) (r : Waiting) (rs : List Waiting) (o : Option Decision) (x : TopicState) → RisesById x.pending → ids (l ++ r ∷ rs) ≡ waiting_ids x.pending → IfSome o (λ v. HasOneRowEach v × (learn_fault r.id v x ≡ None)) → ids ((l ++ still_waiting r o) ++ rs) ≡ waiting_ids (after_try r.id o x).pending
waits_on l r rs None x h e f = ap ids (append_assoc l (r ∷ []) rs) ∙ e
waits_on l r rs (Some v) x h e f =
    let same : after_try r.id (Some v) x ≡ after_learn r.id (decided_stamp v) x = rw (f.1, after_try) refl in
    ap ids (append_assoc l [] rs) ∙ (told_ids l r rs x.pending (decided_stamp v) h e ∙ ap (λ (z : TopicState). waiting_ids z.pending) (sym same))

one_row : (o : Option Decision) (id : TxnId) (x : TopicState) → IfSome o (λ v. HasOneRowEach v × (learn_fault id v x ≡ None)) → IfSome o HasOneRowEach
one_row None id x h = tt
one_row (Some v) id x h = h.0

-- the first of the rest has its step
pub one_step : (waited waiting after : List Waiting) (notes more most : List Sight) (g now new : GroupState) (count : ℕ) → count < length waited → Stepping waited waiting notes more g now count → LearnsFirst now new waiting after more most → IsSound new.topic → Stepping waited after notes most g new (count + 1)
one_step waited waiting after notes more most g now new count l s f sound = go s.rest s.all s.here s.wait
  where
    go : (rest : List Waiting) → waited ≡ of_steps s.steps ++ rest → waiting ≡ rest ++ left s.steps → ids (left s.steps ++ rest) ≡ waiting_ids now.topic.pending → Stepping waited after notes most g new (count + 1)
    go [] all here wait =
        let n = ap (λ (z : List Waiting). length z) (all ∙ append-nil (of_steps s.steps)) in
        let m = length_steps s.steps in
        let k = s.many in
        absurd (omega arith)
    go (r ∷ rs) all here wait =
        let both = sym f.is ∙ here in
        let first : f.first ≡ r = first_same f.first r f.rest (rs ++ left s.steps) both in
        let rest : f.rest ≡ rs ++ left s.steps = rest_same f.first r f.rest (rs ++ left s.steps) both in
        let step : Step = (r, f.found) in
        let may : IfSome f.found (λ v. HasOneRowEach v × (learn_fault r.id v now.topic ≡ None)) = subst (λ (z : Waiting). IfSome f.found (λ v. HasOneRowEach v × (learn_fault z.id v now.topic ≡ None))) first f.may in
        let group : new ≡ record { topic = after_try r.id f.found now.topic; gauges = now.gauges } = f.group ∙ ap (λ (z : Waiting). record { topic = after_try z.id f.found now.topic; gauges = now.gauges }) first in
        record {
          steps = s.steps ++ step ∷ [];
          rest = rs;
          all = all ∙ sym (steps_push s.steps step rs);
          many = length_push s.steps step ∙ ap (λ (z : ℕ). z + 1) s.many;
          here = f.left
              ∙ (ap (λ (z : Waiting). f.rest ++ still_waiting z f.found) first
              ∙ (ap (λ (z : List Waiting). z ++ still_waiting r f.found) rest
              ∙ (append_assoc rs (left s.steps) (still_waiting r f.found)
              ∙ ap (λ (z : List Waiting). rs ++ z) (sym (left_push s.steps step)))));
          noted = f.taken
              ∙ (ap (λ (z : Waiting). more ++ taken_of z f.found) first
              ∙ (ap (λ (z : List Sight). z ++ taken_of r f.found) s.noted
              ∙ (append_assoc notes (taken s.steps) (taken_of r f.found)
              ∙ ap (λ (z : List Sight). notes ++ z) (sym (taken_push s.steps step)))));
          fit = fit_push s.steps step s.fit (one_row f.found r.id now.topic may);
          is = group
              ∙ (ap (λ (z : GroupState). record { topic = after_try r.id f.found z.topic; gauges = z.gauges }) s.is
              ∙ ap (λ (z : TopicState). record { topic = z; gauges = g.gauges }) (sym (tried_push s.steps step g.topic)));
          wait = ap (λ (z : List Waiting). ids (z ++ rs)) (left_push s.steps step)
              ∙ (waits_on (left s.steps) r rs f.found now.topic s.sound.by_id wait may
              ∙ ap (λ (z : GroupState). waiting_ids z.topic.pending) (sym group));
          sound = sound;
        }

-- where no note was taken, nothing was found: each part waits on, and the topic is as it was
none_taken : (ss : List Step) → taken ss ≡ [] → (left ss ≡ of_steps ss) × ((x : TopicState) → tried ss x ≡ x)
none_taken [] e = (refl, λ x. refl)
none_taken (s ∷ ss) e = go s.1 refl (λ k. none_taken ss k)
  where
    go : (o : Option Decision) → s.1 ≡ o → (taken ss ≡ [] → (left ss ≡ of_steps ss) × ((x : TopicState) → tried ss x ≡ x)) → (left (s ∷ ss) ≡ of_steps (s ∷ ss)) × ((x : TopicState) → tried (s ∷ ss) x ≡ x)
    go None k ih =
        let none : taken ss ≡ [] = rw k at e in
        let h = ih none in
        (rw k (ap (λ (z : List Waiting). s.0 ∷ z) h.0), λ x. rw k (h.1 x))
    go (Some v) k ih = let f : taken_of s.0 (Some v) ++ taken ss ≡ [] = rw k at e in cc

none_more : (notes more : List Sight) → notes ++ more ≡ notes → more ≡ []
none_more notes [] e = refl
none_more notes (s ∷ more) e =
    let n = ap (λ (z : List Sight). length z) e in
    let m = length-append notes (s ∷ more) in
    absurd (omega arith)

idle_steps : (ss : List Step) (g new : GroupState) (after : List Waiting) (notes more : List Sight) → new ≡ record g { topic = tried ss g.topic } → after ≡ left ss → more ≡ notes ++ taken ss → more ≡ notes → (new ≡ g) × (after ≡ of_steps ss)
idle_steps ss g new after notes more is l t e =
    let h = none_taken ss (none_more notes (taken ss) (sym t ∙ e)) in
    (is ∙ ap (λ (x : TopicState). record { topic = x; gauges = g.gauges }) (h.1 g.topic), l ∙ h.0)

-- all that waited have learnt, or wait on
pub learns_waiting : (ss : List Step) (g new : GroupState) (after : List Waiting) (notes more : List Sight) → RisesById g.topic.pending → ids (of_steps ss) ≡ waiting_ids g.topic.pending → AreFit ss → new ≡ record g { topic = tried ss g.topic } → after ≡ left ss → more ≡ notes ++ taken ss → ids (left ss) ≡ waiting_ids new.topic.pending → LearnsWaiting g new (of_steps ss) after notes more
learns_waiting ss g new after notes more rises e fit is l t i = record {
  taken = taken ss;
  tries = (found_in ss, (λ p k. read_own ss p.part (found_in ss p.part.id) fit refl), is ∙ ap (λ (x : TopicState). record { topic = x; gauges = g.gauges }) (sym (tries_are ss g.topic.pending g.topic rises e)));
  kept = t;
  stays = λ w k. stayed ss w (subst (In w) l k);
  ids = ap ids l ∙ i;
  idle = idle_steps ss g new after notes more is l t;
}

-- the same, once each had its step
pub all_stepped : (waited waiting : List Waiting) (notes more : List Sight) (g now : GroupState) (count : ℕ) → length waited ≤ count → RisesById g.topic.pending → ids waited ≡ waiting_ids g.topic.pending → Stepping waited waiting notes more g now count → LearnsWaiting g now waited waiting notes more
all_stepped waited waiting notes more g now count l rises e s = go s.rest s.all s.here s.wait
  where
    go : (rest : List Waiting) → waited ≡ of_steps s.steps ++ rest → waiting ≡ rest ++ left s.steps → ids (left s.steps ++ rest) ≡ waiting_ids now.topic.pending → LearnsWaiting g now waited waiting notes more
    go [] all here wait =
        let own : waited ≡ of_steps s.steps = all ∙ append-nil (of_steps s.steps) in
        subst (λ (ws : List Waiting). LearnsWaiting g now ws waiting notes more) (sym own)
        (learns_waiting s.steps g now waiting notes more rises (ap ids (sym own) ∙ e) s.fit s.is here s.noted (ap ids (sym (append-nil (left s.steps))) ∙ wait))
    go (r ∷ rs) all here wait =
        let n = ap (λ (z : List Waiting). length z) all in
        let k = length-append (of_steps s.steps) (r ∷ rs) in
        let m = length_steps s.steps in
        let j = s.many in
        absurd (omega arith)

-- a part whose transaction isn't pending doesn't wait
pub none_waits : (id : TxnId) (ws : List Waiting) (ps : List Pending) → ids ws ≡ waiting_ids ps → is_pending id ps ≡ false → (w : Waiting) → In w ws → same_id w.id id ≡ false
none_waits id ws ps e free w i =
    let k = id_of w.id ps (subst (In w.id) e (In-ids w ws i)) in
    not_true (same_id w.id id) refl (λ same. true≢false (sym (any_from (λ (p : Pending). same_id p.part.id id) k.part ps k.stands (subst (λ (z : TxnId). same_id z id ≡ true) (sym k.is) same)) ∙ free))

-- what isn't refused isn't pending
pub free_of : (floor : Stamp) (part : TopicPart) (x : TopicState) → propose_fault floor part x ≡ None → is_pending part.id x.pending ≡ false
free_of floor part x e = (passes (propose_refusals floor part x) e).0

-- where not all had their step, a part waits
pub steps_left : (waited waiting : List Waiting) (notes more : List Sight) (g now : GroupState) (count : ℕ) → count < length waited → Stepping waited waiting notes more g now count → 0 < length waiting
steps_left waited waiting notes more g now count l s = go s.rest s.all s.here
  where
    go : (rest : List Waiting) → waited ≡ of_steps s.steps ++ rest → waiting ≡ rest ++ left s.steps → 0 < length waiting
    go [] all here =
        let n = ap (λ (z : List Waiting). length z) (all ∙ append-nil (of_steps s.steps)) in
        let m = length_steps s.steps in
        let k = s.many in
        absurd (omega arith)
    go (r ∷ rs) all here = subst (λ (z : List Waiting). 0 < length z) (sym here) (omega arith)
