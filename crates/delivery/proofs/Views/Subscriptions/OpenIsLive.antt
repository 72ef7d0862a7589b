-- What a session has open is what is live: the open subscriptions of an open connection are its live ones, in order, each with
-- its id and its topic, and an id that is open names its live subscription.
use Rattle.delivery.proofs.Words.All.{◌≡◌, ◌≢◌, ℕ, suc, ◌+◌, ◌<◌, ◌≤◌, ◌==◌, Bool, true, false, cond, not, ◌&&◌, ◌||◌, inl, inr, List, [], ◌∷◌, ◌++◌, map, length, get_or, Option, Some, None, refl, sym, ap, subst, ◌∙◌, arith, eq-eqb, nat_lt, list_any, is_some, option_map_or, option_or, option_to_list, unwrap_or, bytes_eq, eqb-true, lt-ltb, false≢true, or_parts, cases_lt, map-append, get_or_append_left, slice_get-get_or, first_refusal, Topic, In, NoSub, Entry, Command, RawFrame, Unread, SessionFault, topic_of, id_of, is_subscribe, is_unsubscribe, is_disconnect, entries_without, Held, subscriptions_left, is_ended, is_open, is_closed, session_fault, open_refusals, In-push_cases, at_set, none_some, World, Subscription, no_subscription, is_reading, connection_at, subscription_at, entry_at, Objection, Move, is_live, is_topic, needs_idle, move_refusal, final_world, TopicList, Outcome, CoreStep, frame_in, accepted_of, is_next, has_id, begun_by, number_by, subscribe_frame, sub_id_text, Core, core_of, core_after, moves, session_at, names_at, IsCoreRun, each_number, live_numbers, IsReached, EndpointView, SubView, view_with, endpoint_view, sub_view, no_endpoint, without_number, has_sub_id, number_in}
use Rattle.std.specs.List.{find}
use Rattle.std.proofs.lemmas.Slice.Eq.{bytes_eq-Decides}
use Rattle.stomp_frame.specs.declared.command.Command.TheVariants as commands
use Rattle.stomp_session.specs.declared.fault.SessionFault.TheVariants as faults
use Rattle.delivery.specs.Core.Connections.{live_sub}
use Rattle.delivery.proofs.Machine.SubscriptionSteps.{at_end}
use Rattle.delivery.proofs.Theorem.NeverRefused.{entries_are_there}
use Rattle.delivery.proofs.Words.Changes.{run_of, world_is, get_or-each_number, length-each_number, map_alike, stays_shut, open_there, differ, core_steps}
use Rattle.delivery.proofs.Core.Speaking.{open_in}
use Rattle.delivery.proofs.Views.Subscriptions.ClosedIsDropped.{live_of_own}
use Rattle.delivery.proofs.Views.Subscriptions.NewSubscription.{live_push}
use Rattle.delivery.proofs.Views.Endpoints.DisconnectIsLast.{unheard, unparted, not_parting}
use Rattle.delivery.proofs.Views.Endpoints.NothingBeforeOpen.{unsubscribed}
use Rattle.delivery.proofs.Views.Subscriptions.SubsOfStep.{StepKeeps, Reads, StepBegins, StepEnds, StepChange, step_change, left_open, left_close}
use Rattle.delivery.proofs.Core.NamesKnown.{step_left}
use Rattle.delivery.proofs.Theorem.SpansAsAnswered.{live_unclosed}

-- the live subscriptions of connection c
abbrev pub live_at : Core → ℕ → List ℕ
live_at k c = live_numbers c 0 k.world.subscriptions

-- what frames left open is what is live, and each id names its number
record Agrees (k : Core) (c : ℕ) : Type 0 where
  subs : subscriptions_left (names_at k) (accepted_of c k.steps) ≡ map (live_sub k.world k.steps) (live_at k c)
  numbers : (s : ℕ) → In s (live_at k c) → number_by c (sub_id_text s k.steps) k.steps ≡ s

-- ---- lists

-- where a live number is
record LiveAt (c i s : ℕ) (xs : List Subscription) : Type 0 where
  place : ℕ
  is : s ≡ i + place
  there : place < length xs
  live : is_live c (get_or xs place no_subscription) ≡ true

live_place : (c i s : ℕ) (xs : List Subscription) → In s (live_numbers c i xs) → LiveAt c i s xs
live_place c i s [] here = absurd here
live_place c i s (x ∷ xs) here = by (is_live c x) refl here (live_place c (i + 1) s xs)
  where
    later : LiveAt c (i + 1) s xs → LiveAt c i s (x ∷ xs)
    later h =
        let p : ℕ = h.place in let a : s ≡ i + 1 + p = h.is in let l : p < length xs = h.there in
        record { place = suc p; is = omega (arith, a); there = omega (arith, l); live = h.live }

    by : (b : Bool) → is_live c x ≡ b → In s (cond b (i ∷ live_numbers c (i + 1) xs) (live_numbers c (i + 1) xs))
        → (In s (live_numbers c (i + 1) xs) → LiveAt c (i + 1) s xs) → LiveAt c i s (x ∷ xs)
    by true e (inl same) rest = record { place = 0; is = omega (arith, same); there = omega arith; live = e }
    by true e (inr here) rest = later (rest here)
    by false e here rest = later (rest here)

-- a live subscription is there
record IsLiveAt (w : World) (c s : ℕ) : Type 0 where
  there : s < length w.subscriptions
  live : is_live c (subscription_at w s) ≡ true

live_there : (w : World) (c s : ℕ) → In s (live_numbers c 0 w.subscriptions) → IsLiveAt w c s
live_there w c s here =
    let h = live_place c 0 s w.subscriptions here in let is : s ≡ 0 + h.place = h.is in let same : h.place ≡ s = omega (arith, is) in
    record { there = subst (λ n. n < length w.subscriptions) same h.there; live = subst (λ n. is_live c (subscription_at w n) ≡ true) same h.live }

any_none : {X : Type 0} (p : X → Bool) (xs : List X) → find p xs ≡ None → list_any p xs ≡ false
any_none p [] e = refl
any_none p (x ∷ xs) e = (elim (p x) as (λ (b : Bool). cond b (Some x) (find p xs) ≡ None → (find p xs ≡ None → list_any p xs ≡ false) → (b || list_any p xs) ≡ false) [ true ↦ λ e rest. none_some x (sym e) | false ↦ λ e rest. rest e ]) e (any_none p xs)

-- an id that isn't open is none of these
other_id : (id : List ℕ) (g : ℕ → List ℕ × Topic) (ns : List ℕ) (s : ℕ) → is_open id (map g ns) ≡ false → In s ns → bytes_eq id (g s).0 ≡ false
other_id id g [] s shut here = absurd here
other_id id g (n ∷ ns) s shut (inl same) = ap (λ m. bytes_eq id (g m).0) (sym same) ∙ (or_parts (bytes_eq id (g n).0) (is_open id (map g ns)) shut).0
other_id id g (n ∷ ns) s shut (inr here) = other_id id g ns s (or_parts (bytes_eq id (g n).0) (is_open id (map g ns)) shut).1 here

-- the number of an id that is open
record OpenIn (id : List ℕ) (g : ℕ → List ℕ × Topic) (ns : List ℕ) : Type 0 where
  number : ℕ
  here : In number ns
  same : id ≡ (g number).0

open_number : (id : List ℕ) (g : ℕ → List ℕ × Topic) (ns : List ℕ) → is_open id (map g ns) ≡ true → OpenIn id g ns
open_number id g [] e = absurd (false≢true e)
open_number id g (n ∷ ns) e = (elim (bytes_eq id (g n).0) as (λ (b : Bool). bytes_eq id (g n).0 ≡ b → (b || is_open id (map g ns)) ≡ true → (is_open id (map g ns) ≡ true → OpenIn id g ns) → OpenIn id g (n ∷ ns)) [
  | true ↦ λ is e rest. record { number = n; here = inl refl; same = (bytes_eq-Decides id (g n).0).0 is }
  | false ↦ λ is e rest. (let h = rest e in record { number = h.number; here = inr h.here; same = h.same })
]) refl e (open_number id g ns)

-- without an id is without its number
without_id : (id : List ℕ) (s : ℕ) (g : ℕ → List ℕ × Topic) (ns : List ℕ) → ((n : ℕ) → In n ns → bytes_eq id (g n).0 ≡ (n == s))
    → entries_without id (map g ns) ≡ map g (without_number s ns)
without_id id s g [] same = refl
without_id id s g (n ∷ ns) same =
    ap (λ (b : Bool). cond b (map g ns) (g n ∷ entries_without id (map g ns))) (same n (inl refl))
    ∙ (elim (n == s) as (λ (b : Bool). entries_without id (map g ns) ≡ map g (without_number s ns) → cond b (map g ns) (g n ∷ entries_without id (map g ns)) ≡ map g (cond b ns (n ∷ without_number s ns))) [
      | true ↦ λ rest. refl
      | false ↦ λ rest. ap (λ (them : List (List ℕ × Topic)). g n ∷ them) rest
    ]) (without_id id s g ns (λ m here. same m (inr here)))

-- what is left was there
still_in : (s n : ℕ) (ns : List ℕ) → In n (without_number s ns) → In n ns
still_in s n [] here = here
still_in s n (m ∷ ns) here = by (m == s) here (still_in s n ns)
  where
    by : (b : Bool) → In n (cond b ns (m ∷ without_number s ns)) → (In n (without_number s ns) → In n ns) → In n (m ∷ ns)
    by true here rest = inr here
    by false (inl same) rest = inl same
    by false (inr here) rest = inr (rest here)

-- two tests that hold together are the same
alike : (a b : Bool) → (a ≡ true → b ≡ true) → (b ≡ true → a ≡ true) → a ≡ b
alike true b f g = sym (f refl)
alike false true f g = g refl
alike false false f g = refl

-- the only one that passes is found
only_one : (p : ℕ → Bool) (ns : List ℕ) (s : ℕ) → In s ns → p s ≡ true → ((n : ℕ) → In n ns → p n ≡ true → n ≡ s) → find p ns ≡ Some s
only_one p [] s here passes only = absurd here
only_one p (n ∷ ns) s here passes only = by (p n) refl here (λ h. only_one p ns s h passes (λ m i. only m (inr i)))
  where
    by : (b : Bool) → p n ≡ b → In s (n ∷ ns) → (In s ns → find p ns ≡ Some s) → cond b (Some n) (find p ns) ≡ Some s
    by true e here rest = ap Some (only n (inl refl) e)
    by false e (inl same) rest = absurd (false≢true (sym e ∙ (ap p same ∙ passes)))
    by false e (inr here) rest = rest here

-- ---- what a session refuses

-- none of these refusals applies
abbrev NoneApplies : List (Bool × SessionFault) → Type 0
NoneApplies [] = Unit {0}
NoneApplies (t ∷ ts) = (t.0 ≡ false) × NoneApplies ts

none_applies : (ts : List (Bool × SessionFault)) → first_refusal ts ≡ None → NoneApplies ts
none_applies [] e = tt
none_applies (t ∷ ts) e = (elim t.0 as (λ (b : Bool). cond b (Some t.1) (first_refusal ts) ≡ None → (first_refusal ts ≡ None → NoneApplies ts) → (b ≡ false) × NoneApplies ts) [
  | true ↦ λ e rest. none_some t.1 (sym e)
  | false ↦ λ e rest. (refl, rest e)
]) e (none_applies ts)

tested : (s : Held) (f : RawFrame) (command : Command) → f.command ≡ command → session_fault s f ≡ None
    → NoneApplies ((is_closed s.phase, faults.Closed) ∷ open_refusals command s f)
tested s f command e none =
    none_applies ((is_closed s.phase, faults.Closed) ∷ open_refusals command s f)
    (sym (ap (λ (q : Command). first_refusal ((is_closed s.phase, faults.Closed) ∷ open_refusals q s f)) e) ∙ none)

-- an accepted SUBSCRIBE has an id that isn't open
shut_id : (s : Held) (f : RawFrame) → f.command ≡ commands.Subscribe → session_fault s f ≡ None → is_open (id_of f) s.subscriptions ≡ false
shut_id s f e none = (tested s f commands.Subscribe e none).1.1.1.1.1.0

-- an accepted UNSUBSCRIBE has one that is
open_id : (s : Held) (f : RawFrame) → f.command ≡ commands.Unsubscribe → session_fault s f ≡ None → is_open (id_of f) s.subscriptions ≡ true
open_id s f e none = (elim (is_open (id_of f) s.subscriptions) as (λ (b : Bool). not b ≡ false → b ≡ true) [ true ↦ λ e. refl | false ↦ λ e. sym e ]) (tested s f commands.Unsubscribe e none).1.1.0

-- what a session has open before its end is what frames left open
going_on : (k : Core) (c : ℕ) → is_ended (accepted_of c k.steps) ≡ false → (session_at k c).subscriptions ≡ subscriptions_left (names_at k) (accepted_of c k.steps)
going_on k c going = ap (λ (b : Bool). cond b [] (subscriptions_left (names_at k) (accepted_of c k.steps))) going

-- ---- a step

keeps_agree : (k : Core) (c : ℕ) (step : CoreStep) → Agrees k c → StepKeeps k c step → Agrees (core_after k step) c
keeps_agree k c step a h =
    let after = core_after k step in record {
      subs = step_left k.names step k.steps c ∙ (h.frames
          ∙ (a.subs
          ∙ (map_alike (live_sub k.world k.steps) (live_sub after.world after.steps) (live_at k c)
          (λ s here. (let l = (live_there k.world c s here).there in λ i. (sym (h.ids s l) i, sym (h.topics s l) i)))
          ∙ ap (map (live_sub after.world after.steps)) (sym h.live))));
      numbers = λ s here. (let before : In s (live_at k c) = subst (λ ns. In s ns) h.live here in
          let l = (live_there k.world c s before).there in
          ap (λ id. number_by c id after.steps) (h.ids s l) ∙ (h.numbers (sub_id_text s k.steps) ∙ a.numbers s before));
    }

-- the accepted frame is the last
read_last : (k : Core) (c : ℕ) (step : CoreStep) (f : RawFrame) → Reads k c step f → accepted_of c (step ∷ k.steps) ≡ accepted_of c k.steps ++ f ∷ []
read_last k c step f h =
    ap (λ (fs : List RawFrame). accepted_of c k.steps ++ fs)
    ((λ i. cond (h.effect i) (cond (is_next c (h.event i)) (option_to_list (h.read i)) []) [])
    ∙ ap (λ (b : Bool). cond b (f ∷ []) []) (eq-eqb c c refl))

-- the frame has this id
read_id : (k : Core) (c : ℕ) (step : CoreStep) (f : RawFrame) → Reads k c step f → (id : List ℕ) → has_id c id step ≡ bytes_eq (id_of f) id
read_id k c step f h id =
    (λ i. is_next c (h.event i) && option_map_or (λ g. bytes_eq (id_of g) id) (h.read i) false)
    ∙ ap (λ (b : Bool). b && bytes_eq (id_of f) id) (eq-eqb c c refl)

begins_agree : (k : Core) (c : ℕ) (step : CoreStep) → is_ended (accepted_of c k.steps) ≡ false → Agrees k c → StepBegins k c step → Agrees (core_after k step) c
begins_agree k c step going a h =
    let after = core_after k step in let w = k.world in let f = h.frame in let n = length w.subscriptions in let t = topic_of (names_at k) f in
    let x : Subscription = record { connection = c; topic = t; from = h.from; taken = 0; closed = None } in let old = subscriptions_left (names_at k) (accepted_of c k.steps) in
    let shut : is_open (id_of f) old ≡ false = ap (is_open (id_of f)) (sym (going_on k c going)) ∙ shut_id (session_at k c) f h.command h.reads.accepted in
    let last : 0 + n ≡ n = omega arith in
    let live : live_at after c ≡ live_at k c ++ n ∷ [] =
    ap (live_numbers c 0) h.new
    ∙ (live_push c 0 w.subscriptions x
    ∙ (ap (λ (b : Bool). live_at k c ++ cond (b && true) ((0 + n) ∷ []) []) (eq-eqb c c refl)
    ∙ ap (λ (m : ℕ). live_at k c ++ m ∷ []) last)) in
    let text : (s : ℕ) → sub_id_text s after.steps ≡ option_map_or id_of (cond (n == s) (Some f) (subscribe_frame s k.steps)) [] = λ s i.
    option_map_or id_of (cond (option_map_or (λ r. r == s) (begun_by (h.is i)) false) (h.reads.read i) (subscribe_frame s k.steps)) [] in
    let text_old : (s : ℕ) → s < n → sub_id_text s after.steps ≡ sub_id_text s k.steps = λ s l.
    text s ∙ ap (λ (b : Bool). option_map_or id_of (cond b (Some f) (subscribe_frame s k.steps)) []) (differ n s (λ z. omega (arith, z, l))) in
    let text_new : sub_id_text n after.steps ≡ id_of f = text n ∙ ap (λ (b : Bool). option_map_or id_of (cond b (Some f) (subscribe_frame n k.steps)) []) (eq-eqb n n refl) in
    let topic_old : (s : ℕ) → s < n → (subscription_at after.world s).topic ≡ (subscription_at w s).topic = λ s l.
    ap (λ (xs : List Subscription). (get_or xs s no_subscription).topic) h.new
    ∙ ap (λ (z : Subscription). z.topic) (get_or_append_left w.subscriptions (x ∷ []) no_subscription s l) in
    let topic_new : (subscription_at after.world n).topic ≡ t =
    ap (λ (xs : List Subscription). (get_or xs n no_subscription).topic) h.new
    ∙ at_end (λ (z : Subscription). z.topic ≡ t) w.subscriptions x no_subscription refl in
    let number : (id : List ℕ) → number_by c id after.steps ≡ cond (bytes_eq (id_of f) id) n (number_by c id k.steps) = λ id i.
    cond (read_id k c step f h.reads id i) (unwrap_or (begun_by (h.is i)) (number_by c id k.steps)) (number_by c id k.steps) in
    record {
      subs = step_left k.names step k.steps c ∙ (ap (subscriptions_left (names_at k)) (read_last k c step f h.reads)
          ∙ (left_open (names_at k) (accepted_of c k.steps) f (ap is_subscribe h.command) shut
          ∙ ((λ i. a.subs i ++ (sym text_new i, sym topic_new i) ∷ [])
          ∙ (ap (λ (them : List (List ℕ × Topic)). them ++ live_sub after.world after.steps n ∷ [])
          (map_alike (live_sub w k.steps) (live_sub after.world after.steps) (live_at k c)
          (λ s here. (let l = (live_there w c s here).there in λ i. (sym (text_old s l) i, sym (topic_old s l) i))))
          ∙ (sym (map-append (live_sub after.world after.steps) (live_at k c) (n ∷ []))
          ∙ ap (map (live_sub after.world after.steps)) (sym live))))));
      numbers = λ s here. elim (In-push_cases s n (live_at k c) (subst (λ ns. In s ns) live here)) [
        | inl before ↦ (let l = (live_there w c s before).there in
            let other : bytes_eq (id_of f) (sub_id_text s k.steps) ≡ false =
            other_id (id_of f) (live_sub w k.steps) (live_at k c) s (ap (is_open (id_of f)) (sym a.subs) ∙ shut) before in
            ap (λ id. number_by c id after.steps) (text_old s l)
            ∙ (number (sub_id_text s k.steps)
            ∙ (ap (λ (b : Bool). cond b n (number_by c (sub_id_text s k.steps) k.steps)) other
            ∙ a.numbers s before)))
        | inr same ↦ (let own : number_by c (sub_id_text n after.steps) after.steps ≡ n =
            ap (λ id. number_by c id after.steps) text_new
            ∙ (number (id_of f)
            ∙ ap (λ (b : Bool). cond b n (number_by c (id_of f) k.steps)) ((bytes_eq-Decides (id_of f) (id_of f)).1 refl)) in
            subst (λ m. number_by c (sub_id_text m after.steps) after.steps ≡ m) same own)
      ];
    }

ends_agree : (k : Core) (c : ℕ) (step : CoreStep) → is_ended (accepted_of c k.steps) ≡ false → Agrees k c → StepEnds k c step → Agrees (core_after k step) c
ends_agree k c step going a h =
    let after = core_after k step in let w = k.world in let f = h.frame in let id = id_of f in let s = h.number in
    let old = subscriptions_left (names_at k) (accepted_of c k.steps) in
    let opened : is_open id (map (live_sub w k.steps) (live_at k c)) ≡ true =
    ap (is_open id) (sym (going_on k c going ∙ a.subs)) ∙ open_id (session_at k c) f h.command h.reads.accepted in
    let one = open_number id (live_sub w k.steps) (live_at k c) opened in
    let is_one : one.number ≡ s = sym (a.numbers one.number one.here) ∙ (ap (λ z. number_by c z k.steps) (sym one.same) ∙ sym h.named) in
    let named : id ≡ sub_id_text s k.steps = one.same ∙ ap (λ m. sub_id_text m k.steps) is_one in let from : 0 + s ≡ s = omega arith in
    let shut : is_live c h.new ≡ false = ap (λ (b : Bool). (h.new.connection == c) && not b) h.closed ∙ none_live (h.new.connection == c) in
    let live : live_at after c ≡ without_number s (live_at k c) =
    ap (live_numbers c 0) h.set_to
    ∙ (live_of_own c 0 s w.subscriptions h.new h.there h.live shut
    ∙ ap (λ m. without_number m (live_at k c)) from) in
    let text : (m : ℕ) → sub_id_text m after.steps ≡ sub_id_text m k.steps = λ m.
    ap (λ (o : Outcome). option_map_or id_of (cond (option_map_or (λ r. r == m) (begun_by o) false) (frame_in step.reading) (subscribe_frame m k.steps)) []) h.is in
    let topic : (m : ℕ) → (subscription_at after.world m).topic ≡ (subscription_at w m).topic = λ m.
    ap (λ (xs : List Subscription). (get_or xs m no_subscription).topic) h.set_to
    ∙ at_set (λ (z : Subscription). z.topic ≡ (subscription_at w m).topic) w.subscriptions s m h.new no_subscription
    (λ same. h.topic ∙ sym (ap (λ (q : ℕ). (subscription_at w q).topic) same)) refl in
    let number : (z : List ℕ) → number_by c z after.steps ≡ number_by c z k.steps = λ z.
    ap (λ (o : Outcome). cond (has_id c z step) (unwrap_or (begun_by o) (number_by c z k.steps)) (number_by c z k.steps)) h.is
    ∙ both_same (has_id c z step) (number_by c z k.steps) in
    let tests : (m : ℕ) → In m (live_at k c) → bytes_eq id (live_sub w k.steps m).0 ≡ (m == s) = λ m here.
    alike (bytes_eq id (sub_id_text m k.steps)) (m == s)
    (λ e. eq-eqb m s (sym (a.numbers m here) ∙ (ap (λ z. number_by c z k.steps) (sym ((bytes_eq-Decides id (sub_id_text m k.steps)).0 e)) ∙ sym h.named)))
    (λ e. (bytes_eq-Decides id (sub_id_text m k.steps)).1 (named ∙ ap (λ q. sub_id_text q k.steps) (sym (eqb-true m s e)))) in
    record {
      subs = step_left k.names step k.steps c ∙ (ap (subscriptions_left (names_at k)) (read_last k c step f h.reads)
          ∙ (left_close (names_at k) (accepted_of c k.steps) f (ap is_subscribe h.command) (ap is_unsubscribe h.command)
          ∙ (ap (entries_without id) a.subs
          ∙ (without_id id s (live_sub w k.steps) (live_at k c) tests
          ∙ (map_alike (live_sub w k.steps) (live_sub after.world after.steps) (without_number s (live_at k c)) (λ m here i. (sym (text m) i, sym (topic m) i))
          ∙ ap (map (live_sub after.world after.steps)) (sym live))))));
      numbers = λ m here. (let before : In m (live_at k c) = still_in s m (live_at k c) (subst (λ ns. In m ns) live here) in
          ap (λ z. number_by c z after.steps) (text m) ∙ (number (sub_id_text m k.steps) ∙ a.numbers m before));
    }
  where
    none_live : (b : Bool) → (b && not true) ≡ false
    none_live true = refl
    none_live false = refl

    both_same : (b : Bool) (n : ℕ) → cond b n n ≡ n
    both_same true n = refl
    both_same false n = refl

changed_agrees : (k : Core) (c : ℕ) (step : CoreStep) → is_ended (accepted_of c k.steps) ≡ false → Agrees k c → StepChange k c step → Agrees (core_after k step) c
changed_agrees k c step going a (inl h) = keeps_agree k c step a h
changed_agrees k c step going a (inr (inl h)) = begins_agree k c step going a h
changed_agrees k c step going a (inr (inr h)) = ends_agree k c step going a h

-- ---- a run

-- a live subscription has its entry
entries : (topics : TopicList) (capacity : ℕ) (steps : List CoreStep) → (d s : ℕ) → let w = (core_of topics capacity steps).world in
    s < length w.subscriptions → is_live d (subscription_at w s) ≡ true → entry_at w s ≢ None
entries topics capacity steps d s =
    subst (λ (w : World). s < length w.subscriptions → is_live d (subscription_at w s) ≡ true → entry_at w s ≢ None) (sym (world_is topics capacity steps))
    (λ l live none. none_some no_sub (sym (entries_are_there (run_of topics capacity steps) s l (live_unclosed d (subscription_at (final_world (run_of topics capacity steps)) s) live)) ∙ ap (λ (o : Option Entry). cond (is_some o) None (Some no_sub)) none))
  where
    no_sub : NoSub
    no_sub = record {}

-- what holds of a connection before a step after which it is open
record Before (k : Core) (c : ℕ) : Type 0 where
  agrees : Agrees k c
  going : is_ended (accepted_of c k.steps) ≡ false

-- of one that isn't there
absent : (topics : TopicList) (capacity : ℕ) (steps : List CoreStep) → IsCoreRun topics capacity steps → (c : ℕ)
    → length (core_of topics capacity steps).world.connections ≤ c → accepted_of c (core_of topics capacity steps).steps ≡ [] → Before (core_of topics capacity steps) c
absent topics capacity steps h c far none =
    let k = core_of topics capacity steps in
    let live : live_at k c ≡ [] =
    subst (λ (w : World). length w.connections ≤ c → live_numbers c 0 w.subscriptions ≡ []) (sym (world_is topics capacity steps))
    (unsubscribed (run_of topics capacity steps) c) far in
    record {
      agrees = record {
        subs = ap (subscriptions_left (names_at k)) none ∙ ap (map (live_sub k.world k.steps)) (sym live);
        numbers = λ s here. absurd (subst (λ ns. In s ns) live here);
      };
      going = ap is_ended none;
    }

agrees_run : (topics : TopicList) (capacity : ℕ) (steps : List CoreStep) → IsCoreRun topics capacity steps → (c : ℕ)
    → open_in (core_of topics capacity steps).world.connections c ≡ true → Agrees (core_of topics capacity steps) c
agrees_run topics capacity [] h c e = absurd (false≢true e)
agrees_run topics capacity (step ∷ older) h c e =
    let k = core_of topics capacity older in let b = before (agrees_run topics capacity older h.1 c) (open_in k.world.connections c) refl in
    changed_agrees k c step b.going b.agrees
    (step_change k c step.event step.reading step.outcome h.0.outcome (entries topics capacity older) e)
  where
    k : Core
    k = core_of topics capacity older

    before : (open_in k.world.connections c ≡ true → Agrees k c) → (b : Bool) → open_in k.world.connections c ≡ b → Before k c
    before ih true o = record {
      agrees = ih o;
      going = any_none (λ f. is_disconnect f.command) (accepted_of c k.steps)
          (ap (λ (ss : List CoreStep). find (λ f. is_disconnect f.command) (accepted_of c ss)) (core_steps topics capacity older) ∙ unparted topics capacity older h.1 c o);
    }
    before ih false o = elim (cases_lt c (length k.world.connections)) [
      | inl l ↦ absurd (false≢true (sym (stays_shut (moves k step.event step.reading step.outcome) k.world c l o) ∙ e))
      | inr far ↦ absent topics capacity older h.1 c far (ap (accepted_of c) (core_steps topics capacity older) ∙ unheard topics capacity older h.1 c far)
    ]

-- ---- of a core that a run leads to

reached_agrees : (k : Core) (c : ℕ) → IsReached k → is_reading (connection_at k.world c).standing ≡ true → Agrees k c
reached_agrees k c reached reading =
    subst (λ (z : Core). Agrees z c) (sym reached.is)
    (agrees_run reached.topics reached.capacity reached.steps reached.run c (subst (λ (z : Core). open_in z.world.connections c ≡ true) reached.is reading))

-- no DISCONNECT was accepted of an open connection
pub not_ended : (k : Core) (c : ℕ) → IsReached k → is_reading (connection_at k.world c).standing ≡ true → is_ended (accepted_of c k.steps) ≡ false
not_ended k c reached reading = any_none (λ f. is_disconnect f.command) (accepted_of c k.steps) (not_parting k c reached reading)

-- the open subscriptions of an open connection's session are the live ones of the connection
pub session_subs : (k : Core) (c : ℕ) → IsReached k → is_reading (connection_at k.world c).standing ≡ true
    → (session_at k c).subscriptions ≡ map (live_sub k.world k.steps) (live_at k c)
session_subs k c reached reading = going_on k c (not_ended k c reached reading) ∙ (reached_agrees k c reached reading).subs

-- the id of each names its number
pub number_is : (k : Core) (c s : ℕ) → IsReached k → is_reading (connection_at k.world c).standing ≡ true → In s (live_at k c) → number_by c (sub_id_text s k.steps) k.steps ≡ s
number_is k c s reached reading here = (reached_agrees k c reached reading).numbers s here

-- an id names a live subscription of the connection, which is the one that is found
pub record NamesLive (k : Core) (c : ℕ) (id : List ℕ) : Type 0 where
  pub there : number_by c id k.steps < length k.world.subscriptions
  pub live : is_live c (subscription_at k.world (number_by c id k.steps)) ≡ true
  pub found : (accepted : ℕ → List RawFrame) (unread : ℕ → Unread) (text : ℕ → List ℕ)
      → number_in (view_with (names_at k) k.world accepted unread text (λ s. subscribe_frame s k.steps)) c id ≡ Some (number_by c id k.steps)

-- the subscription of a number has an id by the view where it has it by the steps
has_by_view : (k : Core) (accepted : ℕ → List RawFrame) (unread : ℕ → Unread) (text : ℕ → List ℕ) (id : List ℕ) (s : ℕ) → s < length k.world.subscriptions
    → has_sub_id (view_with (names_at k) k.world accepted unread text (λ n. subscribe_frame n k.steps)).subs id s ≡ bytes_eq (sub_id_text s k.steps) id
has_by_view k accepted unread text id s there =
    let h : ℕ → SubView = λ n. sub_view k.world n (subscribe_frame n k.steps) in
    let many : s < length (each_number h 0 k.world.subscriptions) = omega (arith, there, length-each_number h 0 k.world.subscriptions) in let first : 0 + s ≡ s = omega arith in
    ap (λ (o : Option SubView). option_map_or (λ x. bytes_eq x.id id) o false)
    (slice_get-get_or (each_number h 0 k.world.subscriptions) s (h s) many
    ∙ ap (λ (z : SubView). Some z) (get_or-each_number h 0 k.world.subscriptions s (h s) there ∙ ap h first))

-- the id of an accepted UNSUBSCRIBE does
pub names_live : (k : Core) (c : ℕ) (f : RawFrame) → IsReached k → is_reading (connection_at k.world c).standing ≡ true → f.command ≡ commands.Unsubscribe
    → session_fault (session_at k c) f ≡ None → NamesLive k c (id_of f)
names_live k c f reached reading command none =
    let a = reached_agrees k c reached reading in let id = id_of f in let w = k.world in
    let one = open_number id (live_sub w k.steps) (live_at k c) (ap (is_open id) (sym (session_subs k c reached reading)) ∙ open_id (session_at k c) f command none) in
    let s = number_by c id k.steps in let is : one.number ≡ s = sym (a.numbers one.number one.here) ∙ ap (λ z. number_by c z k.steps) (sym one.same) in
    let here : In s (live_at k c) = subst (λ n. In n (live_at k c)) is one.here in let named : sub_id_text s k.steps ≡ id = sym (one.same ∙ ap (λ n. sub_id_text n k.steps) is) in
    let at = live_there w c s here in
    record {
      there = at.there;
      live = at.live;
      found = λ accepted unread text. (let v = view_with (names_at k) w accepted unread text (λ n. subscribe_frame n k.steps) in
          let g : ℕ → EndpointView = λ n. endpoint_view (names_at k) w n (accepted n) (unread n) (text n) in let first : 0 + c ≡ c = omega arith in
          let endpoint : get_or v.endpoints c no_endpoint ≡ g c = get_or-each_number g 0 w.connections c no_endpoint (open_there w.connections c reading) ∙ ap g first in
          ap (λ (l : EndpointView). find (has_sub_id v.subs id) l.live) endpoint
          ∙ only_one (has_sub_id v.subs id) (live_at k c) s here
          (has_by_view k accepted unread text id s at.there ∙ (bytes_eq-Decides (sub_id_text s k.steps) id).1 named)
          (λ n i e. sym (a.numbers n i)
          ∙ ap (λ z. number_by c z k.steps) ((bytes_eq-Decides (sub_id_text n k.steps) id).0 (sym (has_by_view k accepted unread text id n (live_there w c n i).there) ∙ e))));
    }

-- ---- what stands against its move

one_more : {F : Type 0} (cs : List (Bool × F)) (b : Bool) (x : F) → first_refusal cs ≡ None → b ≡ false → first_refusal (cs ++ (b, x) ∷ []) ≡ None
one_more [] b x none e = ap (λ (z : Bool). cond z (Some x) None) e
one_more (t ∷ ts) b x none e = (elim t.0 as (λ (p : Bool). cond p (Some t.1) (first_refusal ts) ≡ None → (first_refusal ts ≡ None → first_refusal (ts ++ (b, x) ∷ []) ≡ None) → cond p (Some t.1) (first_refusal (ts ++ (b, x) ∷ [])) ≡ None) [
  | true ↦ λ h rest. none_some t.1 (sym h)
  | false ↦ λ h rest. rest h
]) none (λ h. one_more ts b x h e)

-- nothing stands against the end of a live subscription of a connection whose frames are read
pub unsubscribe_free : (w : World) (c s : ℕ) → first_refusal (needs_idle w c) ≡ None → s < length w.subscriptions → is_live c (subscription_at w s) ≡ true
    → move_refusal w (Move.Unsubscribes c s) ≡ None
unsubscribe_free w c s idle there live =
    ap (λ (o : Option Objection). option_or o None)
    (one_more (needs_idle w c) (not (nat_lt s (length w.subscriptions) && is_live c (subscription_at w s))) Objection.NoSub idle
    (λ i. not (lt-ltb s (length w.subscriptions) there i && live i)))

-- nor against the beginning of one to a topic that is there
pub subscribe_free : (w : World) (c : ℕ) (t : Topic) → first_refusal (needs_idle w c) ≡ None → t.0 < length w.topics → move_refusal w (Move.Subscribes c t) ≡ None
subscribe_free w c t idle there =
    ap (λ (o : Option Objection). option_or o None)
    (one_more (needs_idle w c) (not (is_topic w t)) Objection.NotNamed idle (ap (λ (b : Bool). not b) (lt-ltb t.0 (length w.topics) there)))
