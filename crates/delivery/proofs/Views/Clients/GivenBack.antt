-- A connection is gone, whose sender is idle: no connection speaks for that sender then, which is resting, and its gate is given back.
use Rattle.delivery.proofs.Words.All.{◌≡◌, ◌≢◌, ℕ, suc, ◌<◌, ◌==◌, ◌||◌, ◌&&◌, Bool, true, false, cond, List, [], ◌∷◌, length, set, get_or, Option, Some, None, refl, sym, ap, ◌∙◌, list_any, option_map, option_map_or, bytes_eq, true≢false, eqb-true, eq-eqb, length-map, set-get_or, is_none, GateState, KeptSender, SendersState, after_give_back, at_set_within, some_same, not_true, World, Connection, SenderState, Standing, is_gone, new_sender, nobody, connection_at, sender_at, speaks_for, is_in_use, Claim, is_kept, kept_sender, each_number, Core, AreClaimed, rested_view, resting_gate, sender_in, IsReached, EndpointView, SenderView, View, held_sender, no_endpoint, rested_sender, sender_view, view_of}
use Rattle.sender_gate.specs.Senders.{kept_with}
use Rattle.delivery.proofs.Theorem.SendersAreOwn.{Speaks, silent, speaks, spoken_sender}
use Rattle.delivery.proofs.Views.Clients.Claiming.{find_mapped, resting_none, same_clients}
use Rattle.delivery.proofs.Views.Clients.RestingStay.{any_set, any_at}
use Rattle.delivery.proofs.Words.Changes.{speaks_of, held_same, senders_alike, spoken_used, endpoint_of, held_of, number_set}

-- of none of a list it is said
none_any : {X : Type 0} (p : X → Bool) (xs : List X) (d : X) → ((i : ℕ) → p (get_or xs i d) ≡ false) → list_any p xs ≡ false
none_any p [] d none = refl
none_any p (x ∷ xs) d none = ap (λ (b : Bool). b || list_any p xs) (none 0) ∙ none_any p xs d (λ i. none (suc i))

-- the world in which the connection is gone
abbrev pub departed : World → ℕ → World
departed w c = record w { connections = set w.connections c (record { sender = (connection_at w c).sender; standing = Standing.Gone }) }

-- the gate of a sender between two transactions
abbrev pub gate_by : World → ℕ → GateState
gate_by w s = record { sender = record { 0 = s }; seq = (sender_at w s).seq; floor = (sender_at w s).floor }

-- each other sender is as it was
others_rest : (w : World) (c n : ℕ) → speaks_for n (connection_at w c) ≡ false → resting_gate (departed w c) n ≡ resting_gate w n
others_rest w c n silent =
    ap (λ (b : Bool). cond b None (Some (gate_by w n)))
    (any_set (speaks_for n) w.connections c (record { sender = (connection_at w c).sender; standing = Standing.Gone }) nobody (sym silent))

-- where it has no sender nothing is given back
pub none_given : (w : World) (c : ℕ) (before : List Claim) (clients : SendersState) → (connection_at w c).sender ≡ None → AreClaimed w before clients
    → AreClaimed (departed w c) before clients
none_given w c before clients none h = same_clients w (departed w c) before clients (λ s l. others_rest w c s (silent s (connection_at w c) none)) h

-- for its sender none speaks then
now_unused : (w : World) (c s : ℕ) → Speaks w → c < length w.connections → speaks_for s (connection_at w c) ≡ true → is_in_use (departed w c) s ≡ false
now_unused w c s own there speaks = none_any (speaks_for s) (departed w c).connections nobody each
  where
    each : (i : ℕ) → speaks_for s (get_or (departed w c).connections i nobody) ≡ false
    each i =
        at_set_within (λ (z : Connection). speaks_for s z ≡ false) w.connections c i _ nobody there (λ k. refl)
        (λ ne. not_true (speaks_for s (connection_at w i)) refl (λ e. ne (own.own i c s e speaks)))

-- it spoke for no other
other_silent : (w : World) (c s n : ℕ) → speaks_for s (connection_at w c) ≡ true → n ≢ s → speaks_for n (connection_at w c) ≡ false
other_silent w c s n speaks ne =
    not_true (speaks_for n (connection_at w c)) refl
    (λ e. ne (some_same n s (sym (spoken_sender n (connection_at w c) e) ∙ spoken_sender s (connection_at w c) speaks)))

-- ---- what is held of its sender

-- the endpoints stay
pub rested_endpoints : (c : ℕ) (v : View) → (rested_view c v).endpoints ≡ v.endpoints
rested_endpoints c v = elim (get_or v.endpoints c no_endpoint).sender as (λ (o : Option ℕ). (option_map_or (λ s. record v { senders = set v.senders s (rested_sender (sender_in v s)) }) o v).endpoints ≡ v.endpoints) [ None ↦ refl | Some s ↦ refl ]

-- once its gate is taken, the senders are held as where the connection is gone
pub gone_rests : (k : Core) (c : ℕ) → IsReached k → c < length k.world.connections → is_gone (connection_at k.world c).standing ≡ false
    → rested_view c (view_of k) ≡ record (view_of k) { senders = each_number (held_sender (departed k.world c)) 0 k.world.senders }
gone_rests k c reached there staying =
    ap (λ (o : Option ℕ). option_map_or (λ s. record v { senders = set v.senders s (rested_sender (sender_in v s)) }) o v)
    (ap (λ (l : EndpointView). l.sender) (endpoint_of k c no_endpoint there))
    ∙ by (connection_at k.world c).sender refl
  where
    w : World
    w = k.world

    u : World
    u = departed k.world c

    v : View
    v = view_of k

    by : (o : Option ℕ) → (connection_at k.world c).sender ≡ o
        → option_map_or (λ s. record (view_of k) { senders = set (view_of k).senders s (rested_sender (sender_in (view_of k) s)) }) o (view_of k)
        ≡ record (view_of k) { senders = each_number (held_sender (departed k.world c)) 0 k.world.senders }
    by None e =
        ap (λ (ss : List SenderView). record v { senders = ss })
        (senders_alike w c (record { sender = (connection_at w c).sender; standing = Standing.Gone }) (λ s. sym (silent s (connection_at w c) e)))
    by (Some s) e =
        let l = (speaks_of k reached).there c s e in let speaking = speaks s (connection_at w c) staying e in let x = sender_at w s in
        let rest : rested_sender (sender_in v s) ≡ held_sender u s =
        ap rested_sender (held_of k s l (spoken_used w c s speaking))
        ∙ sym (ap (λ (b : Bool). cond b (sender_view s x) (rested_sender (sender_view s x))) (now_unused w c s (speaks_of k reached) there speaking)) in
        let others : (n : ℕ) → n < length w.senders → n ≢ s → held_sender w n ≡ held_sender u n = λ n within ne.
        held_same w u n
        (any_set (speaks_for n) w.connections c (record { sender = (connection_at w c).sender; standing = Standing.Gone }) nobody (sym (other_silent w c s n speaking ne))) refl in
        ap (λ (ss : List SenderView). record v { senders = ss })
        (ap (λ (y : SenderView). set v.senders s y) rest
        ∙ (number_set (held_sender w) (held_sender u) w.senders s x l others
        ∙ ap (λ (ss : List SenderState). each_number (held_sender u) 0 ss) (set-get_or w.senders s new_sender)))

-- ---- its gate

module _ (w : World) (c s : ℕ) (before : List Claim) (clients : SendersState) (own : Speaks w) (there : c < length w.connections)
    (speaks : speaks_for s (connection_at w c) ≡ true) (h : AreClaimed w before clients) where
  abbrev v : World
  v = departed w c

  abbrev gate : GateState
  gate = gate_by w s

  used : is_in_use w s ≡ true
  used = any_at (speaks_for s) w.connections c nobody refl speaks

  client_stays : (k : KeptSender) (b : Bool) → (cond b (record k { gate = Some gate }) k).client ≡ k.client
  client_stays k true = refl
  client_stays k false = refl

  each : (id : List ℕ) (n : ℕ) (b : Bool) → (n == s) ≡ b
      → kept_with gate (record { client = id; sender = record { 0 = n }; gate = resting_gate w n }) ≡ record { client = id; sender = record { 0 = n }; gate = resting_gate v n }
  each id n true e =
      let same = eqb-true n s e in let k : KeptSender = record { client = id; sender = record { 0 = n }; gate = resting_gate w n } in
      ap (λ (b : Bool). cond (b && is_none (resting_gate w n)) (record k { gate = Some gate }) k) e
      ∙ (ap (λ (b : Bool). cond b (record k { gate = Some gate }) k) (resting_none w n ∙ (ap (is_in_use w) same ∙ used))
      ∙ (λ i. record k {
        gate = (ap (λ (m : ℕ). Some (gate_by w m)) (sym same)
            ∙ sym (ap (λ (b : Bool). cond b None (Some (gate_by w n))) (ap (is_in_use v) same ∙ now_unused w c s own there speaks))) i;
      }))
  each id n false e =
      let k : KeptSender = record { client = id; sender = record { 0 = n }; gate = resting_gate w n } in
      ap (λ (b : Bool). cond (b && is_none (resting_gate w n)) (record k { gate = Some gate }) k) e
      ∙ (λ i. record k { gate = sym (others_rest w c n (other_silent w c s n speaks (λ is. true≢false (sym (eq-eqb n s is) ∙ e)))) i })

  -- it has its gate
  pub given : AreClaimed v before (after_give_back gate clients)
  given = record {
    begun = h.begun;
    count = length-map clients.kept (kept_with gate) ∙ h.count;
    found = λ id. find_mapped (λ k. bytes_eq id k.client) (kept_with gate) clients.kept
        (λ k. ap (λ (x : List ℕ). bytes_eq id x) (client_stays k ((k.sender.0 == gate.sender.0) && is_none k.gate)))
        ∙ (ap (λ (o : Option KeptSender). option_map (kept_with gate) o) (h.found id) ∙ by id (is_kept id before));
  }
    where
      by : (id : List ℕ) (b : Bool)
          → option_map (kept_with gate) (cond b (Some (record { client = id; sender = record { 0 = kept_sender id before }; gate = resting_gate w (kept_sender id before) })) None)
          ≡ cond {A = Option KeptSender} b (Some (record { client = id; sender = record { 0 = kept_sender id before }; gate = resting_gate v (kept_sender id before) })) None
      by id true = ap (λ (k : KeptSender). Some k) (each id (kept_sender id before) (kept_sender id before == s) refl)
      by id false = refl
