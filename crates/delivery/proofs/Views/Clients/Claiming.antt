-- What the senders that are held say of a claim is what the claims of the run say, and so it is after it.
use Rattle.delivery.proofs.Words.All.{◌≡◌, ◌≢◌, ℕ, ◌+◌, ◌<◌, ◌||◌, nat_lt, Bool, true, false, cond, not, ◌&&◌, List, [], ◌∷◌, length, map, Option, Some, None, refl, sym, ap, subst, ◌∙◌, arith, append-nil, is_some, option_map, option_map_or, option_and_then, option_or, unwrap_or, bytes_eq, true≢false, false≢true, length-map, length-append, find, is_none, first_refusal, GateState, KeptSender, SendersState, after_claim, claim_refusal, claimed_gate, new_gate, some_same, none_some, same_octets, octets_pass, World, is_in_use, sender_at, ConnectionFault, Claim, is_kept, begins, begun_count, kept_count, kept_sender, claimed_sender, is_one_too_many, AreClaimed, kept_entry, refused_claim, resting_gate}
use Rattle.std.proofs.lemmas.List.Folds.{find-append}
use Rattle.sender_gate.specs.declared.fault.ClaimFault.TheVariants as claims
use Rattle.sender_gate.specs.Senders
use Rattle.sender_gate.specs.Senders.{claimed, in_use_by, max_clients, max_senders}
use Rattle.delivery.specs.Core.Claims.{has_client}

-- ---- the senders of client-ids

-- a kept sender has begun
pub kept_begun : (id : List ℕ) (before : List Claim) → is_kept id before ≡ true → kept_sender id before < begun_count before
kept_begun id [] e = absurd (false≢true e)
kept_begun id (claim ∷ before) e = by (kept_begun id before) (has_client id claim) refl (is_kept id before) refl e
  where
    grows : (b : Bool) → begun_count before < cond b (begun_count before + 1) (begun_count before) + 1
    grows true = omega arith
    grows false = omega arith

    -- by a claim of its own that is the first a sender begins
    first : (o : Option (List ℕ)) → option_map_or (bytes_eq id) o false ≡ true → is_kept id before ≡ false → begins o before ≡ true
    first None a k = absurd (false≢true a)
    first (Some other) a k = ap not (subst (λ (x : List ℕ). is_kept x before ≡ false) (same_octets id other a) k)

    more : (n m : ℕ) (b : Bool) → n < m → n < cond b (m + 1) m
    more n m true l = omega (arith, l)
    more n m false l = l

    by : (is_kept id before ≡ true → kept_sender id before < begun_count before) → (a : Bool) → has_client id claim ≡ a → (k : Bool) → is_kept id before ≡ k → (a || k) ≡ true
        → cond (a && not k) (begun_count before) (kept_sender id before) < cond (begins claim.client before) (begun_count before + 1) (begun_count before)
    by older true has true kept e = more (kept_sender id before) (begun_count before) (begins claim.client before) (older kept)
    by older true has false kept e =
        subst (λ (b : Bool). begun_count before < cond b (begun_count before + 1) (begun_count before)) (sym (first claim.client has kept)) (omega arith)
    by older false has true kept e = more (kept_sender id before) (begun_count before) (begins claim.client before) (older kept)
    by older false has false kept e = absurd (false≢true e)

-- no two client-ids have one sender
pub kept_apart : (a b : List ℕ) (before : List Claim) → is_kept a before ≡ true → is_kept b before ≡ true → kept_sender a before ≡ kept_sender b before → a ≡ b
kept_apart a b [] e f same = absurd (false≢true e)
kept_apart a b (claim ∷ before) e f same =
    by (kept_apart a b before) (has_client a claim) refl (is_kept a before) refl (has_client b claim) refl (is_kept b before) refl e f same
  where
    n : ℕ
    n = begun_count before

    one : (o : Option (List ℕ)) → option_map_or (bytes_eq a) o false ≡ true → option_map_or (bytes_eq b) o false ≡ true → a ≡ b
    one None g h = absurd (false≢true g)
    one (Some x) g h = same_octets a x g ∙ sym (same_octets b x h)

    number : List ℕ → Bool → Bool → ℕ
    number id has kept = cond (has && not kept) n (kept_sender id before)

    older : (id : List ℕ) (has : Bool) → number id has true ≡ kept_sender id before
    older id true = refl
    older id false = refl

    by : (is_kept a before ≡ true → is_kept b before ≡ true → kept_sender a before ≡ kept_sender b before → a ≡ b) → (g : Bool) → has_client a claim ≡ g → (k : Bool) → is_kept a before ≡ k → (h : Bool) → has_client b claim ≡ h → (m : Bool) → is_kept b before ≡ m
        → (g || k) ≡ true → (h || m) ≡ true → number a g k ≡ number b h m → a ≡ b
    by rest g hasa true kepta h hasb true keptb e f same = rest kepta keptb (sym (older a g) ∙ (same ∙ older b h))
    by rest g hasa true kepta true hasb false keptb e f same = let l = kept_begun a before kepta in let s = sym (older a g) ∙ same in absurd (omega (arith, l, s))
    by rest true hasa false kepta h hasb true keptb e f same = let l = kept_begun b before keptb in let s = same ∙ older b h in absurd (omega (arith, l, s))
    by rest true hasa false kepta true hasb false keptb e f same = one claim.client hasa hasb
    by rest g hasa k kepta false hasb false keptb e f same = absurd (false≢true f)
    by rest false hasa false kepta h hasb m keptb e f same = absurd (false≢true e)

-- ---- a claim is refused alike

-- what is found by a claim
found_by : (w : World) (before : List Claim) (clients : SendersState) → AreClaimed w before clients → (client : Option (List ℕ))
    → claimed client clients ≡ option_and_then (kept_entry w before) client
found_by w before clients h None = refl
found_by w before clients h (Some id) = h.found id

pub resting_none : (w : World) (n : ℕ) → is_none (resting_gate w n) ≡ is_in_use w n
resting_none w n = elim (is_in_use w n) as (λ (b : Bool). is_none {T = GateState} (cond b None (Some (record { sender = record { 0 = n }; seq = (sender_at w n).seq; floor = (sender_at w n).floor }))) ≡ b) [ true ↦ refl | false ↦ refl ]

in_use_alike : (w : World) (before : List Claim) (clients : SendersState) → AreClaimed w before clients → (client : Option (List ℕ))
    → Senders.is_claimed_already client clients ≡ option_map_or (is_in_use w) (claimed_sender client before) false
in_use_alike w before clients h client = ap (λ (o : Option KeptSender). option_map_or (λ k. is_none k.gate) o false) (found_by w before clients h client) ∙ by client
  where
    one : (id : List ℕ) (b : Bool)
        → option_map_or (λ (k : KeptSender). is_none k.gate) (cond b (Some (record { client = id; sender = record { 0 = kept_sender id before }; gate = resting_gate w (kept_sender id before) })) None) false
        ≡ option_map_or (is_in_use w) (cond b (Some (kept_sender id before)) None) false
    one id true = resting_none w (kept_sender id before)
    one id false = refl

    by : (client : Option (List ℕ)) → option_map_or (λ (k : KeptSender). is_none k.gate) (option_and_then (kept_entry w before) client) false
        ≡ option_map_or (is_in_use w) (claimed_sender client before) false
    by None = refl
    by (Some id) = one id (is_kept id before)

too_many_alike : (w : World) (before : List Claim) (clients : SendersState) → AreClaimed w before clients → (client : Option (List ℕ))
    → Senders.lacks_room client clients ≡ is_one_too_many client before
too_many_alike w before clients h client = (λ i. test (found_by w before clients h client i) (h.count i) (h.begun i)) ∙ by client
  where
    test : Option KeptSender → ℕ → ℕ → Bool
    test found kept begun = ((is_some client && is_none found) && not (nat_lt kept max_clients)) || (is_none found && not (nat_lt begun max_senders))

    one : (id : List ℕ) (b : Bool) (kept begun : ℕ)
        → (((true && is_none {T = KeptSender} (cond b (Some (record { client = id; sender = record { 0 = kept_sender id before }; gate = resting_gate w (kept_sender id before) })) None)) && not (nat_lt kept max_clients))
        || (is_none {T = KeptSender} (cond b (Some (record { client = id; sender = record { 0 = kept_sender id before }; gate = resting_gate w (kept_sender id before) })) None) && not (nat_lt begun max_senders)))
        ≡ (not b && ((true && not (nat_lt kept max_clients)) || not (nat_lt begun max_senders)))
    one id true kept begun = refl
    one id false kept begun = refl

    by : (o : Option (List ℕ))
        → (((is_some o && is_none (option_and_then (kept_entry w before) o)) && not (nat_lt (kept_count before) max_clients)) || (is_none (option_and_then (kept_entry w before) o) && not (nat_lt (begun_count before) max_senders)))
        ≡ is_one_too_many o before
    by None = refl
    by (Some id) = one id (is_kept id before) (kept_count before) (begun_count before)

-- why it is refused, as the core says it
pub refused_alike : (w : World) (before : List Claim) (clients : SendersState) → AreClaimed w before clients → (client : Option (List ℕ))
    → first_refusal ((option_map_or (is_in_use w) (claimed_sender client before) false, ConnectionFault.SenderInUse) ∷ (is_one_too_many client before, ConnectionFault.TooManyClients) ∷ [])
    ≡ option_map refused_claim (claim_refusal client clients)
refused_alike w before clients h client =
    sym (λ i. first_refusal ((in_use_alike w before clients h client i, ConnectionFault.SenderInUse) ∷ (too_many_alike w before clients h client i, ConnectionFault.TooManyClients) ∷ []))
    ∙ by (Senders.is_claimed_already client clients) (Senders.lacks_room client clients)
  where
    by : (a b : Bool) → first_refusal ((a, ConnectionFault.SenderInUse) ∷ (b, ConnectionFault.TooManyClients) ∷ [])
        ≡ option_map refused_claim (first_refusal ((a, claims.SenderInUse) ∷ (b, claims.TooManyClients) ∷ []))
    by true b = refl
    by false true = refl
    by false false = refl

-- ---- the gate

-- the gate of a sender that was found, or a new one
abbrev gate : Option KeptSender → ℕ → GateState
gate found begun = option_map_or (λ k. unwrap_or k.gate (new_gate k.sender)) found (new_gate (record { 0 = begun }))

-- it is of the sender that the claims say
pub claimed_number : (w : World) (before : List Claim) (clients : SendersState) → AreClaimed w before clients → (client : Option (List ℕ))
    → (claimed_gate client clients).sender.0 ≡ unwrap_or (claimed_sender client before) (begun_count before)
claimed_number w before clients h client = (λ i. (gate (found_by w before clients h client i) (h.begun i)).sender.0) ∙ by client
  where
    own : (n : ℕ) (b : Bool) → (unwrap_or (cond b None (Some (record { sender = record { 0 = n }; seq = (sender_at w n).seq; floor = (sender_at w n).floor }))) (new_gate (record { 0 = n }))).sender.0 ≡ n
    own n true = refl
    own n false = refl

    one : (id : List ℕ) (b : Bool)
        → (gate (cond b (Some (record { client = id; sender = record { 0 = kept_sender id before }; gate = resting_gate w (kept_sender id before) })) None) (begun_count before)).sender.0
        ≡ unwrap_or (cond b (Some (kept_sender id before)) None) (begun_count before)
    one id true = own (kept_sender id before) (is_in_use w (kept_sender id before))
    one id false = refl

    by : (o : Option (List ℕ)) → (gate (option_and_then (kept_entry w before) o) (begun_count before)).sender.0 ≡ unwrap_or (claimed_sender o before) (begun_count before)
    by None = refl
    by (Some id) = one id (is_kept id before)

-- where none is gone on with it is a new sender's
pub new_gate_is : (w : World) (before : List Claim) (clients : SendersState) → AreClaimed w before clients → (client : Option (List ℕ))
    → claimed_sender client before ≡ None → claimed_gate client clients ≡ new_gate (record { 0 = begun_count before })
new_gate_is w before clients h client none = (λ i. gate (found_by w before clients h client i) (h.begun i)) ∙ by client none
  where
    one : (id : List ℕ) (b : Bool) → cond b (Some (kept_sender id before)) None ≡ None
        → gate (cond b (Some (record { client = id; sender = record { 0 = kept_sender id before }; gate = resting_gate w (kept_sender id before) })) None) (begun_count before)
        ≡ new_gate (record { 0 = begun_count before })
    one id true e = none_some _ (sym e)
    one id false e = refl

    by : (o : Option (List ℕ)) → claimed_sender o before ≡ None → gate (option_and_then (kept_entry w before) o) (begun_count before) ≡ new_gate (record { 0 = begun_count before })
    by None e = refl
    by (Some id) e = one id (is_kept id before) e

-- where one that isn't in use is gone on with it is its own
pub own_gate_is : (w : World) (before : List Claim) (clients : SendersState) → AreClaimed w before clients → (client : Option (List ℕ)) (s : ℕ)
    → claimed_sender client before ≡ Some s → is_in_use w s ≡ false
    → claimed_gate client clients ≡ record { sender = record { 0 = s }; seq = (sender_at w s).seq; floor = (sender_at w s).floor }
own_gate_is w before clients h client s claims unused = (λ i. gate (found_by w before clients h client i) (h.begun i)) ∙ by client claims
  where
    own : ℕ → GateState
    own n = record { sender = record { 0 = n }; seq = (sender_at w n).seq; floor = (sender_at w n).floor }

    one : (id : List ℕ) (b : Bool) → cond b (Some (kept_sender id before)) None ≡ Some s
        → gate (cond b (Some (record { client = id; sender = record { 0 = kept_sender id before }; gate = resting_gate w (kept_sender id before) })) None) (begun_count before)
        ≡ own s
    one id true e =
        let n = kept_sender id before in let is = some_same n s e in
        ap (λ (b : Bool). unwrap_or (cond b None (Some (own n))) (new_gate (record { 0 = n }))) (ap (is_in_use w) is ∙ unused) ∙ ap own is
    one id false e = none_some s e

    by : (o : Option (List ℕ)) → claimed_sender o before ≡ Some s → gate (option_and_then (kept_entry w before) o) (begun_count before) ≡ own s
    by None e = none_some s e
    by (Some id) e = one id (is_kept id before) e

-- a sender that is gone on with has begun
pub claimed_begun : (client : Option (List ℕ)) (before : List Claim) (s : ℕ) → claimed_sender client before ≡ Some s → s < begun_count before
claimed_begun None before s e = none_some s e
claimed_begun (Some id) before s e = (elim (is_kept id before) as (λ (b : Bool). is_kept id before ≡ b → cond b (Some (kept_sender id before)) None ≡ Some s → s < begun_count before) [
  | true ↦ λ kept d. subst (λ n. n < begun_count before) (some_same (kept_sender id before) s d) (kept_begun id before kept)
  | false ↦ λ kept d. none_some s d
]) refl e

-- ---- after it

-- one sender is in use in the second world, and each other that has begun is as in the first
pub record UsesOne (w v : World) (count s : ℕ) : Type 0 where
  pub used : is_in_use v s ≡ true
  pub others : (r : ℕ) → r ≢ s → r < count → resting_gate v r ≡ resting_gate w r

-- what is found is the same where the sender is
entry_as : (v w : World) (before : List Claim) (id : List ℕ) → (is_kept id before ≡ true → resting_gate v (kept_sender id before) ≡ resting_gate w (kept_sender id before))
    → kept_entry w before id ≡ kept_entry v before id
entry_as v w before id same = by (is_kept id before) refl
  where
    by : (b : Bool) → is_kept id before ≡ b
        → cond {A = Option KeptSender} b (Some (record { client = id; sender = record { 0 = kept_sender id before }; gate = resting_gate w (kept_sender id before) })) None
        ≡ cond b (Some (record { client = id; sender = record { 0 = kept_sender id before }; gate = resting_gate v (kept_sender id before) })) None
    by true kept = λ i. Some (record { client = id; sender = record { 0 = kept_sender id before }; gate = sym (same kept) i })
    by false kept = refl

-- so are all where each sender that has begun is
pub same_clients : (w v : World) (before : List Claim) (clients : SendersState) → ((s : ℕ) → s < begun_count before → resting_gate v s ≡ resting_gate w s)
    → AreClaimed w before clients → AreClaimed v before clients
same_clients w v before clients same h = record {
  begun = h.begun;
  count = h.count;
  found = λ id. h.found id ∙ entry_as v w before id (λ kept. same (kept_sender id before) (kept_begun id before kept));
}

pub find_mapped : {X : Type 0} (p : X → Bool) (f : X → X) (xs : List X) → ((x : X) → p (f x) ≡ p x) → find p (map f xs) ≡ option_map f (find p xs)
find_mapped p f [] same = refl
find_mapped {X = X} p f (x ∷ xs) same =
    ap (λ (b : Bool). cond b (Some (f x)) (find p (map f xs))) (same x) ∙ (ap (λ (o : Option X). cond (p x) (Some (f x)) o) (find_mapped p f xs same) ∙ elim (p x) as (λ (b : Bool). cond b (Some (f x)) (option_map f (find p xs)) ≡ option_map f (cond b (Some x) (find p xs))) [ true ↦ refl | false ↦ refl ])

-- a client-id that isn't this one
other_id : (a b : List ℕ) → a ≢ b → bytes_eq a b ≡ false
other_id a b n = (elim (bytes_eq a b) as (λ (t : Bool). bytes_eq a b ≡ t → bytes_eq a b ≡ false) [ true ↦ λ e. absurd (n (same_octets a b e)) | false ↦ λ e. e ]) refl

same_id : (a b : List ℕ) → a ≡ b → bytes_eq a b ≡ true
same_id a b e = subst (λ (x : List ℕ). bytes_eq a x ≡ true) e (octets_pass a)

module _ (w v : World) (before : List Claim) (clients : SendersState) (c : ℕ) (h : AreClaimed w before clients) where
  -- who is kept under a client-id, before and after
  abbrev held : List ℕ → KeptSender
  held other = record { client = other; sender = record { 0 = kept_sender other before }; gate = resting_gate w (kept_sender other before) }

  abbrev later : List ℕ → ℕ → KeptSender
  later other m = record { client = other; sender = record { 0 = m }; gate = resting_gate v m }

  -- a sender that begins without a client-id
  begun_alone : UsesOne w v (begun_count before) (begun_count before) → AreClaimed v (record { connection = c; client = None } ∷ before) (after_claim None clients)
  begun_alone uses = record {
    begun = ap (λ (n : ℕ). n + 1) h.begun;
    count = ap (λ (ks : List KeptSender). length ks) (append-nil clients.kept) ∙ h.count;
    found = λ id. ap (λ (ks : List KeptSender). find (λ k. bytes_eq id k.client) ks) (append-nil clients.kept)
        ∙ (h.found id
        ∙ entry_as v w before id
        (λ kept. let l = kept_begun id before kept in uses.others (kept_sender id before) (λ e. absurd (omega (arith, l, e))) l));
  }

  -- one that begins with a client-id is kept, and in use
  begun_kept : (id : List ℕ) → is_kept id before ≡ false → UsesOne w v (begun_count before) (begun_count before)
      → AreClaimed v (record { connection = c; client = Some id } ∷ before) (Senders.with_new_sender (Some id) clients)
  begun_kept id new uses = record {
    begun = ap (λ (n : ℕ). n + 1) h.begun ∙ ap (λ (b : Bool). cond (not b) (begun_count before + 1) (begun_count before)) (sym new);
    count = length-append clients.kept (entry ∷ []) ∙ (ap (λ (n : ℕ). n + 1) h.count ∙ ap (λ (b : Bool). cond (not b) (kept_count before + 1) (kept_count before)) (sym new));
    found = λ other. find-append (λ k. bytes_eq other k.client) clients.kept (entry ∷ [])
        ∙ (ap (λ (o : Option KeptSender). option_or o (cond (bytes_eq other id) (Some entry) None)) (h.found other)
        ∙ each other (is_kept other before) refl (bytes_eq other id) refl);
  }
    where
      entry : KeptSender
      entry = Senders.new_kept id clients.begun

      n : ℕ
      n = begun_count before

      each : (other : List ℕ) (k : Bool) → is_kept other before ≡ k → (b : Bool) → bytes_eq other id ≡ b → option_or (cond k (Some (held other)) None) (cond b (Some entry) None)
          ≡ cond (b || k) (Some (later other (cond (b && not k) n (kept_sender other before)))) None
      each other true kept true is = absurd (true≢false (sym kept ∙ subst (λ (x : List ℕ). is_kept x before ≡ false) (sym (same_octets other id is)) new))
      each other true kept false is =
          let l = kept_begun other before kept in
          λ i. Some (record {
            client = other;
            sender = record { 0 = kept_sender other before };
            gate = sym (uses.others (kept_sender other before) (λ e. absurd (omega (arith, l, e))) l) i;
          })
      each other false kept true is =
          let same = sym (same_octets other id is) in
          λ i. Some (record {
            client = same i;
            sender = record { 0 = h.begun i };
            gate = sym (ap (λ (b : Bool). cond b None (Some (record { sender = record { 0 = n }; seq = (sender_at v n).seq; floor = (sender_at v n).floor }))) uses.used) i;
          })
      each other false kept false is = refl

  -- one that is gone on with is in use
  gone_on : (id : List ℕ) → is_kept id before ≡ true → UsesOne w v (begun_count before) (kept_sender id before)
      → AreClaimed v (record { connection = c; client = Some id } ∷ before) (Senders.with_in_use id clients)
  gone_on id old uses = record {
    begun = h.begun ∙ ap (λ (b : Bool). cond (not b) (begun_count before + 1) (begun_count before)) (sym old);
    count = length-map clients.kept (in_use_by id) ∙ (h.count ∙ ap (λ (b : Bool). cond (not b) (kept_count before + 1) (kept_count before)) (sym old));
    found = λ other. find_mapped (λ k. bytes_eq other k.client) (in_use_by id) clients.kept (λ k. ap (λ (x : List ℕ). bytes_eq other x) (client_stays k (bytes_eq id k.client)))
        ∙ (ap (λ (o : Option KeptSender). option_map (in_use_by id) o) (h.found other)
        ∙ each other (is_kept other before) refl (bytes_eq other id) refl);
  }
    where
      client_stays : (k : KeptSender) (b : Bool) → (cond b (record k { gate = None }) k).client ≡ k.client
      client_stays k true = refl
      client_stays k false = refl

      number_stays : (other : List ℕ) (b : Bool) → kept_sender other before ≡ cond (b && false) (begun_count before) (kept_sender other before)
      number_stays other true = refl
      number_stays other false = refl

      each : (other : List ℕ) (k : Bool) → is_kept other before ≡ k → (b : Bool) → bytes_eq other id ≡ b → option_map (in_use_by id) (cond k (Some (held other)) None)
          ≡ cond (b || k) (Some (later other (cond (b && not k) (begun_count before) (kept_sender other before)))) None
      each other true kept true is =
          let same = same_octets other id is in
          ap (λ (b : Bool). Some (cond b (record (held other) { gate = None }) (held other))) (same_id id other (sym same))
          ∙ (λ i. Some (record (held other) {
            gate = sym (ap (λ (b : Bool). cond b None (Some (record { sender = record { 0 = kept_sender other before }; seq = (sender_at v (kept_sender other before)).seq; floor = (sender_at v (kept_sender other before)).floor })))
                (ap (λ (x : List ℕ). is_in_use v (kept_sender x before)) same ∙ uses.used)) i;
          }))
      each other true kept false is =
          let apart : other ≢ id = λ e. true≢false (sym (same_id other id e) ∙ is) in
          ap (λ (b : Bool). Some (cond b (record (held other) { gate = None }) (held other))) (other_id id other (λ e. apart (sym e)))
          ∙ (λ i. Some (record (held other) {
            gate = sym (uses.others (kept_sender other before) (λ e. apart (kept_apart other id before kept old e)) (kept_begun other before kept)) i;
          }))
      each other false kept true is = absurd (true≢false (sym old ∙ subst (λ (x : List ℕ). is_kept x before ≡ false) (same_octets other id is) kept))
      each other false kept false is = refl

  -- after any claim
  pub after_it : (client : Option (List ℕ)) → UsesOne w v (begun_count before) (unwrap_or (claimed_sender client before) (begun_count before))
      → AreClaimed v (record { connection = c; client = client } ∷ before) (after_claim client clients)
  after_it None uses = begun_alone uses
  after_it (Some id) uses = by (is_kept id before) refl uses
    where
      by : (b : Bool) → is_kept id before ≡ b → UsesOne w v (begun_count before) (unwrap_or (cond b (Some (kept_sender id before)) None) (begun_count before))
          → AreClaimed v (record { connection = c; client = Some id } ∷ before) (after_claim (Some id) clients)
      by true old u =
          subst (λ (s : Bool). AreClaimed v (record { connection = c; client = Some id } ∷ before) (cond s (Senders.with_in_use id clients) (Senders.with_new_sender (Some id) clients)))
          (sym (ap (λ (o : Option KeptSender). is_some o) (h.found id) ∙ ap (λ (b : Bool). is_some {T = KeptSender} (cond b (Some (record { client = id; sender = record { 0 = kept_sender id before }; gate = resting_gate w (kept_sender id before) })) None)) old))
          (gone_on id old u)
      by false new u =
          subst (λ (s : Bool). AreClaimed v (record { connection = c; client = Some id } ∷ before) (cond s (Senders.with_in_use id clients) (Senders.with_new_sender (Some id) clients)))
          (sym (ap (λ (o : Option KeptSender). is_some o) (h.found id) ∙ ap (λ (b : Bool). is_some {T = KeptSender} (cond b (Some (record { client = id; sender = record { 0 = kept_sender id before }; gate = resting_gate w (kept_sender id before) })) None)) new))
          (begun_kept id new u)
