-- The tickets of an undecided transaction rise by topic and are of named topics: so they are those of its topics, in
-- their order.
use Rattle.delivery.proofs.Words.All.{◌≡◌, ◌≢◌, ℕ, ◌+◌, ◌<◌, ◌==◌, Bool, true, false, cond, nat_lt, ◌||◌, inl, inr, List, [], ◌∷◌, ◌++◌, map, set, Option, Some, None, refl, sym, ap, subst, ◌∙◌, arith, eq-eqb, ltb-true, ltb-false, false≢true, AllByRecursion, option_map, option_to_list, Topic, SentMessage, Stamp, row_at, ticket_rows, In, RisesBy, Slots, topics_of, names, ProposeFault, In-insert_cases, at_set, topics_rise, some_same, none_some, World, Undecided, SenderState, new_sender, sender_at, speaker, speaker_number, Move, move_refusal, undecided_at, insert_ticket, next_ticket, next_txn, commit_effect, propose_effect, Run, final_world, Connects, Commits, Leaves, Proposes, Decides, Withdraws, Cancels, Core, IsReached}
use Rattle.std.specs.List.{find}
use Rattle.mcast_txn.specs.Ballot.{slots_of_rows}
use Rattle.delivery.proofs.Words.Steps.{sender_in, not_given, at_push_two, Asks, asks_of, InEachCase, always, by_runs_moves}
use Rattle.delivery.proofs.Words.Changes.{by_world, same_or, differ}

-- ---- tickets that rise by topic

-- each is of a lower topic than those after it
abbrev pub Rising : List Stamp → Type 0
Rising [] = Unit {0}
Rising (a ∷ more) = ((b : Stamp) → In b more → a.topic.0 < b.topic.0) × Rising more

insert_rises : (a b : Stamp) (bs : List Stamp) (c : Bool) → nat_lt a.topic.0 b.topic.0 ≡ c → a.topic.0 ≢ b.topic.0 → Rising (b ∷ bs) → Rising (insert_ticket a bs)
    → Rising (cond c (a ∷ b ∷ bs) (b ∷ insert_ticket a bs))
insert_rises a b bs true e ne h g =
    let l = ltb-true a.topic.0 b.topic.0 e in ((λ d i. elim i [ inl q ↦ subst (λ (z : Stamp). a.topic.0 < z.topic.0) q l | inr j ↦ (let m = h.0 d j in omega arith) ]), h)
insert_rises a b bs false e ne h g =
    let l = ltb-false a.topic.0 b.topic.0 e in (
      (λ d i. elim (In-insert_cases _ d a bs i) [
        | inl q ↦ subst (λ (z : Stamp). b.topic.0 < z.topic.0) q (omega arith)
        | inr j ↦ h.0 d j
      ]),
      g,
    )

rises_insert : (a : Stamp) (bs : List Stamp) → ((g : Stamp) → In g bs → a.topic.0 ≢ g.topic.0) → Rising bs → Rising (insert_ticket a bs)
rises_insert a [] ne h = ((λ b i. absurd i), tt)
rises_insert a (b ∷ bs) ne h = insert_rises a b bs (nat_lt a.topic.0 b.topic.0) refl (ne b (inl refl)) h (rises_insert a bs (λ g i. ne g (inr i)) h.1)

-- the tickets of an undecided transaction rise, and its SENDs name their topics
pub record Given (f : Undecided) : Type 0 where
  pub rising : Rising f.given
  pub named : (a : Stamp) → In a f.given → names a.topic (topics_of f.txn.sends) ≡ true

-- ---- each move

abbrev AreGiven : List SenderState → Type 0
AreGiven senders = (s : ℕ) (f : Undecided) → (sender_in senders s).flight ≡ Some f → Given f

written : (senders : List SenderState) (t : ℕ) (x : SenderState) → ((f : Undecided) → x.flight ≡ Some f → Given f) → AreGiven senders → AreGiven (set senders t x)
written senders t x g h s f = at_set (λ (z : SenderState). z.flight ≡ Some f → Given f) senders t s x new_sender (λ k. g f) (h s f)

flown : (w : World) (c : ℕ) (first : SentMessage) (others : List SentMessage) → AreGiven w.senders → AreGiven (commit_effect w c (first ∷ others)).senders
flown w c first others h =
    let x = speaker w c in let new : Undecided = record { txn = next_txn w c (first ∷ others); given = []; mark = None } in
    written w.senders (speaker_number w c) (record x { seq = x.seq + 1; flight = Some new })
    (λ f e. subst Given (some_same new f e) (record { rising = tt; named = λ a i. absurd i })) h

proposed : (w : World) (c : ℕ) (t : Topic) (o : Option ProposeFault) → Asks w c t → AreGiven w.senders → AreGiven (propose_effect w c t o).senders
proposed w c t None asks h =
    let f = undecided_at w c in let s = speaker_number w c in let g : Given f = h s f (asks.flying.is ∙ ap Some (sym asks.flying.at)) in
    let new : Undecided = record f { given = insert_ticket (next_ticket w c t) f.given } in
    written w.senders s (record (speaker w c) { flight = Some new })
    (λ y e. subst Given (some_same new y e) (record {
      rising = rises_insert (next_ticket w c t) f.given (not_given t f.given asks.unheard) g.rising;
      named = λ a i. elim (In-insert_cases _ a (next_ticket w c t) f.given i) [
        | inl q ↦ subst (λ (z : Stamp). names z.topic (topics_of f.txn.sends) ≡ true) q asks.named
        | inr j ↦ g.named a j
      ];
    })) h
proposed w c t (Some fault) asks h =
    let f = undecided_at w c in let s = speaker_number w c in let g : Given f = h s f (asks.flying.is ∙ ap Some (sym asks.flying.at)) in
    let new : Undecided = record f { mark = Some fault } in
    written w.senders s (record (speaker w c) { flight = Some new }) (λ y e. subst Given (some_same new y e) (record { rising = g.rising; named = g.named })) h

opened : (w : World) → AreGiven w.senders → AreGiven (w.senders ++ new_sender ∷ [])
opened w h s f = at_push_two (λ (z : SenderState). z.flight ≡ Some f → Given f) w.senders s new_sender new_sender (λ k e. none_some f e) (λ ne. h s f)

happens : (r : Run) (e : Move) → AreGiven (final_world r).senders → move_refusal (final_world r) e ≡ None → InEachCase (λ v o. AreGiven v.senders) (final_world r) e
happens r (Connects c None) h n = always (opened (final_world r) h)
happens r (Commits c sends) h n = (h, λ k. flown (final_world r) c k.0 k.1 h)
happens r (Leaves c) h n = (h, λ s. (h, λ k. h))
happens r (Proposes c t memory) h n = let w = final_world r in let asks = asks_of w c t memory n in (proposed w c t None asks h, λ k. proposed w c t (Some k.it) asks h)
happens r (Decides c) h n = let w = final_world r in always (written w.senders (speaker_number w c) _ (λ f e. none_some f e) h)
happens r (Withdraws c) h n = let w = final_world r in always (written w.senders (speaker_number w c) _ (λ f e. none_some f e) h)
happens r (Cancels c t) h n = let w = final_world r in (h, λ k. written w.senders (speaker_number w c) _ (h (speaker_number w c)) h)
happens r _ h n = always h

-- after each run they are so
pub given : (r : Run) (s : ℕ) (f : Undecided) → (sender_in (final_world r).senders s).flight ≡ Some f → Given f
given = by_runs_moves (λ past w. AreGiven w.senders) (λ capacity log_limit clocks s f e. none_some f e) (λ past w why h. h) happens

-- ---- those of its topics

-- each topic with the number of its ticket, if it gave one
abbrev slots : List Topic → List Stamp → Slots ℕ
slots ts given = map (λ t. (t, row_at t given)) ts

pub all_in : {X : Type 0} (P : X → Type 0) (xs : List X) → AllByRecursion P xs → (x : X) → In x xs → P x
all_in P [] h x i = absurd i
all_in P (y ∷ ys) h x (inl e) = subst P e h.0
all_in P (y ∷ ys) h x (inr i) = all_in P ys h.1 x i

row_none : (t : Topic) (bs : List Stamp) → ((b : Stamp) → In b bs → b.topic.0 ≢ t.0) → row_at t bs ≡ None
row_none t [] h = refl
row_none t (b ∷ bs) h =
    ap (λ (c : Bool). option_map (λ (row : Stamp). row.n) (cond c (Some b) (find (λ (row : Stamp). row.topic.0 == t.0) bs))) (differ b.topic.0 t.0 (h b (inl refl)))
    ∙ row_none t bs (λ d i. h d (inr i))

skipped : (a : Stamp) (more : List Stamp) (us : List Topic) → ((u : Topic) → In u us → a.topic.0 ≢ u.0) → slots us (a ∷ more) ≡ slots us more
skipped a more [] h = refl
skipped a more (u ∷ us) h =
    ap (λ (c : Bool). (u, option_map (λ (row : Stamp). row.n) (cond c (Some a) (find (λ (row : Stamp). row.topic.0 == u.0) more))) ∷ slots us (a ∷ more)) (differ a.topic.0 u.0 (h u (inl refl)))
    ∙ ap (λ (z : Slots ℕ). (u, row_at u more) ∷ z) (skipped a more us (λ v i. h v (inr i)))

-- a topic that is named beside another is among the others
named_later : (x t : Topic) (us : List Topic) → x.0 ≢ t.0 → names x (t ∷ us) ≡ true → names x us ≡ true
named_later x t us ne e = ap (λ (b : Bool). b || names x us) (sym (differ t.0 x.0 (λ d. ne (sym d)))) ∙ e

above : (m : ℕ) (x : Topic) (us : List Topic) → ((u : Topic) → In u us → m < u.0) → names x us ≡ true → m < x.0
above m x [] h e = absurd (false≢true e)
above m x (u ∷ us) h e = elim (same_or x.0 u.0) [
  | inl d ↦ (let l = h u (inl refl) in omega arith)
  | inr ne ↦ above m x us (λ v i. h v (inr i)) (named_later x u us ne e)
]

none_given : (ts : List Topic) → ticket_rows (slots ts []) ≡ []
none_given [] = refl
none_given (t ∷ ts) = none_given ts

abbrev Named : List Topic → List Stamp → Type 0
Named ts given = (a : Stamp) → In a given → names a.topic ts ≡ true

-- what its topics gave, in their order, are the tickets
rows_are : (ts : List Topic) (given : List Stamp) → RisesBy (λ (u : Topic). u.0) ts → Rising given → Named ts given → ticket_rows (slots ts given) ≡ given
rows_are [] [] h g n = refl
rows_are [] (a ∷ more) h g n = absurd (false≢true (n a (inl refl)))
rows_are (t ∷ ts) [] h g n = none_given (t ∷ ts)
rows_are (t ∷ ts) (a ∷ more) h g n =
    let low : (u : Topic) → In u ts → t.0 < u.0 = all_in (λ (u : Topic). t.0 < u.0) ts h.0 in
    elim (same_or a.topic.0 t.0) [
      | inl e ↦ (let topic : a.topic ≡ t = ap (λ (m : ℕ). record { 0 = m }) e in
          ap (λ (c : Bool). option_to_list (option_map (λ (m : ℕ). record { n = m; topic = t }) (option_map (λ (row : Stamp). row.n) (cond c (Some a) (find (λ (row : Stamp). row.topic.0 == t.0) more))))
          ++ ticket_rows (slots ts (a ∷ more))) (eq-eqb a.topic.0 t.0 e)
          ∙ (ap (λ (u : Topic). record { n = a.n; topic = u } ∷ ticket_rows (slots ts (a ∷ more))) (sym topic)
          ∙ (ap (λ (z : Slots ℕ). a ∷ ticket_rows z) (skipped a more ts (λ u i. (λ d. (let l = low u i in absurd (omega arith)))))
          ∙ ap (λ (z : List Stamp). a ∷ z)
          (rows_are ts more h.1 g.1 (λ b i. named_later b.topic t ts (λ d. (let l = g.0 b i in absurd (omega arith))) (n b (inr i)))))))
      | inr ne ↦ (let l : t.0 < a.topic.0 = above t.0 a.topic ts low (named_later a.topic t ts ne (n a (inl refl))) in
          let far : (b : Stamp) → In b (a ∷ more) → b.topic.0 ≢ t.0 = λ b i. elim i [
            | inl q ↦ subst (λ (z : Stamp). z.topic.0 ≢ t.0) q ne
            | inr j ↦ (λ d. (let m = g.0 b j in absurd (omega arith)))
          ] in
          ap (λ (o : Option ℕ). option_to_list (option_map (λ (m : ℕ). record { n = m; topic = t }) o) ++ ticket_rows (slots ts (a ∷ more))) (row_none t (a ∷ more) far)
          ∙ rows_are ts (a ∷ more) h.1 g (λ b i. named_later b.topic t ts (far b i) (n b i)))
    ]

-- the tickets of an undecided transaction are those that its topics gave, in their order
pub tickets_are : (k : Core) (s : ℕ) (f : Undecided) → IsReached k → (sender_at k.world s).flight ≡ Some f
    → ticket_rows (map (λ t. (t, row_at t f.given)) (topics_of f.txn.sends)) ≡ f.given
tickets_are k s f reached =
    by_world (λ w. (sender_at w s).flight ≡ Some f → ticket_rows (map (λ t. (t, row_at t f.given)) (topics_of f.txn.sends)) ≡ f.given) k reached
    (λ r e. (let g = given r s f e in rows_are (topics_of f.txn.sends) f.given (topics_rise f.txn.sends) g.rising g.named))

-- the rows of a decision are those that its slots give
pub rows_of_slots : (rows : List Stamp) → ticket_rows (slots_of_rows rows) ≡ rows
rows_of_slots [] = refl
rows_of_slots (a ∷ more) = ap (λ (z : List Stamp). a ∷ z) (rows_of_slots more)

-- so where each topic gave one, they are the rows of a decision
pub complete_is : (k : Core) (s : ℕ) (f : Undecided) (rows : List Stamp) → IsReached k → (sender_at k.world s).flight ≡ Some f
    → slots_of_rows rows ≡ map (λ t. (t, row_at t f.given)) (topics_of f.txn.sends) → rows ≡ f.given
complete_is k s f rows reached flight same = sym (rows_of_slots rows) ∙ (ap ticket_rows same ∙ tickets_are k s f reached flight)
