-- What a ballot answers, and what it then stores.
use Rattle.std.proofs.Common.{◌≡◌, ◌≢◌, ◌<◌, ◌≤◌, ◌+◌, ℕ, zero, suc, Bool, true, false, not, List, [], ◌∷◌, ◌++◌, map, length, get_or, set, take, drop, replicate, Option, Some, None, Ok, Err, if◌then◌else◌, refl, sym, ap, ◌∙◌, arith}
use Rattle.std.proofs.lemmas.Bool.{true≢false, false≢true}
use Rattle.std.proofs.lemmas.List.{length-set, length-map, length-replicate, map-id, append-nil, map_more, flat_map_more, take_all, take_more_set, drop-set-lt, drop-drop, get_or-drop}
use Rattle.std.proofs.lemmas.Slice.Zip.{length-zip, get_or-zip, firsts-zip}
use Rattle.std.specs.List.{AllByRecursion, HoldsAt, list_any, zip}
use Rattle.std.specs.Option.{is_none, option_map, option_to_list}
use Rattle.mcast_txn.specs.declared.id.Topic.{Topic}
use Rattle.mcast_txn.specs.declared.id.TxnId.{TxnId}
use Rattle.mcast_txn.specs.declared.fault.BallotFault.TheVariants.{NotNamed, Twice}
use Rattle.mcast_txn.specs.declared.stamp.Stamp.{Stamp}
use Rattle.mcast_txn.specs.declared.ballot.ticket.Ticket.{Ticket}
use Rattle.mcast_txn.specs.Ballot.{BallotState, put_answer, slot_answer, slots_of_rows, ticket_rows}
use Rattle.mcast_txn.specs.Ids.{same_id}
use Rattle.mcast_txn.specs.Inner.RowIndex.{IsRowOf, HasNoRow}
use Rattle.mcast_txn.specs.Inner.TicketSlots.{AreTickets, ticket_slot, ticket_slots, unset_row}
use Rattle.mcast_txn.specs.Slots.{slot_at, with_slot, free_slots}
use Rattle.mcast_txn.specs.Lists.{RisesBy}
use Rattle.mcast_txn.specs.Stamp.{zero_stamp}
use Rattle.mcast_txn.proofs.Rising.{all-set, all-unmap, all_at, rises_alike}
use Rattle.mcast_txn.proofs.SlotLemmas.{slot_at-index, slot_at-none, with_slot-set}

-- a bool whose negation is false is true
pub was_true : (b : Bool) → false ≡ not b → b ≡ true
was_true true h = refl
was_true false h = absurd (false≢true h)

abbrev state_of : TxnId → List Stamp → List Bool → BallotState
state_of id rows given = record { id = id; tickets = ticket_slots rows given }

answer_case : (b : Bool) (o : Option (Option ℕ)) → o ≡ None → (if b then slot_answer o else Err NotNamed) ≡ Err NotNamed
answer_case true o h = rw h refl
answer_case false o h = refl

-- writes of two lists at one index
zip-set : {X Y : Type 0} (xs : List X) (ys : List Y) (i : ℕ) (x : X) (y : Y) → zip (set xs i x) (set ys i y) ≡ set (zip xs ys) i (x, y)
zip-set [] ys i x y = refl
zip-set (z ∷ xs) [] zero x y = refl
zip-set (z ∷ xs) [] (suc i) x y = refl
zip-set (z ∷ xs) (w ∷ ys) zero x y = refl
zip-set (z ∷ xs) (w ∷ ys) (suc i) x y = ap (λ rest. (z, w) ∷ rest) (zip-set xs ys i x y)

-- rows, and for each whether its number was given
module _ (rows : List Stamp) (given : List Bool) (known : length given ≡ length rows) where
  pairs_rise : RisesBy (λ row. row.topic.0) rows → RisesBy (λ row. (ticket_slot row).0.0) (zip rows given)
  pairs_rise rising = rises_alike (λ (row : Stamp). row.topic.0) (λ (row : Stamp). row) (λ (row : Stamp × Bool). row.0) rows (zip rows given) (map-id rows ∙ sym (firsts-zip rows given known)) rising

  many_pairs : length (zip rows given) ≡ length rows
  many_pairs = omega (arith, length-zip rows given, known)

  -- a topic without a row isn't named
  pub answer_not_named : (id : TxnId) (ticket : Ticket) → HasNoRow ticket.topic rows → Err NotNamed ≡ put_answer (state_of id rows given) ticket
  answer_not_named id ticket none =
      let others : AllByRecursion (λ row. row.0.topic.0 ≢ ticket.topic.0) (zip rows given) = all-unmap (λ (row : Stamp). row.topic.0 ≢ ticket.topic.0) (λ (row : Stamp × Bool). row.0) (zip rows given) (rw (firsts-zip rows given known) none.others) in
      sym (answer_case (same_id ticket.id id) (slot_at ticket.topic (ticket_slots rows given)) (slot_at-none ticket_slot (zip rows given) ticket.topic others))

  -- at the topic's row
  module _ (id : TxnId) (rising : RisesBy (λ row. row.topic.0) rows) (ticket : Ticket) (i : ℕ) (at : IsRowOf ticket.topic rows i) where
    pair : (d : Stamp) (b : Bool) → get_or (zip rows given) i (d, b) ≡ (get_or rows i d, get_or given i b)
    pair d b = get_or-zip rows given i (d, b) at.in_range (omega (arith, at.in_range, known))

    stands : (d : Stamp) (b : Bool) → slot_at ticket.topic (ticket_slots rows given) ≡ Some (if get_or given i b then Some (get_or rows i d).n else None)
    stands d b =
        let same : (get_or (zip rows given) i (d, b)).0.topic ≡ ticket.topic = ap (λ (row : Stamp × Bool). row.0.topic) (pair d b) ∙ at.has_topic d in
        slot_at-index ticket_slot (zip rows given) i (d, b) ticket.topic (pairs_rise rising) (omega (arith, many_pairs, at.in_range)) same ∙ ap (λ (row : Stamp × Bool). Some (ticket_slot row).1) (pair d b)

    -- a topic that gave a number answers Twice
    pub answer_twice : (d : Stamp) (b : Bool) → same_id ticket.id id ≡ true → get_or given i b ≡ true → Err Twice ≡ put_answer (state_of id rows given) ticket
    answer_twice d b same full = rw (same, stands d b, full) refl

    -- one that gave none gives this
    pub answer_ok : (d : Stamp) (b : Bool) → same_id ticket.id id ≡ true → get_or given i b ≡ false → Ok tt ≡ put_answer (state_of id rows given) ticket
    answer_ok d b same free = rw (same, stands d b, free) refl

    abbrev row : Stamp
    row = record { n = ticket.n; topic = ticket.topic }

    -- its row then has the number
    pub tickets-set : ticket_slots (set rows i row) (set given i true) ≡ with_slot ticket.topic (Some ticket.n) (ticket_slots rows given)
    tickets-set =
        let same : (get_or (zip rows given) i (row, true)).0.topic ≡ ticket.topic = ap (λ (row : Stamp × Bool). row.0.topic) (pair row true) ∙ at.has_topic row in
        ap (map ticket_slot) (zip-set rows given i row true) ∙ with_slot-set ticket_slot (zip rows given) i (row, true) (row, true) ticket.topic (Some ticket.n) (pairs_rise rising) (omega (arith, many_pairs, at.in_range)) same refl

    -- a number that wasn't given is 0
    pub none_below : AllByRecursion (λ row. row.1 ≡ false → row.0.n ≡ 0) (zip rows given) → HoldsAt (λ is_given. is_given ≡ false) given i → HoldsAt (λ old. old.n ≤ ticket.n) rows i
    none_below all free d =
        let unset : get_or given i false ≡ false → (get_or rows i d).n ≡ 0 = rw (pair d false) at (all_at (λ (row : Stamp × Bool). row.0.n) (λ row. row.1 ≡ false → row.0.n ≡ 0) (zip rows given) i (d, false) all (omega (arith, many_pairs, at.in_range))) in
        omega (arith, unset (free false))

  -- the tickets after a number was given
  pub tickets_kept : (i : ℕ) (row : Stamp) → AreTickets rows given → AreTickets (set rows i row) (set given i true)
  tickets_kept i row are = record {
    known = rw (length-set given i true, length-set rows i row) known;
    unset = rw (zip-set rows given i row true) (all-set (λ row. row.1 ≡ false → row.0.n ≡ 0) (zip rows given) i (row, true) are.unset (λ none. absurd (true≢false none)));
  }

-- a new ballot has each of its topics
pub tickets_free : (topics : List Topic) → ticket_slots (map unset_row topics) (replicate (length topics) false) ≡ free_slots topics
tickets_free [] = refl
tickets_free (t ∷ topics) = ap (λ rest. (t, None) ∷ rest) (tickets_free topics)

pairs_unset : (topics : List Topic) → AllByRecursion (λ row. row.1 ≡ false → row.0.n ≡ 0) (zip (map unset_row topics) (replicate (length topics) false))
pairs_unset [] = tt
pairs_unset (t ∷ topics) = ((λ none. refl), pairs_unset topics)

-- and no number
pub tickets_new : (topics : List Topic) → AreTickets (map unset_row topics) (replicate (length topics) false)
tickets_new topics = record {
  known = length-replicate (length topics) false ∙ sym (length-map topics unset_row);
  unset = pairs_unset topics;
}

-- whether a topic gave no number
pub tickets_lack : (rows : List Stamp) (given : List Bool) → length given ≡ length rows → list_any (λ s. is_none s.1) (ticket_slots rows given) ≡ list_any not given
tickets_lack [] [] known = refl
tickets_lack [] (b ∷ given) known = absurd (omega arith)
tickets_lack (row ∷ rows) [] known = absurd (omega arith)
tickets_lack (row ∷ rows) (true ∷ given) known = tickets_lack rows given (omega arith)
tickets_lack (row ∷ rows) (false ∷ given) known = refl

-- where each topic gave its number, the rows are all of them
pub all_given : (rows : List Stamp) (given : List Bool) → length given ≡ length rows → list_any not given ≡ false → slots_of_rows rows ≡ ticket_slots rows given
all_given [] given known h = refl
all_given (row ∷ rows) [] known h = absurd (omega arith)
all_given (row ∷ rows) (true ∷ given) known h = ap (λ rest. (row.topic, Some row.n) ∷ rest) (all_given rows given (omega arith) h)
all_given (row ∷ rows) (false ∷ given) known h = absurd (true≢false h)

-- of the first i rows those whose numbers were given are in front, and from i on the rows are as they were
pub record Gathers (rows now : List Stamp) (given : List Bool) (many i : ℕ) : Type 0 where
  pub front : take many now ≡ ticket_rows (map ticket_slot (take i (zip rows given)))
  pub rest : drop i now ≡ drop i rows
  pub behind : many ≤ i
  pub long : length now ≡ length rows

abbrev row_of : Topic × Option ℕ → List Stamp
row_of s = option_to_list (option_map (λ n. record { n = n; topic = s.0 }) s.1)

module _ (rows now : List Stamp) (given : List Bool) (known : length given ≡ length rows) (many i : ℕ) (gathers : Gathers rows now given many i) (h : i < length given) where
  -- the row at i is as it was
  same_row : (d : Stamp) → get_or now i d ≡ get_or rows i d
  same_row d =
      let here : i + 0 ≡ i = omega arith in
      rw here at (sym (get_or-drop i now 0 d) ∙ ap (λ rest. get_or rest 0 d) gathers.rest ∙ get_or-drop i rows 0 d)

  rest_more : drop (i + 1) now ≡ drop (i + 1) rows
  rest_more = sym (drop-drop 1 i now) ∙ ap (drop 1) gathers.rest ∙ drop-drop 1 i rows

  -- the rows of the first i + 1
  rows_more : (d : Stamp) (b : Bool) → ticket_rows (map ticket_slot (take (i + 1) (zip rows given))) ≡ take many now ++ row_of (ticket_slot (get_or rows i d, get_or given i b))
  rows_more d b =
      let more = map_more ticket_slot (zip rows given) i (d, b) (omega (arith, many_pairs rows given known, known)) in
      let pair = get_or-zip rows given i (d, b) (omega (arith, known)) h in
      ap ticket_rows more ∙ sym (flat_map_more row_of [] (map ticket_slot (take i (zip rows given))) (ticket_slot (get_or (zip rows given) i (d, b))))
      ∙ (ap (λ front. front ++ row_of (ticket_slot (get_or (zip rows given) i (d, b)))) (sym gathers.front) ∙ ap (λ (row : Stamp × Bool). take many now ++ row_of (ticket_slot row)) pair)

  -- a number was given: its row goes to the others
  pub gathers_more : (d : Stamp) (b : Bool) → get_or given i b ≡ true → Gathers rows (set now many (get_or now i d)) given (many + 1) (i + 1)
  gathers_more d b full =
      let x = get_or now i d in
      let pair : ◌≡◌ {A = Stamp × Bool} (get_or rows i d, get_or given i b) (x, true) = rw (same_row d, full) refl in
      record {
        front = take_more_set now many x (omega (arith, gathers.behind, gathers.long, known)) ∙ sym (rows_more d b ∙ ap (λ (row : Stamp × Bool). take many now ++ row_of (ticket_slot row)) pair);
        rest = drop-set-lt (i + 1) now many x (omega (arith, gathers.behind)) ∙ rest_more;
        behind = omega (arith, gathers.behind);
        long = length-set now many x ∙ gathers.long;
      }

  -- none was given: its row stays behind
  pub gathers_same : (b : Bool) → get_or given i b ≡ false → Gathers rows now given many (i + 1)
  gathers_same b free =
      let none : take many now ++ row_of (ticket_slot (get_or rows i zero_stamp, get_or given i b)) ≡ take many now = rw free (append-nil (take many now)) in
      record {
        front = sym (rows_more zero_stamp b ∙ none);
        rest = rest_more;
        behind = omega (arith, gathers.behind);
        long = gathers.long;
      }

-- nothing was looked at
pub gathers_none : (rows : List Stamp) (given : List Bool) → Gathers rows rows given 0 0
gathers_none rows given = record { front = refl; rest = refl; behind = omega arith; long = refl }

-- all rows were looked at
pub gathers_all : (rows now : List Stamp) (given : List Bool) (many i : ℕ) → length given ≡ length rows → Gathers rows now given many i → length given ≤ i → take many now ≡ ticket_rows (ticket_slots rows given)
gathers_all rows now given many i known gathers h =
    gathers.front ∙ ap (λ pairs. ticket_rows (map ticket_slot pairs)) (take_all i (zip rows given) (omega (arith, many_pairs rows given known)))
