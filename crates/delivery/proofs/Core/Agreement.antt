-- Of a played row: its steps tell what its machine answered, and its report is what they tell.
use Rattle.delivery.proofs.Words.All.{ℕ, ◌+◌, Bool, true, false, List, [], ◌∷◌, ◌++◌, map, length, list_all, flat_map, bytes_eq, ◌&&◌, Topic, TxnId, Stamp, zero_stamp, LogRow, Item, last_stamp, due, log_row, Answer, commits_of, delivered_items, QueueReport, Report, account_of, released_log, Core, report_of, log_in, each_number, reported_begun}
use Rattle.delivery.proofs.Core.ShownReadings.{shows_reading}
use Rattle.delivery.specs.Core.Answered.{begun_in}
use Rattle.delivery.proofs.Core.Acts.{Act, machine_account, played, topic}

-- ---- plain numbers of each

-- the sender and the sequence number of an id
abbrev pub id_numbers : TxnId → List ℕ
id_numbers id = id.sender.0 ∷ id.seq ∷ []

-- the number and the topic of a stamp
abbrev pub stamp_numbers : Stamp → List ℕ
stamp_numbers s = s.n ∷ s.topic.0 ∷ []

-- an item's id and stamp, and of each of its SENDs the index, the count of headers and the body
abbrev pub item_numbers : Item → List ℕ
item_numbers i = id_numbers i.id ++ stamp_numbers i.stamp ++ flat_map (λ p. p.index ∷ length p.headers ∷ p.body) i.sends

-- a row's id, stamp and topics
abbrev pub row_numbers : LogRow → List ℕ
row_numbers r = id_numbers r.id ++ stamp_numbers r.stamp ++ map (λ t. t.0) r.topics

-- of a subscription that began: its number, its topic, and the stamp that it began at
abbrev pub begun_numbers : ℕ × Topic × Stamp → List ℕ
begun_numbers b = b.0 ∷ b.1.0 ∷ stamp_numbers b.2

-- the kind of an answer, and the numbers of what it says, but for the reason of a failure or refusal
abbrev pub answer_numbers : Answer → List ℕ
answer_numbers (Answer.Begun txn) = 1 ∷ (id_numbers txn.id ++ flat_map (λ s. s.topic.0 ∷ length s.headers ∷ s.body) txn.sends)
answer_numbers (Answer.Subscribed s c t from) = 2 ∷ s ∷ c ∷ t.0 ∷ stamp_numbers from
answer_numbers (Answer.Unsubscribed s to) = 3 ∷ s ∷ stamp_numbers to
answer_numbers (Answer.Leaving c) = 4 ∷ c ∷ []
answer_numbers (Answer.Error c) = 5 ∷ c ∷ []
answer_numbers (Answer.Gone c) = 6 ∷ c ∷ []
answer_numbers (Answer.Ticket id ticket) = 7 ∷ (id_numbers id ++ stamp_numbers ticket)
answer_numbers (Answer.Failed id why) = 8 ∷ id_numbers id
answer_numbers (Answer.Decided id stamp) = 9 ∷ (id_numbers id ++ stamp_numbers stamp)
answer_numbers (Answer.Withdrawn id c) = 10 ∷ c ∷ id_numbers id
answer_numbers (Answer.Cancelled id t) = 11 ∷ t.0 ∷ id_numbers id
answer_numbers (Answer.Learnt id t) = 12 ∷ t.0 ∷ id_numbers id
answer_numbers (Answer.Released t id) = 13 ∷ t.0 ∷ id_numbers id
answer_numbers (Answer.Turned t count) = 14 ∷ t.0 ∷ count ∷ []
answer_numbers (Answer.Handed s item) = 15 ∷ s ∷ item_numbers item
answer_numbers Answer.Done = 16 ∷ []
answer_numbers (Answer.Opened c) = 18 ∷ c ∷ []
answer_numbers (Answer.Refused why) = 17 ∷ []

-- the lists have the same numbers, one by one
abbrev pub alike : List (List ℕ) → List (List ℕ) → Bool
alike [] [] = true
alike [] (y ∷ ys) = false
alike (x ∷ xs) [] = false
alike (x ∷ xs) (y ∷ ys) = bytes_eq x y && alike xs ys

-- ---- what agrees

-- a queue is what is due, and what was handed on is what Takes handed
abbrev pub is_due : List Answer → Report → ℕ → QueueReport → Bool
is_due told r s q =
    alike (map item_numbers q.queued) (map item_numbers (due (commits_of told) q.span (last_stamp zero_stamp (log_in r q.span.topic))))
    && alike (map item_numbers q.handed) (map item_numbers (delivered_items s told))

-- of each subscription from number i on: whether its queue is what is due, and it delivered what Takes gave
abbrev pub are_due : List Answer → Report → ℕ → List QueueReport → List Bool
are_due told r i [] = []
are_due told r i (q ∷ qs) = is_due told r i q ∷ are_due told r (i + 1) qs

-- the steps show what was read, tell what the machine answered, and the report is what they tell
abbrev pub agreements_of : Core → List Answer → List Bool
agreements_of k heard =
    let told = account_of k.names k.steps in let r = report_of k in
    list_all shows_reading k.steps
    ∷ alike (map answer_numbers told) (map answer_numbers heard)
    ∷ alike (map row_numbers r.commits) (map (λ x. row_numbers (log_row x)) (commits_of told))
    ∷ list_all (λ b. b) (each_number (λ t. alike (map row_numbers (log_in r (topic t))) (map row_numbers (released_log (topic t) told))) 0 r.logs)
    ∷ alike (map begun_numbers (reported_begun 0 r.subscriptions)) (map begun_numbers (begun_in told))
    ∷ list_all (λ b. b) (are_due told r 0 r.subscriptions) ∷ []

-- the same of a row
abbrev pub agreements : Core → List Act → List Bool
agreements start acts = agreements_of (played start acts) (machine_account (start, []) acts)

-- all of it
abbrev pub all_agree : List Bool
all_agree = true ∷ true ∷ true ∷ true ∷ true ∷ true ∷ []
