-- The topics of a line, read one after the other.
use Rattle.std.proofs.Common.{◌≡◌, ℕ, List, [], ◌∷◌, ◌++◌, Option, Some, None, refl, sym, ap, ◌∙◌, append_assoc}
use Rattle.std.specs.Option.{option_map}
use Rattle.mcast_txn.specs.declared.id.Topic.{Topic}
use Rattle.trace_audit.specs.Parsing.{cut}
use Rattle.trace_audit.specs.Inner.Reading.{text_parts, topics_from, spelled_topic, ◌>>=◌}
use Rattle.trace_audit.proofs.Cuts.{parts_cut, parts_uncut}

-- the topics of these parts, behind those that were read
abbrev pub read_after : List Topic → List (List ℕ) → Option (List Topic)
read_after done parts = option_map (λ ts. done ++ ts) (topics_from parts)

read_cons : (done : List Topic) (part : List ℕ) (parts : List (List ℕ)) (t : Topic) → spelled_topic part ≡ Some t
    → read_after done (part ∷ parts) ≡ read_after (done ++ t ∷ []) parts
read_cons done part parts t e = rw e (go (topics_from parts))
  where
    go : (o : Option (List Topic)) → option_map (λ (ts : List Topic). done ++ ts) (o >>= λ ts. Some (t ∷ ts)) ≡ option_map (λ (ts : List Topic). (done ++ t ∷ []) ++ ts) o
    go None = refl
    go (Some ts) = ap Some (sym (append_assoc done (t ∷ []) ts))

-- another topic
pub topic_read : (done : List Topic) (text word after : List ℕ) (t : Topic) (all : Option (List Topic)) → cut 44 text ≡ Some (word, after) → spelled_topic word ≡ Some t
    → read_after done (text_parts 44 text) ≡ all → read_after (done ++ t ∷ []) (text_parts 44 after) ≡ all
topic_read done text word after t all e h k = sym (ap (read_after done) (parts_cut 44 text (word, after) e) ∙ read_cons done word (text_parts 44 after) t h) ∙ k

-- none
pub topic_unread : (done : List Topic) (text word after : List ℕ) (all : Option (List Topic)) → cut 44 text ≡ Some (word, after) → spelled_topic word ≡ None
    → read_after done (text_parts 44 text) ≡ all → None ≡ all
topic_unread done text word after all e h k = sym (ap (read_after done) (parts_cut 44 text (word, after) e) ∙ rw h refl) ∙ k

-- the last
pub last_read : (done : List Topic) (text : List ℕ) (t : Topic) (all : Option (List Topic)) → cut 44 text ≡ None → spelled_topic text ≡ Some t
    → read_after done (text_parts 44 text) ≡ all → Some (done ++ t ∷ []) ≡ all
last_read done text t all e h k = sym (ap (read_after done) (parts_uncut 44 text e) ∙ rw h refl) ∙ k

-- the last, where it spells no topic
pub last_unread : (done : List Topic) (text : List ℕ) (all : Option (List Topic)) → cut 44 text ≡ None → spelled_topic text ≡ None
    → read_after done (text_parts 44 text) ≡ all → None ≡ all
last_unread done text all e h k = sym (ap (read_after done) (parts_uncut 44 text e) ∙ rw h refl) ∙ k
