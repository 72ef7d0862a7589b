-- The topics that a core begins with.
use Rattle.std.specs.Prelude.{◌≡◌, ◌≢◌, ℕ, ◌<◌, false, List, [], length}
use Rattle.stomp_session.specs.Names.{is_known}
pub use Rattle.stomp_session.specs.Names.{max_topics}

-- the topics' names, in the order of their numbers, and the numbers that their clocks begin at
pub record TopicList : Type 0 where
  pub names : List (List ℕ)
  pub clocks : List ℕ

-- no topics
abbrev pub no_topics : TopicList
no_topics = record { names = []; clocks = [] }

-- A topic of this name may be added: the name isn't empty, no topic has it, and there is room for one more.
-- So beside A alone, B may be, and neither A nor the empty name.
pub record MayAdd (name : List ℕ) (topics : TopicList) : Type 0 where
  pub named : name ≢ []
  pub new : is_known name topics.names ≡ false
  pub room : length topics.names < max_topics
