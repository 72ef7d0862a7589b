-- The world in which a frame's destination has its topic: but for that topic it is the world of before.
use Rattle.delivery.proofs.Words.All.{◌≡◌, ℕ, Bool, true, false, cond, not, ◌&&◌, List, [], ◌∷◌, ◌++◌, length, None, refl, ap, codes, first_refusal, new_topic, RawFrame, field, has_destination, is_known, World, Move, needs_idle, run, Core, core_for, names_at, topic_moves}

-- the world with one more topic
abbrev pub with_topic : World → World
with_topic w = record w { topics = w.topics ++ new_topic (record { 0 = length w.topics }) w.log_limit 0 ∷ [] }

-- what holds of the world of before and with one more topic holds of it
pub by_use : (P : World → Type 0) (k : Core) (f : RawFrame) → P k.world → P (with_topic k.world) → P (core_for k f).world
by_use P k f old new = elim (has_destination f.command && not (is_known (field (codes "destination") f) (names_at k))) as (λ (b : Bool). P (run (cond b (Move.AddsTopic 0 ∷ []) []) k.world)) [ true ↦ new | false ↦ old ]

-- what stands against a Next
pub idle_for : (k : Core) (f : RawFrame) (c : ℕ) → first_refusal (needs_idle k.world c) ≡ None → first_refusal (needs_idle (core_for k f).world c) ≡ None
idle_for k f c idle = by_use (λ w. first_refusal (needs_idle w c) ≡ None) k f idle idle

-- its subscriptions are those of before
pub subs_for : (k : Core) (f : RawFrame) → (core_for k f).world.subscriptions ≡ k.world.subscriptions
subs_for k f = by_use (λ w. w.subscriptions ≡ k.world.subscriptions) k f refl refl

-- a frame without a destination makes no topic
pub no_topic : (k : Core) (f : RawFrame) → has_destination f.command ≡ false → topic_moves (names_at k) f ≡ []
no_topic k f none = ap (λ (a : Bool). cond (a && not (is_known (field (codes "destination") f) (names_at k))) (Move.AddsTopic 0 ∷ []) []) none

pub framed_none : (k : Core) (f : RawFrame) → has_destination f.command ≡ false → core_for k f ≡ k
framed_none k f none = ap (λ (ms : List Move). record k { world = run ms k.world }) (no_topic k f none)
