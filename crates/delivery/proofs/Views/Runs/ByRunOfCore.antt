-- What holds of each run of the machine holds of each core that a run leads to.
use Rattle.std.proofs.Common.{◌≡◌, List, sym, subst, ap, ◌∙◌}
use Rattle.delivery.proofs.Words.All.{World, Answer, Run, answers_of, final_world, account_of, Core, claims_of, IsReached}
use Rattle.delivery.proofs.Core.Said.{said}
use Rattle.delivery.proofs.Theorem.SendersAreOwn.{Speaks, speak}
use Rattle.delivery.proofs.Core.ClaimsStand.{Stand, core_stands}
use Rattle.delivery.proofs.Core.AccountOfRun.{run_of, world_is, core_is, account_is}

-- the run of the machine that a core's run is
abbrev pub machine_run : {k : Core} → IsReached k → Run
machine_run reached = run_of reached.topics reached.capacity reached.steps

-- the core's world is that of its run of the machine
pub world_of : (k : Core) (reached : IsReached k) → k.world ≡ final_world (machine_run reached)
world_of k reached = ap (λ (z : Core). z.world) reached.is ∙ world_is reached.topics reached.capacity reached.steps

-- what holds of the world after each run holds of a core's
pub by_world : (P : World → Type 0) (k : Core) → IsReached k → ((r : Run) → P (final_world r)) → P k.world
by_world P k reached h = subst P (sym (world_of k reached)) (h (machine_run reached))

-- a core's account says what its run of the machine answered
pub account_of_core : (k : Core) (reached : IsReached k) → account_of k.names k.steps ≡ said (answers_of (machine_run reached))
account_of_core k reached =
    ap (λ (z : Core). account_of z.names z.steps) (reached.is ∙ core_is reached.topics reached.capacity reached.steps)
    ∙ account_is reached.topics reached.capacity reached.steps reached.run

-- what holds of what is said and the world after each run holds of a core's account and world
pub by_account : (P : List Answer → World → Type 0) (k : Core) → IsReached k → ((r : Run) → P (said (answers_of r)) (final_world r)) → P (account_of k.names k.steps) k.world
by_account P k reached h =
    subst (λ w. P (account_of k.names k.steps) w) (sym (world_of k reached))
    (subst (λ z. P z (final_world (machine_run reached))) (sym (account_of_core k reached)) (h (machine_run reached)))

-- whom each connection of a core speaks for, and how many senders there are, is as its claims say
pub stand_of : (k : Core) → IsReached k → Stand k.world (claims_of k.steps)
stand_of k reached = subst (λ (z : Core). Stand z.world (claims_of z.steps)) (sym reached.is) (core_stands reached.topics reached.capacity reached.steps reached.run)

-- no two connections of it that aren't gone speak for one sender
pub speaks_of : (k : Core) → IsReached k → Speaks k.world
speaks_of k reached = by_world Speaks k reached (λ r. speak r)
