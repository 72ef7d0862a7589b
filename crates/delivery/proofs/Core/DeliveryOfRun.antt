-- The delivery of every run of the core.
use Rattle.std.proofs.Common.{◌≡◌, ℕ, ◌<◌, List, [], length, sym, ap, subst, ◌∙◌, arith}
use Rattle.delivery.proofs.Words.All.{TopicState, map_length, TopicList, CoreStep, names_after, text_out, Core, core_of, names_at, report_of, out_in}
use Rattle.delivery.specs.Core.Answered.{RunsDeliverAnswers}
use Rattle.delivery.specs.Core.Delivery.{RunsDeliver}
use Rattle.delivery.proofs.Words.Changes.{run_of, core_at, core_is, get_or-each_number, length-each_number}
use Rattle.delivery.proofs.Core.DeliversOfRun.{delivers, delivers_told}
use Rattle.delivery.proofs.Core.Counts.{counted}
use Rattle.delivery.proofs.Core.FramesRead.{are_readings}

-- the octets out of each connection are those that the steps say
written : (topics : TopicList) (capacity : ℕ) (steps : List CoreStep) (c : ℕ) → c < length (report_of (core_of topics capacity steps)).outs
    → out_in (report_of (core_of topics capacity steps)) c ≡ text_out topics.names c steps
written topics capacity steps =
    subst (λ (k : Core). (c : ℕ) → c < length (report_of k).outs → out_in (report_of k) c ≡ text_out topics.names c steps) (sym (core_is topics capacity steps))
    (λ c l. (let w = (core_at topics.names (run_of topics capacity steps) steps).world in
    let m = length-each_number (λ n. text_out topics.names n steps) 0 w.connections in
    get_or-each_number (λ n. text_out topics.names n steps) 0 w.connections c [] (omega arith) ∙ ap (λ n. text_out topics.names n steps) (omega arith)))

-- every run of the core is delivered
pub delivery : RunsDeliver
delivery topics capacity steps same run =
    let k = core_of topics capacity steps in let n = counted topics capacity steps same run in
    let names : names_at k ≡ names_after topics.names steps = ap (λ (z : Core). names_at z) (core_is topics capacity steps) in record {
      read = are_readings topics capacity steps run;
      delivered = delivers_told topics capacity steps run;
      written = record {
        output = written topics capacity steps;
        counts = (map_length (λ (x : TopicState). x.held) k.world.topics ∙ (n.0 ∙ ap (λ (z : List (List ℕ)). length z) names), length-each_number (λ c. text_out k.names c k.steps) 0 k.world.connections ∙ n.1);
      };
    }

-- by its account in the machine's answers, too
pub delivery_answers : RunsDeliverAnswers
delivery_answers topics capacity steps same run = delivers topics capacity steps run
