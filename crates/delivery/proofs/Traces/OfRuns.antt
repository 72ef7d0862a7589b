-- The trace of every run of the core.
use Rattle.delivery.proofs.Words.All.{◌≡◌, ℕ, ◌<◌, true, inl, inr, List, length, refl, sym, ap, subst, ◌∙◌, cases_lt, Topic, CommitRow, In, names, topics_of, TopicState, new_topic, IsCompleteBy, map_length, log_row, Run, answers_of, final_world, commits_of, TopicList, KeptRun, HasReport, CoreStep, names_after, account_of, Core, core_of, names_at, IsCoreRun, report_of, trace_of, AllSettled, IsTraced}
use Rattle.delivery.specs.Nets.{core_of_net}
use Rattle.delivery.specs.Traces.{RunsAreExplained, TracesAreAccepted, TracesAreComplete}
use Rattle.trace_audit.proofs.OneList.{one_list}
use Rattle.delivery.proofs.Words.Steps.{topic_in, reached, beyond}
use Rattle.delivery.proofs.Core.Said.{commits_said}
use Rattle.delivery.proofs.Core.AccountOfRun.{run_of, core_is, account_is}
use Rattle.delivery.proofs.Core.Counts.{counted}
use Rattle.delivery.proofs.Core.DeliversOfRun.{delivers}
use Rattle.delivery.proofs.Traces.Explained.{logged_rows, explained, complete}

-- a committed transaction names topics of the run alone
named_there : (r : Run) (row : CommitRow) (t : Topic) → In row (commits_of (answers_of r)) → names t (topics_of row.txn.sends) ≡ true → t.0 < length (final_world r).topics
named_there r row t k named = elim (cases_lt t.0 (length (final_world r).topics)) [
  | inl l ↦ l
  | inr l ↦
      let h = reached r in let none : topic_in (final_world r).topics t ≡ new_topic t 0 0 = beyond (final_world r).topics t.0 (new_topic t 0 0) l in
      let placed = (h.inv.tied t).placed row (subst (λ z. In row z) h.commits k) named in
      elim placed [
        | inl i ↦ absurd (subst (λ (x : TopicState). In (log_row row) x.held) none i)
        | inr i ↦ absurd (subst (λ (x : TopicState). In i.part x.pending) none i.stands)
      ]
]

-- the same of a run of the core, and of its report
pub reported_there : (topics : TopicList) (capacity : ℕ) (steps : List CoreStep) → IsCoreRun topics capacity steps
    → (row : CommitRow) (t : Topic) → In row (commits_of (account_of topics.names steps)) → names t (topics_of row.txn.sends) ≡ true
    → t.0 < length (report_of (core_of topics capacity steps)).logs
reported_there topics capacity steps run row t k named =
    let r = run_of topics capacity steps in let there = subst (λ z. In row z) (ap commits_of (account_is topics capacity steps run) ∙ commits_said (answers_of r)) k in
    let l = named_there r row t there named in
    subst (λ n. t.0 < n) (sym (map_length (λ (x : TopicState). x.held) (core_of topics capacity steps).world.topics
    ∙ ap (λ (c : Core). length c.world.topics) (core_is topics capacity steps))) l

-- how many logs are reported
pub logs_length : (topics : TopicList) (capacity : ℕ) (steps : List CoreStep) → length topics.clocks ≡ length topics.names
    → IsCoreRun topics capacity steps → length (report_of (core_of topics capacity steps)).logs ≡ length (names_after topics.names steps)
logs_length topics capacity steps same run =
    map_length (λ (x : TopicState). x.held) (core_of topics capacity steps).world.topics
    ∙ ((counted topics capacity steps same run).0 ∙ ap (λ (c : Core). length (names_at c)) (core_is topics capacity steps))

-- the trace of each run is explained, and complete where all topics are settled
pub runs_are_explained : RunsAreExplained
runs_are_explained topics capacity steps same run =
    let account = account_of topics.names steps in let r = report_of (core_of topics capacity steps) in let d = delivers topics capacity steps run in
    record {
      rows = logged_rows account r;
      explained = explained account r d;
      complete = λ settled. complete account r d (reported_there topics capacity steps run)
          (subst (λ n. AllSettled n account) (sym (logs_length topics capacity steps same run)) settled);
    }

-- where the report of a net's core is delivered, it has a trace
pub traced : (net : KeptRun) → length net.topics.clocks ≡ length net.topics.names → HasReport net → IsTraced net (trace_of (report_of (core_of_net net)))
traced net same delivered = record { is_trace = refl; is_delivered = delivered; is_explained = runs_are_explained net.topics net.capacity net.steps same delivered.answered.is_run }

-- no fault is the refusal of a net's trace
pub accepted : TracesAreAccepted
accepted net trace fault traced refusal = refusal.unexplained traced.is_explained.rows traced.is_explained.explained

-- a net's trace is complete by whichever rows explain it
pub completed : TracesAreComplete
completed net trace traced settled rows explained =
    subst (λ z. IsCompleteBy z trace) (one_list trace traced.is_explained.rows rows traced.is_explained.explained explained)
    (traced.is_explained.complete settled)
