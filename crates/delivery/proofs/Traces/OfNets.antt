-- The trace of what a net holds: its rows fit, and it is traced.
use Rattle.delivery.proofs.Words.All.{◌≡◌, ◌<◌, ◌≤◌, ◌==◌, nat_lt, true, List, [], ◌∷◌, length, Some, None, refl, sym, ap, subst, ◌∙◌, arith, list_all, AllByRecursion, ℕ, reverse, and_from, eq-eqb, lt-ltb, length-map, filter, Topic, agreed, In, RisesBy, LogRow, names, GroupState, TopicRow, fits, max_topics, In-map, In-map_cases, In-filter, In-filter_cases, In-take, topics_rise, log_row, Answer, commits_of, KeptRun, account_of, core_of, names_after, Report, report_of, DeliversAnswers, trace_of, IsTraced, KeepsRun, steps_of, View, report_in}
use Rattle.mcast_txn.proofs.Members.{all_from}
use Rattle.trace_audit.specs.Trace.{rise_after}
use Rattle.delivery.proofs.Core.NamesFew.{names_few}
use Rattle.delivery.proofs.Core.DeliversOfRun.{delivers}
use Rattle.delivery.proofs.Views.Runs.KeptRuns.{is_delivered, has_report}
use Rattle.delivery.proofs.Views.Runs.ReportOfView.{reported}
use Rattle.delivery.proofs.Traces.TracedRows.{log_is}
use Rattle.delivery.proofs.Traces.Explained.{sequence, at_topic, fronted}
use Rattle.delivery.proofs.Traces.OfRuns.{logs_length, traced}

-- ---- rows fit

rises_after : (u : Topic) (ts : List Topic) → AllByRecursion (λ (t : Topic). u.0 < t.0) ts → RisesBy (λ (t : Topic). t.0) ts → rise_after (Some u) ts ≡ true
rises_after u [] above rises = refl
rises_after u (t ∷ ts) above rises = and_from (nat_lt u.0 t.0) (rise_after (Some t) ts) (lt-ltb u.0 t.0 above.0) (rises_after t ts rises.0 rises.1)

-- topics that rise pass the test
pub rise_first : (ts : List Topic) → RisesBy (λ (t : Topic). t.0) ts → rise_after None ts ≡ true
rise_first [] rises = refl
rise_first (t ∷ ts) rises = rises_after t ts rises.0 rises.1

pub row_fits : {capacity : ℕ} (account : List Answer) (r : Report) → DeliversAnswers capacity account r → (logged : TopicRow) → In logged (trace_of r).logs → fits logged ≡ true
row_fits account r d logged k =
    let t = logged.topic in let f = fronted account r d t in let named = filter (at_topic t) (sequence account) in
    let in_log = In-map (λ (z : TopicRow). z.row) logged _ (In-filter (λ (z : TopicRow). z.topic.0 == t.0) logged (trace_of r).logs k (eq-eqb t.0 t.0 refl)) in
    let i = In-filter_cases (at_topic t) logged.row (sequence account) (In-take logged.row f.count named (subst (λ z. In logged.row z) (log_is r t ∙ f.is) in_log)) in
    let m = In-map_cases log_row logged.row (agreed (commits_of account)) i.stands in
    and_from (rise_after None logged.row.topics) (names t logged.row.topics)
    (subst (λ (z : LogRow). rise_after None z.topics ≡ true) m.is (rise_first (log_row m.from).topics (topics_rise m.from.txn.sends)))
    i.passes

-- ---- of what is held

-- each row of its logs fits
pub held_fits : (net : KeptRun) (held : View) → KeepsRun net.topics net.capacity net.kept held
    → list_all (λ (logged : TopicRow). fits logged) (trace_of (report_in held)).logs ≡ true
held_fits net held keeps =
    let d = delivers net.topics net.capacity keeps.steps keeps.is_run in let k = core_of net.topics net.capacity keeps.steps in
    let is : report_in held ≡ report_of k = ap report_in keeps.view ∙ reported k in
    subst (λ (r : Report). list_all (λ (logged : TopicRow). fits logged) (trace_of r).logs ≡ true) (sym is)
    (all_from (λ (logged : TopicRow). fits logged) (trace_of (report_of k)).logs (row_fits (account_of net.topics.names keeps.steps) (report_of k) d))

-- it has no more groups than a core may have topics
pub held_few : (net : KeptRun) (held : View) → KeepsRun net.topics net.capacity net.kept held → length held.groups ≤ max_topics
held_few net held keeps =
    let k = core_of net.topics net.capacity keeps.steps in let is : report_in held ≡ report_of k = ap report_in keeps.view ∙ reported k in
    let logs : length held.groups ≡ length (report_in held).logs = sym (length-map held.groups (λ (g : GroupState). g.topic.held)) in
    let many : length held.groups ≡ length (names_after net.topics.names keeps.steps) =
    logs ∙ (ap (λ (r : Report). length r.logs) is ∙ logs_length net.topics net.capacity keeps.steps keeps.as_many keeps.is_run) in
    let opening : length net.topics.names ≤ max_topics = (let n = keeps.as_many in let few = keeps.few in omega (arith, n, few)) in
    let few = names_few net.topics net.capacity keeps.steps opening keeps.is_run in omega (arith, many, few)

-- the trace of what it reports is its trace
pub held_traced : (net : KeptRun) (held : View) → net.steps ≡ steps_of (reverse net.kept) → KeepsRun net.topics net.capacity net.kept held → IsTraced net (trace_of (report_in held))
held_traced net held are keeps =
    subst (λ (r : Report). IsTraced net (trace_of r)) (sym (is_delivered net held are keeps).answered.is_report) (traced net keeps.as_many (has_report net held are keeps))
