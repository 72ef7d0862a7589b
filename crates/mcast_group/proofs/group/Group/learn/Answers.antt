use Rattle.std.proofs.Common.{sym, ap, subst, ◌∙◌}
use Rattle.mcast_group.specs.Group.{CanLearn, GroupState, result_of}
use Rattle.mcast_group.specs.Machine.{learn_fault, learn_fault_of}
use Rattle.mcast_group.proofs.Indices.{none_found}
use Rattle.mcast_group.proofs.Learning.{fault_found}
use Rattle.mcast_group.proofs.Turns.{some_part}
use Rattle.mcast_group.proofs.group.Group.learn.Goals as goal

pub returns-in_default-clause-answer : goal.returns-in_default-clause-answer
returns-in_default-clause-answer g c =
    let s = c.self.inside in
    let none = none_found c.args.id s.pending (sym c.index_of.ensures ∙ c.in_default.is) in
    sym (ap (λ o. result_of (learn_fault_of c.args.verdict.now s.pending o)) none)
    ∙ ap (λ (z : GroupState). result_of (learn_fault c.args.id c.args.verdict.now z.topic)) c.self.view_is

pub returns-in-Some-learn_fault_at-clause-answer : goal.returns-in-Some-learn_fault_at-clause-answer
returns-in-Some-learn_fault_at-clause-answer g c =
    let own = fault_found c.args.id c.args.verdict.now c.self.inside.pending c.in-Some.index some_part (sym c.index_of.ensures ∙ c.in-Some.is) in
    ap result_of (c.in-Some-learn_fault_at.ensures some_part ∙ own)
    ∙ ap (λ (z : GroupState). result_of (learn_fault c.args.id c.args.verdict.now z.topic)) c.self.view_is

pub store-requires : goal.store-requires
store-requires g c =
    let here = sym c.index_of.ensures ∙ c.in-Some.is in
    let own = fault_found c.args.id c.args.verdict.now c.self.inside.pending c.in-Some.index some_part here in
    subst (λ (z : GroupState). CanLearn c.args.id c.in-Some.index c.stamp.result z.topic) c.self.view_is (record {
      verdict = c.args.verdict.now;
      is = c.stamp.ensures;
      allowed = sym (c.in_default-learn_fault_at.ensures some_part ∙ own);
      at = here;
    })

pub returns-clause-answer : goal.returns-clause-answer
returns-clause-answer g c =
    let own = fault_found c.args.id c.args.verdict.now c.self.inside.pending c.in-Some.index some_part (sym c.index_of.ensures ∙ c.in-Some.is) in
    ap result_of (c.in_default-learn_fault_at.ensures some_part ∙ own)
    ∙ ap (λ (z : GroupState). result_of (learn_fault c.args.id c.args.verdict.now z.topic)) c.self.view_is
