use Rattle.std.proofs.Common.{◌-◌, ◌==◌, nat_lt, leb, length, take, drop, sym, subst, rules}
use Rattle.std.specs.List.Sorted.{IsPartitionedBy}
use Rattle.std.proofs.lemmas.List.{take_rest}
use Rattle.std.proofs.lemmas.List.Sorted.{IsPartitionPoint-from_clause}
use Rattle.trace_audit.proofs.Slices.{between_rest, sub_is, subs_below, subs_up_to}
use Rattle.trace_audit.proofs.queue_checks.queue_in.Goals as goal

pub returns : goal.returns
returns c =
    let rows = c.args.by_sub.now in
    let sub = c.args.sub in
    let m = c.partition_point-start.result in
    let n = c.partition_point-len.result in
    let e = take_rest rows m in
    between_rest (λ row. nat_lt row.sub sub) (λ row. leb row.sub sub) (λ row. row.sub == sub) rows (take (length rows - m) (drop m rows)) m n e (λ row. sub_is row.sub sub)
    (IsPartitionPoint-from_clause (λ r. nat_lt r.now.sub sub) rows m c.partition_point-start.ensures.partitioned (subs_below sub rows c.requires) (λ a r q k. search rules))
    (IsPartitionPoint-from_clause (λ r. leb r.now.sub sub) (take (length rows - m) (drop m rows)) n c.partition_point-len.ensures.partitioned
    (subst (λ z. IsPartitionedBy (λ r. leb r.now.sub sub) z) (sym e) (subs_up_to sub m rows c.requires)) (λ a r q k. search rules))
