-- `thermometer::place` meets its contract.
use lib.Dec.{leb}
use borrow.Author.Rules.{rules}
use Rattle.std.proofs.Common.{of_calls}
use Rattle.std.proofs.lemmas.List.Sorted.{IsPartitionPoint-from_clause}
use Rattle.thermometer.proofs.Rise.{rising-parted, point-between}
use Rattle.thermometer.proofs.place.Goals as goal

pub overflow_sub-result : goal.overflow_sub-result
overflow_sub-result c =
    (point-between c.args.table.now c.args.r c.partition_point.result c.requires.0.some c.requires.1 c.requires.2
    c.partition_point.ensures.bound
    (IsPartitionPoint-from_clause (λ e. leb e c.args.r) _ _ c.partition_point.ensures.partitioned
    (rising-parted c.args.table.now c.args.r c.requires.0.rises) (λ a r f k. search (rules, of_calls)))).0

pub returns : goal.returns
returns c =
    (point-between c.args.table.now c.args.r c.partition_point.result c.requires.0.some c.requires.1 c.requires.2
    c.partition_point.ensures.bound
    (IsPartitionPoint-from_clause (λ e. leb e c.args.r) _ _ c.partition_point.ensures.partitioned
    (rising-parted c.args.table.now c.args.r c.requires.0.rises) (λ a r f k. search (rules, of_calls)))).1
