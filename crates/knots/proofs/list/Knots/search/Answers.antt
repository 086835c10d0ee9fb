use Rattle.std.proofs.Common.{rules, leb}
use Rattle.std.proofs.lemmas.List.Sorted.{IsPartitionPoint-from_clause}
use Rattle.knots.specs.Lawful.{Lawful}
use Rattle.knots.proofs.Spans.{inner_partitioned, span_held, span_value}
use Rattle.knots.proofs.list.Knots.search.Goals as goal

pub returns : goal.returns
returns c =
    let self = c.args.self.now in
    let lawful : Lawful self.degree self.count self.knots.now = search rules in
    let parted = IsPartitionPoint-from_clause (λ k. leb k c.args.u) _ c.partition_point.result c.partition_point.ensures.partitioned (inner_partitioned lawful c.args.u) (λ a r f' k. search rules) in
    record {
      value = span_value lawful c.requires.within.0 c.requires.within.1 c.partition_point.ensures.bound parted;
      held = span_held lawful c.requires.within.0 c.requires.within.1 c.partition_point.ensures.bound parted;
    }
