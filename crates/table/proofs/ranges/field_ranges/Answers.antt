use Rattle.table.specs.Ranges.{field_ranges}
use Rattle.table.proofs.ranges.field_ranges.Goals as goal

pub returns : goal.returns
unfolding field_ranges
returns c = rw c.kinds_of-kinds.ensures
