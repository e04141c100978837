-- To open it is to open all that the admission computes with.
use Rattle.basis.specs.Ceil.{ceil}
use Rattle.table.specs.Opened.{opened as table-opened}
use Rattle.admission.specs.Demand.{sum, above, share, demand}
use Rattle.admission.specs.Bounded.{enough, length_at, bound, bounding}
use Rattle.admission.specs.Tried.{most_tried, lengths_from, lengths, tried, count_given}
use Rattle.admission.specs.Admit.{without_bound, first_without, bound_number, bounds_of, searched, counts_of, admitting, bounds_given, counts_given}
use Rattle.admission.specs.Worst.{worst, worst_given}
use Rattle.admission.specs.Prohibition.{stretch, prohibition, prohibiting}
use Rattle.admission.specs.IdleMost.{idle_most, idling}

unfoldable pub opened : {A : Type 0} → A → A
unfolding table-opened ceil sum above share demand enough length_at bound bounding most_tried lengths_from lengths tried count_given without_bound first_without bound_number bounds_of searched counts_of admitting bounds_given counts_given worst worst_given stretch prohibition prohibiting idle_most idling
opened x = x
