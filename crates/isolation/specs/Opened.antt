-- To open it is to open all that a run, and what a domain is shown of it, compute with.
use Rattle.scheduler.specs.Opened.{opened as scheduler-opened}
use Rattle.sight.specs.Opened.{opened as sight-opened}
use Rattle.isolation.specs.Isolated.{telling, shown_of}

unfoldable pub opened : {A : Type 0} → A → A
unfolding scheduler-opened sight-opened telling shown_of
opened x = x
