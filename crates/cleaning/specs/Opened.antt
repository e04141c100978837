-- To open it is to open all that the cleanings of a trace compute with.
use Rattle.table.specs.Opened.{opened as table-opened}
use Rattle.cleaning.specs.Cleanings.{may_pass, must_clean, latest, last_run, cleaned, cleanings, known, listing}

unfoldable pub opened : {A : Type 0} → A → A
unfolding table-opened may_pass must_clean latest last_run cleaned cleanings known listing
opened x = x
