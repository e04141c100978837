-- To open it is to open all that what a domain is shown computes with.
use Rattle.table.specs.Opened.{opened as table-opened}
use Rattle.state.specs.State.{used_fits, unused_fits, place_fits, fits}
use Rattle.sight.specs.Shown.{visible, view, showing, seen_progress, seen_threads, showing_state, threads_shown}

unfoldable pub opened : {A : Type 0} → A → A
unfolding table-opened used_fits unused_fits place_fits fits visible view showing seen_progress seen_threads showing_state threads_shown
opened x = x
