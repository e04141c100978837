-- To open it is to open all that a run of calls computes with.
use Rattle.basis.specs.Turns.{in_turn, after}
use Rattle.table.specs.Opened.{opened as table-opened}
use Rattle.state.specs.State.{longest_since, fresh, each_thread, used_fits, unused_fits, place_fits, fits}
use Rattle.state.specs.Release.{has_event, at_phase, by_clock, by_event, released, release, releases}
use Rattle.state.specs.Methods.{pay, finish, count, aged, tick}
use Rattle.order.specs.Order.{holder, down, order}
use Rattle.order.specs.Open.{flows_to, open_to}
use Rattle.frame.specs.Opened.{opened as Frame-opened}
use Rattle.frame.specs.Mode.{mode_ok, threads_at, walks}
use Rattle.walk.specs.Walk.{heard, runs, decided, visit, walk}
use Rattle.walk.specs.Step.{ticked, advance, marks_at, step}
use Rattle.scheduler.specs.Taken.{answer_of, mask_ok, taken_then, taken}
use Rattle.scheduler.specs.Calls.{calls, steps}

unfoldable pub opened : {A : Type 0} → A → A
unfolding table-opened Frame-opened flows_to open_to mode_ok threads_at walks in_turn after longest_since fresh each_thread used_fits unused_fits place_fits fits has_event at_phase by_clock by_event released release releases pay finish count aged tick holder down order heard runs decided visit walk ticked advance marks_at step answer_of mask_ok taken_then taken calls steps
opened x = x
