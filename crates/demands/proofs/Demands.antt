-- The three demands hold: each sentence by the law that stands beside its definition.
use mathlib.Core.Path.{◌≡◌, ap}
use mathlib.Core.Logic.{◌↔◌}
use mathlib.Core.List.{[]}
use mathlib.Core.Bool.{true, false}
use native.Mathlib.Omega.{arith}
use Rattle.basis.specs.Tests.{pick}
use Rattle.basis.specs.Told.{Told, answered, refused}
use Rattle.basis.proofs.TestLaws.{by_test}
use Rattle.table.specs.Legal.{legal}
use Rattle.table.specs.Mark.{marking}
use Rattle.table.specs.declared.Table.{Table}
use Rattle.table.proofs.LegalLaws.{legal_sound, legal_complete}
use Rattle.table.proofs.MarkLaws.{marks_exactly, marks_name, mark_sound, mark_complete, set_exactly}
use Rattle.reader.proofs.ReaderLaws.{refused-zero}
use Rattle.writer.proofs.WriterLaws.{refused_stays}
use Rattle.writer.proofs.NumberLaws.{write_number_exactly}
use Rattle.codec.proofs.RoundTrip.{accepted_exactly, read_write, write_read}
use Rattle.codec.proofs.JudgingLaws.{judged_exactly}
use Rattle.state.proofs.FitLaws.{fits_sound, fits_complete, longest-event, longest_periodic}
use Rattle.state.proofs.StartLaws.{fresh-refused, fresh-answered, fresh-zero, fresh-legal, fresh_clock, fresh-event, fresh_periodic}
use Rattle.state.proofs.TickLaws.{tick-leaves}
use Rattle.state.proofs.ReleaseLaws.{releases_exactly, release-at, clock_released, event-released, at-release, before_offset, other_phases, past_deadline, at-event, early_event, before_deadline, after_deadline}
use Rattle.frame.proofs.FrameLaws.{ok_framed, framed_timed, falls, falls_once, starts, repeats_ever}
use Rattle.frame.proofs.ModeLaws.{unframed_passes, frames_exactly, unframed_walks, framed_walks, window_domain}
use Rattle.walk.proofs.MarksLaws.{at_marks}
use Rattle.walk.proofs.OutsideLaws.{chosen-walks, outside_stays}
use Rattle.walk.proofs.StepLaws.{step_clock, chosen_rested}
use Rattle.walk.proofs.ReachedLaws.{runs_exactly, two_finishes, strange_waits}
use Rattle.walk.proofs.CountLaws.{rest_stays, step_counts, step-runs}
use Rattle.walk.proofs.RunLaws.{runs-most, runs_rested}
use Rattle.walk.proofs.PaidLaws.{pays-once, payments-most}
use Rattle.walk.proofs.ReleasedLaws.{releases-apart, releases_most_in, since_grows, since_stops, since_periodic}
use Rattle.walk.proofs.ChoiceLaws.{below_chosen, idle_only, chosen-first, chosen_says, reached_pay_one, reached_marks}
use Rattle.scheduler.proofs.RefusalLaws.{number_exactly, refused_keeps, same-refusal, taken-steps, mask_exactly}
use Rattle.scheduler.proofs.CallLaws.{calls-steps}
use Rattle.scheduler.proofs.HeardLaws.{outside_unheard}
use Rattle.sight.proofs.SightLaws.{visible_exactly, seen_at, hidden_at}
use Rattle.sight.proofs.NumberLaws.{view_number_exactly, state_number_exactly, refused_zeros}
use Rattle.block.proofs.RecordLaws.{recorded-front, record_refused, record_calls, record_state, record_trace, record_next, two_records}
use Rattle.block.proofs.NumberLaws.{whole_exactly, masks_exactly, block_number_exactly, record_same_refusal}
use Rattle.block_isolation.proofs.ByteLaws.{byte-answer}
use Rattle.block_isolation.proofs.ShownLaws.{number-shown, threads_told, trace-shown, refused-shown}
use Rattle.block_isolation.proofs.Isolation.{demand_3_blocks}
use Rattle.isolation.proofs.Isolation.{telling-chosen, telling-refused, telling-error, demand_3, state_always_shown}
use Rattle.host.proofs.HostLaws.{mark_refused_exactly, bound_refused_exactly}
use Rattle.admission.proofs.DemandLaws.{demand_exactly}
use Rattle.admission.proofs.TriedLaws.{tried_exactly, tried-most}
use Rattle.admission.proofs.BoundLaws.{bound_exactly, none_exactly, search_finds, bounding_exactly}
use Rattle.admission.proofs.AdmitLaws.{admitting_exactly}
use Rattle.admission.proofs.WorstLaws.{worst-refused, worst-answered, worst_exactly, counts_within}
use Rattle.admission.proofs.ProhibitionLaws.{prohibition_exactly, prohibiting_exactly}
use Rattle.admission.proofs.IdleLaws.{idling_exactly}
use Rattle.demands.specs.Demand1.{Demand1}
use Rattle.demands.specs.Demand2.{Demand2}
use Rattle.demands.specs.Demand3.{Demand3}

-- Marks are refused with 11 exactly where the table is not legal.
marks_refused : (t : Table) → (marking t ≡ refused 11) ↔ (legal t ≡ false)
unfolding marking pick
marks_refused t = (
  λ e. by_test (legal t) (λ l. let z : (marking t).number ≡ 0 = rw l in let n = ap (λ (w : Told). w.number) e in absurd (omega arith)) (λ l. l),
  λ l. rw l,
)

marks_answered : (t : Table) → (marking t ≡ answered []) ↔ (legal t ≡ true)
unfolding marking pick
marks_answered t = (
  λ e. by_test (legal t) (λ l. l) (λ l. let z : (marking t).number ≡ 11 = rw l in let n = ap (λ (w : Told). w.number) e in absurd (omega arith)),
  λ l. rw l,
)

pub demand_1_holds : Demand1
demand_1_holds = record {
  bytes-judged = judged_exactly;
  refused_table = refused-zero;
  step_numbered = number_exactly;
  unframed_passes = unframed_passes;
  frames_exactly = frames_exactly;
  mask_exactly = mask_exactly;
  legal_exactly = λ t z. (legal_sound t z, legal_complete t);
  fits_exactly = λ t s few long. (fits_sound t s few long, fits_complete t s);
  since_event = longest-event;
  since_periodic = longest_periodic;
  fresh-refused = fresh-refused;
  fresh-answered = fresh-answered;
  fresh-zero = fresh-zero;
  marks_refused = marks_refused;
  marks_answered = marks_answered;
  writer_numbered = write_number_exactly;
  view_numbered = view_number_exactly;
  state_numbered = state_number_exactly;
  bound-answered = bounding_exactly;
  admission_answered = admitting_exactly;
  worst-refused = worst-refused;
  worst-answered = worst-answered;
  prohibition-answered = prohibiting_exactly;
  idle-answered = idling_exactly;
  host_mark_refused = mark_refused_exactly;
  host_bound_refused = bound_refused_exactly;
  state_back = refused_keeps;
  nothing_written = refused_stays;
  zeros_shown = refused_zeros;
  no_byte_refuses = same-refusal;
  block_numbered = block_number_exactly;
  block-front = recorded-front;
  lengths_exactly = whole_exactly;
  masks_exactly = masks_exactly;
  block_back = record_refused;
  no_byte_refuses_block = record_same_refusal;
}

pub demand_2_holds : Demand2
demand_2_holds = record {
  accepted_exactly = accepted_exactly;
  read_write = read_write;
  write_read = write_read;
  marks = marks_exactly;
  marks_name = marks_name;
  marked_exactly = λ t i. (mark_sound t i, mark_complete t i);
  set_exactly = set_exactly;
  at_marks = at_marks;
  call-steps = λ t mode ok o x e m s f l. taken-steps t mode x s ok o (fits_complete t s f) e m l;
  run-steps = calls-steps;
  block-calls = record_calls;
  block-state = record_state;
  block-trace = record_trace;
  block-next = record_next;
  two_blocks = two_records;
  fresh-legal = fresh-legal;
  fresh_clock = fresh_clock;
  fresh_periodic = fresh_periodic;
  fresh-event = fresh-event;
  release-each = release-at;
  at-release = at-release;
  before_offset = before_offset;
  other_phases = other_phases;
  past_deadline = past_deadline;
  clock_released = clock_released;
  event-released = event-released;
  at-event = at-event;
  early_event = early_event;
  before_deadline = before_deadline;
  after_deadline = after_deadline;
  runs_exactly = runs_exactly;
  two_finishes = two_finishes;
  strange_waits = strange_waits;
  chosen_rested = chosen_rested;
  chosen_says = chosen_says;
  chosen-first = chosen-first;
  idle_only = idle_only;
  reached_pay_one = reached_pay_one;
  below_chosen = below_chosen;
  pays-once = pays-once;
  chosen-walks = chosen-walks;
  outside_stays = outside_stays;
  outside_unheard = outside_unheard;
  unframed_walks = unframed_walks;
  framed_walks = framed_walks;
  window_falls = λ t f ok. falls f (framed_timed t f (ok_framed t f ok));
  window-once = falls_once;
  window-first = λ t f ok. starts f (framed_timed t f (ok_framed t f ok));
  window_repeats = repeats_ever;
  window_domain = window_domain;
  reached_marks = reached_marks;
  releases_exactly = releases_exactly;
  releases-apart = releases-apart;
  releases-most = releases_most_in;
  since_grows = since_grows;
  since_stops = since_stops;
  since_periodic = since_periodic;
  tick-leaves = tick-leaves;
  payments-most = payments-most;
  rest_stays = rest_stays;
  step_counts = step_counts;
  step-runs = step-runs;
  runs-most = runs-most;
  runs_rested = runs_rested;
  step_clock = step_clock;
  demands = demand_exactly;
  bounds = bound_exactly;
  no_bounds = none_exactly;
  counts = tried_exactly;
  counts_most = tried-most;
  search_finds = λ t i g xs s r. search_finds t i g r;
  counts_within = counts_within;
  worsts = worst_exactly;
  prohibitions = prohibition_exactly;
}

pub demand_3_holds : Demand3
demand_3_holds = record {
  isolated = λ t mode g. demand_3 t mode (legal_complete t g) g.sized;
  shown_throughout = λ t mode g. state_always_shown t mode (legal_complete t g);
  told-answers = telling-chosen;
  told_refusals = telling-refused;
  told_errors = telling-error;
  visible_exactly = visible_exactly;
  seen_at = seen_at;
  hidden_at = hidden_at;
  blocks_isolated = λ t mode g. demand_3_blocks t mode (legal_complete t g) g.sized;
  bytes-answer = λ t g d. byte-answer t d g.count_high;
  block-numbers = number-shown;
  block_traces = trace-shown;
  block_records = refused-shown;
  block_threads = threads_told;
}
