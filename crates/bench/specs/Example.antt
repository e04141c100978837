-- Example E of document 01, from its bytes to the text it prints; E with an event thread; and E at the last clock.
use Rattle.std.specs.Prelude.{ℕ, ◌≡◌, refl, List, [], ◌∷◌, ◌++◌}
use Rattle.basis.specs.Ceil.{ceil}
use Rattle.example.specs.Example.{example, example_bytes}
use Rattle.state.specs.State.{fresh}
use Rattle.reader.specs.Opened.{opened as reader-opened}
use Rattle.scheduler.specs.Opened.{opened as steps-opened}
use Rattle.report.specs.Opened.{opened as report-opened}
use Rattle.bench.specs.Text.{with_step, play, played, played_all, from, last_line, closed, run_text, judged_text, bench_text}

-- Thread 0 sends 1, 0, 0, 2 and then 1 six times, thread 1 sends 1 ten times.
abbrev pub step_bytes : List ℕ
step_bytes = 1 ∷ 1 ∷ 0 ∷ 1 ∷ 0 ∷ 1 ∷ 2 ∷ 1 ∷ 1 ∷ 1 ∷ 1 ∷ 1 ∷ 1 ∷ 1 ∷ 1 ∷ 1 ∷ 1 ∷ 1 ∷ 1 ∷ 1 ∷ []

-- A line `k T i`, `k I i`, `k --` of one digit each.
abbrev ran : ℕ → ℕ → List ℕ
ran k i = k ∷ 0x20 ∷ 0x54 ∷ i ∷ 0x0A ∷ []

abbrev idle_for : ℕ → ℕ → List ℕ
idle_for k i = k ∷ 0x20 ∷ 0x49 ∷ i ∷ 0x0A ∷ []

abbrev idle : ℕ → List ℕ
idle k = k ∷ 0x20 ∷ 0x2D ∷ 0x2D ∷ 0x0A ∷ []

-- threads 2
abbrev two_threads : List ℕ
two_threads = 0x74 ∷ 0x68 ∷ 0x72 ∷ 0x65 ∷ 0x61 ∷ 0x64 ∷ 0x73 ∷ 0x20 ∷ 0x32 ∷ 0x0A ∷ []

abbrev pub text : List ℕ
text =
    two_threads
    ++ ran 0x30 0x30
    ++ idle_for 0x31 0x30 ++ idle_for 0x32 0x30 ++ idle_for 0x33 0x30
    ++ ran 0x34 0x31 ++ ran 0x35 0x31 ++ ran 0x36 0x31
    ++ idle 0x37 ++ idle 0x38 ++ idle 0x39
    -- end 10
    ++ (0x65 ∷ 0x6E ∷ 0x64 ∷ 0x20 ∷ 0x31 ∷ 0x30 ∷ 0x0A ∷ [])

pub example-printed : bench_text example_bytes step_bytes ≡ text
unfolding reader-opened steps-opened report-opened ceil with_step play played last_line run_text judged_text
example-printed = refl

-- E in version 2, with thread 1 released by events: every step has an empty mask, so that it never runs.
abbrev event_bytes : List ℕ
event_bytes =
    0x02 ∷ 0x02 ∷ 0x02 ∷ 0x03 ∷ 0x02
    ∷ 0x01 ∷ 0x1E ∷ 0x0A ∷ 0x00 ∷ 0x04 ∷ 0x0A ∷ 0x02 ∷ 0x00
    ∷ 0x00 ∷ 0x14 ∷ 0x0A ∷ 0x00 ∷ 0x03 ∷ 0x0A ∷ 0x00 ∷ 0x01 ∷ []

abbrev event_text : List ℕ
event_text =
    two_threads
    ++ ran 0x30 0x30
    ++ idle_for 0x31 0x30 ++ idle_for 0x32 0x30 ++ idle_for 0x33 0x30
    ++ idle 0x34 ++ idle 0x35 ++ idle 0x36
    ++ idle 0x37 ++ idle 0x38 ++ idle 0x39
    -- end 10
    ++ (0x65 ∷ 0x6E ∷ 0x64 ∷ 0x20 ∷ 0x31 ∷ 0x30 ∷ 0x0A ∷ [])

pub event-printed : bench_text event_bytes step_bytes ≡ event_text
unfolding reader-opened steps-opened report-opened ceil with_step play played last_line run_text judged_text
event-printed = refl

-- E from a clock short of the last: lines up to it, and then 14, though more steps come; a step short of bytes there is 13.
abbrev late : ℕ → List ℕ → List ℕ
late c bs = closed (played_all example bs (from (record { clock = c; threads = (fresh example).threads })))

-- 999999999 --
abbrev last_step : List ℕ
last_step = 0x39 ∷ 0x39 ∷ 0x39 ∷ 0x39 ∷ 0x39 ∷ 0x39 ∷ 0x39 ∷ 0x39 ∷ 0x39 ∷ 0x20 ∷ 0x2D ∷ 0x2D ∷ 0x0A ∷ []

-- refused 1? 1000000000
abbrev refused_last : ℕ → List ℕ
refused_last digit =
    0x72 ∷ 0x65 ∷ 0x66 ∷ 0x75 ∷ 0x73 ∷ 0x65 ∷ 0x64 ∷ 0x20 ∷ 0x31 ∷ digit ∷ 0x20
    ∷ 0x31 ∷ 0x30 ∷ 0x30 ∷ 0x30 ∷ 0x30 ∷ 0x30 ∷ 0x30 ∷ 0x30 ∷ 0x30 ∷ 0x30 ∷ 0x0A ∷ []

pub last-printed :
    late 999999999 (1 ∷ 1 ∷ 1 ∷ 1 ∷ 1 ∷ 1 ∷ 1 ∷ []) ∷ late 999999999 (1 ∷ 1 ∷ 1 ∷ []) ∷ []
    ≡ (last_step ++ refused_last 0x34) ∷ (last_step ++ refused_last 0x33) ∷ []
unfolding reader-opened steps-opened report-opened ceil with_step play played last_line
last-printed = refl
