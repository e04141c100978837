-- Windows in a repeating frame: which frames pass, and in which window a clock falls.
use Rattle.std.specs.Prelude.{ℕ, zero, suc, ◌+◌, ◌%◌, ◌≤◌, ◌<◌, Bool, get_or, ltb}
use Rattle.basis.specs.Tests.{pick, and, every}
use Rattle.basis.specs.Search.{Sought, nothing, found, first}
use Rattle.table.specs.Ranges.{range, within}
use Rattle.table.specs.declared.Range.{Range}
use Rattle.table.specs.declared.Table.{Table}
use Rattle.frame.specs.declared.Frame.{Frame}
use Rattle.frame.specs.declared.Window.{Window}

-- Window k of a frame; behind the 64 places there is none.
abbrev pub no_window : Window
no_window = record { domain = 0; length = 0 }

abbrev pub window : Frame → ℕ → Window
window f k = get_or f.windows k no_window

-- 1 to 64 windows.
abbrev pub window_counts : Range
window_counts = range 1 65

-- 1 to 60,000 steps.
abbrev pub window_lengths : Range
window_lengths = range 1 60001

-- A window is of one of d domains, and its length is in range.
unfoldable pub window_ok : ℕ → Window → Bool
window_ok d w = and (ltb w.domain d) (within window_lengths w.length)

-- A frame passes with a table: the count of its windows is in range, and each window in use passes; those past the count are not judged.
unfoldable pub frame_ok : Table → Frame → Bool
frame_ok t f = and (within window_counts f.count) (every f.count (λ k. window_ok t.domains (window f k)))

-- The steps before window k: the lengths of the first k windows.
unfoldable pub before : Frame → ℕ → ℕ
before f zero = 0
before f (suc k) = before f k + (window f k).length

-- The steps of the whole frame.
unfoldable pub frame_length : Frame → ℕ
frame_length f = before f f.count

-- Window k is the answer at place p of the frame, if it ends behind it.
unfoldable pub ends_behind : Frame → ℕ → ℕ → Sought ℕ
ends_behind f p k = pick (ltb p (before f (suc k))) (found k) nothing

-- The number that was found; a place past the frame's end finds none.
abbrev pub number : Sought ℕ → ℕ
number nothing = 0
number (found k) = k

-- The window in which place p of the frame falls: the first that ends behind it.
unfoldable pub window_within : Frame → ℕ → ℕ
window_within f p = number (first f.count (ends_behind f p))

-- The window in which the clock c falls: the frame repeats from clock 0.
unfoldable pub window_at : Frame → ℕ → ℕ
window_at f c = window_within f (c % frame_length f)

-- The domain of that window.
unfoldable pub domain_at : Frame → ℕ → ℕ
domain_at f c = (window f (window_at f c)).domain

-- The plain reading of a window of d domains.
pub record Fitting (d : ℕ) (w : Window) : Type 0 where
  pub domain_high : w.domain < d
  pub length_low : 1 ≤ w.length
  pub length_high : w.length ≤ 60000

-- The plain reading of a frame that passes with a table.
pub record Framed (t : Table) (f : Frame) : Type 0 where
  pub count_low : 1 ≤ f.count
  pub count_high : f.count ≤ 64
  pub windows : (k : ℕ) → k < f.count → Fitting t.domains (window f k)

-- What of it is asked for to find the window of a clock: no table.
pub record Timed (f : Frame) : Type 0 where
  pub count_low : 1 ≤ f.count
  pub count_high : f.count ≤ 64
  pub lengths : (k : ℕ) → k < f.count → 1 ≤ (window f k).length

-- Place p of the frame falls in window k.
pub record FallsWithin (f : Frame) (p k : ℕ) : Type 0 where
  pub in_use : k < f.count
  pub begun : before f k ≤ p
  pub unended : p < before f (suc k)

-- The clock c falls in window k.
abbrev pub Falls : Frame → ℕ → ℕ → Type 0
Falls f c k = FallsWithin f (c % frame_length f) k
