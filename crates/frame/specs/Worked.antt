-- Worked by hand, and computed: the windows of two short frames and of the longest one, and frames at and past each end of a range.
use Rattle.std.specs.Prelude.{ℕ, ◌-◌, ◌≡◌, refl, List, [], ◌∷◌, ◌++◌, map, true, false, length, replicate}
use Rattle.table.specs.Threads.{none}
use Rattle.table.specs.declared.Table.{Table}
use Rattle.frame.specs.declared.Frame.{Frame}
use Rattle.frame.specs.declared.Window.{Window}
use Rattle.frame.specs.Frame.{no_window, frame_ok, frame_length, window_at, domain_at}
use Rattle.frame.specs.Opened.{opened}

abbrev of : ℕ → ℕ → Window
of domain steps = record { domain = domain; length = steps }

-- A frame of these windows, with zeros behind them.
abbrev frame : List Window → Frame
frame ws = record { count = length ws; windows = ws ++ replicate (64 - length ws) no_window }

-- Two steps of domain 0, then three of domain 1, and so on: the second window begins at clock 2, and the frame anew at 5 and 10.
abbrev two : Frame
two = frame (of 0 2 ∷ of 1 3 ∷ [])

pub two_windows : map (window_at two) (0 ∷ 1 ∷ 2 ∷ 3 ∷ 4 ∷ 5 ∷ 6 ∷ 7 ∷ 8 ∷ 9 ∷ 10 ∷ []) ≡ 0 ∷ 0 ∷ 1 ∷ 1 ∷ 1 ∷ 0 ∷ 0 ∷ 1 ∷ 1 ∷ 1 ∷ 0 ∷ []
unfolding opened
two_windows = refl

-- A window's domain is not its number: windows 0 and 2 are of domain 1, and window 1 is of domain 0.
abbrev three : Frame
three = frame (of 1 1 ∷ of 0 2 ∷ of 1 1 ∷ [])

pub three-domains : map (domain_at three) (0 ∷ 1 ∷ 2 ∷ 3 ∷ 4 ∷ 5 ∷ []) ≡ 1 ∷ 0 ∷ 0 ∷ 1 ∷ 1 ∷ 0 ∷ []
unfolding opened
three-domains = refl

pub three-windows : map (window_at three) (0 ∷ 1 ∷ 2 ∷ 3 ∷ 4 ∷ 5 ∷ []) ≡ 0 ∷ 1 ∷ 1 ∷ 2 ∷ 0 ∷ 1 ∷ []
unfolding opened
three-windows = refl

-- A frame of one window has every clock in it, whatever its length.
pub one-window : map (window_at (frame (of 3 1 ∷ []))) (0 ∷ 1 ∷ 999999999 ∷ []) ++ map (window_at (frame (of 3 60000 ∷ []))) (0 ∷ 59999 ∷ 60000 ∷ 1000000000 ∷ [])
    ≡ 0 ∷ 0 ∷ 0 ∷ 0 ∷ 0 ∷ 0 ∷ 0 ∷ []
unfolding opened
one-window = refl

-- The longest frame takes 3,840,000 steps. Clock 1,000,000,000 stands 1,600,000 steps behind the start of the 261st frame: in window 26.
abbrev longest : Frame
longest = frame (replicate 64 (of 15 60000))

pub longest-length : frame_length longest ≡ 3840000
unfolding opened
longest-length = refl

pub longest-windows : map (window_at longest) (0 ∷ 59999 ∷ 60000 ∷ 3839999 ∷ 3840000 ∷ 1000000000 ∷ []) ≡ 0 ∷ 0 ∷ 1 ∷ 63 ∷ 0 ∷ 26 ∷ []
unfolding opened
longest-windows = refl

-- What the test of a frame reads of a table: how many domains it has.
abbrev domains : ℕ → Table
domains d = record { version = 1; domains = d; count = 1; rows = replicate 16 0; threads = replicate 32 none }

abbrev counted : ℕ → List Window → Frame
counted n ws = record { count = n; windows = ws ++ replicate (64 - length ws) no_window }

-- 1 and 64 windows pass, with lengths of 1 and of 60,000 and the last of the table's domains; what stands past the count is not judged.
pub passing : map (frame_ok (domains 2)) (frame (of 0 1 ∷ []) ∷ frame (of 1 60000 ∷ []) ∷ frame (replicate 64 (of 1 1)) ∷ counted 1 (of 0 1 ∷ of 2 0 ∷ []) ∷ [])
    ≡ true ∷ true ∷ true ∷ true ∷ []
unfolding opened
passing = refl

-- No window, 65 of them, a window of domain 2 of two, a length of 0 or of 60,001, each also where only the last window in use is bad.
pub failing : map (frame_ok (domains 2))
    (counted 0 (of 0 1 ∷ []) ∷ counted 65 (replicate 64 (of 0 1)) ∷ frame (of 2 1 ∷ []) ∷ frame (of 0 0 ∷ []) ∷ frame (of 0 60001 ∷ [])
    ∷ frame (of 0 1 ∷ of 2 1 ∷ []) ∷ frame (of 0 1 ∷ of 0 0 ∷ []) ∷ frame (of 0 1 ∷ of 0 60001 ∷ []) ∷ [])
    ≡ false ∷ false ∷ false ∷ false ∷ false ∷ false ∷ false ∷ false ∷ []
unfolding opened
failing = refl
