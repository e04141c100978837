-- One step at clock t, in the five parts of document 01: release, the walk (2 to 4), and the clock.
use Rattle.std.specs.Prelude.{ℕ, ◌<◌, ◌≡◌, List, true, false, get_or, eqb}
use Rattle.basis.specs.Tests.{pick}
use Rattle.table.specs.Mark.{marks_of, is_set}
use Rattle.table.specs.declared.Table.{Table}
use Rattle.table.specs.Mark.{Mark}
use Rattle.state.specs.State.{progress}
use Rattle.state.specs.Release.{release}
use Rattle.state.specs.Methods.{tick}
use Rattle.state.specs.declared.State.{State}
use Rattle.frame.specs.Frame.{domain_at}
use Rattle.frame.specs.Mode.{Mode, unframed, framed, threads_at}
use Rattle.walk.specs.Walk.{runs, walked, walk}
use Rattle.walk.specs.declared.Answer.{Answer}
use Rattle.walk.specs.declared.Answer.TheVariants.{Ran, IdleFor, Idle}
use Rattle.walk.specs.declared.Walked.{Walked}

-- What a step is handed: a public mask of events, bit i for thread i, and the step bytes in table order.
pub record Input : Type 0 where
  pub mask : ℕ
  pub bytes : List ℕ

-- Bytes, and no event.
abbrev pub quiet : List ℕ → Input
quiet bs = record { mask = 0; bytes = bs }

-- 5. The clock goes up by one.
unfoldable pub ticked : Table → Walked → Walked
ticked t w = walked w.answer (tick t w.state)

-- A step whose walk goes over the threads is, with the marks m.
unfoldable pub advance : Table → List Mark → List ℕ → Input → State → Walked
advance t m is x s = ticked t (walk m x.bytes is (release t x.mask s))

-- The marks in a window of domain d: the whole table's, for a thread of another window may be barred from what all of this one may learn.
abbrev pub marks_in : Table → ℕ → List Mark
marks_in t d = marks_of t

-- The marks that the walk goes by at the clock c.
unfoldable pub marks_at : Table → Mode → ℕ → List Mark
marks_at t unframed c = marks_of t
marks_at t (framed f) c = marks_in t (domain_at f c)

-- One step: the walk goes from the highest priority down, over the threads and with the marks of its mode at that clock.
unfoldable pub step : Table → Mode → Input → State → Walked
step t mode x s = advance t (marks_at t mode s.clock) (threads_at t mode s.clock) x s

-- The thread that an answer names has a rest above 0.
pub record Rested (a : Answer) (s : State) : Type 0 where
  pub ran : (i : ℕ) → a ≡ Ran i → 0 < (progress s i).rest
  pub idled : (i : ℕ) → a ≡ IdleFor i → 0 < (progress s i).rest

-- An answer names thread i: it ran, or the processor idles for it.
pub data Names (i : ℕ) : Answer → Type 0 where
  ran : Names i (Ran i)
  idles : Names i (IdleFor i)

-- What an answer says of the thread that it names: it runs, or it is marked and does not.
abbrev pub Says : List Mark → List ℕ → State → Answer → Type 0
Says m bs s (Ran i) = runs (get_or bs i 0) (progress s i) ≡ true
Says m bs s (IdleFor i) = (is_set m i ≡ true) × (runs (get_or bs i 0) (progress s i) ≡ false)
Says m bs s Idle = Unit {0}

-- How often thread i runs by an answer: once, or not.
unfoldable pub ran_by : ℕ → Answer → ℕ
ran_by i (Ran j) = pick (eqb i j) 1 0
ran_by i (IdleFor j) = 0
ran_by i Idle = 0

-- How often the processor idles on thread i's account by an answer: once, or not.
unfoldable pub idled_by : ℕ → Answer → ℕ
idled_by i (Ran j) = 0
idled_by i (IdleFor j) = pick (eqb i j) 1 0
idled_by i Idle = 0
